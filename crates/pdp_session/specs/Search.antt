-- What a search finds, and how that is told [P].
use Rattle.std.specs.Prelude.{ℕ, ◌-◌, ◌/◌, ◌++◌, Bool, false, List, codes, decimal, drop, length}
use Rattle.std.specs.Prelude.{nat_lt, take, Option, None, Some, Result, Ok, Err}
use Rattle.std.specs.List.{flat_map}
use Rattle.pdp_unibus.specs.Handbook.LastTurn.{last_turn}
use Rattle.pdp_script.specs.Refusal.{past_left, result_map}
use Rattle.pdp_script.specs.declared.faults.Fault.{Fault}
use Rattle.pdp_replay.specs.Ask.Accesses.{accesses_end, details_in_turns}
use Rattle.pdp_replay.specs.Ask.Answer.{answer, question_checked}
use Rattle.pdp_replay.specs.Ask.Backwards.{last_of_turns}
use Rattle.pdp_replay.specs.Ask.Counts.{counts_checked, counts_in_turns}
use Rattle.pdp_replay.specs.Ask.DiskChanges.{change_checked, word_changes}
use Rattle.pdp_replay.specs.Ask.DiskCompletions.{completions_end, completions_in_turns}
use Rattle.pdp_replay.specs.Ask.Fadings.{fading_checked, joined_by}
use Rattle.pdp_replay.specs.Ask.MovesListed.{moves_in_turns}
use Rattle.pdp_replay.specs.Ask.Reads.{reads_end, reads_in_turns}
use Rattle.pdp_replay.specs.Ask.Searches.{first_turn_of, search_checked}
use Rattle.pdp_replay.specs.Ask.SoughtTurns.{is_sought_at, seek_checked}
use Rattle.pdp_replay.specs.Ask.TextParts.{byte_checked, bytes_at, comes_out, turn_checked}
use Rattle.pdp_replay.specs.Ask.Writes.{turn_listed, writes_checked, writes_in_turns}
use Rattle.pdp_replay.specs.Past.{Past}
use Rattle.pdp_replay.specs.Past.Edit.{past_edit}
use Rattle.pdp_replay.specs.Past.Setup.{setup_numbers}
use Rattle.pdp_replay.specs.declared.ask.disk_completions.DiskCompletion.{DiskCompletion}
use Rattle.pdp_replay.specs.declared.ask.last_write.LastWrite.{LastWrite}
use Rattle.pdp_replay.specs.declared.ask.question.Question.TheVariants.{Trail}
use Rattle.pdp_replay.specs.declared.ask.reads.WordRead.{WordRead}
use Rattle.pdp_replay.specs.declared.ask.text_part.TextKind.{TextKind}
use Rattle.pdp_replay.specs.declared.ask.text_part.TextKind.TheVariants.{Printed, Punched}
use Rattle.pdp_store.specs.declared.Agent.{Agent}
use Rattle.pdp_session.specs.declared.search.Finding.{Finding}
use Rattle.pdp_session.specs.declared.search.Finding.TheVariants as found
use Rattle.pdp_session.specs.declared.search.Search.{Search}
use Rattle.pdp_session.specs.declared.search.Search.TheVariants as search
use Rattle.pdp_session.specs.Accesses.{accesses_text}
use Rattle.pdp_session.specs.MoveLines.{moves_text}
use Rattle.pdp_session.specs.PastShown.{events_text, setup_line}
use Rattle.pdp_session.specs.Transfers.{transfers_text}
use Rattle.pdp_session.specs.Reply.{agent_name, bytes_line, listed_head, refusal_text, value_text}
use Rattle.pdp_session.specs.Reply.{word_text}
use Rattle.pdp_session.specs.Version.{version_of}

-- the most writes, reads or completions that are listed
abbrev pub most_listed : ℕ
most_listed = 256

-- the first writes to the word at an address, and whether turns were left that may have more
abbrev pub writes_found : List LastWrite → ℕ → Finding
writes_found writes to = found.Writes writes (nat_lt (turn_listed writes to) to)

-- the first reads of the word at an address, and whether turns were left that may have more
abbrev pub reads_found : List WordRead → ℕ → Finding
reads_found reads to = found.Reads reads (nat_lt (reads_end reads to) to)

-- what the turns from one on and before another have in them, while their cycles are at most 256,
-- and whether turns were left
abbrev pub accesses_found : Past → ℕ → ℕ → Finding
accesses_found past first to = found.Accesses
    (details_in_turns past first (accesses_end past first to - first))
    (nat_lt (accesses_end past first to) to)

-- the first completions of the disk, and whether turns were left that may have more
abbrev pub transfers_found : List DiskCompletion → ℕ → Finding
transfers_found completions to =
    found.Transfers completions (nat_lt (completions_end completions to) to)

-- what a search of this past finds
abbrev pub finding : Search → Past → Finding
finding (search.First from to sought) past = found.First (first_turn_of (is_sought_at past sought)
    from (to - from))
finding (search.Latest from to sought) past = found.Latest (last_of_turns
    (is_sought_at past sought) from (to - from))
finding (search.Writes from to address) past = writes_found (take most_listed
    (writes_in_turns past (address / 2) from (to - from))) to
finding (search.Reads from to address) past = reads_found (take most_listed
    (reads_in_turns past (address / 2) from (to - from))) to
finding (search.Accesses turn count) past = accesses_found past (turn - count) turn
finding (search.Moves turn count) past = found.Moves (moves_in_turns past (turn - count) count)
finding (search.Transfers from to) past = transfers_found (take most_listed
    (completions_in_turns past from (to - from))) to
finding (search.Change from to drive number) past = found.Change (first_turn_of
    (word_changes drive number past) from (to - from))
finding (search.TextFrom kind turn first) past = found.TextFrom kind (drop first
    (bytes_at kind past turn))
finding (search.When number) past = found.When (first_turn_of (comes_out Printed number past) 0
    last_turn)
finding (search.Fades to edit) past = found.Fades (joined_by to past
    (past_left (past_edit edit past) false past))
finding (search.Ask question) past = found.Answer (answer question past)
finding (search.Counts from to words) past = found.Counts (counts_in_turns past words.mode
    words.first words.count from (to - from))
finding search.Events past = found.Events past.script.entries
finding search.Setup past = found.Setup (version_of past) (setup_numbers past.setup)

-- can the search be made?
abbrev pub search_permitted : Search → Past → Result (Unit {0}) Fault
search_permitted (search.First from to sought) past = seek_checked sought from to past.setup
search_permitted (search.Latest from to sought) past = seek_checked sought from to past.setup
search_permitted (search.Writes from to address) past = writes_checked address from to past.setup
search_permitted (search.Reads from to address) past = writes_checked address from to past.setup
search_permitted (search.Accesses turn count) past = question_checked (Trail turn count) past
search_permitted (search.Moves turn count) past = question_checked (Trail turn count) past
search_permitted (search.Transfers from to) past = search_checked from to
search_permitted (search.Change from to drive number) past = change_checked drive number from to
    past.setup
search_permitted (search.TextFrom kind turn first) past = turn_checked turn
search_permitted (search.When number) past = byte_checked
search_permitted (search.Fades to edit) past = result_map (λ _. tt) (fading_checked edit to past)
search_permitted (search.Ask question) past = question_checked question past
search_permitted (search.Counts from to words) past = counts_checked words from to
search_permitted search.Events past = Ok tt
search_permitted search.Setup past = Ok tt

-- what it finds, or why it can't be made
unfoldable pub search_result : Search → Past → Result Finding Fault
search_result s past = result_map (λ _. finding s past) (search_permitted s past)

-- what was looked for, and the turn that was found, or that there is none
abbrev pub turn_line : List ℕ → Option ℕ → List ℕ
turn_line name None = name ++ codes " none\n"
turn_line name (Some turn) = name ++ codes " " ++ decimal turn ++ codes "\n"

-- how many writes are listed, and whether turns were left that may have more
abbrev pub writes_head : ℕ → Bool → List ℕ
writes_head count more = listed_head (codes "writes") count more

-- a read or a write: its turn, its agent, and a word
abbrev pub word_use_line : ℕ → Agent → ℕ → List ℕ
word_use_line turn agent word = decimal turn ++ codes " " ++ agent_name agent ++ word_text word
    ++ codes "\n"

-- a write, with the word after the turn
abbrev pub write_line : LastWrite → List ℕ
write_line write = word_use_line write.turn write.agent write.word

unfoldable pub writes_text : List LastWrite → Bool → List ℕ
writes_text writes more = writes_head (length writes) more ++ flat_map write_line writes

-- how many reads are listed, and whether turns were left that may have more
abbrev pub reads_head : ℕ → Bool → List ℕ
reads_head count more = listed_head (codes "reads") count more

-- a read, with the word that was read
abbrev pub read_line : WordRead → List ℕ
read_line read = word_use_line read.turn read.agent read.word

unfoldable pub reads_text : List WordRead → Bool → List ℕ
reads_text reads more = reads_head (length reads) more ++ flat_map read_line reads

-- the name of a text
abbrev pub text_name : TextKind → List ℕ
text_name Printed = codes "text"
text_name Punched = codes "punched"

-- a count in decimal, after a space
abbrev pub count_shown : ℕ → List ℕ
count_shown count = codes " " ++ decimal count

-- counts, in one line after their name
unfoldable pub counts_line : List ℕ → List ℕ
counts_line counts = codes "counts" ++ flat_map count_shown counts ++ codes "\n"

-- what was found, in lines: one row for each kind of search
abbrev pub finding_text : Finding → List ℕ
finding_text (found.First turn) = turn_line (codes "first") turn
finding_text (found.Latest turn) = turn_line (codes "latest") turn
finding_text (found.Writes writes more) = writes_text writes more
finding_text (found.Reads reads more) = reads_text reads more
finding_text (found.Accesses details more) = accesses_text details more
finding_text (found.Moves details) = moves_text details
finding_text (found.Transfers completions more) = transfers_text completions more
finding_text (found.Change turn) = turn_line (codes "change") turn
finding_text (found.TextFrom kind bytes) = bytes_line (text_name kind) bytes
finding_text (found.When turn) = turn_line (codes "when") turn
finding_text (found.Fades turn) = turn_line (codes "fades") turn
finding_text (found.Answer value) = value_text value
finding_text (found.Counts counts) = counts_line counts
finding_text (found.Events events) = events_text events
finding_text (found.Setup version setup) = setup_line version setup

-- the text that a search is answered
abbrev pub found_text : Result Finding Fault → List ℕ
found_text (Ok f) = finding_text f
found_text (Err fault) = refusal_text fault
