-- The languages of lines [P]: the session language; and the search language, which has all its
-- lines, and beside them those of searches, undo and redo.
use Rattle.std.specs.Prelude.{ℕ, Bool, true, false, List, Option, None, Some, Result, Ok, Err, ◌≡◌}
use Rattle.std.specs.Prelude.{◌≢◌, ◌⊎◌}
use Rattle.pdp_script.specs.Refusal.{question_answer}
use Rattle.pdp_script.specs.declared.faults.Fault.{Fault}
use Rattle.pdp_script.specs.declared.faults.Fault.TheVariants.{BadLine, NoMemory}
use Rattle.pdp_replay.specs.Past.{Past}
use Rattle.pdp_session.specs.declared.command.Command.{Command}
use Rattle.pdp_session.specs.declared.grammar.LineMeaning.{LineMeaning}
use Rattle.pdp_session.specs.declared.grammar.LineMeaning.TheVariants as kind
use Rattle.pdp_session.specs.declared.reply.Reply.{Reply}
use Rattle.pdp_session.specs.declared.reply.Reply.TheVariants.{Nothing, Refused}
use Rattle.pdp_session.specs.declared.version.Version.{Version}
use Rattle.pdp_session.specs.Command.{command_leaves, command_reply}
use Rattle.pdp_session.specs.Grammar.{line_means}
use Rattle.pdp_session.specs.Grammar.Searches.{search_named}
use Rattle.pdp_session.specs.Grammar.Words.{words_of_line}
use Rattle.pdp_session.specs.Pasts.{Pasts, pasts_begun, pasts_left, pasts_stepped, reply_if_kept}
use Rattle.pdp_session.specs.Pasts.{step_reply}
use Rattle.pdp_session.specs.Reply.{refusal_text, text_of}
use Rattle.pdp_session.specs.Search.{found_text, search_result}
use Rattle.pdp_session.specs.Version.{version_of}

pub data Language : Type 0 where
  SessionLanguage : Language
  SearchLanguage : Language

-- a language, by whether it has searches
abbrev pub language_with : Bool → Language
language_with false = SessionLanguage
language_with true = SearchLanguage

-- a search or a step, if the line is not in the session language
abbrev pub search_where : Result (Option Command) Fault → Option LineMeaning → Option LineMeaning
search_where (Err BadLine) found = found
search_where meant found = None

-- the search or the step that a line of this language is, in this version
unfoldable pub search_of : Language → Version → List ℕ → Option LineMeaning
search_of SessionLanguage version line = None
search_of SearchLanguage version line =
    search_where (line_means version line) (search_named version (words_of_line line))

-- what a line is, by what it means in the session language and by the search or step that it is
abbrev pub line_read : Result (Option Command) Fault → Option LineMeaning → Result LineMeaning Fault
line_read meant (Some found) = Ok found
line_read (Ok None) None = Ok kind.Nothing
line_read (Ok (Some command)) None = Ok (kind.Command command)
line_read (Err fault) None = Err fault

unfoldable pub meaning_of : Language → Version → List ℕ → Result LineMeaning Fault
meaning_of language version line = line_read (line_means version line)
    (search_of language version line)

-- what a command is answered, and the pasts that it leaves: the session language keeps nothing; in
-- the search language memory may be refused for any edit, since what takes it back is kept
abbrev pub reply_in : Language → Command → Bool → Past → Reply
reply_in SessionLanguage command refused past = command_reply command refused past
reply_in SearchLanguage command refused past = reply_if_kept refused
    (command_reply command refused past)

abbrev pub pasts_commanded : Language → Command → Bool → Pasts → Pasts
pasts_commanded SessionLanguage command refused s = pasts_begun
    (command_leaves command refused s.past)
pasts_commanded SearchLanguage command refused s = pasts_left command refused s

-- the pasts that a line leaves, by what it is
abbrev pub pasts_meant : Language → Result LineMeaning Fault → Bool → Pasts → Pasts
pasts_meant language (Ok (kind.Command command)) refused s = pasts_commanded language command
    refused s
pasts_meant language (Ok (kind.Step step)) refused s = pasts_stepped step refused s
pasts_meant language _ refused s = s

-- the text that it is answered
abbrev pub text_meant : Language → Result LineMeaning Fault → Bool → Pasts → List ℕ
text_meant language (Ok kind.Nothing) refused s = text_of Nothing s.past
text_meant language (Ok (kind.Command command)) refused s = text_of
    (reply_in language command refused s.past) (pasts_commanded language command refused s).past
text_meant language (Ok (kind.Search search)) refused s = found_text
    (question_answer (search_result search s.past) refused)
text_meant language (Ok (kind.Step step)) refused s = text_of (step_reply step refused s)
    (pasts_stepped step refused s).past
text_meant language (Err fault) refused s = text_of (Refused fault) s.past

-- the text that a line is answered, and the pasts after it: it is read in the version that the
-- session has then
unfoldable pub text_to : Language → List ℕ → Bool → Pasts → List ℕ
text_to language line refused s =
    text_meant language (meaning_of language (version_of s.past) line) refused s

unfoldable pub pasts_after : Language → List ℕ → Bool → Pasts → Pasts
pasts_after language line refused s =
    pasts_meant language (meaning_of language (version_of s.past) line) refused s

-- a line that the session language doesn't refuse as no line of it is answered with the same bytes
-- in the search language, unless it is refused there as out of memory
abbrev pub SessionLinesAreKept : Type 0
SessionLinesAreKept = (line : List ℕ) (refused : Bool) (s : Pasts)
    → line_means (version_of s.past) line ≢ Err BadLine
    → (text_to SearchLanguage line refused s ≡ text_to SessionLanguage line refused s)
    ⊎ ((refused ≡ true) × (text_to SearchLanguage line refused s ≡ refusal_text NoMemory))
