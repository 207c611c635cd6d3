-- The lines of a list as they are written one after another.
use Rattle.std.proofs.Common.{◌≡◌, ℕ, Bool, suc, ◌+◌, List, ◌++◌, length, take, drop, slice_get, option_to_list, sym, ap, ◌∙◌, append_assoc, add-one, subst, ◌≤◌}
use Rattle.std.specs.List.{flat_map}
use Rattle.std.proofs.lemmas.Grind.{flat_map-append}
use Rattle.std.proofs.lemmas.List.{take_all}
use Rattle.pdp_replay.specs.declared.ask.last_write.LastWrite.{LastWrite}
use Rattle.pdp_session.specs.Reply.{count_line, line_at, list_text}
use Rattle.pdp_replay.specs.declared.ask.accesses.TurnDetail.{TurnDetail}
use Rattle.pdp_replay.specs.declared.ask.reads.WordRead.{WordRead}
use Rattle.pdp_session.specs.Accesses.{accesses_head, accesses_text, detail_line}
use Rattle.pdp_session.specs.Search.{read_line, reads_head, reads_text, write_line, writes_head, writes_text}
use Rattle.pdp_session.specs.Streams.{DrainData}
use Rattle.pdp_session.specs.Inside.Sends.{Sent, Cut}
use Rattle.pdp_session.proofs.Pieces.{take_one_more, taken_and_left, sent_then, cut_first, cut_later}

-- the lines up to an item, and that item's
lines_more : {X : Type 0} (line : X → List ℕ) (xs : List X) (i : ℕ)
    → flat_map line (take (i + 1) xs) ≡ flat_map line (take i xs) ++ line_at line xs i
lines_more line xs i =
    rw add-one (ap (flat_map line) (take_one_more xs i) ∙ flat_map-append line (take i xs) (option_to_list (slice_get xs i)))

-- the lines up to an item, that item's, and the others
lines_split : {X : Type 0} (line : X → List ℕ) (xs : List X) (i : ℕ)
    → flat_map line xs ≡ flat_map line (take i xs) ++ (line_at line xs i ++ flat_map line (drop (suc i) xs))
lines_split line xs i =
    ap (flat_map line) (taken_and_left xs i)
    ∙ flat_map-append line (take i xs) (option_to_list (slice_get xs i) ++ drop (suc i) xs)
    ∙ ap (λ lines. flat_map line (take i xs) ++ lines) (flat_map-append line (option_to_list (slice_get xs i)) (drop (suc i) xs))

-- the writer failed in what comes before the lines
pub lines_cut_at_head : {X : Type 0} (head : List ℕ) (line : X → List ℕ) (xs : List X) (output output_after : DrainData)
    → Cut head output output_after → Cut (head ++ flat_map line xs) output output_after
lines_cut_at_head head line xs output output_after cut = cut_first head (flat_map line xs) output output_after cut

-- the head and the lines of i items were written
abbrev pub AreLinesTo : {X : Type 0} → List ℕ → (X → List ℕ) → List X → ℕ → DrainData → DrainData → Type 0
AreLinesTo head line xs i output output_after = Sent (head ++ flat_map line (take i xs)) output output_after

-- and then the writer failed
pub lines_cut_at_item : {X : Type 0} (head : List ℕ) (line : X → List ℕ) (xs : List X) (i : ℕ) (output between output_after : DrainData)
    → AreLinesTo head line xs i output between → Cut (line_at line xs i) between output_after → Cut (head ++ flat_map line xs) output output_after
lines_cut_at_item head line xs i output between output_after before cut =
    let front = head ++ flat_map line (take i xs) in
    let text = line_at line xs i in
    let back = flat_map line (drop (suc i) xs) in
    let whole : head ++ flat_map line xs ≡ front ++ (text ++ back) =
    ap (λ lines. head ++ lines) (lines_split line xs i)
    ∙ sym (append_assoc head (flat_map line (take i xs)) (text ++ back)) in
    subst (λ all. Cut all output output_after) (sym whole) (cut_later front text back output between output_after before cut)

-- or the line of one more item was written
pub lines_go_on : {X : Type 0} (head : List ℕ) (line : X → List ℕ) (xs : List X) (i : ℕ) (output between output_after : DrainData)
    → AreLinesTo head line xs i output between → Sent (line_at line xs i) between output_after → AreLinesTo head line xs (i + 1) output output_after
lines_go_on head line xs i output between output_after before next =
    let front = head ++ flat_map line (take i xs) in
    let text = line_at line xs i in
    let whole : front ++ text ≡ head ++ flat_map line (take (i + 1) xs) =
    append_assoc head (flat_map line (take i xs)) text
    ∙ ap (λ lines. head ++ lines) (sym (lines_more line xs i)) in
    subst (λ all. Sent all output output_after) whole (sent_then front text output between output_after before next)

-- all lines were written
pub lines_are_whole : {X : Type 0} (head : List ℕ) (line : X → List ℕ) (xs : List X) (i : ℕ) (output output_after : DrainData)
    → length xs ≤ i → AreLinesTo head line xs i output output_after → Sent (head ++ flat_map line xs) output output_after
lines_are_whole head line xs i output output_after all lines = rw (take_all i xs all) at lines

-- ---- lists that begin with how many items they have

pub list_cut_at_count : {X : Type 0} (name : List ℕ) (line : X → List ℕ) (xs : List X) (output output_after : DrainData)
    → Cut (count_line name (length xs)) output output_after → Cut (list_text name line xs) output output_after
unfolding list_text
list_cut_at_count name line xs output output_after cut =
    lines_cut_at_head (count_line name (length xs)) line xs output output_after cut

-- the first line and those of i items were written
abbrev pub IsListedTo : {X : Type 0} → List ℕ → (X → List ℕ) → List X → ℕ → DrainData → DrainData → Type 0
IsListedTo name line xs i output output_after = AreLinesTo (count_line name (length xs)) line xs i output output_after

pub list_cut_at_item : {X : Type 0} (name : List ℕ) (line : X → List ℕ) (xs : List X) (i : ℕ) (output between output_after : DrainData)
    → IsListedTo name line xs i output between → Cut (line_at line xs i) between output_after → Cut (list_text name line xs) output output_after
unfolding list_text
list_cut_at_item name line xs i output between output_after before cut =
    lines_cut_at_item (count_line name (length xs)) line xs i output between output_after before cut

pub list_goes_on : {X : Type 0} (name : List ℕ) (line : X → List ℕ) (xs : List X) (i : ℕ) (output between output_after : DrainData)
    → IsListedTo name line xs i output between → Sent (line_at line xs i) between output_after → IsListedTo name line xs (i + 1) output output_after
list_goes_on name line xs i output between output_after before next =
    lines_go_on (count_line name (length xs)) line xs i output between output_after before next

pub list_is_whole : {X : Type 0} (name : List ℕ) (line : X → List ℕ) (xs : List X) (i : ℕ) (output output_after : DrainData)
    → length xs ≤ i → IsListedTo name line xs i output output_after → Sent (list_text name line xs) output output_after
unfolding list_text
list_is_whole name line xs i output output_after all lines =
    lines_are_whole (count_line name (length xs)) line xs i output output_after all lines

-- ---- writes, which may be more than those that are listed

pub writes_cut_at_head : (writes : List LastWrite) (more : Bool) (output output_after : DrainData)
    → Cut (writes_head (length writes) more) output output_after → Cut (writes_text writes more) output output_after
unfolding writes_text
writes_cut_at_head writes more output output_after cut =
    lines_cut_at_head (writes_head (length writes) more) write_line writes output output_after cut

-- the head and i writes were written
abbrev pub AreWritesTo : List LastWrite → Bool → ℕ → DrainData → DrainData → Type 0
AreWritesTo writes more i output output_after = AreLinesTo (writes_head (length writes) more) write_line writes i output output_after

pub writes_cut_at_write : (writes : List LastWrite) (more : Bool) (i : ℕ) (output between output_after : DrainData)
    → AreWritesTo writes more i output between → Cut (line_at write_line writes i) between output_after → Cut (writes_text writes more) output output_after
unfolding writes_text
writes_cut_at_write writes more i output between output_after before cut =
    lines_cut_at_item (writes_head (length writes) more) write_line writes i output between output_after before cut

pub writes_are_whole : (writes : List LastWrite) (more : Bool) (i : ℕ) (output output_after : DrainData)
    → length writes ≤ i → AreWritesTo writes more i output output_after → Sent (writes_text writes more) output output_after
unfolding writes_text
writes_are_whole writes more i output output_after all lines =
    lines_are_whole (writes_head (length writes) more) write_line writes i output output_after all lines

-- ---- reads, which may be more than those that are listed

pub reads_cut_at_head : (reads : List WordRead) (more : Bool) (output output_after : DrainData)
    → Cut (reads_head (length reads) more) output output_after → Cut (reads_text reads more) output output_after
unfolding reads_text
reads_cut_at_head reads more output output_after cut =
    lines_cut_at_head (reads_head (length reads) more) read_line reads output output_after cut

-- the head and i reads were written
abbrev pub AreReadsTo : List WordRead → Bool → ℕ → DrainData → DrainData → Type 0
AreReadsTo reads more i output output_after = AreLinesTo (reads_head (length reads) more) read_line reads i output output_after

pub reads_cut_at_read : (reads : List WordRead) (more : Bool) (i : ℕ) (output between output_after : DrainData)
    → AreReadsTo reads more i output between → Cut (line_at read_line reads i) between output_after → Cut (reads_text reads more) output output_after
unfolding reads_text
reads_cut_at_read reads more i output between output_after before cut =
    lines_cut_at_item (reads_head (length reads) more) read_line reads i output between output_after before cut

pub reads_are_whole : (reads : List WordRead) (more : Bool) (i : ℕ) (output output_after : DrainData)
    → length reads ≤ i → AreReadsTo reads more i output output_after → Sent (reads_text reads more) output output_after
unfolding reads_text
reads_are_whole reads more i output output_after all lines =
    lines_are_whole (reads_head (length reads) more) read_line reads i output output_after all lines

-- ---- details of turns, of which more may be left

pub accesses_cut_at_head : (details : List TurnDetail) (more : Bool) (output output_after : DrainData)
    → Cut (accesses_head (length details) more) output output_after → Cut (accesses_text details more) output output_after
unfolding accesses_text
accesses_cut_at_head details more output output_after cut =
    lines_cut_at_head (accesses_head (length details) more) detail_line details output output_after cut

-- the head and i details were written
abbrev pub AreDetailsTo : List TurnDetail → Bool → ℕ → DrainData → DrainData → Type 0
AreDetailsTo details more i output output_after = AreLinesTo (accesses_head (length details) more) detail_line details i output output_after

pub accesses_cut_at_detail : (details : List TurnDetail) (more : Bool) (i : ℕ) (output between output_after : DrainData)
    → AreDetailsTo details more i output between → Cut (line_at detail_line details i) between output_after → Cut (accesses_text details more) output output_after
unfolding accesses_text
accesses_cut_at_detail details more i output between output_after before cut =
    lines_cut_at_item (accesses_head (length details) more) detail_line details i output between output_after before cut

pub accesses_are_whole : (details : List TurnDetail) (more : Bool) (i : ℕ) (output output_after : DrainData)
    → length details ≤ i → AreDetailsTo details more i output output_after → Sent (accesses_text details more) output output_after
unfolding accesses_text
accesses_are_whole details more i output output_after all lines =
    lines_are_whole (accesses_head (length details) more) detail_line details i output output_after all lines
