-- A search that the engine made is answered as its definition says.
use Rattle.std.proofs.Common.{◌≡◌, ℕ, ◌-◌, List, Option, cond, nat_le, nat_lt, Result, Ok, Err, Bool, true, false, refl, ap, ◌∙◌}
use Rattle.pdp_script.specs.Refusal.{for_memory, past_left, question_answer, result_map}
use Rattle.pdp_script.specs.declared.faults.Fault.{Fault}
use Rattle.pdp_replay.specs.Ask.Accesses.{accesses_end, details_in_turns}
use Rattle.pdp_replay.specs.Ask.Answer.{answer, answer_to, question_checked}
use Rattle.pdp_replay.specs.Ask.DiskCompletions.{completions_end}
use Rattle.pdp_replay.specs.Ask.Reads.{reads_end}
use Rattle.pdp_replay.specs.Ask.Writes.{turn_listed}
use Rattle.pdp_replay.specs.Ask.Fadings.{fading, joined_by}
use Rattle.pdp_replay.specs.Past.{Past}
use Rattle.pdp_replay.specs.Past.Edit.{past_edit}
use Rattle.pdp_replay.specs.declared.ask.accesses.TurnDetail.{TurnDetail}
use Rattle.pdp_replay.specs.declared.ask.disk_completions.DiskCompletion.{DiskCompletion}
use Rattle.pdp_replay.specs.declared.ask.last_write.LastWrite.{LastWrite}
use Rattle.pdp_replay.specs.declared.ask.question.Question.{Question}
use Rattle.pdp_replay.specs.declared.ask.question.Value.{Value}
use Rattle.pdp_replay.specs.declared.ask.reads.WordRead.{WordRead}
use Rattle.pdp_replay.specs.declared.ask.told.Told.{Told}
use Rattle.pdp_replay.specs.declared.past.past_edit.PastEdit.{PastEdit}
use Rattle.pdp_unibus.specs.Handbook.LastTurn.{last_turn}
use Rattle.pdp_script.specs.declared.faults.Fault.TheVariants.{NoMemory, TurnTooLarge}
use Rattle.pdp_session.specs.declared.search.Finding.{Finding}
use Rattle.pdp_session.specs.declared.search.Finding.TheVariants.{Accesses, Answer as AnswerIs, Fades, Reads, Transfers, Writes}
use Rattle.pdp_session.specs.declared.search.Search.{Search}
use Rattle.pdp_session.specs.declared.search.Search.TheVariants as search
use Rattle.pdp_session.specs.Search.{accesses_found, finding, reads_found, search_permitted, search_result, transfers_found, writes_found}

answered : {Y : Type 0} (permitted : Result (Unit {0}) Fault) (refused : Bool) (due : Y) → Ok tt ≡ question_answer permitted refused
    → Ok due ≡ question_answer (result_map (λ _. due) permitted) refused
answered (Ok tt) true due is = cc
answered (Ok tt) false due is = refl
answered (Err fault) refused due is = cc

refused_alike : {Y : Type 0} (permitted : Result (Unit {0}) Fault) (refused : Bool) (due : Y) (fault : Fault) → Err fault ≡ question_answer permitted refused
    → Err fault ≡ question_answer (result_map (λ _. due) permitted) refused
refused_alike (Ok tt) true due fault is = cc
refused_alike (Ok tt) false due fault is = cc
refused_alike (Err other) refused due fault is = cc

pub search_answered : (wanted : Search) (past : Past) (found : Finding) → Ok tt ≡ question_answer (search_permitted wanted past) false → found ≡ finding wanted past
    → Ok found ≡ question_answer (search_result wanted past) false
unfolding search_result
search_answered wanted past found permitted is = ap Ok is ∙ answered (search_permitted wanted past) false (finding wanted past) permitted

pub search_refused : (wanted : Search) (past : Past) (fault : Fault) → Err fault ≡ question_answer (search_permitted wanted past) (for_memory {X = Finding} (Err fault))
    → Err fault ≡ question_answer (search_result wanted past) (for_memory {X = Finding} (Err fault))
unfolding search_result
search_refused wanted past fault refused =
    refused_alike (search_permitted wanted past) (for_memory {X = Finding} (Err fault)) (finding wanted past) fault refused

-- a search that can be made is refused for memory alone
pub search_short : (wanted : Search) (past : Past) → search_permitted wanted past ≡ Ok tt → Err NoMemory ≡ question_answer (search_result wanted past) true
unfolding search_result
search_short wanted past permitted = rw permitted refl

-- the writes that are listed are the first of all, and tell whether turns were left
pub first_writes : (writes listed all : List LastWrite) (reached to : ℕ) → writes ≡ listed → listed ≡ all → reached ≡ turn_listed listed to
    → Writes writes (nat_lt reached to) ≡ writes_found all to
first_writes writes listed all reached to same is ends = rw (ends, same, is) refl

-- and so are the reads, and the completions
pub first_reads : (reads listed all : List WordRead) (reached to : ℕ) → reads ≡ listed → listed ≡ all → reached ≡ reads_end listed to
    → Reads reads (nat_lt reached to) ≡ reads_found all to
first_reads reads listed all reached to same is ends = rw (ends, same, is) refl

-- and so are the details of turns
pub first_accesses : (past : Past) (details listed : List TurnDetail) (first reached to : ℕ) → details ≡ listed
    → listed ≡ details_in_turns past first (reached - first) → reached ≡ accesses_end past first to
    → Accesses details (nat_lt reached to) ≡ accesses_found past first to
first_accesses past details listed first reached to same is ends = rw (same, is, ends) refl

pub first_transfers : (completions listed all : List DiskCompletion) (reached to : ℕ) → completions ≡ listed → listed ≡ all
    → reached ≡ completions_end listed to → Transfers completions (nat_lt reached to) ≡ transfers_found all to
first_transfers completions listed all reached to same is ends = rw (ends, same, is) refl

-- the past with an edit that is asked about, by whether the turn is in range
abbrev checked : Bool → Result Past Fault → Result Past Fault
checked within due = cond within due (Err TurnTooLarge)

fading_told : (within : Bool) (due : Result Past Fault) (to : ℕ) (past : Past) (turn : Option ℕ)
    → Ok turn ≡ question_answer (result_map (joined_by to past) (checked within due)) false
    → Ok (Fades turn) ≡ question_answer (result_map (λ _. Fades (joined_by to past (past_left due false past))) (result_map (λ _. tt {0}) (checked within due))) false
fading_told true (Ok other) to past turn is = let same : turn ≡ joined_by to past other = cc is in ap (λ t. Ok (Fades t)) same
fading_told true (Err fault) to past turn is = absurd cc
fading_told false due to past turn is = absurd cc

refusal_told : (within flag : Bool) (due : Result Past Fault) (to : ℕ) (past : Past) (fault : Fault)
    → Err fault ≡ question_answer (result_map (joined_by to past) (checked within due)) flag
    → Err fault ≡ question_answer (result_map (λ _. Fades (joined_by to past (past_left due false past))) (result_map (λ _. tt {0}) (checked within due))) flag
refusal_told true true (Ok other) to past fault is = cc
refusal_told true false (Ok other) to past fault is = absurd cc
refusal_told true flag (Err other) to past fault is = cc
refusal_told false flag due to past fault is = cc

-- a fading that the engine told is the one that is defined, and so is its refusal
pub fading_answered : (edit : PastEdit) (to : ℕ) (past : Past) (turn : Option ℕ) → Ok turn ≡ question_answer (fading edit to past) false
    → Ok (Fades turn) ≡ question_answer (search_result (search.Fades to edit) past) false
unfolding fading search_result
fading_answered edit to past turn is = fading_told (nat_le to last_turn) (past_edit edit past) to past turn is

pub fading_refused : (edit : PastEdit) (to : ℕ) (past : Past) (fault : Fault) → Err fault ≡ question_answer (fading edit to past) (for_memory {X = Told (Option ℕ)} (Err fault))
    → Err fault ≡ question_answer (search_result (search.Fades to edit) past) (for_memory {X = Finding} (Err fault))
unfolding fading search_result
fading_refused edit to past fault is = refusal_told (nat_le to last_turn) (for_memory {X = Finding} (Err fault)) (past_edit edit past) to past fault is

-- a value as what a search found, and its refusal
value_told : (permitted : Result (Unit {0}) Fault) (value due : Value) → Ok value ≡ question_answer (result_map (λ _. due) permitted) false
    → Ok (AnswerIs value) ≡ question_answer (result_map (λ _. AnswerIs due) permitted) false
value_told (Ok tt) value due is = let same : value ≡ due = cc is in ap (λ v. Ok (AnswerIs v)) same
value_told (Err fault) value due is = absurd cc

value_refused : (permitted : Result (Unit {0}) Fault) (flag : Bool) (due : Value) (fault : Fault) → Err fault ≡ question_answer (result_map (λ _. due) permitted) flag
    → Err fault ≡ question_answer (result_map (λ _. AnswerIs due) permitted) flag
value_refused (Ok tt) true due fault is = cc
value_refused (Ok tt) false due fault is = absurd cc
value_refused (Err other) flag due fault is = cc

-- a question that the engine answered, or refused, is answered as a search
pub question_answered : (asked : Question) (past : Past) (value : Value) → Ok value ≡ question_answer (answer_to asked past) false
    → Ok (AnswerIs value) ≡ question_answer (search_result (search.Ask asked) past) false
unfolding answer_to search_result
question_answered asked past value is = value_told (question_checked asked past) value (answer asked past) is

pub question_refused : (asked : Question) (past : Past) (fault : Fault) → Err fault ≡ question_answer (answer_to asked past) (for_memory {X = Told Value} (Err fault))
    → Err fault ≡ question_answer (search_result (search.Ask asked) past) (for_memory {X = Finding} (Err fault))
unfolding answer_to search_result
question_refused asked past fault is = value_refused (question_checked asked past) (for_memory {X = Finding} (Err fault)) (answer asked past) fault is
