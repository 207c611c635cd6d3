-- How a session ends, and how it doesn't begin.
use Rattle.std.proofs.Common.{◌≡◌, ℕ, Bool, true, false, cond, IfErr, Result, Ok, Err, Option, List, [], refl, sym, ap, ◌∙◌}
use Rattle.std.proofs.lemmas.Bool.{false≢true}
use Rattle.pdp_script.specs.Refusal.{question_answer, result_map}
use Rattle.pdp_script.specs.declared.faults.Fault.{Fault}
use Rattle.pdp_script.specs.declared.faults.Fault.TheVariants.{BadImage, BadSetup, NoMemory}
use Rattle.pdp_session.specs.Language.{Language}
use Rattle.pdp_session.specs.Session.{Ends, is_told_first}
use Rattle.pdp_replay.specs.Past.{past_without_events}
use Rattle.pdp_replay.specs.Past.Setup.{SetupData, setup_checked, has_good_numbers, has_good_images}
use Rattle.pdp_replay.specs.Timeline.{Timeline, new_timeline}

abbrev is_start : Result SetupData Fault → Bool
is_start (Ok setup) = true
is_start (Err fault) = is_told_first fault

setup_checked-refuses : (setup : SetupData) → is_start (setup_checked setup) ≡ true
unfolding setup_checked
setup_checked-refuses setup = by_tests (has_good_numbers setup) (has_good_images setup)
  where
    by_tests : (numbers images : Bool) → is_start (cond numbers (cond images (Ok setup) (Err BadImage)) (Err BadSetup)) ≡ true
    by_tests true true = refl
    by_tests true false = refl
    by_tests false images = refl

question_answer-refuses : (due : Result SetupData Fault) (refused : Bool) → is_start due ≡ true → is_start (question_answer due refused) ≡ true
question_answer-refuses (Err fault) refused e = e
question_answer-refuses (Ok setup) true e = refl
question_answer-refuses (Ok setup) false e = refl

is_start-result_map : {X : Type 0} (f : SetupData → X) (due : Result SetupData Fault) (fault : Fault) → Err fault ≡ result_map f due → is_told_first fault ≡ is_start due
is_start-result_map f (Ok setup) fault e = cc
is_start-result_map f (Err other) fault e = let same : fault ≡ other = cc in ap is_told_first same

-- no engine is refused because a stream failed
pub start_refuses : {X : Type 0} (f : SetupData → X) (setup : SetupData) (fault : Fault) (refused : Bool) → Err fault ≡ result_map f (question_answer (setup_checked setup) refused)
    → is_told_first fault ≡ true
start_refuses f setup fault refused e =
    is_start-result_map f (question_answer (setup_checked setup) refused) fault e ∙ question_answer-refuses (setup_checked setup) refused (setup_checked-refuses setup)

-- a session begins with the past of its engine
pub starts_with : (checked : Result SetupData Fault) (refused : Bool) (t : Timeline) → Ok t ≡ result_map new_timeline (question_answer checked refused)
    → result_map past_without_events checked ≡ Ok t.past
starts_with (Ok setup) true t is = cc
starts_with (Ok setup) false t is = let same : t ≡ new_timeline setup = cc in rw same refl
starts_with (Err fault) refused t is = cc

-- and if there is none it has read and written nothing
pub ends_refused : (language : Language) (checked : Result SetupData Fault) (refused : Bool) (fault : Fault) (rest : Option (List ℕ))
    → Err fault ≡ result_map new_timeline (question_answer checked refused) → Ends language (result_map past_without_events checked) [] [] rest (Err fault)
ends_refused language (Ok setup) true fault rest is = let same : fault ≡ NoMemory = cc in rw same (refl, refl)
ends_refused language (Ok setup) false fault rest is = cc
ends_refused language (Err other) refused fault rest is = let same : fault ≡ other = cc in rw same (refl, refl, refl)

-- a session that has begun ends by no fault of a start
pub ends_begun : {T : Type 0} (P : Type 0) (r : Result T Fault) → IfErr r (λ fault. is_told_first fault ≡ false) → IfErr r (λ fault. is_told_first fault ≡ true → P)
ends_begun P (Ok x) began = tt
ends_begun P (Err fault) began = λ told. absurd (false≢true (sym began ∙ told))
