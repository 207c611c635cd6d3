-- Edits that are asked about: what they leave, and how they are refused.
use Rattle.std.proofs.Common.{◌≡◌, ◌<◌, ◌≤◌, ℕ, Err, Ok, Result, ap, false, refl, subst, sym}
use Rattle.std.proofs.lemmas.Bool.{le-leb, lt-leb}
use Rattle.pdp_unibus.specs.Handbook.LastTurn.{last_turn}
use Rattle.pdp_script.specs.Refusal.{for_memory, past_left, question_answer}
use Rattle.pdp_script.specs.Script.{ScriptData, first_turn_of_edit, script_edited}
use Rattle.pdp_script.specs.declared.faults.Fault.{Fault}
use Rattle.pdp_script.specs.declared.faults.Fault.TheVariants.{NoMemory, TurnTooLarge}
use Rattle.pdp_script.specs.declared.script.ScriptEdit.{ScriptEdit}
use Rattle.pdp_script.specs.declared.script.ScriptEdit.TheVariants.{Insert, Alter, Drop}
use Rattle.pdp_replay.specs.Ask.Fadings.{fading, joined_by}
use Rattle.pdp_replay.specs.Past.{Past, of_script, with_script}
use Rattle.pdp_replay.specs.Past.Edit.{past_edit, patch_edit}
use Rattle.pdp_replay.specs.declared.past.past_edit.PastEdit.{PastEdit}
use Rattle.pdp_replay.specs.declared.past.past_edit.PastEdit.TheVariants.{Script, Word}
use Rattle.pdp_replay.specs.declared.past.patch.Patch.{Patch}
use Rattle.pdp_replay.specs.Run.Branches.{SameEventsBefore}
use Rattle.pdp_replay.proofs.past.EditedStates.{same_before_alteration, same_before_drop, same_before_insertion}

pub too_large : (edit : PastEdit) (to : ℕ) (p : Past) → last_turn < to → fading edit to p ≡ Err TurnTooLarge
unfolding fading
too_large edit to p late = let beyond = lt-leb to last_turn late in rw beyond refl

pub fading_is : (edit : PastEdit) (to : ℕ) (p q : Past) → to ≤ last_turn → past_edit edit p ≡ Ok q → fading edit to p ≡ Ok (joined_by to p q)
unfolding fading
fading_is edit to p q range is = let within = le-leb to last_turn range in rw (within, is) refl

fading_refused : (edit : PastEdit) (to : ℕ) (p : Past) (fault : Fault) → to ≤ last_turn → past_edit edit p ≡ Err fault → fading edit to p ≡ Err fault
unfolding fading
fading_refused edit to p fault range is = let within = le-leb to last_turn range in rw (within, is) refl

-- an edit of the script that can be made, and a patch
pub script_fading : (edit : ScriptEdit) (to : ℕ) (p : Past) (other : ScriptData) → to ≤ last_turn → script_edited edit p.script ≡ Ok other
    → fading (Script edit) to p ≡ Ok (joined_by to p (with_script p other))
script_fading edit to p other range is = fading_is (Script edit) to p (with_script p other) range (ap (of_script p) is)

pub patch_fading : (patch : Patch) (to : ℕ) (p q : Past) → to ≤ last_turn → patch_edit patch p ≡ Ok q → fading (Word patch) to p ≡ Ok (joined_by to p q)
patch_fading patch to p q range is = fading_is (Word patch) to p q range is

-- a patch of a word that isn't there
pub patch_refused : (T : Type 0) (patch : Patch) (to : ℕ) (p : Past) (fault : Fault) → to ≤ last_turn → patch_edit patch p ≡ Err fault
    → Err fault ≡ question_answer (fading (Word patch) to p) (for_memory {X = T} (Err fault))
patch_refused T patch to p fault range is = let refused = fading_refused (Word patch) to p fault range is in rw refused refl

only_memory : {X : Type 0} (s : X) (fault : Fault) → Err fault ≡ question_answer (Ok s) (for_memory {X = X} (Err fault)) → fault ≡ NoMemory
only_memory s = elim [ NoMemory ↦ λ _. refl | _ ↦ λ told. absurd cc ]

-- an edit of the script that is refused, for memory or otherwise
pub edit_refused : (T : Type 0) (edit : ScriptEdit) (to : ℕ) (p : Past) (due : Result ScriptData Fault) (fault : Fault) → to ≤ last_turn → script_edited edit p.script ≡ due
    → Err fault ≡ question_answer due (for_memory {X = ScriptData} (Err fault)) → Err fault ≡ question_answer (fading (Script edit) to p) (for_memory {X = T} (Err fault))
edit_refused T edit to p (Err other) fault range is told =
    let same : fault ≡ other = cc in
    let refused = fading_refused (Script edit) to p other range (ap (of_script p) is) in
    rw refused (ap Err same)
edit_refused T edit to p (Ok script) fault range is told =
    let memory = only_memory script fault told in
    let found = script_fading edit to p script range is in
    subst (λ f. Err f ≡ question_answer (fading (Script edit) to p) (for_memory {X = T} (Err f))) (sym memory) (rw found refl)

-- an edit that is made leaves the events of the turns before its own
pub same_before_edit : (edit : ScriptEdit) (s other : ScriptData) → script_edited edit s ≡ Ok other → SameEventsBefore (first_turn_of_edit edit s) s other
same_before_edit (Insert turn event) s other is = subst (λ due. SameEventsBefore turn s (past_left due false s)) is (same_before_insertion turn event false s)
same_before_edit (Alter number turn event) s other is = subst (λ due. SameEventsBefore (first_turn_of_edit (Alter number turn event) s) s (past_left due false s)) is (same_before_alteration number turn event s)
same_before_edit (Drop number) s other is = subst (λ due. SameEventsBefore (first_turn_of_edit (Drop number) s) s (past_left due false s)) is (same_before_drop number s)

-- an edit that was made could be
pub edit_made : (due : Result ScriptData Fault) (other : ScriptData) → Ok other ≡ question_answer due false → due ≡ Ok other
edit_made (Ok script) other told = sym told
edit_made (Err fault) other told = absurd cc
