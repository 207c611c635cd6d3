-- A branch in which a word was patched, whose page no turn touched: it is in a state of the run
-- with the patch.
use Rattle.std.proofs.Common.{◌≡◌, ◌∙◌, ℕ, ap, ap₂, arith, max, refl, subst, sym}
use Rattle.pdp_cpu.specs.Saved.{CanHold, HasWord, SavedMachineData, saved_machine, saved_machine_with_word, state_on}
use Rattle.pdp_cpu.specs.Handbook.MachineState.{MachineState, MachineWithTexts}
use Rattle.pdp_store.specs.FirstTouches.{first_touches_after}
use Rattle.pdp_store.specs.declared.part.WordAt.{WordAt}
use Rattle.pdp_unibus.specs.PatchedPages.{IsPatchOf}
use Rattle.pdp_unibus.specs.declared.save.saved_bus.patched_page.PatchedPage.{PatchedPage}
use Rattle.pdp_replay.specs.Past.{Past}
use Rattle.pdp_replay.specs.Past.Edit.{past_with_patch, setup_with_patch}
use Rattle.pdp_replay.specs.Run.Branches.{IsBranchOf, IsUntouchedBranch}
use Rattle.pdp_replay.specs.Run.Checkpoints.{IsBuiltFrom, KeepsTexts}
use Rattle.pdp_replay.specs.Run.States.{at}
use Rattle.pdp_replay.specs.declared.run.branch.Branch.{Branch}
use Rattle.pdp_replay.proofs.past.EditedSetups.{powers_of, word_saved}
use Rattle.pdp_replay.proofs.run.BranchingOff.{branched_off}
use Rattle.pdp_replay.proofs.run.PatchedStates.{runs_alike, saved_machine_of_patch}
use Rattle.pdp_replay.proofs.run.Resumed.{can_hold}
use Rattle.pdp_replay.proofs.run.RunFirstTouches.{untouched_alike}
use Rattle.pdp_replay.proofs.run.StateSizes.{at_is_built}

-- the state of the branch
pub state_here : (at_word : WordAt) (turn : ℕ) (q : Past) (b : Branch) → IsUntouchedBranch at_word turn q b → b.machine.state ≡ at q turn
state_here at_word turn q b is = is.way.here ∙ ap (at q) is.here

-- the word is in it
pub has_word : (at_word : WordAt) (turn : ℕ) (q : Past) (b : Branch) (here : SavedMachineData) → IsUntouchedBranch at_word turn q b
    → here ≡ saved_machine b.machine.state → HasWord at_word here
has_word at_word turn q b here is saved =
    subst (HasWord at_word) (sym (saved ∙ ap saved_machine (state_here at_word turn q b is)))
    (word_saved q turn at_word.part at_word.number is.there)

-- with the word patched, it is the state of the patched run
pub saved_is : (at_word : WordAt) (word turn : ℕ) (q : Past) (b : Branch) (here there : SavedMachineData) (page : PatchedPage) → IsUntouchedBranch at_word turn q b
    → here ≡ saved_machine b.machine.state → IsPatchOf at_word word page
    → there ≡ saved_machine_with_word page.at page.value here
    → there ≡ saved_machine (at (past_with_patch at_word word q) turn)
saved_is at_word word turn q b here there page is saved of with_word =
    with_word
    ∙ ap₂ (λ at_this value. saved_machine_with_word at_this value here) of.at_is of.value_is
    ∙ ap (saved_machine_with_word at_word word) (saved ∙ ap saved_machine (state_here at_word turn q b is))
    ∙ sym (saved_machine_of_patch at_word.part at_word.number word q (setup_with_patch word q.setup at_word) turn is.known
    (powers_of q.setup at_word.part at_word.number word is.there) is.untouched)

-- what came out is the same
pub texts_of_patch : (at_word : WordAt) (word turn : ℕ) (q : Past) (b : Branch) → IsUntouchedBranch at_word turn q b
    → KeepsTexts (past_with_patch at_word word q) turn b.machine
texts_of_patch at_word word turn q b is =
    let s = setup_with_patch word q.setup at_word in
    let most : max turn b.machine.state.turn ≡ turn = let here = is.here in omega (arith, here) in
    let keeps : KeepsTexts q turn b.machine = subst (λ n. KeepsTexts q n b.machine) most is.way.texts in
    let so = runs_alike at_word.part at_word.number word q s turn is.known (powers_of q.setup at_word.part at_word.number word is.there) is.untouched in
    record {
      text = keeps.text ∙ sym so.kept_text;
      punched = keeps.punched ∙ sym so.kept_punched;
      first_touches = keeps.first_touches ∙ ap₂ first_touches_after (sym so.trace) (sym (untouched_alike s q.setup refl refl));
    }

pub built_of_patch : (at_word : WordAt) (word turn : ℕ) (q : Past) (b : Branch) → IsUntouchedBranch at_word turn q b
    → IsBuiltFrom (past_with_patch at_word word q).setup b.machine
built_of_patch at_word word turn q b is =
    let built = at_is_built q turn b.machine (state_here at_word turn q b is) in
    record { tape = built.tape; core = built.core; stamps = built.stamps; drives = built.drives }

pub patch_held : (at_word : WordAt) (word turn : ℕ) (q : Past) (b : Branch) (there : SavedMachineData) → IsUntouchedBranch at_word turn q b
    → there ≡ saved_machine (at (past_with_patch at_word word q) turn) → CanHold b.machine there
patch_held at_word word turn q b there is saved =
    can_hold (past_with_patch at_word word q) turn turn b.machine there saved (omega arith) (texts_of_patch at_word word turn q b is) (built_of_patch at_word word turn q b is)

pub branch_patched : (at_word : WordAt) (word turn : ℕ) (q : Past) (b : Branch) (there : SavedMachineData) (now : MachineWithTexts) → IsUntouchedBranch at_word turn q b
    → there ≡ saved_machine (at (past_with_patch at_word word q) turn)
    → now.state ≡ state_on b.machine there → now.kept_text ≡ b.machine.kept_text → now.kept_punched ≡ b.machine.kept_punched → now.first_touches ≡ b.machine.first_touches
    → IsBranchOf (past_with_patch at_word word q) (record b { machine = now })
branch_patched at_word word turn q b there now is saved loaded text punched touches = record {
  script = is.script;
  known = turn;
  way = branched_off (past_with_patch at_word word q) turn b.machine now there saved (texts_of_patch at_word word turn q b is) (built_of_patch at_word word turn q b is)
      loaded text punched touches;
}

pub turn_of_patch : (at_word : WordAt) (word turn : ℕ) (q : Past) (b : Branch) (there : SavedMachineData) (now : MachineWithTexts)
    → there ≡ saved_machine (at (past_with_patch at_word word q) turn) → now.state ≡ state_on b.machine there → now.state.turn ≡ turn
turn_of_patch at_word word turn q b there now saved loaded =
    ap (λ (s : MachineState). s.turn) loaded ∙ ap (λ (s : SavedMachineData). s.turn) saved
