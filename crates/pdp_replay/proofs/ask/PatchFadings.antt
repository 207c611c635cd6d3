-- A patch that gives a word the value that it has already changes nothing.
use Rattle.std.proofs.Common.{◌≡◌, ◌∙◌, ℕ, ◌/◌, ◌<◌, ◌≤◌, List, [], Some, ap, arith, get_or-set_same, length, refl, slice_index, slice_index_or, slice_set, subst, sym, true}
use Rattle.std.proofs.lemmas.List.{set-get_or}
use Rattle.pdp_cpu.specs.Saved.{SavedMeet, saved_machine}
use Rattle.pdp_cpu.specs.Handbook.MachineState.{MachineState}
use Rattle.pdp_operand.specs.Phases.World.{World, world}
use Rattle.pdp_store.specs.declared.part.Part.{Part}
use Rattle.pdp_store.specs.declared.part.Part.TheVariants as parts
use Rattle.pdp_store.specs.declared.part.WordAt.{WordAt}
use Rattle.pdp_unibus.specs.Page.{words_of_part}
use Rattle.pdp_unibus.specs.SavedBusData.{SavedBusData, saved_words}
use Rattle.pdp_script.specs.Script.{ScriptData}
use Rattle.pdp_store.specs.FirstTouches.{never}
use Rattle.pdp_replay.specs.Ask.Fadings.{AreApart, are_joined, joined_by}
use Rattle.pdp_replay.specs.Past.{Past}
use Rattle.pdp_replay.specs.Past.Edit.{past_with_patch, setup_with_patch}
use Rattle.pdp_replay.specs.Past.FirstWords.{IsThere}
use Rattle.pdp_replay.specs.Run.Branches.{AreAlikeAt, AreBeside, BranchesOff, IsBranchOf, IsKeptOfSize, IsUntouchedBranch}
use Rattle.pdp_replay.specs.Run.FirstTouches.{first_touch, world_changed}
use Rattle.pdp_replay.specs.Run.KeptRuns.{IsKeptRun, reached_by}
use Rattle.pdp_replay.specs.Run.States.{at, first_world, state_at}
use Rattle.pdp_replay.specs.declared.past.base_setup.BaseSetup.{BaseSetup}
use Rattle.pdp_replay.specs.declared.run.branch.Branch.{Branch}
use Rattle.pdp_replay.specs.declared.run.kept_run.KeptRun.{KeptRun}
use Rattle.pdp_replay.proofs.ask.Fadings.{joined_at_once, joined_is_decided, meets_itself, not_joined}
use Rattle.pdp_replay.proofs.past.EditedSetups.{powers_of, reached_first}
use Rattle.pdp_replay.proofs.run.AlikePages.{pages_alike}
use Rattle.pdp_replay.proofs.run.Untouched.{part_keeps_size, patched_until, words_put}

-- a list keeps its words if one of them is set to what it is
same_list : (xs : List ℕ) (i word : ℕ) → slice_index xs i ≡ word → slice_set xs i word ≡ xs
same_list xs i word is = ap (slice_set xs i) (sym is) ∙ set-get_or xs i 0

-- so does a world
same_world : (part : Part) (w : World) (i word : ℕ) → slice_index (words_of_part part w.bus) i ≡ word → world_changed part i word w ≡ w
same_world parts.Core w i word is = ap (λ core. world w.processor (record w.bus { core = core })) (same_list w.bus.core i word is)
same_world (parts.Drive drive) w i word is =
    ap (λ drives. world w.processor (record w.bus { drives = drives }))
    (ap (slice_set w.bus.drives drive) (same_list (slice_index_or w.bus.drives drive []) i word is) ∙ set-get_or w.bus.drives drive [])

-- the word has this value before a turn up to the first touch, if the run with the patch is in the
-- same state then
value_there : (at_word : WordAt) (word n known : ℕ) (p : Past) → IsThere p.setup at_word → n ≤ first_touch p at_word.part (at_word.number / 256) known
    → AreAlikeAt n p (past_with_patch at_word word p) → slice_index (words_of_part at_word.part (state_at p n).bus) at_word.number ≡ word
unfolding state_at
value_there at_word word n known p there low alike =
    let part = at_word.part in
    let i = at_word.number in
    let powers = powers_of p.setup part i word there in
    let words = words_of_part part (state_at p n).bus in
    let within : i < length words = rw (part_keeps_size part p n) powers.there in
    let state = patched_until part i word n known p (setup_with_patch word p.setup at_word) powers.is powers.there low in
    let same = ap (λ (b : SavedBusData). saved_words part b) alike.bus in
    let put = ap (λ (w : World). words_of_part part w.bus) state ∙ words_put part (slice_set words i word) (state_at p n).bus i within in
    ap (λ xs. slice_index xs i) (same ∙ put) ∙ get_or-set_same words i word 0 within

-- then it has this value as of power-up
power_is : (at_word : WordAt) (word n known : ℕ) (p : Past) → IsThere p.setup at_word → n ≤ first_touch p at_word.part (at_word.number / 256) known
    → AreAlikeAt n p (past_with_patch at_word word p) → first_world (setup_with_patch word p.setup at_word) ≡ first_world p.setup
power_is at_word word n known p there low alike =
    let part = at_word.part in
    let i = at_word.number in
    let first = (pages_alike p part (i / 256) n known low).words i refl in
    (powers_of p.setup part i word there).is ∙ same_world part (first_world p.setup) i word (first ∙ value_there at_word word n known p there low alike)

start_is : (p q : Past) → first_world q.setup ≡ first_world p.setup → at p 0 ≡ at q 0
unfolding state_at Rattle.pdp_replay.specs.Run.States.text_at Rattle.pdp_replay.specs.Run.States.punched_at
start_is p q same = ap (λ (w : World). record { turn = 0; world = w; text = []; punched = [] }) (sym same)

-- so both runs are one from power-up on
pub nothing_patched : (at_word : WordAt) (word n known to : ℕ) (p : Past) → IsThere p.setup at_word → n ≤ first_touch p at_word.part (at_word.number / 256) known
    → AreAlikeAt n p (past_with_patch at_word word p) → Some 0 ≡ joined_by to p (past_with_patch at_word word p)
nothing_patched at_word word n known to p there low alike =
    let q = past_with_patch at_word word p in
    let start = start_is p q (power_is at_word word n known p there low alike) in
    let joined : are_joined p q 0 ≡ true = (joined_is_decided p q 0).1 (record {
      state = subst (λ (s : MachineState). SavedMeet (saved_machine (at p 0)) (saved_machine s)) start (meets_itself (saved_machine (at p 0)));
      events = refl;
    }) in
    joined_at_once p q to joined

-- the branch of a run, up to the first touch of the word's page
pub untouched_branch : (at_word : WordAt) (turn reached : ℕ) (p : Past) (base : BaseSetup) (script other : ScriptData) (r : KeptRun) (b : Branch)
    → IsKeptOfSize p base script r → IsThere p.setup at_word → r.known ≤ never → reached ≡ reached_by at_word r → turn ≤ reached → other ≡ script
    → b.machine.state.turn ≡ turn → BranchesOff turn base script other r b → IsUntouchedBranch at_word turn p b
untouched_branch at_word turn reached p base script other r b is there small so_far le copied here off =
    let first : reached ≡ first_touch p at_word.part (at_word.number / 256) r.known = so_far ∙ reached_first p at_word r is.run.kept there small in
    record {
      script = is.same ∙ sym copied ∙ sym off.0;
      way = off.1 p is;
      here = here;
      there = there;
      known = r.known;
      untouched = omega (arith, first, le);
    }

-- the run, and the branch with the word patched
pub beside_patched : (at_word : WordAt) (word : ℕ) (p : Past) (script : ScriptData) (r : KeptRun) (b : Branch) → p.script ≡ script → IsKeptRun p r
    → IsBranchOf (past_with_patch at_word word p) b → AreBeside script r b
beside_patched at_word word p script r b same run branch = record {
  past = p;
  other = past_with_patch at_word word p;
  same = same;
  run = run;
  branch = branch;
  units = refl;
  drives = refl;
}

-- they are not one where their states differ
pub apart_patched : (at_word : WordAt) (word n : ℕ) (p : Past) (script : ScriptData) (r : KeptRun) (b : Branch) → p.script ≡ script → IsKeptRun p r
    → IsBranchOf (past_with_patch at_word word p) b → (AreAlikeAt n p (past_with_patch at_word word p) → ⊥) → AreApart n p (past_with_patch at_word word p) script r b
apart_patched at_word word n p script r b same run branch differ = record {
  tape = refl;
  same = same;
  run = run;
  branch = branch;
  apart = not_joined p (past_with_patch at_word word p) n (λ joined. differ joined.state);
  events = refl;
}
