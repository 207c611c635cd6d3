-- An engine after a word of its setup got a patch, or lost one.
use Rattle.std.proofs.Common.{◌≡◌, ◌∙◌, ℕ, zero, suc, ◌+◌, ◌/◌, ◌<◌, ◌≤◌, List, [], None, ap, ap₂, arith, false, true, is_some, Ok, Result, length, min, nat_le, refl, replicate, subst, sym}
use Rattle.std.specs.Prelude.{slice_index, slice_index_or}
use Rattle.std.specs.List.{All, filter}
use Rattle.std.proofs.lemmas.List.{length-replicate}
use Rattle.pdp_checkpoint.specs.Ladder.{LadderData}
use Rattle.pdp_checkpoint.specs.Patched.{HavePageAlike}
use Rattle.pdp_cpu.specs.Saved.{HasWord, saved_machine}
use Rattle.pdp_cpu.specs.Handbook.MachineState.{world_at_power_up}
use Rattle.pdp_operand.specs.Phases.World.{World}
use Rattle.pdp_script.specs.Script.{ScriptData}
use Rattle.pdp_script.specs.declared.faults.Fault.{Fault}
use Rattle.pdp_store.specs.FirstTouches.{all_first_touches_before, first_touches_in, never}
use Rattle.pdp_store.specs.Parts.{word_at}
use Rattle.pdp_store.specs.Stored.{no_touch_in}
use Rattle.pdp_replay.specs.Past.Edit.{core_edit, core_word_at, disk_edit, disk_word_at, revert_edit}
use Rattle.pdp_replay.specs.Run.FirstTouches.{first_touch_of, first_touch, untouched_all}
use Rattle.pdp_replay.specs.Past.FirstWords.{AllThere, IsThere, PartHasWord, drives_words}
use Rattle.pdp_replay.specs.Run.KeptRuns.{IsPatchedRun, reached_by}
use Rattle.pdp_replay.specs.Run.Checkpoints.{AreKept, AreStatesOf, IsFormerOf}
use Rattle.pdp_replay.specs.Past.{Past, with_setup}
use Rattle.pdp_replay.specs.Past.PatchedWords.{Patches, is_same_word, patch_of}
use Rattle.pdp_replay.specs.Past.Setup.{SetupData, core_size, drive_words}
use Rattle.pdp_replay.specs.Run.States.{at, first_world}
use Rattle.pdp_replay.specs.Timeline.{IsEngine, Timeline, after_setup_edit, core_edited, disk_edited, word_patched}
use Rattle.pdp_replay.specs.declared.run.kept_run.KeptRun.{KeptRun}
use Rattle.pdp_store.specs.declared.part.Part.{Part}
use Rattle.pdp_store.specs.declared.part.Part.TheVariants as parts
use Rattle.pdp_store.specs.declared.part.WordAt.{WordAt}
use Rattle.pdp_replay.proofs.run.CoreSizes.{core_keeps_size}
use Rattle.pdp_replay.proofs.run.DriveSizes.{drive_keeps_size}
use Rattle.pdp_replay.proofs.past.FirstWords.{core_has_size, drive_by_number, drive_has_size}
use Rattle.pdp_replay.proofs.run.Formers.{former_of_other, formers_after}
use Rattle.pdp_replay.proofs.run.PatchedStates.{PowersWith, states_patched, texts_patched}
use Rattle.pdp_replay.proofs.past.Patches.{there_inserted, there_removed}
use Rattle.pdp_replay.proofs.past.PoweredWords.{patched, unpatched, core_patched, core_stays, drives_patched, drives_stay, core_reverted, drives_stay_reverted}
use Rattle.pdp_replay.proofs.run.RunFirstTouches.{first_touches_cut, first_touches_tell, reached_is, untouched_alike}
use Rattle.pdp_replay.proofs.run.SamePages.{kept_have_page}
use Rattle.pdp_replay.proofs.run.Untouched.{first_touch_le}

abbrev pub past_of : SetupData → ScriptData → Past
past_of setup script = record { setup = setup; script = script }

-- a word that is there is in each saved state of a run
core_saved : (p : Past) (n i : ℕ) → i < core_size p.setup → HasWord (word_at parts.Core i) (saved_machine (at p n))
unfolding HasWord Rattle.pdp_unibus.specs.SavedBusData.SavedBusHasWord
core_saved p n i inside = rw (core_keeps_size p n) inside

disk_saved : (p : Past) (n drive i : ℕ) → drive < p.setup.drives → i < drive_words → HasWord (word_at (parts.Drive drive) i) (saved_machine (at p n))
unfolding HasWord Rattle.pdp_unibus.specs.SavedBusData.SavedBusHasWord
disk_saved p n drive i there inside = rw (drive_keeps_size p n drive there) inside

pub word_saved : (p : Past) (n : ℕ) (part : Part) (i : ℕ) → PartHasWord p.setup part i → HasWord (word_at part i) (saved_machine (at p n))
word_saved p n parts.Core i inside = core_saved p n i inside
word_saved p n (parts.Drive drive) i inside = disk_saved p n drive i inside.0 inside.1

-- and so in each that is kept
pub word_kept : (p : Past) (known : ℕ) (l : LadderData) (k : WordAt) → AreStatesOf p known l → IsThere p.setup k
    → All (λ c. HasWord k c.saved) l.kept
word_kept p known l k are inside = λ i d below. rw (are.states i d below) (word_saved p _ k.part k.number inside)

abbrev pub with_those_patches : Patches → SetupData → SetupData
with_those_patches patches s = record s { patches = patches }

-- the world as of power-up over these words
abbrev pub power_over : SetupData → List ℕ → List (List ℕ) → World
power_over s core drives = world_at_power_up s.start core (replicate (core_size s) None) drives s.tape s.delays

powers_with_core : (s : SetupData) (i word : ℕ) → i < core_size s → PowersWith parts.Core i word s (patched s (word_at parts.Core i) word)
unfolding first_world
powers_with_core s i word inside = record {
  is = ap₂ (power_over s) (core_patched s i word inside) (drives_stay s i word);
  there = rw (core_has_size s) inside;
}

pub length_at : (s : SetupData) (drive : ℕ) → drive < s.drives → length (slice_index_or (drives_words s) drive []) ≡ drive_words
length_at s drive there = ap length (drive_by_number s drive there) ∙ drive_has_size s drive

powers_with_disk : (s : SetupData) (drive i word : ℕ) → drive < s.drives → i < drive_words
    → PowersWith (parts.Drive drive) i word s (patched s (word_at (parts.Drive drive) i) word)
unfolding first_world
powers_with_disk s drive i word there inside = record {
  is = ap₂ (power_over s) (core_stays s drive i word) (drives_patched s drive i word there inside);
  there = rw (length_at s drive there) inside;
}

pub powers_of : (s : SetupData) (part : Part) (i word : ℕ) → PartHasWord s part i → PowersWith part i word s (patched s (word_at part i) word)
powers_of s parts.Core i word inside = powers_with_core s i word inside
powers_of s (parts.Drive drive) i word inside = powers_with_disk s drive i word inside.0 inside.1

powers_reverted : (s : SetupData) (i : ℕ) → i < core_size s → patch_of (unpatched s (word_at parts.Core i)).patches (word_at parts.Core i) ≡ None
    → PowersWith parts.Core i (slice_index s.core i) s (unpatched s (word_at parts.Core i))
unfolding first_world
powers_reverted s i inside none = record {
  is = ap₂ (power_over s) (core_reverted s i inside none) (drives_stay_reverted s i);
  there = rw (core_has_size s) inside;
}

-- a page that is there
each_alike : {X : Type 0} (count k : ℕ) (x blank : X) → k < count → slice_index_or (replicate count x) k blank ≡ x
each_alike zero k x blank below = absurd (omega arith)
each_alike (suc count) zero x blank below = refl
each_alike (suc count) (suc k) x blank below = each_alike count k x blank (omega arith)

page_within : (s : SetupData) (part : Part) (i : ℕ) → PartHasWord s part i → i / 256 < length (first_touches_in part (untouched_all s))
unfolding untouched_all
page_within s parts.Core i inside = rw (length-replicate ((core_size s + 255) / 256) never) (omega (arith, inside))
page_within s (parts.Drive drive) i inside =
    let below = inside.1 in
    rw (each_alike s.drives drive (no_touch_in drive_words) [] inside.0, length-replicate ((drive_words + 255) / 256) never)
    (omega (arith, below))

-- no page was touched first from the known turn on
pub touched_before : (p : Past) (highest : ℕ) (r : KeptRun) → IsEngine p highest r
    → all_first_touches_before r.known r.machine.first_touches ≡ r.machine.first_touches
touched_before p highest r engine =
    let small : r.known ≤ never = omega (arith, engine.reached, engine.limit) in
    let is = engine.run.kept.texts.first_touches in
    ap (all_first_touches_before r.known) is ∙ first_touches_cut p r.known r.known (omega arith) small ∙ sym is

-- how far a patch reaches is told by the first touches that are kept
pub reached_first : (p : Past) (k : WordAt) (r : KeptRun) → AreKept p r.known r.machine r.ladder → IsThere p.setup k → r.known ≤ never
    → reached_by k r ≡ first_touch p k.part (k.number / 256) r.known
reached_first p k r kept inside small =
    let part = k.part in
    reached_is (first_touch p part (k.number / 256) r.known) r.known (first_touch_of part (k.number / 256) r.machine.first_touches) (first_touch_le p part (k.number / 256) r.known) small
    (ap (first_touch_of part (k.number / 256)) kept.texts.first_touches ∙ first_touches_tell p part (k.number / 256) r.known small (page_within p.setup k.part k.number inside))

-- so the checkpoints up to there have the page of the word alike
pub pages_kept : (p : Past) (k : WordAt) (highest : ℕ) (r : KeptRun) → IsEngine p highest r → IsThere p.setup k
    → HavePageAlike k (filter (λ c. nat_le c.turn (reached_by k r)) r.ladder.kept)
pages_kept p k highest r engine inside =
    let small : r.known ≤ never = omega (arith, engine.reached, engine.limit) in
    let first = reached_first p k r engine.run.kept inside small in
    kept_have_page k.part k.number p r.known (reached_by k r) r.ladder engine.run.kept.states (omega (arith, first))

-- with other patches, which change one word as of power-up
pub engine_repatched : (p : Past) (patches : Patches) (k : WordAt) (word highest : ℕ) (before after : KeptRun)
    → IsEngine p highest before → AllThere p.setup patches → IsThere p.setup k
    → PowersWith k.part k.number word p.setup (with_those_patches patches p.setup)
    → IsPatchedRun k word before after
    → IsEngine (with_setup p (with_those_patches patches p.setup)) highest after
engine_repatched p patches k word highest before after engine there inside powers done =
    let s = with_those_patches patches p.setup in
    let kept = engine.run.kept in
    let small : before.known ≤ never = omega (arith, engine.reached, engine.limit) in
    let first = reached_first p k before kept inside small in
    let known : after.known ≡ first_touch p k.part (k.number / 256) before.known = done.known ∙ first in
    let le : after.known ≤ before.known = omega (arith, known, first_touch_le p k.part (k.number / 256) before.known) in
    let low : after.known ≤ first_touch p k.part (k.number / 256) before.known = omega (arith, known) in
    let reached = engine.reached in
    let built = kept.built in
    let same = done.world in
    let left = formers_after p after.known 0 before after kept le small done.formers in
    let formers : All (IsFormerOf (with_setup p s)) after.ladder.formers =
    λ k d inside. former_of_other p (with_setup p s) _ refl refl refl (λ t above. refl) (left k d inside) in
    record {
      good = record { units = engine.good.units; some = engine.good.some; widest = engine.good.widest; core = engine.good.core; disks = engine.good.disks };
      there = there;
      reached = omega (arith, le, reached);
      limit = engine.limit;
      stride = rw (ap (λ (l : LadderData). l.stride) done.ladder) engine.stride;
      run = record {
        kept = record {
          states = states_patched k.part k.number word p s before.known after.known before.ladder after.ladder powers kept.states le low done.ladder formers done.count done.checkpoints;
          texts = texts_patched k.part k.number word p s before.known after.known before.machine after.machine powers kept.texts (untouched_alike s p.setup refl refl) le done.small low done.text done.punched done.first_touches;
          built = record { tape = rw same built.tape; core = rw same built.core; stamps = rw same built.stamps; drives = rw same built.drives };
        };
        current = λ yes. let no = done.current in absurd cc;
      };
    }

-- with a patch of a word that is there
pub engine_patched : (p q : Past) (k : WordAt) (word highest : ℕ) (before after : KeptRun) → IsEngine p highest before
    → q.setup ≡ patched p.setup k word → q.script ≡ p.script → IsThere p.setup k → IsPatchedRun k word before after
    → IsEngine q highest after
engine_patched p q k word highest before after engine setup script inside done =
    subst (λ (x : Past). IsEngine x highest after) (sym (ap₂ past_of setup script))
    (engine_repatched p (patched p.setup k word).patches k word highest before after engine
    (there_inserted is_same_word p.setup p.setup.patches k word inside engine.there) inside (powers_of p.setup k.part k.number word inside) done)

-- without the patch of a word of core, which is its image's word again as of power-up
pub engine_reverted : (p q : Past) (i highest : ℕ) (before after : KeptRun) → IsEngine p highest before
    → q.setup ≡ unpatched p.setup (word_at parts.Core i) → q.script ≡ p.script → i < core_size p.setup
    → patch_of (unpatched p.setup (word_at parts.Core i)).patches (word_at parts.Core i) ≡ None → IsPatchedRun (word_at parts.Core i) (slice_index p.setup.core i) before after
    → IsEngine q highest after
engine_reverted p q i highest before after engine setup script inside none done =
    subst (λ (x : Past). IsEngine x highest after) (sym (ap₂ past_of setup script))
    (engine_repatched p (unpatched p.setup (word_at parts.Core i)).patches (word_at parts.Core i) (slice_index p.setup.core i) highest before after engine
    (there_removed p.setup (is_same_word (word_at parts.Core i)) p.setup.patches engine.there) inside (powers_reverted p.setup i inside none) done)

-- the known turn that is left, as an engine tells it
pub known_patched : (p : Past) (k : WordAt) (word highest : ℕ) (before after : KeptRun) → IsEngine p highest before
    → IsThere p.setup k → IsPatchedRun k word before after
    → after.known ≡ min before.known (first_touch p k.part (k.number / 256) before.known)
known_patched p k word highest before after engine inside done =
    let small : before.known ≤ never = omega (arith, engine.reached, engine.limit) in
    let first = reached_first p k before engine.run.kept inside small in
    let low = first_touch_le p k.part (k.number / 256) before.known in
    omega (arith, done.known, first, low)

-- an engine with this past and this run, as it is told
abbrev pub timeline : Past → ℕ → KeptRun → Timeline
timeline p highest r = record {
  past = p;
  known = r.known;
  highest = highest;
  stride = r.ladder.stride;
  turns = r.meter;
  turn = r.machine.state.turn;
  current = r.is_current;
}

-- the engine after the edit
pub told_patched : (p q : Past) (due : Result Past Fault) (k : WordAt) (word highest reached : ℕ) (before after : KeptRun)
    → due ≡ Ok q → after.known ≡ min before.known reached → IsPatchedRun k word before after
    → timeline q highest after ≡ after_setup_edit reached due false (timeline p highest before)
told_patched p q due k word highest reached before after is known done =
    let stride : after.ladder.stride ≡ before.ladder.stride = ap (λ (l : LadderData). l.stride) done.ladder in
    rw (is, known, stride, done.meter, done.turn, done.current) refl

-- an edit of a word of core, or of a drive, is the patch of that word
pub core_edit_is : (t : Timeline) (address word number : ℕ) → core_word_at address t.past.setup ≡ Ok number → number ≡ address / 2
    → word_patched (word_at parts.Core number) word false t ≡ core_edited address word false t
unfolding core_edit
core_edit_is t address word number found half = rw (found, ← half) refl

pub disk_edit_is : (t : Timeline) (drive number word i : ℕ) → disk_word_at drive number t.past.setup ≡ Ok i → i ≡ number
    → word_patched (word_at (parts.Drive drive) i) word false t ≡ disk_edited drive number word false t
unfolding disk_edit
disk_edit_is t drive number word i found same = rw (found, same) refl

pub revert_is : (p q : Past) (address number : ℕ) → core_word_at address p.setup ≡ Ok number
    → is_some (patch_of p.setup.patches (word_at parts.Core number)) ≡ true
    → q.setup ≡ unpatched p.setup (word_at parts.Core number) → q.script ≡ p.script → revert_edit address p ≡ Ok q
unfolding revert_edit
revert_is p q address number found there setup script = rw (found, there) (ap Ok (sym (ap₂ past_of setup script)))
