-- A branch is made: a blank machine takes what came out of a run, and is made a state of it.
use Rattle.std.proofs.Common.{◌≡◌, ◌∙◌, ◌*◌, ◌≤◌, ◌++◌, ℕ, None, Some, List, [], ◌∷◌, ap, ap₂, arith, drop, length, map, max, refl, replicate, slice_get, subst, sym, take, true}
use Rattle.std.proofs.lemmas.Bool.{le-ltb}
use Rattle.std.proofs.lemmas.List.{length-replicate}
use Rattle.std.proofs.lemmas.Option.{get_or_from_slice_get, slice_get_within}
use Rattle.pdp_checkpoint.specs.Ladder.{LadderData}
use Rattle.pdp_checkpoint.specs.declared.checkpoint.Checkpoint.{Checkpoint}
use Rattle.pdp_store.specs.FirstTouches.{FirstTouches, all_first_touches_before, first_touches_of, never}
use Rattle.pdp_store.specs.Overlays.{drives_over, first_touches_over, touches_over}
use Rattle.pdp_store.specs.Pages.{PagedStored, PagedWords, blank_drive, blank_paged}
use Rattle.pdp_store.specs.Stored.{no_touch_in}
use Rattle.pdp_unibus.specs.SavedTouches.{HasPagesOf}
use Rattle.pdp_cpu.specs.KeptTexts.{kept_before}
use Rattle.pdp_cpu.specs.Saved.{SavedMachineData, saved_machine, state_on}
use Rattle.pdp_cpu.specs.SavedOutput.{TakesOutput, bytes_between, output_from}
use Rattle.pdp_cpu.specs.Handbook.MachineState.{MachineState, MachineWithTexts}
use Rattle.pdp_cpu.specs.declared.kept_text.KeptByte.{KeptByte}
use Rattle.pdp_replay.specs.Past.{Past}
use Rattle.pdp_replay.specs.Past.Setup.{drive_count, drive_words, unit_words}
use Rattle.pdp_replay.specs.Run.Branches.{IsBlank}
use Rattle.pdp_replay.specs.Run.Checkpoints.{AreStatesOf, IsBuiltFrom, KeepsTexts, punched_kept_at, text_kept_at}
use Rattle.pdp_replay.specs.Run.FirstTouches.{first_touches_at, untouched_all}
use Rattle.pdp_replay.specs.Run.KeptRuns.{IsUnderWay}
use Rattle.pdp_replay.specs.Run.States.{at, punched_at, text_at}
use Rattle.pdp_replay.specs.declared.past.base_setup.BaseSetup.{BaseSetup}
use Rattle.pdp_replay.proofs.run.FormerRuns.{between_is, trace_sizes}
use Rattle.pdp_replay.proofs.run.KeptTexts.{punched_kept_before, punched_kept_first, text_kept_before, text_kept_first}
use Rattle.pdp_replay.proofs.run.Resumed.{resumes}
use Rattle.pdp_replay.proofs.run.RunFirstTouches.{first_touches_cut}

-- over none of an earlier turn all first touches stay
over_none : (under firsts : List ℕ) → length under ≡ length firsts → touches_over 0 under firsts ≡ firsts
over_none [] [] same = refl
over_none [] (f ∷ fs) same = absurd (omega arith)
over_none (u ∷ us) [] same = absurd (omega arith)
over_none (u ∷ us) (f ∷ fs) same = let late = le-ltb u 0 (omega arith) in rw late (ap (λ l. f ∷ l) (over_none us fs (omega arith)))

drives_over_none : (under drives : List (List ℕ)) → map length under ≡ map length drives → drives_over 0 under drives ≡ drives
drives_over_none [] [] same = refl
drives_over_none [] (d ∷ ds) same = absurd cc
drives_over_none (u ∷ us) [] same = absurd cc
drives_over_none (u ∷ us) (d ∷ ds) same = ap₂ (λ x l. x ∷ l) (over_none u d (cc same)) (drives_over_none us ds (cc same))

all_over_none : (under f : FirstTouches) → HasPagesOf f under → first_touches_over 0 under f ≡ f
all_over_none under f pages = ap₂ first_touches_of (over_none under.core f.core (sym pages.core)) (drives_over_none under.drives f.drives (sym pages.drives))

-- what a list keeps between no byte and its first ones, if none of it is left out
first_bytes : (kept : List KeptByte) (from a b : ℕ) → from ≡ 0 → a ≡ 0 → bytes_between from a b (drop from kept) ≡ take b kept
first_bytes kept from a b none first = between_is from a b kept (omega (arith, none)) (omega (arith, first)) ∙ ap (λ n. drop n (take b kept)) first

-- of a machine that keeps the texts of a run, nothing came out before turn 0
pub takes_all : (p : Past) (turn known : ℕ) (m blank taking : MachineWithTexts) (first : SavedMachineData) → KeepsTexts p known m → turn ≤ known → turn ≤ never
    → first ≡ saved_machine (at p 0) → blank.kept_text ≡ [] → blank.kept_punched ≡ [] → blank.state.turn ≡ 0 → HasPagesOf (first_touches_at p turn) blank.first_touches
    → TakesOutput first (saved_machine (at p turn)) (output_from 0 m) blank taking → KeepsTexts p turn taking
unfolding text_at punched_at text_kept_at punched_kept_at
takes_all p turn known m blank taking first keeps le small is text punched zero_turn pages takes =
    let out = output_from 0 m in
    let printed_from : length (kept_before 0 m.kept_text) ≡ 0 = ap (λ t. length (kept_before 0 t)) keeps.text ∙ ap length (text_kept_before p 0 known (omega arith)) in
    let punched_from : length (kept_before 0 m.kept_punched) ≡ 0 = ap (λ t. length (kept_before 0 t)) keeps.punched ∙ ap length (punched_kept_before p 0 known (omega arith)) in
    record {
      text = takes.text ∙ ap (λ xs. xs ++ bytes_between out.text_from first.text_length (length (text_at p turn)) out.text) text
          ∙ first_bytes m.kept_text _ first.text_length (length (text_at p turn)) printed_from (ap (λ (s : SavedMachineData). s.text_length) is)
          ∙ ap (take (length (text_at p turn))) keeps.text ∙ text_kept_first p turn known le;
      punched = takes.punched ∙ ap (λ xs. xs ++ bytes_between out.punched_from first.punched_length (length (punched_at p turn)) out.punched) punched
          ∙ first_bytes m.kept_punched _ first.punched_length (length (punched_at p turn)) punched_from (ap (λ (s : SavedMachineData). s.punched_length) is)
          ∙ ap (take (length (punched_at p turn))) keeps.punched ∙ punched_kept_first p turn known le;
      first_touches = takes.first_touches
          ∙ ap (λ f. first_touches_over blank.state.turn blank.first_touches (all_first_touches_before turn f)) keeps.first_touches
          ∙ ap (first_touches_over blank.state.turn blank.first_touches) (first_touches_cut p turn known le small)
          ∙ ap (λ n. first_touches_over n blank.first_touches (first_touches_at p turn)) zero_turn
          ∙ all_over_none blank.first_touches (first_touches_at p turn) pages;
    }

-- a blank machine has the pages of each run of its size
pub blank_pages : (p : Past) (base : BaseSetup) (tape : List ℕ) (n : ℕ) (m : MachineWithTexts) → p.setup.units ≡ base.units → p.setup.drives ≡ drive_count base.drives
    → IsBlank base tape m → HasPagesOf (first_touches_at p n) m.first_touches
unfolding untouched_all
blank_pages p base tape n m units drives blank =
    let there = trace_sizes _ (untouched_all p.setup) in
    let same : untouched_all p.setup ≡ m.first_touches = ap₂ (λ size count. first_touches_of (no_touch_in (size * unit_words)) (replicate count (no_touch_in drive_words))) units drives ∙ sym blank.first_touches in
    record {
      core = there.core ∙ ap (λ (t : FirstTouches). length t.core) same;
      drives = there.drives ∙ ap (λ (t : FirstTouches). map length t.drives) same;
    }

pub blank_built : (p : Past) (base : BaseSetup) (tape : List ℕ) (m taking : MachineWithTexts) → p.setup.units ≡ base.units → p.setup.drives ≡ drive_count base.drives
    → IsBlank base tape m → tape ≡ p.setup.tape → taking.state ≡ m.state → IsBuiltFrom p.setup taking
blank_built p base tape m taking units drives blank same stays = record {
  tape = ap (λ (s : MachineState). s.world.bus.tape) stays ∙ blank.tape_is ∙ same;
  core = ap (λ (s : MachineState). length s.world.bus.core) stays ∙ blank.core ∙ ap (λ n. n * unit_words) (sym units);
  stamps = ap (λ (s : MachineState). length s.world.bus.stamps) stays ∙ blank.stamps ∙ ap (λ n. n * unit_words) (sym units);
  drives = ap (λ (s : MachineState). map length s.world.bus.drives) stays ∙ blank.drives ∙ ap (λ n. replicate n drive_words) (sym drives);
}

-- it is then in a state of the run
pub branched_off : (p : Past) (turn : ℕ) (taking now : MachineWithTexts) (here : SavedMachineData) → here ≡ saved_machine (at p turn) → KeepsTexts p turn taking → IsBuiltFrom p.setup taking
    → now.state ≡ state_on taking here → now.kept_text ≡ taking.kept_text → now.kept_punched ≡ taking.kept_punched → now.first_touches ≡ taking.first_touches
    → IsUnderWay p turn now
branched_off p turn taking now here is keeps built loaded text punched touches =
    let there : now.state ≡ at p turn = loaded ∙ resumes p turn turn taking here is (omega arith) keeps built in
    let after : now.state.turn ≡ turn = ap (λ (s : MachineState). s.turn) there in
    let most : turn ≡ max turn now.state.turn = omega (arith, after) in
    let texts : KeepsTexts p turn now = record { text = text ∙ keeps.text; punched = punched ∙ keeps.punched; first_touches = touches ∙ keeps.first_touches } in
    record { here = there ∙ ap (at p) (sym after); texts = subst (λ n. KeepsTexts p n now) most texts }

-- the words and the touches of a blank store and of a blank drive
pub blank_length : (len : ℕ) (d : PagedWords) → d ≡ blank_drive len → length d.words ≡ len
blank_length len d is = ap (λ (x : PagedWords). length x.words) is ∙ length-replicate len 0

pub blank_touches : (len : ℕ) (d : PagedWords) → d ≡ blank_drive len → d.first_touches ≡ no_touch_in len
blank_touches len d is = ap (λ (x : PagedWords). x.first_touches) is

pub record BlankCore (len : ℕ) (s : PagedStored) : Type 0 where
  pub words : length s.words ≡ len
  pub stamps : length s.stamps ≡ len
  pub touches : s.first_touches ≡ no_touch_in len

pub blank_core : (len size : ℕ) (s : PagedStored) → s ≡ blank_paged len true → len ≡ size → BlankCore size s
blank_core len size s is same = record {
  words = ap (λ (x : PagedStored). length x.words) is ∙ length-replicate len 0 ∙ same;
  stamps = ap (λ (x : PagedStored). length x.stamps) is ∙ length-replicate len None ∙ same;
  touches = ap (λ (x : PagedStored). x.first_touches) is ∙ ap no_touch_in same;
}

pub map_twice : {X Y Z : Type 0} (f : Y → Z) (g : X → Y) (xs : List X) → map f (map g xs) ≡ map (λ x. f (g x)) xs
map_twice f g [] = refl
map_twice f g (x ∷ xs) = ap (λ l. f (g x) ∷ l) (map_twice f g xs)

-- the first state that is kept is that of turn 0
pub first_is_first : (p : Past) (known i : ℕ) (l : LadderData) (c : Checkpoint) → AreStatesOf p known l → slice_get l.kept i ≡ Some c → c.turn ≤ 0
    → c.saved ≡ saved_machine (at p 0)
first_is_first p known i l c are found low =
    let is : c.saved ≡ saved_machine (at p c.turn) =
    subst (λ (x : Checkpoint). x.saved ≡ saved_machine (at p x.turn)) (get_or_from_slice_get l.kept i c c found) (are.states i c (slice_get_within l.kept i c found)) in
    is ∙ ap (λ n. saved_machine (at p n)) (omega (arith, low))
