-- What is kept of a run up to the first touch of a page is that of the run with a word of the page
-- patched, once the word is changed in each checkpoint.
use Rattle.std.proofs.Common.{◌≡◌, ◌∙◌, ℕ, suc, ◌+◌, ◌*◌, ◌/◌, ◌<◌, ◌≤◌, Bool, true, false, List, [], ◌∷◌, ap, ap₂, arith, length, map, min, nat_le, refl, subst, sym, if◌then◌else◌}
use Rattle.std.specs.List.{All, filter}
use Rattle.std.proofs.lemmas.Bool.{leb-true}
use Rattle.std.proofs.lemmas.List.Elements.{All-nil, All-cons}
use Rattle.std.proofs.Math.Nat.{div-mul-le_self, lt-div-mul-add, lt_of_mul-lt-mul_right}
use Rattle.pdp_store.specs.Parts.{word_at}
use Rattle.pdp_store.specs.declared.part.Part.{Part}
use Rattle.pdp_unibus.specs.Page.{words_of_part}
use Rattle.pdp_unibus.specs.SavedBusData.{saved_bus}
use Rattle.pdp_operand.specs.Phases.World.{World}
use Rattle.pdp_checkpoint.specs.Ladder.{AreCheckpoints, LadderData}
use Rattle.pdp_checkpoint.specs.Patched.{patched_to, checkpoint_with_word}
use Rattle.pdp_checkpoint.specs.declared.checkpoint.Checkpoint.{Checkpoint}
use Rattle.pdp_cpu.specs.KeptTexts.{kept_before}
use Rattle.pdp_cpu.specs.Saved.{SavedMachineData, saved_machine_with_word, saved_machine}
use Rattle.pdp_cpu.specs.Handbook.MachineState.{MachineWithTexts}
use Rattle.pdp_replay.specs.Run.FirstTouches.{first_touch, untouched_all, world_changed}
use Rattle.pdp_store.specs.FirstTouches.{all_first_touches_before, first_touches_after, never}
use Rattle.pdp_replay.specs.Run.Checkpoints.{AreStatesOf, IsFormerOf, IsKeptState, KeepsTexts}
use Rattle.pdp_replay.specs.Past.{Past, with_setup}
use Rattle.pdp_replay.specs.Past.Setup.{SetupData}
use Rattle.pdp_replay.specs.Run.States.{at, first_world, punched_at, state_at, text_at}
use Rattle.pdp_replay.proofs.run.Lowered.{texts_cut}
use Rattle.pdp_replay.proofs.run.Untouched.{AlikeRuns, alike_runs, changed_alike, part_keeps_size, state_changed, untouched_until}

-- at power-up the other setup differs in this word, which is there
pub record PowersWith (part : Part) (i word : ℕ) (r s : SetupData) : Type 0 where
  pub is : first_world s ≡ world_changed part i word (first_world r)
  pub there : i < length (words_of_part part (first_world r).bus)

abbrev saved_machine_of : ℕ → World → List ℕ → List ℕ → SavedMachineData
saved_machine_of n w text punched = saved_machine (record { turn = n; world = w; text = text; punched = punched })

changed_saved_machine : (part : Part) (n i word : ℕ) (w : World) (text punched : List ℕ)
    → saved_machine_of n (world_changed part i word w) text punched ≡ saved_machine_with_word (word_at part i) word (saved_machine_of n w text punched)
unfolding saved_machine_with_word Rattle.pdp_unibus.specs.SavedBusData.saved_bus_with_word
changed_saved_machine part n i word w text punched = refl

pub runs_alike : (part : Part) (i word : ℕ) (p : Past) (s : SetupData) (n known : ℕ) → PowersWith part i word p.setup s
    → n ≤ first_touch p part (i / 256) known → AlikeRuns part (i / 256) p s n
runs_alike part i word p s n known powers low =
    alike_runs part (i / 256) p s (record { words = _; is = powers.is; alike = changed_alike (i / 256) i word _ refl }) n
    (untouched_until p part (i / 256) known n low)

state_of_patch : (part : Part) (i word : ℕ) (p : Past) (s : SetupData) (n known : ℕ) → PowersWith part i word p.setup s
    → n ≤ first_touch p part (i / 256) known → state_at (with_setup p s) n ≡ world_changed part i word (state_at p n)
unfolding state_at
state_of_patch part i word p s n known powers low =
    let inside : i < length (words_of_part part (state_at p n).bus) = rw (part_keeps_size part p n) powers.there in
    state_changed part i word p s n powers.is powers.there inside (untouched_until p part (i / 256) known n low)

pub saved_machine_of_patch : (part : Part) (i word : ℕ) (p : Past) (s : SetupData) (n known : ℕ) → PowersWith part i word p.setup s
    → n ≤ first_touch p part (i / 256) known
    → saved_machine (at (with_setup p s) n) ≡ saved_machine_with_word (word_at part i) word (saved_machine (at p n))
saved_machine_of_patch part i word p s n known powers low =
    let so = runs_alike part i word p s n known powers low in
    ap (λ w. saved_machine_of n w (text_at (with_setup p s) n) (punched_at (with_setup p s) n)) (state_of_patch part i word p s n known powers low)
    ∙ ap₂ (saved_machine_of n (world_changed part i word (state_at p n))) so.text so.punched
    ∙ changed_saved_machine part n i word (state_at p n) (text_at p n) (punched_at p n)

-- what holds of each that is kept, changed
all_changed : (P Q : Checkpoint → Type 0) (f : Checkpoint → Checkpoint) (keep : Checkpoint → Bool)
    → ((c : Checkpoint) → keep c ≡ true → P c → Q (f c)) → (cs : List Checkpoint) → All P cs → All Q (map f (filter keep cs))
all_changed P Q f keep step [] all = All-nil Q
all_changed P Q f keep step (c ∷ cs) all =
    by (keep c) refl (all_changed P Q f keep step cs (λ k d below. all (suc k) d (omega arith)))
  where
    by : (b : Bool) → keep c ≡ b → All Q (map f (filter keep cs)) → All Q (map f (if b then c ∷ filter keep cs else filter keep cs))
    by true is rest = All-cons Q (f c) _ (step c is (all 0 c (omega arith))) rest
    by false is rest = rest

lesser_quotient : (s known k : ℕ) → 0 < s → k ≤ known → k / s < known / s + 1
lesser_quotient s known k positive le =
    let low : k / s * s ≤ k = div-mul-le_self k s in
    let high : known < known / s * s + s = lt-div-mul-add positive in
    lt_of_mul-lt-mul_right s (omega arith)

pub states_patched : (part : Part) (i word : ℕ) (p : Past) (s : SetupData) (known k : ℕ) (l now : LadderData) → PowersWith part i word p.setup s
    → AreStatesOf p known l → k ≤ known → k ≤ first_touch p part (i / 256) known → now ≡ patched_to k (word_at part i) word now.formers l
    → All (IsFormerOf (with_setup p s)) now.formers → length now.kept ≡ min (length l.kept) (k / l.stride + 1) → AreCheckpoints now → AreStatesOf (with_setup p s) k now
states_patched part i word p s known k l now powers are le low is formers long checkpoints =
    let stride : now.stride ≡ l.stride = ap (λ (x : LadderData). x.stride) is in
    let less : k / l.stride < known / l.stride + 1 = lesser_quotient l.stride known k are.checkpoints.positive le in
    let count : length now.kept ≡ k / l.stride + 1 = omega (arith, long, are.count, less) in
    record {
      states = subst (λ (x : LadderData). All (λ c. c.saved ≡ saved_machine (at (with_setup p s) c.turn)) x.kept) (sym is)
          (all_changed (λ c. c.saved ≡ saved_machine (at p c.turn)) (λ c. c.saved ≡ saved_machine (at (with_setup p s) c.turn)) (checkpoint_with_word (word_at part i) word) (λ c. nat_le c.turn k)
          (λ c kept saved.
          let below : c.turn ≤ k = leb-true c.turn k kept in
          let within : c.turn ≤ first_touch p part (i / 256) known = omega (arith, below, low) in
          ap (saved_machine_with_word (word_at part i) word) saved ∙ sym (saved_machine_of_patch part i word p s c.turn known powers within))
          l.kept are.states);
      checkpoints = checkpoints;
      count = count ∙ ap (λ n. k / n + 1) (sym stride);
      near = subst (All (IsKeptState (with_setup p s) k)) (sym (ap (λ (x : LadderData). x.near) is)) (All-nil (IsKeptState (with_setup p s) k));
      formers = formers;
    }

pub texts_patched : (part : Part) (i word : ℕ) (p : Past) (s : SetupData) (known k : ℕ) (m now : MachineWithTexts) → PowersWith part i word p.setup s
    → KeepsTexts p known m → untouched_all s ≡ untouched_all p.setup → k ≤ known → k ≤ never → k ≤ first_touch p part (i / 256) known
    → now.kept_text ≡ kept_before k m.kept_text → now.kept_punched ≡ kept_before k m.kept_punched → now.first_touches ≡ all_first_touches_before k m.first_touches → KeepsTexts (with_setup p s) k now
texts_patched part i word p s known k m now powers keeps same le small low text punched first_touches =
    let cut = texts_cut p known k m now keeps le small text punched first_touches in
    let so = runs_alike part i word p s k known powers low in
    record {
      text = cut.text ∙ sym so.kept_text;
      punched = cut.punched ∙ sym so.kept_punched;
      first_touches = cut.first_touches ∙ ap₂ first_touches_after (sym so.trace) (sym same);
    }
