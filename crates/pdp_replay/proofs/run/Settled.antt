-- What a run keeps where its machine came to a turn: the state of that turn too, if it is the next
-- to keep.
use Rattle.std.proofs.Common.{◌≡◌, ◌∙◌, ℕ, ◌+◌, ◌-◌, ◌*◌, ◌/◌, ◌<◌, ◌≤◌, ⊎_elim, ap, arith, length, max, refl, subst, sym}
use Rattle.std.proofs.Math.Nat.{lt-div-mul-add, mul-le-mul_right}
use Rattle.std.proofs.lemmas.Bool.{cases_lt}
use Rattle.pdp_checkpoint.proofs.Checkpoints.{stride_at_full, stride_in_room}
use Rattle.pdp_checkpoint.specs.Ladder.{AreCheckpoints, LadderData, checkpoint_of, kept_with, most_kept, next_of}
use Rattle.pdp_cpu.specs.KeptTexts.{kept_before}
use Rattle.pdp_cpu.specs.Saved.{state_cut}
use Rattle.pdp_cpu.specs.Handbook.MachineState.{MachineState, MachineWithTexts}
use Rattle.pdp_store.specs.FirstTouches.{all_first_touches_before, never}
use Rattle.pdp_replay.specs.Run.KeptRuns.{IsUnderWay}
use Rattle.pdp_replay.specs.Run.Checkpoints.{AreKept, AreStatesOf, KeepsTexts}
use Rattle.pdp_replay.specs.Past.{Past}
use Rattle.pdp_replay.specs.Run.Strides.{IsStride}
use Rattle.pdp_replay.proofs.run.Checkpoints.{states_stay, states_taken}
use Rattle.pdp_replay.proofs.run.Lowered.{built_stays, texts_cut}
use Rattle.pdp_replay.proofs.run.StateSizes.{at_is_built}
use Rattle.pdp_replay.proofs.run.Strides.{stride_doubles, stride_stays}
use Rattle.pdp_replay.proofs.run.UnderWay.{kept_on_way}

-- the known turn is short of the next one whose state is to be kept
pub known_is_short : (p : Past) (known : ℕ) (l : LadderData) → AreStatesOf p known l → known < next_of l
known_is_short p known l are =
    let high : known < known / l.stride * l.stride + l.stride = lt-div-mul-add are.checkpoints.positive in
    let next : next_of l ≡ (known / l.stride + 1) * l.stride = ap (λ n. n * l.stride) are.count in
    omega (arith, high, next)

-- no state was to be kept here
pub settled : (p : Past) (known : ℕ) (m : MachineWithTexts) (l : LadderData) → AreStatesOf p known l → IsUnderWay p known m
    → m.state.turn < next_of l → AreKept p (max known m.state.turn) m l
settled p known m l are way below =
    let short = known_is_short p known l are in
    kept_on_way p known (max known m.state.turn) m l (states_stay p known (max known m.state.turn) l are (omega arith) (omega (arith, short, below))) way refl

-- the state of this turn was kept
pub settled_taken : (p : Past) (known : ℕ) (m : MachineWithTexts) (l now : LadderData) → AreStatesOf p known l → IsUnderWay p known m
    → m.state.turn ≡ next_of l → now ≡ kept_with l (checkpoint_of m.state) → AreCheckpoints now → next_of now ≡ next_of l + now.stride
    → AreKept p (max known m.state.turn) m now
settled_taken p known m l now are way turn is checkpoints next =
    let short = known_is_short p known l are in
    let reached : m.state.turn ≡ max known m.state.turn = omega (arith, short, turn) in
    let states : AreStatesOf p m.state.turn now = states_taken p known m.state.turn m.state l now are way.here (omega (arith, short, turn)) turn is checkpoints next in
    kept_on_way p known (max known m.state.turn) m now (subst (λ k. AreStatesOf p k now) reached states) way refl

-- there was no memory for it: what was known before this turn stays
pub settled_refused : (p : Past) (known printed punched : ℕ) (m now : MachineWithTexts) (l : LadderData) → AreStatesOf p known l → IsUnderWay p known m
    → m.state.turn ≡ next_of l → now.kept_text ≡ kept_before (m.state.turn - 1) m.kept_text
    → now.kept_punched ≡ kept_before (m.state.turn - 1) m.kept_punched → now.first_touches ≡ all_first_touches_before (m.state.turn - 1) m.first_touches → m.state.turn ≤ never → now.state ≡ state_cut printed punched m.state
    → AreKept p (max known (m.state.turn - 1)) now l
settled_refused p known printed punched m now l are way turn text punched_is first_touches_are small state =
    let short = known_is_short p known l are in
    let before : m.state.turn - 1 ≡ max known (m.state.turn - 1) = omega (arith, short, turn) in
    let texts : KeepsTexts p (m.state.turn - 1) now =
    texts_cut p (max known m.state.turn) (m.state.turn - 1) m now way.texts (omega arith) (omega (arith, small)) text punched_is first_touches_are in
    record {
      states = states_stay p known (max known (m.state.turn - 1)) l are (omega arith) (omega (arith, short, turn));
      texts = subst (λ k. KeepsTexts p k now) before texts;
      built = built_stays p.setup m now (at_is_built p m.state.turn m way.here) (ap (λ (s : MachineState). s.world) state);
    }

-- the stride stays, if the next state to keep wasn't passed
pub stride_settled : (start high known turn : ℕ) (l : LadderData) → AreCheckpoints l → turn < next_of l → IsStride start (max high known) l.stride
    → IsStride start (max high (max known turn)) l.stride
stride_settled start high known turn l checkpoints below is =
    let few : length l.kept * l.stride ≤ 256 * l.stride = mul-le-mul_right l.stride checkpoints.few in
    let enough = is.enough in
    stride_stays start high known (max known turn) l.stride is (omega arith) (omega (arith, few, enough, below))

-- it doubles if a state was kept that had no room
pub stride_taken : (start high known : ℕ) (m : MachineState) (l now : LadderData) → AreCheckpoints l → m.turn ≡ next_of l
    → now ≡ kept_with l (checkpoint_of m) → IsStride start (max high known) l.stride → IsStride start (max high (max known m.turn)) now.stride
stride_taken start high known m l now checkpoints turn taken is =
    let enough = is.enough in
    ⊎_elim
    (λ (room : length l.kept < most_kept).
    let more : (length l.kept + 1) * l.stride ≤ 256 * l.stride = mul-le-mul_right l.stride (omega (arith, room)) in
    let positive = checkpoints.positive in
    let below : max known m.turn < 256 * l.stride = omega (arith, more, enough, turn, positive) in
    let same : now.stride ≡ l.stride = ap (λ (x : LadderData). x.stride) taken ∙ stride_in_room l (checkpoint_of m) room in
    subst (IsStride start (max high (max known m.turn))) (sym same) (stride_stays start high known (max known m.turn) l.stride is (omega arith) below))
    (λ (full : most_kept ≤ length l.kept).
    let all : length l.kept ≡ 256 = omega (arith, full, checkpoints.few) in
    let reached : length l.kept * l.stride ≡ 256 * l.stride = ap (λ n. n * l.stride) all in
    let there : max known m.turn ≡ 256 * l.stride = omega (arith, enough, turn, reached) in
    let twice : now.stride ≡ l.stride * 2 = ap (λ (x : LadderData). x.stride) taken ∙ stride_at_full l (checkpoint_of m) full in
    subst (IsStride start (max high (max known m.turn))) (sym twice) (stride_doubles start high known (max known m.turn) l.stride is there))
    (cases_lt (length l.kept) most_kept)
