-- The checkpoints of a run: what a turn, a state more, a cut and an edit leave of them.
use Rattle.std.proofs.Common.{◌≡◌, ◌∙◌, ℕ, zero, suc, ◌+◌, ◌*◌, ◌/◌, ◌<◌, ◌≤◌, ◌++◌, Bool, true, false, List, [], ◌∷◌, Some, if◌then◌else◌, ap, arith, drop, get_or, length, min, nat_le, nat_lt, refl, slice_get, subst, sym}
use Rattle.std.specs.List.{All, filter}
use Rattle.std.proofs.Math.Nat.{div-eq_of_lt-le, div-mul-le_self, lt-div-mul-add, lt_of_mul-lt-mul_right, mul-le-mul_right}
use Rattle.std.proofs.lemmas.Bool.{leb-true}
use Rattle.std.proofs.lemmas.List.Elements.{All-append, All-drop, All-filter, All-nil, All-push, filter_passes}
use Rattle.std.proofs.lemmas.Option.{get_or_from_slice_get, slice_get_within}
use Rattle.pdp_checkpoint.proofs.Checkpoints.{All-kept_with, turn_at}
use Rattle.pdp_checkpoint.specs.Ladder.{AreCheckpoints, LadderData, checkpoint_of, kept_with, ladder_doubled, most_kept, most_near, near_with, next_of, with_last}
use Rattle.pdp_checkpoint.specs.declared.checkpoint.Checkpoint.{Checkpoint}
use Rattle.pdp_cpu.specs.Saved.{CanHold, saved_machine, state_on}
use Rattle.pdp_cpu.specs.Handbook.MachineState.{MachineState, MachineWithTexts}
use Rattle.pdp_replay.specs.Run.Checkpoints.{AreKept, AreStatesOf, IsFormerOf, IsKeptState}
use Rattle.pdp_replay.specs.Past.{Past}
use Rattle.pdp_replay.specs.Run.States.{at}
use Rattle.pdp_replay.proofs.run.Agreeing.{Agree, agree_before, same_at}
use Rattle.pdp_replay.proofs.run.Resumed.{can_hold, resumes}

-- a checkpoint is that of its turn
abbrev IsStateOf : Past → Checkpoint → Type 0
IsStateOf p c = c.saved ≡ saved_machine (at p c.turn)

-- the quotient stays as long as the next multiple isn't reached
same_quotient : (s known k : ℕ) → known ≤ k → k < (known / s + 1) * s → known / s ≡ k / s
same_quotient s known k le below =
    let low : known / s * s ≤ known = div-mul-le_self known s in
    sym (div-eq_of_lt-le s (omega (arith, low, le)) below)

pub lesser_quotient : (s known k : ℕ) → 0 < s → k ≤ known → k / s < known / s + 1
lesser_quotient s known k positive le =
    let low : k / s * s ≤ k = div-mul-le_self k s in
    let high : known < known / s * s + s = lt-div-mul-add positive in
    lt_of_mul-lt-mul_right s (omega arith)

-- so many multiples up to here, the last of which is here
quotient_at : (s count n : ℕ) → 0 < s → count * s ≡ n + s → count ≡ n / s + 1
quotient_at s zero n positive is = absurd (omega arith)
quotient_at s (suc m) n positive is =
    let here : m * s ≡ n = omega arith in
    let quotient : n / s ≡ m = div-eq_of_lt-le s (omega arith) (omega arith) in
    omega arith

-- no checkpoint is of a later turn than the known one
turn_within : (p : Past) (known : ℕ) (l : LadderData) → AreStatesOf p known l → (i : ℕ) (d : Checkpoint) → i < length l.kept → (get_or l.kept i d).turn ≤ known
turn_within p known l are i d below =
    let low : known / l.stride * l.stride ≤ known = div-mul-le_self known l.stride in
    let least : i * l.stride ≤ known / l.stride * l.stride = mul-le-mul_right l.stride (omega (arith, are.count)) in
    rw (turn_at l i d are.checkpoints below) (omega arith)

pub turns_within : (p : Past) (known : ℕ) (l : LadderData) → AreStatesOf p known l → All (λ c. c.turn ≤ known) l.kept
turns_within p known l are i d below = turn_within p known l are i d below

-- the state of a machine at turn 0 is all that is kept at first
pub states_first : (p : Past) (l : LadderData) → l.kept ≡ checkpoint_of (at p 0) ∷ [] → l.near ≡ [] → l.formers ≡ [] → AreCheckpoints l → AreStatesOf p 0 l
states_first p l is none no_former checkpoints =
    let positive = checkpoints.positive in
    let one : length l.kept ≡ 1 = ap length is in
    record {
      states = subst (λ kept. All (IsStateOf p) kept) (sym is) (λ i d below. only i d below);
      checkpoints = checkpoints;
      count = quotient_at l.stride (length l.kept) 0 positive (ap (λ n. n * l.stride) one ∙ omega arith);
      near = subst (All (IsKeptState p 0)) (sym none) (All-nil (IsKeptState p 0));
      formers = subst (All (IsFormerOf p)) (sym no_former) (All-nil (IsFormerOf p));
    }
  where
    only : (i : ℕ) (d : Checkpoint) → i < 1 → IsStateOf p (get_or (checkpoint_of (at p 0) ∷ []) i d)
    only zero d below = refl
    only (suc i) d below = absurd (omega arith)

-- a state stays one as more turns are known
pub near_stay : (p : Past) (known k : ℕ) (near : List Checkpoint) → All (IsKeptState p known) near → known ≤ k → All (IsKeptState p k) near
near_stay p known k near are le = λ i d below.
    let state = are i d below in
    let within = state.within in
    record { saved = state.saved; within = omega (arith, within, le) }

-- turns up to the next multiple leave what is kept
pub states_stay : (p : Past) (known k : ℕ) (l : LadderData) → AreStatesOf p known l → known ≤ k → k < next_of l → AreStatesOf p k l
states_stay p known k l are le below =
    let count = are.count in
    let next : next_of l ≡ (known / l.stride + 1) * l.stride = ap (λ n. n * l.stride) count in
    let same : known / l.stride ≡ k / l.stride = same_quotient l.stride known k le (omega (arith, next, below)) in
    record {
      states = are.states;
      checkpoints = are.checkpoints;
      count = count ∙ ap (λ n. n + 1) same;
      near = near_stay p known k l.near are.near le;
      formers = are.formers;
    }

near_taken : (l : LadderData) (c : Checkpoint) → (kept_with l c).near ≡ l.near
unfolding kept_with
near_taken l c = by (nat_lt (length l.kept) most_kept) where
  by : (b : Bool) → (if b then with_last l c else ladder_doubled (with_last l c)).near ≡ l.near
  by true = refl
  by false = refl

formers_taken : (l : LadderData) (c : Checkpoint) → (kept_with l c).formers ≡ l.formers
unfolding kept_with
formers_taken l c = by (nat_lt (length l.kept) most_kept) where
  by : (b : Bool) → (if b then with_last l c else ladder_doubled (with_last l c)).formers ≡ l.formers
  by true = refl
  by false = refl

-- the state at the next multiple is kept too; the stride may have doubled by that
pub states_taken : (p : Past) (known n : ℕ) (m : MachineState) (l now : LadderData) → AreStatesOf p known l → m ≡ at p n → known ≤ n → n ≡ next_of l
    → now ≡ kept_with l (checkpoint_of m) → AreCheckpoints now → next_of now ≡ next_of l + now.stride → AreStatesOf p n now
states_taken p known n m l now are here le turn is checkpoints next =
    let last : IsStateOf p (checkpoint_of m) = rw here refl in
    record {
      states = subst (λ x. All (IsStateOf p) x.kept) (sym is) (All-kept_with (IsStateOf p) l (checkpoint_of m) are.states last);
      checkpoints = checkpoints;
      count = quotient_at now.stride (length now.kept) n checkpoints.positive (next ∙ ap (λ k. k + now.stride) (sym turn));
      near = subst (All (IsKeptState p n)) (sym (ap (λ (x : LadderData). x.near) is ∙ near_taken l (checkpoint_of m))) (near_stay p known n l.near are.near le);
      formers = subst (All (IsFormerOf p)) (sym (ap (λ (x : LadderData). x.formers) is ∙ formers_taken l (checkpoint_of m))) are.formers;
    }

near_cut : (p : Past) (known k : ℕ) (near : List Checkpoint) → All (IsKeptState p known) near → All (IsKeptState p k) (filter (λ c. nat_le c.turn k) near)
near_cut p known k near are = λ i d below.
    let low = filter_passes (λ c. nat_le c.turn k) near i d below in
    let state = All-filter (λ c. nat_le c.turn k) (IsKeptState p known) near are i d below in
    record { saved = state.saved; within = leb-true _ k low }

-- of a lesser known turn those are kept that are not later
pub states_cut : (p : Past) (known k : ℕ) (l now : LadderData) → AreStatesOf p known l → k ≤ known
    → All (IsFormerOf p) now.formers
    → now.kept ≡ filter (λ c. nat_le c.turn k) l.kept → now.near ≡ filter (λ c. nat_le c.turn k) l.near → now.stride ≡ l.stride → length now.kept ≡ min (length l.kept) (k / l.stride + 1) → AreCheckpoints now
    → AreStatesOf p k now
states_cut p known k l now are le formers kept near stride long checkpoints =
    let less : k / l.stride < known / l.stride + 1 = lesser_quotient l.stride known k are.checkpoints.positive le in
    let count : length now.kept ≡ k / l.stride + 1 = omega (arith, long, are.count, less) in
    record {
      states = subst (λ x. All (IsStateOf p) x) (sym kept) (All-filter (λ c. nat_le c.turn k) (IsStateOf p) l.kept are.states);
      checkpoints = checkpoints;
      count = count ∙ ap (λ s. k / s + 1) (sym stride);
      near = subst (All (IsKeptState p k)) (sym near) (near_cut p known k l.near are.near);
      formers = formers;
    }

-- they are those of each past that agrees with this one up to there
pub states_agree : (p q : Past) (known : ℕ) (l : LadderData) → Agree p q known → All (IsFormerOf q) l.formers → AreStatesOf p known l → AreStatesOf q known l
states_agree p q known l agree formers are = record {
  formers = formers;
  states = λ i d below.
      let c : Checkpoint = get_or l.kept i d in
      let within : c.turn ≤ known = turn_within p known l are i d below in
      are.states i d below ∙ ap saved_machine (same_at p q c.turn (agree_before p q known c.turn agree within));
  checkpoints = are.checkpoints;
  count = are.count;
  near = λ i d below.
      let c : Checkpoint = get_or l.near i d in
      let state = are.near i d below in
      record { saved = state.saved ∙ ap saved_machine (same_at p q c.turn (agree_before p q known c.turn agree state.within)); within = state.within };
}

-- all states that are kept
pub all_kept : (p : Past) (known : ℕ) (l : LadderData) → AreStatesOf p known l → All (IsKeptState p known) (l.kept ++ l.near)
all_kept p known l are =
    All-append (IsKeptState p known) l.kept l.near
    (λ i d below. record { saved = are.states i d below; within = turn_within p known l are i d below })
    are.near

-- a state, found by its place
state_found : (p : Past) (known : ℕ) (l : LadderData) (i : ℕ) (c : Checkpoint) → AreStatesOf p known l → slice_get (l.kept ++ l.near) i ≡ Some c
    → IsKeptState p known c
state_found p known l i c are found =
    let states = l.kept ++ l.near in
    subst (IsKeptState p known) (get_or_from_slice_get states i c c found) (all_kept p known l are i c (slice_get_within states i c found))

-- it can be loaded, and then the machine is in the state of its turn
pub found_fits : (p : Past) (known : ℕ) (m : MachineWithTexts) (l : LadderData) (i : ℕ) (c : Checkpoint) → AreKept p known m l
    → slice_get (l.kept ++ l.near) i ≡ Some c → CanHold m c.saved
found_fits p known m l i c are found =
    let state = state_found p known l i c are.states found in
    can_hold p c.turn known m c.saved state.saved state.within are.texts are.built

pub found_resumes : (p : Past) (known : ℕ) (m : MachineWithTexts) (l : LadderData) (i : ℕ) (c : Checkpoint) → AreKept p known m l
    → slice_get (l.kept ++ l.near) i ≡ Some c → state_on m c.saved ≡ at p c.turn
found_resumes p known m l i c are found =
    let state = state_found p known l i c are.states found in
    resumes p c.turn known m c.saved state.saved state.within are.texts are.built

-- with one more state of the run
pub near_taken_on : (p : Past) (known : ℕ) (near : List Checkpoint) (c : Checkpoint) → All (IsKeptState p known) near → IsKeptState p known c
    → All (IsKeptState p known) (near_with near c)
near_taken_on p known near c are is = by (nat_lt most_near (length near + 1))
  where
    all : All (IsKeptState p known) (near ++ c ∷ [])
    all = All-push (IsKeptState p known) near c are is

    by : (b : Bool) → All (IsKeptState p known) (if b then drop 1 (near ++ c ∷ []) else near ++ c ∷ [])
    by true = All-drop (IsKeptState p known) 1 (near ++ c ∷ []) all
    by false = all
