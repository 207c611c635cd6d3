-- What a ladder of checkpoints keeps through its calls, and which of them is the best for a turn.
use Rattle.std.proofs.Common.{◌≡◌, ℕ, zero, suc, ◌+◌, ◌-◌, ◌*◌, ◌/◌, ◌%◌, ◌<◌, ◌≤◌, ◌==◌, min, true, false, ltb, nat_le, List, [], ◌∷◌, ◌++◌, length, length-append, take, get_or, refl, sym, ap, ◌∙◌, arith, ⊎_elim}
use Rattle.std.specs.List.{All, filter}
use Rattle.std.proofs.Math.Nat.{lt-div-mul-add, div-mul-le_self, mul-le-mul_right, lt_of_mul-lt-mul_right}
use Rattle.std.proofs.lemmas.Bool.{cases_lt, lt-ltb, le-ltb}
use Rattle.std.proofs.lemmas.List.{length-take}
use Rattle.std.proofs.lemmas.List.Elements.{All-push, All-filter}
use Rattle.pdp_cpu.specs.Handbook.MachineState.{MachineState}
use Rattle.pdp_cpu.specs.Saved.{SavedMachineData, saved_machine}
use Rattle.pdp_checkpoint.specs.declared.checkpoint.Checkpoint.{Checkpoint}
use Rattle.pdp_checkpoint.specs.Formers.{FormerData}
use Rattle.pdp_unibus.specs.Handbook.LastTurn.{last_turn}
use Rattle.pdp_checkpoint.specs.Ladder.{most_kept, LadderData, checkpoint_of, next_of, best_of, AreCheckpoints, at_multiples, with_last, ladder_doubled, kept_with}
use Rattle.pdp_checkpoint.proofs.Steps.{AreSteps, AreHalved, from_parts, no_steps, steps_at, steps_push, steps_take, steps_below, steps_halved_from_zero}

-- of so many multiples of a stride, this one is the last that is not above a turn
pub record IsBestOf (stride count turn best : ℕ) : Type 0 where
  pub inside : best < count
  pub below : best * stride ≤ turn
  pub near : turn < count * stride → turn < best * stride + stride
  pub last : count * stride ≤ turn → best * stride + stride ≡ count * stride
  pub greatest : (k : ℕ) → k < count → k * stride ≤ turn → k * stride ≤ best * stride

-- the turn lies in the stride after the multiple of number q, and there are such multiples
is_quotient : (s n t q : ℕ) → q < n → q * s ≤ t → t < q * s + s → IsBestOf s n t q
is_quotient s n t q inside low high = record {
  inside = inside;
  below = low;
  near = λ _. high;
  last = λ past. let far : (q + 1) * s ≤ n * s = mul-le-mul_right s (omega arith) in absurd (omega arith);
  greatest = λ k _ at. let under : k < q + 1 = lt_of_mul-lt-mul_right s (omega arith) in mul-le-mul_right s (omega arith);
}

-- the multiples end before the turn's
is_last : (s m t q : ℕ) → m < q → q * s ≤ t → IsBestOf s (suc m) t m
is_last s m t q more low =
    let far : (m + 1) * s ≤ q * s = mul-le-mul_right s (omega arith) in
    record {
      inside = omega arith;
      below = omega arith;
      near = λ here. absurd (omega arith);
      last = λ _. omega arith;
      greatest = λ k inside _. mul-le-mul_right s (omega arith);
    }

min_low : (a b : ℕ) → a ≤ b → min a b ≡ a
min_low a b le = omega arith

min_high : (a b : ℕ) → b ≤ a → min a b ≡ b
min_high a b le = omega arith

pub best_is : (s n t : ℕ) → 0 < s → 0 < n → IsBestOf s n t (min (t / s) (n - 1))
best_is s zero t positive some = absurd (omega arith)
best_is s (suc m) t positive some =
    let low : t / s * s ≤ t = div-mul-le_self t s in
    let high : t < t / s * s + s = lt-div-mul-add positive in
    let end : suc m - 1 ≡ m = omega arith in
    ⊎_elim
    (λ (beyond : m < t / s). rw (end, min_high (t / s) m (omega arith)) (is_last s m t (t / s) beyond low))
    (λ (inside : t / s ≤ m). rw (end, min_low (t / s) m inside) (is_quotient s (suc m) t (t / s) (omega arith) low high))
    (cases_lt m (t / s))

pub turn_at : (l : LadderData) (i : ℕ) (d : Checkpoint) → AreCheckpoints l → i < length l.kept → (get_or l.kept i d).turn ≡ i * l.stride
turn_at l i d checkpoints inside = steps_at l.stride 0 l.kept i d checkpoints.turns inside ∙ omega arith

-- this state is the best for a turn
pub record IsBest (l : LadderData) (turn : ℕ) (best : Checkpoint) : Type 0 where
  pub turn_is : best.turn ≡ best_of l turn * l.stride
  pub below : best.turn ≤ turn
  pub near : turn < next_of l → turn < best.turn + l.stride
  pub last : next_of l ≤ turn → best.turn + l.stride ≡ next_of l
  pub greatest : All (λ c. c.turn ≤ turn → c.turn ≤ best.turn) l.kept

pub is_best : (l : LadderData) (turn : ℕ) (best : Checkpoint) → AreCheckpoints l → best ≡ get_or l.kept (best_of l turn) best → IsBest l turn best
is_best l turn best checkpoints is =
    let place : IsBestOf l.stride (length l.kept) turn (best_of l turn) = best_is l.stride (length l.kept) turn checkpoints.positive checkpoints.some in
    let at : best.turn ≡ best_of l turn * l.stride = ap (λ c. c.turn) is ∙ turn_at l (best_of l turn) best checkpoints place.inside in
    record {
      turn_is = at;
      below = rw at place.below;
      near = rw at place.near;
      last = rw at place.last;
      greatest = λ k d inside. rw (at, turn_at l k d checkpoints inside) (place.greatest k inside);
    }

pub below_is_first : (l : LadderData) (turn : ℕ) → AreCheckpoints l → filter (λ c. nat_le c.turn turn) l.kept ≡ take (turn / l.stride + 1) l.kept
below_is_first l turn checkpoints =
    let low : turn / l.stride * l.stride ≤ turn = div-mul-le_self turn l.stride in
    let high : turn < turn / l.stride * l.stride + l.stride = lt-div-mul-add checkpoints.positive in
    steps_below l.stride 0 turn (turn / l.stride + 1) l.kept checkpoints.turns (omega arith) (omega arith)

pub checkpoints_cut : (l : LadderData) (n : ℕ) → AreCheckpoints l → 0 < n → AreCheckpoints (record l { kept = take n l.kept })
checkpoints_cut l n checkpoints more =
    let size : length (take n l.kept) ≤ length l.kept = omega (arith, length-take n l.kept) in
    let less : length (take n l.kept) * l.stride ≤ length l.kept * l.stride = mul-le-mul_right l.stride size in
    record {
      turns = steps_take l.stride 0 n l.kept checkpoints.turns;
      some = omega (arith, length-take n l.kept, checkpoints.some);
      few = omega (arith, checkpoints.few);
      positive = checkpoints.positive;
      widest = checkpoints.widest;
      within = omega (arith, checkpoints.within);
    }

-- the states between the checkpoints are no matter of these, nor are former runs
pub checkpoints_beside : (l : LadderData) (near : List Checkpoint) (formers : List FormerData) → AreCheckpoints l
    → AreCheckpoints (record l { near = near; formers = formers })
checkpoints_beside l near formers checkpoints = record {
  turns = checkpoints.turns;
  some = checkpoints.some;
  few = checkpoints.few;
  positive = checkpoints.positive;
  widest = checkpoints.widest;
  within = checkpoints.within;
}

-- how a ladder is after one more state was kept
pub record IsTaken (before : LadderData) (c : Checkpoint) (after : LadderData) : Type 0 where
  pub is : after ≡ kept_with before c
  pub checkpoints : AreCheckpoints after
  pub next : next_of after ≡ next_of before + after.stride

longer : (l : LadderData) (c : Checkpoint) → length (l.kept ++ c ∷ []) ≡ length l.kept + 1
longer l c = length-append l.kept (c ∷ []) ∙ omega arith

pub first_checkpoint : (c : Checkpoint) (stride : ℕ) (near : List Checkpoint) (formers : List FormerData) → c.turn ≡ 0 → 0 < stride → stride ≤ 2000000000
    → AreCheckpoints (record { kept = c ∷ []; stride = stride; near = near; formers = formers })
first_checkpoint c stride near formers start positive widest = record {
  turns = from_parts stride 0 c [] start (no_steps stride (0 + stride));
  some = omega arith;
  few = omega arith;
  positive = positive;
  widest = widest;
  within = omega arith;
}

pub taken_in_room : (l : LadderData) (c : Checkpoint) → AreCheckpoints l → c.turn ≡ next_of l → next_of l ≤ last_turn → length l.kept < most_kept
    → IsTaken l c (with_last l c)
unfolding kept_with
taken_in_room l c checkpoints next limit room =
    let yes : ltb (length l.kept) most_kept ≡ true = lt-ltb (length l.kept) most_kept room in
    let size = longer l c in
    let more : length (l.kept ++ c ∷ []) * l.stride ≡ length l.kept * l.stride + l.stride = ap (λ n. n * l.stride) size ∙ omega arith in
    record {
      is = rw yes refl;
      checkpoints = record {
        turns = steps_push l.stride 0 l.kept c checkpoints.turns (next ∙ omega arith);
        some = omega arith;
        few = omega arith;
        positive = checkpoints.positive;
        widest = checkpoints.widest;
        within = omega arith;
      };
      next = more;
    }

pub taken_at_full : (l : LadderData) (c : Checkpoint) → AreCheckpoints l → c.turn ≡ next_of l → next_of l ≤ last_turn → most_kept ≤ length l.kept
    → IsTaken l c (ladder_doubled (with_last l c))
unfolding kept_with
taken_at_full l c checkpoints next limit full =
    let no : ltb (length l.kept) most_kept ≡ false = le-ltb (length l.kept) most_kept full in
    let all : length l.kept ≡ 256 = omega (arith, checkpoints.few) in
    let reached : length l.kept * l.stride ≡ 256 * l.stride = ap (λ n. n * l.stride) all in
    let steps : AreSteps l.stride 0 (l.kept ++ c ∷ []) = steps_push l.stride 0 l.kept c checkpoints.turns (next ∙ omega arith) in
    let halved : AreHalved l.stride 0 (l.kept ++ c ∷ []) = steps_halved_from_zero l.stride (l.kept ++ c ∷ []) checkpoints.positive steps in
    let size : length (at_multiples (l.stride * 2) (l.kept ++ c ∷ [])) ≡ 129 = halved.count ∙ rw (longer l c, all) refl in
    let wide : length (at_multiples (l.stride * 2) (l.kept ++ c ∷ [])) * (l.stride * 2) ≡ 129 * (l.stride * 2) = ap (λ n. n * (l.stride * 2)) size in
    record {
      is = rw no refl;
      checkpoints = record {
        turns = halved.steps;
        some = omega arith;
        few = omega arith;
        positive = omega (arith, checkpoints.positive);
        widest = omega arith;
        within = omega arith;
      };
      next = wide ∙ omega arith;
    }

-- what every state has that was kept, and the one that is added, every state has that is kept then
pub All-kept_with : (P : Checkpoint → Type 0) (l : LadderData) (c : Checkpoint) → All P l.kept → P c → All P (kept_with l c).kept
unfolding kept_with
All-kept_with P l c all is =
    let pushed : All P (l.kept ++ c ∷ []) = All-push P l.kept c all is in
    ⊎_elim
    (λ (room : length l.kept < most_kept). let yes = lt-ltb (length l.kept) most_kept room in rw yes pushed)
    (λ (full : most_kept ≤ length l.kept). let no = le-ltb (length l.kept) most_kept full in
    rw no (All-filter (λ c. c.turn % (l.stride * 2) == 0) P (l.kept ++ c ∷ []) pushed))
    (cases_lt (length l.kept) most_kept)

-- a machine's state was put last of those of a ladder, at the turn that is next
pub record IsPushed (before : LadderData) (m : MachineState) (after : LadderData) (turn : ℕ) (saved : SavedMachineData) : Type 0 where
  pub checkpoints : AreCheckpoints before
  pub next : m.turn ≡ next_of before
  pub limit : m.turn ≤ last_turn
  pub turn_is : turn ≡ next_of before
  pub saved_is : saved ≡ saved_machine m
  pub kept : after.kept ≡ before.kept ++ record { turn = turn; saved = saved } ∷ []
  pub stride : after.stride ≡ before.stride
  pub near : after.near ≡ before.near
  pub formers : after.formers ≡ before.formers

abbrev ladder_of : List Checkpoint → ℕ → List Checkpoint → List FormerData → LadderData
ladder_of kept stride near formers = record { kept = kept; stride = stride; near = near; formers = formers }

pushed_is : (l : LadderData) (m : MachineState) (now : LadderData) (turn : ℕ) (saved : SavedMachineData)
    → IsPushed l m now turn saved → now ≡ with_last l (checkpoint_of m)
pushed_is l m now turn saved pushed =
    let turn_is : turn ≡ m.turn = pushed.turn_is ∙ sym pushed.next in
    let saved_is = pushed.saved_is in
    let kept : now.kept ≡ l.kept ++ checkpoint_of m ∷ [] = pushed.kept ∙ rw (turn_is, saved_is) refl in
    ap (λ k. ladder_of k now.stride now.near now.formers) kept
    ∙ ap (λ s. ladder_of (l.kept ++ checkpoint_of m ∷ []) s now.near now.formers) pushed.stride
    ∙ ap (λ n. ladder_of (l.kept ++ checkpoint_of m ∷ []) l.stride n now.formers) pushed.near
    ∙ ap (λ f. ladder_of (l.kept ++ checkpoint_of m ∷ []) l.stride l.near f) pushed.formers

pub pushed_in_room : (l : LadderData) (m : MachineState) (now : LadderData) (turn : ℕ) (saved : SavedMachineData)
    → IsPushed l m now turn saved → length now.kept ≤ most_kept → IsTaken l (checkpoint_of m) now
pushed_in_room l m now turn saved pushed few =
    let is = pushed_is l m now turn saved pushed in
    let size : length now.kept ≡ length l.kept + 1 = ap (λ n. length n.kept) is ∙ longer l (checkpoint_of m) in
    rw is (taken_in_room l (checkpoint_of m) pushed.checkpoints pushed.next (omega (arith, pushed.next, pushed.limit)) (omega arith))

pub pushed_at_full : (l : LadderData) (m : MachineState) (now : LadderData) (turn : ℕ) (saved : SavedMachineData)
    → IsPushed l m now turn saved → most_kept < length now.kept → IsTaken l (checkpoint_of m) (ladder_doubled now)
pushed_at_full l m now turn saved pushed many =
    let is = pushed_is l m now turn saved pushed in
    let size : length now.kept ≡ length l.kept + 1 = ap (λ n. length n.kept) is ∙ longer l (checkpoint_of m) in
    rw is (taken_at_full l (checkpoint_of m) pushed.checkpoints pushed.next (omega (arith, pushed.next, pushed.limit)) (omega arith))

-- the stride stays if there is room, and doubles if there is none
pub stride_in_room : (l : LadderData) (c : Checkpoint) → length l.kept < most_kept → (kept_with l c).stride ≡ l.stride
unfolding kept_with
stride_in_room l c room = let yes = lt-ltb (length l.kept) most_kept room in rw yes refl

pub stride_at_full : (l : LadderData) (c : Checkpoint) → most_kept ≤ length l.kept → (kept_with l c).stride ≡ l.stride * 2
unfolding kept_with
stride_at_full l c full = let no = le-ltb (length l.kept) most_kept full in rw no refl
