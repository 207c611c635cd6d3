-- Lists of checkpoints whose turns are the multiples of a stride: what stands where, and what a
-- filter leaves of them.
use Rattle.std.proofs.Common.{◌≡◌, ℕ, zero, suc, ◌+◌, ◌*◌, ◌/◌, ◌%◌, ◌<◌, ◌≤◌, ◌==◌, true, false, eqb, leb, nat_le, List, [], ◌∷◌, ◌++◌, length, map, take, get_or, refl, ap, ◌∙◌, arith}
use Rattle.std.specs.List.{filter}
use Rattle.std.proofs.Math.Nat.{mul-mod_left, mul-add-mod_self_right, mod-eq_of_lt}
use Rattle.std.proofs.lemmas.Bool.{eq-eqb, ne_eqb, le-leb, lt-leb}
use Rattle.pdp_checkpoint.specs.declared.checkpoint.Checkpoint.{Checkpoint}
use Rattle.pdp_checkpoint.specs.Ladder.{steps_from}

abbrev pub turns_of : List Checkpoint → List ℕ
turns_of kept = map (λ c. c.turn) kept

-- the turns of these states are steps from `first` on
abbrev pub AreSteps : ℕ → ℕ → List Checkpoint → Type 0
AreSteps s a cs = turns_of cs ≡ steps_from s a (length cs)

head_is : (s a : ℕ) (c : Checkpoint) (cs : List Checkpoint) → AreSteps s a (c ∷ cs) → c.turn ≡ a
unfolding steps_from
head_is s a c cs are = cc

tail_is : (s a : ℕ) (c : Checkpoint) (cs : List Checkpoint) → AreSteps s a (c ∷ cs) → AreSteps s (a + s) cs
unfolding steps_from
tail_is s a c cs are = cc

pub from_parts : (s a : ℕ) (c : Checkpoint) (cs : List Checkpoint) → c.turn ≡ a → AreSteps s (a + s) cs → AreSteps s a (c ∷ cs)
unfolding steps_from
from_parts s a c cs head tail = cc

pub no_steps : (s a : ℕ) → AreSteps s a []
unfolding steps_from
no_steps s a = refl

pub steps_at : (s a : ℕ) (cs : List Checkpoint) (i : ℕ) (d : Checkpoint) → AreSteps s a cs → i < length cs → (get_or cs i d).turn ≡ a + i * s
steps_at s a [] i d are within = absurd (omega arith)
steps_at s a (c ∷ cs) zero d are within = head_is s a c cs are ∙ omega arith
steps_at s a (c ∷ cs) (suc i) d are within =
    steps_at s (a + s) cs i d (tail_is s a c cs are) (omega arith) ∙ omega arith

pub steps_push : (s a : ℕ) (cs : List Checkpoint) (c : Checkpoint) → AreSteps s a cs → c.turn ≡ a + length cs * s → AreSteps s a (cs ++ c ∷ [])
steps_push s a [] c are is = from_parts s a c [] (is ∙ omega arith) (no_steps s (a + s))
steps_push s a (b ∷ cs) c are is =
    from_parts s a b (cs ++ c ∷ []) (head_is s a b cs are)
    (steps_push s (a + s) cs c (tail_is s a b cs are) (is ∙ omega arith))

pub steps_take : (s a n : ℕ) (cs : List Checkpoint) → AreSteps s a cs → AreSteps s a (take n cs)
steps_take s a zero cs are = no_steps s a
steps_take s a (suc n) [] are = no_steps s a
steps_take s a (suc n) (c ∷ cs) are =
    from_parts s a c (take n cs) (head_is s a c cs are) (steps_take s (a + s) n cs (tail_is s a c cs are))

-- if the first is too late, all are
none_below : (s a t : ℕ) (cs : List Checkpoint) → AreSteps s a cs → t < a → filter (λ c. nat_le c.turn t) cs ≡ []
none_below s a t [] are late = refl
none_below s a t (c ∷ cs) are late =
    let at : c.turn ≡ a = head_is s a c cs are in
    let no : leb c.turn t ≡ false = lt-leb c.turn t (omega arith) in
    rw no (none_below s (a + s) t cs (tail_is s a c cs are) (omega arith))

-- those not above a turn are the first so many
pub steps_below : (s a t j : ℕ) (cs : List Checkpoint) → AreSteps s a cs → t < a + j * s → a + j * s ≤ t + s
    → filter (λ c. nat_le c.turn t) cs ≡ take j cs
steps_below s a t zero cs are above below = none_below s a t cs are (omega arith)
steps_below s a t (suc j) [] are above below = refl
steps_below s a t (suc j) (c ∷ cs) are above below =
    let at : c.turn ≡ a = head_is s a c cs are in
    let yes : leb c.turn t ≡ true = le-leb c.turn t (omega arith) in
    rw yes (ap (λ (l : List Checkpoint). c ∷ l) (steps_below s (a + s) t j cs (tail_is s a c cs are) (omega arith) (omega arith)))

-- of steps from a multiple of twice the stride every other is such a multiple, the first of them
-- too
pub record AreHalved (s a : ℕ) (cs : List Checkpoint) : Type 0 where
  pub steps : AreSteps (s * 2) a (filter (λ c. c.turn % (s * 2) == 0) cs)
  pub count : length (filter (λ c. c.turn % (s * 2) == 0) cs) ≡ (length cs + 1) / 2

even_stays : (s q : ℕ) → 0 < s → q * (s * 2) % (s * 2) ≡ 0
even_stays s q positive = mul-mod_left q (s * 2)

odd_goes : (s q : ℕ) → 0 < s → (q * (s * 2) + s) % (s * 2) ≡ s
odd_goes s q positive = mul-add-mod_self_right q (s * 2) s ∙ mod-eq_of_lt (omega arith)

steps_halved : (s q : ℕ) (cs : List Checkpoint) → 0 < s → AreSteps s (q * (s * 2)) cs → AreHalved s (q * (s * 2)) cs
steps_halved s q [] positive are = record { steps = no_steps (s * 2) (q * (s * 2)); count = refl }
steps_halved s q (c ∷ []) positive are =
    let at : c.turn ≡ q * (s * 2) = head_is s (q * (s * 2)) c [] are in
    let yes : eqb (c.turn % (s * 2)) 0 ≡ true = eq-eqb _ _ (rw at (even_stays s q positive)) in
    record {
      steps = rw yes (from_parts (s * 2) (q * (s * 2)) c [] at (no_steps (s * 2) _));
      count = rw yes refl;
    }
steps_halved s q (c ∷ d ∷ cs) positive are =
    let at : c.turn ≡ q * (s * 2) = head_is s (q * (s * 2)) c (d ∷ cs) are in
    let more = tail_is s (q * (s * 2)) c (d ∷ cs) are in
    let next : d.turn ≡ q * (s * 2) + s = head_is s (q * (s * 2) + s) d cs more in
    let far : q * (s * 2) + s + s ≡ (q + 1) * (s * 2) = omega arith in
    let rest : AreHalved s ((q + 1) * (s * 2)) cs =
    steps_halved s (q + 1) cs positive (rw far at (tail_is s (q * (s * 2) + s) d cs more)) in
    let yes : eqb (c.turn % (s * 2)) 0 ≡ true = eq-eqb _ _ (rw at (even_stays s q positive)) in
    let no : eqb (d.turn % (s * 2)) 0 ≡ false = ne_eqb _ _ (rw (next, odd_goes s q positive) (λ e. absurd (omega arith))) in
    let tail : (q + 1) * (s * 2) ≡ q * (s * 2) + s * 2 = omega arith in
    record {
      steps = rw (yes, no) (from_parts (s * 2) (q * (s * 2)) c _ at (rw tail at rest.steps));
      count = rw (yes, no) (omega (arith, rest.count));
    }

pub steps_halved_from_zero : (s : ℕ) (cs : List Checkpoint) → 0 < s → AreSteps s 0 cs → AreHalved s 0 cs
steps_halved_from_zero s cs positive are =
    let start : 0 * (s * 2) ≡ 0 = omega arith in
    let halved : AreHalved s (0 * (s * 2)) cs = steps_halved s 0 cs positive (rw start are) in
    rw start at halved
