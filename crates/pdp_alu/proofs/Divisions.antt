-- Each dividend and each divisor but 0 have one quotient and one remainder.
use Rattle.std.proofs.Common.{false, ◌≡◌, ℕ, zero, suc, ◌*◌, ◌<◌, ◌%◌, ℤ, pos, negsuc, neg_ℤ, ◌+ℤ◌, ◌-ℤ◌, ◌*ℤ◌, int_lt, int_div, int_rem, unsigned_abs, refl, sym, ap, ◌∙◌, subst, inl, inr, arith}
use Rattle.std.proofs.lemmas.Int.{ints, quot-rem, rem_below, unsigned_abs-mul}
use Rattle.std.proofs.Math.IntN.{ℤ_ind, +ℤ_idr, +ℤ_one, -ℤ_one, +ℤ-suc_ℤ, +ℤ-pred_ℤ, suc_ℤ-*ℤ, pred_ℤ-*ℤ, zero-*ℤ}
use Rattle.pdp_alu.specs.Division.{IsDivision, HasSignOf}

-- a product of a sum is the sum of the products
pub product_of_sum : (a d b : ℤ) → (a +ℤ b) *ℤ d ≡ a *ℤ d +ℤ b *ℤ d
product_of_sum a d b = ℤ_ind (λ b. (a +ℤ b) *ℤ d ≡ a *ℤ d +ℤ b *ℤ d) at_zero above below b where
  at_zero : (a +ℤ pos zero) *ℤ d ≡ a *ℤ d +ℤ pos zero *ℤ d
  at_zero = ap (λ x. x *ℤ d) (+ℤ_idr a) ∙ sym (+ℤ_idr (a *ℤ d)) ∙ ap (λ x. a *ℤ d +ℤ x) (sym (zero-*ℤ d))

  sums : (x y z w : ℤ) → w ≡ x +ℤ y → w +ℤ z ≡ x +ℤ (y +ℤ z)
  sums x y z w is = omega (arith, ints)

  differences : (x y z w : ℤ) → w ≡ x +ℤ y → w -ℤ z ≡ x +ℤ (y -ℤ z)
  differences x y z w is = omega (arith, ints)

  above : (n : ℕ) → (a +ℤ pos n) *ℤ d ≡ a *ℤ d +ℤ pos n *ℤ d
      → (a +ℤ (pos n +ℤ pos 1)) *ℤ d ≡ a *ℤ d +ℤ (pos n +ℤ pos 1) *ℤ d
  above n is =
      ap (λ x. (a +ℤ x) *ℤ d) (+ℤ_one (pos n)) ∙ ap (λ x. x *ℤ d) (+ℤ-suc_ℤ a (pos n)) ∙ suc_ℤ-*ℤ (a +ℤ pos n) d
      ∙ sums (a *ℤ d) (pos n *ℤ d) d ((a +ℤ pos n) *ℤ d) is
      ∙ ap (λ x. a *ℤ d +ℤ x) (sym (suc_ℤ-*ℤ (pos n) d) ∙ ap (λ x. x *ℤ d) (sym (+ℤ_one (pos n))))

  below : (n : ℕ) → (a +ℤ neg_ℤ (pos n)) *ℤ d ≡ a *ℤ d +ℤ neg_ℤ (pos n) *ℤ d
      → (a +ℤ (neg_ℤ (pos n) +ℤ neg_ℤ (pos 1))) *ℤ d ≡ a *ℤ d +ℤ (neg_ℤ (pos n) +ℤ neg_ℤ (pos 1)) *ℤ d
  below n is =
      ap (λ x. (a +ℤ x) *ℤ d) (-ℤ_one (neg_ℤ (pos n))) ∙ ap (λ x. x *ℤ d) (+ℤ-pred_ℤ a (neg_ℤ (pos n))) ∙ pred_ℤ-*ℤ (a +ℤ neg_ℤ (pos n)) d
      ∙ differences (a *ℤ d) (neg_ℤ (pos n) *ℤ d) d ((a +ℤ neg_ℤ (pos n)) *ℤ d) is
      ∙ ap (λ x. a *ℤ d +ℤ x) (sym (pred_ℤ-*ℤ (neg_ℤ (pos n)) d) ∙ ap (λ x. x *ℤ d) (sym (-ℤ_one (neg_ℤ (pos n)))))

not_negative : (n : ℕ) → int_lt (pos n) (pos 0) ≡ false
not_negative n = grind arith

-- the remainder of `int_rem` is 0 or of the dividend's sign
sign_of_remainder : (dividend divisor : ℤ) → HasSignOf dividend (int_rem dividend divisor)
sign_of_remainder (pos a) divisor = inr (not_negative (a % unsigned_abs divisor) ∙ sym (not_negative a))
sign_of_remainder (negsuc a) divisor = by_size (suc a % unsigned_abs divisor) where
  by_size : (r : ℕ) → HasSignOf (negsuc a) (neg_ℤ (pos r))
  by_size zero = inl refl
  by_size (suc r) = inr refl

pub division_exists : (dividend divisor : ℤ) → 0 < unsigned_abs divisor
    → IsDivision dividend divisor (int_div dividend divisor) (int_rem dividend divisor)
division_exists dividend divisor nonzero =
    (sym (quot-rem dividend divisor), rem_below dividend divisor nonzero, sign_of_remainder dividend divisor)

-- a product that is smaller than one of its factors is 0
zero_factor : (n k : ℕ) → n * k < k → n ≡ 0
zero_factor zero k below = refl
zero_factor (suc n) k below = omega (arith)

-- remainders of one sign are less than the divisor apart
apart : (a r s : ℤ) (k : ℕ) → HasSignOf a r → HasSignOf a s → unsigned_abs r < k → unsigned_abs s < k
    → unsigned_abs (s -ℤ r) < k
apart a r s k r_sign s_sign r_below s_below = grind (arith, ints)

no_distance : (q p : ℤ) → unsigned_abs (q -ℤ p) ≡ 0 → q ≡ p
no_distance q p none = omega (arith, ints)

same_end : (x r s : ℤ) → x +ℤ r ≡ x +ℤ s → r ≡ s
same_end x r s same = omega (arith, ints)

difference : (x y z r s a : ℤ) → a ≡ x +ℤ r → a ≡ y +ℤ s → x ≡ y +ℤ z → z ≡ s -ℤ r
difference x y z r s a first second split = omega (arith, ints)

more : (p q : ℤ) → q ≡ p +ℤ (q -ℤ p)
more p q = omega (arith, ints)

pub division_is_unique : (dividend divisor q r p s : ℤ) → IsDivision dividend divisor q r → IsDivision dividend divisor p s
    → (q ≡ p) × (r ≡ s)
division_is_unique a d q r p s (q_is, r_below, r_sign) (p_is, s_below, s_sign) = (same, same_rest) where
  split : q *ℤ d ≡ p *ℤ d +ℤ (q -ℤ p) *ℤ d
  split = ap (λ x. x *ℤ d) (more p q) ∙ product_of_sum p d (q -ℤ p)

  rest : (q -ℤ p) *ℤ d ≡ s -ℤ r
  rest = difference (q *ℤ d) (p *ℤ d) ((q -ℤ p) *ℤ d) r s a q_is p_is split

  size : unsigned_abs (q -ℤ p) * unsigned_abs d ≡ unsigned_abs (s -ℤ r)
  size = sym (unsigned_abs-mul (q -ℤ p) d) ∙ ap unsigned_abs rest

  none : unsigned_abs (q -ℤ p) ≡ 0
  none = zero_factor (unsigned_abs (q -ℤ p)) (unsigned_abs d) (subst (λ n. n < unsigned_abs d) (sym size) (apart a r s (unsigned_abs d) r_sign s_sign r_below s_below))

  same : q ≡ p
  same = no_distance q p none

  same_rest : r ≡ s
  same_rest = same_end (q *ℤ d) r s (sym q_is ∙ p_is ∙ ap (λ x. x *ℤ d +ℤ s) (sym same))
