-- A function that is applied again and again.
use Rattle.std.proofs.Common.{◌≡◌, ℕ, zero, suc, ◌+◌, refl, ◌∙◌, ap, arith}
use Rattle.std.specs.Fn.{iterate}

-- once more before all comes to the same as once more after all
pub iterate_last : {A : Type 0} (h : A → A) (n : ℕ) (x : A) → iterate h (suc n) x ≡ h (iterate h n x)
iterate_last h zero x = refl
iterate_last h (suc n) x = iterate_last h n (h x)

next : (n : ℕ) → n + 1 ≡ suc n
next n = omega arith

pub iterate_more : {A : Type 0} (h : A → A) (n : ℕ) (x : A) → iterate h (n + 1) x ≡ h (iterate h n x)
iterate_more h n x = ap (λ m. iterate h m x) (next n) ∙ iterate_last h n x
