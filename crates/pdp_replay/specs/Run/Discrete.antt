-- Deciding whether two values are equal: numbers, flags, pairs, lists, options, records field by
-- field, and what can be written as one of these and read back.
use Rattle.std.specs.Prelude.{ℕ, ◌≡◌, ◌⊎◌, refl, Bool, Option, Some, None, option_to_list}
use Rattle.std.specs.Prelude.{true, false, List, [], ◌∷◌, drop, get_or, length}
use Rattle.std.proofs.Math.Bool.{Bool-discrete}
use Rattle.std.proofs.Math.Decide.{ℕ_discrete}
use Rattle.std.proofs.Math.Logic.{inl, inr}
use Rattle.std.proofs.Math.Nat.{suc-ne-zero}
use Rattle.std.proofs.Math.Path.{ap, sym, ◌∙◌}

-- whether the decision is yes
abbrev pub is_yes : {P : Type 0} → Dec P → Bool
is_yes (yes _) = true
is_yes (no _) = false

-- a part of a whole holds, or the whole doesn't; a `do` block decides the whole part by part
unfoldable pub part : {P Q : Type 0} → (Q → P) → Dec P → P ⊎ ¬ Q
part of_whole (yes p) = inl p
part of_whole (no not_p) = inr (λ q. not_p (of_whole q))

unfoldable pub ◌>>=◌ : {P Q : Type 0} → P ⊎ ¬ Q → (P → Dec Q) → Dec Q
◌>>=◌ (inl p) rest = rest p
◌>>=◌ (inr not_q) rest = no not_q

-- two records have the same in a field, or aren't equal
unfoldable pub same_field : {A F : Type 0} → (get : A → F) → Discrete F → (a b : A)
    → (get a ≡ get b) ⊎ ¬ (a ≡ b)
same_field get same a b = part (ap get) (same (get a) (get b))

-- what is read back from what a value is written as, is the value
unfoldable pub discrete_by : {A B : Type 0} → (write : A → B) → (read : B → A)
    → ((a : A) → read (write a) ≡ a) → Discrete B → Discrete A
discrete_by write read back same a b = do
  e ← same_field write same a b
  yes (sym (back a) ∙ ap read e ∙ back b)

unfoldable pub numbers : Discrete ℕ
numbers = ℕ_discrete

unfoldable pub flags : Discrete Bool
flags = Bool-discrete

unfoldable pub pairs_of : {A B : Type 0} → Discrete A → Discrete B → Discrete (A × B)
pairs_of firsts seconds a b = do
  first ← same_field (λ p. p.0) firsts a b
  second ← same_field (λ p. p.1) seconds a b
  yes (λ i. (first i, second i))

unfoldable pub lists_of : {A : Type 0} → Discrete A → Discrete (List A)
lists_of same [] [] = yes refl
lists_of same [] (b ∷ bs) = no (λ e. suc-ne-zero (length bs) (sym (ap length e)))
lists_of same (a ∷ rest) [] = no (λ e. suc-ne-zero (length rest) (ap length e))
lists_of same (a ∷ rest) (b ∷ bs) = do
  first ← part (ap (λ l. get_or l 0 a)) (same a b)
  others ← part (ap (drop 1)) (lists_of same rest bs)
  yes (λ i. first i ∷ others i)

unfoldable pub options_of : {A : Type 0} → Discrete A → Discrete (Option A)
options_of same =
    discrete_by option_to_list (elim [ [] ↦ None | a ∷ _ ↦ Some a ])
    (elim [ None ↦ refl | Some _ ↦ refl ]) (lists_of same)
