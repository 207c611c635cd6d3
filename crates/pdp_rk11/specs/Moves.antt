-- Lists of which some items are replaced. No rule of the handbook is here.
use Rattle.std.specs.Prelude.{ℕ, zero, suc, ◌+◌, ◌-◌, nat_le, nat_lt, Bool, false, ◌&&◌, ◌||◌, List}
use Rattle.std.specs.Prelude.{[], ◌∷◌, slice_set, if◌then◌else◌}

-- a list made of another by its items and their numbers
abbrev pub each : {A B : Type 0} → (ℕ → A → B) → List A → List B
each f [] = []
each f (x ∷ xs) = f 0 x ∷ each (λ k. f (suc k)) xs

-- item k of a list, of which so many items from the first on are replaced: these by the values of
-- 0, 1 and so on
abbrev pub item_after : {A : Type 0} → ℕ → ℕ → (ℕ → A) → ℕ → A → A
item_after first n value k x = if nat_le first k && nat_lt k (first + n) then value
    (k - first) else x

-- a list with so many items from the first on replaced; what would come past its end goes nowhere
unfoldable pub moved_items : {A : Type 0} → ℕ → ℕ → (ℕ → A) → List A → List A
moved_items first n value xs = each (item_after first n value) xs

-- a list with all so many values moved to one item: the last of them stays
abbrev pub moved_to_one : {A : Type 0} → ℕ → ℕ → (ℕ → A) → List A → List A
moved_to_one item zero value xs = xs
moved_to_one item (suc n) value xs = slice_set xs item (value n)

-- whether something holds of a number below this one
abbrev pub any_below : ℕ → (ℕ → Bool) → Bool
any_below zero p = false
any_below (suc n) p = p n || any_below n p
