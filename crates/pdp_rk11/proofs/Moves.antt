-- Items moved into a list: its length, each item, and one move more.
use Rattle.std.proofs.Common.{◌≡◌, ◌⊎◌, ◌≢◌, ℕ, zero, suc, ◌+◌, ◌-◌, ◌<◌, ◌≤◌, List, [], ◌∷◌, refl, sym, ◌∙◌, ap, arith, inl, inr, length, get_or, slice_set, length-set, get_or-set_same, get_or-set_other}
use Rattle.std.proofs.lemmas.Bool.{cases_eq}
use Rattle.std.proofs.lemmas.Bool.Decides.{nat_tests}
use Rattle.std.proofs.lemmas.List.{same_lists}
use Rattle.pdp_rk11.specs.Moves.{each, item_after, moved_items, moved_to_one}

length-each : {A B : Type 0} (f : ℕ → A → B) (xs : List A) → length (each f xs) ≡ length xs
length-each f [] = refl
length-each f (x ∷ xs) = ap suc (length-each (λ k. f (suc k)) xs)

get_or-each : {A B : Type 0} (f : ℕ → A → B) (xs : List A) (k : ℕ) (d : A) (e : B) → k < length xs
    → get_or (each f xs) k e ≡ f k (get_or xs k d)
get_or-each f [] k d e within = absurd (omega arith)
get_or-each f (x ∷ xs) zero d e within = refl
get_or-each f (x ∷ xs) (suc k) d e within = get_or-each (λ j. f (suc j)) xs k d e (omega arith)

pub length-moved : {A : Type 0} (first n : ℕ) (value : ℕ → A) (xs : List A) → length (moved_items first n value xs) ≡ length xs
unfolding moved_items
length-moved first n value xs = length-each (item_after first n value) xs

-- an item of the list is the one that was moved there, or as it was
pub get_or-moved : {A : Type 0} (first n : ℕ) (value : ℕ → A) (xs : List A) (k : ℕ) (d : A) → k < length xs
    → get_or (moved_items first n value xs) k d ≡ item_after first n value k (get_or xs k d)
unfolding moved_items
get_or-moved first n value xs k d within = get_or-each (item_after first n value) xs k d d within

pub item_inside : {A : Type 0} (first n : ℕ) (value : ℕ → A) (k : ℕ) (x : A) → first ≤ k → k < first + n
    → item_after first n value k x ≡ value (k - first)
item_inside first n value k x from to = grind (arith, nat_tests)

pub item_before : {A : Type 0} (first n : ℕ) (value : ℕ → A) (k : ℕ) (x : A) → k < first → item_after first n value k x ≡ x
item_before first n value k x below = grind (arith, nat_tests)

pub item_past : {A : Type 0} (first n : ℕ) (value : ℕ → A) (k : ℕ) (x : A) → first + n ≤ k → item_after first n value k x ≡ x
item_past first n value k x past = grind (arith, nat_tests)

-- one move more changes no item but its own
item_more : {A : Type 0} (first n : ℕ) (value : ℕ → A) (k : ℕ) (x : A) → k ≢ first + n
    → item_after first (n + 1) value k x ≡ item_after first n value k x
item_more first n value k x other = grind (arith, nat_tests)

item_last : {A : Type 0} (first n : ℕ) (value : ℕ → A) (x : A) → item_after first (n + 1) value (first + n) x ≡ value n
item_last first n value x =
    let here : first + n - first ≡ n = omega arith in
    item_inside first (n + 1) value (first + n) x (omega arith) (omega arith) ∙ ap value here

item_none : {A : Type 0} (first : ℕ) (value : ℕ → A) (k : ℕ) (x : A) → item_after first 0 value k x ≡ x
item_none first value k x = grind (arith, nat_tests)

pub moved_none : {A : Type 0} (first : ℕ) (value : ℕ → A) (xs : List A) → moved_items first 0 value xs ≡ xs
moved_none first value xs = same_lists (moved_items first 0 value xs) xs (length-moved first 0 value xs) (λ k d within.
    let inside : k < length xs = omega (arith, length-moved first 0 value xs) in
    get_or-moved first 0 value xs k d inside ∙ item_none first value k (get_or xs k d))

pub moved_nothing : {A : Type 0} (first n : ℕ) (value : ℕ → A) (xs : List A) → n ≡ 0 → moved_items first n value xs ≡ xs
moved_nothing first n value xs none = rw none (moved_none first value xs)

more_at : {A : Type 0} (first n : ℕ) (value : ℕ → A) (xs : List A) (k : ℕ) (d : A) → k < length xs
    → get_or (moved_items first (n + 1) value xs) k d ≡ get_or (slice_set (moved_items first n value xs) (first + n) (value n)) k d
more_at first n value xs k d inside = elim (cases_eq k (first + n)) [
  | inl same ↦
      let here : first + n < length (moved_items first n value xs) = omega (arith, length-moved first n value xs) in
      get_or-moved first (n + 1) value xs k d inside
      ∙ rw same (item_last first n value (get_or xs (first + n) d)
      ∙ sym (get_or-set_same (moved_items first n value xs) (first + n) (value n) d here))
  | inr other ↦
      get_or-moved first (n + 1) value xs k d inside
      ∙ item_more first n value k (get_or xs k d) other
      ∙ sym (get_or-set_other (moved_items first n value xs) (first + n) k (value n) d other ∙ get_or-moved first n value xs k d inside)
]

pub moved_more : {A : Type 0} (first n : ℕ) (value : ℕ → A) (xs : List A)
    → moved_items first (n + 1) value xs ≡ slice_set (moved_items first n value xs) (first + n) (value n)
moved_more first n value xs =
    let sizes : length (moved_items first (n + 1) value xs) ≡ length (slice_set (moved_items first n value xs) (first + n) (value n)) =
    length-moved first (n + 1) value xs
    ∙ sym (length-set (moved_items first n value xs) (first + n) (value n) ∙ length-moved first n value xs) in
    same_lists (moved_items first (n + 1) value xs) (slice_set (moved_items first n value xs) (first + n) (value n)) sizes (λ k d within.
    let inside : k < length xs = omega (arith, length-moved first (n + 1) value xs) in
    more_at first n value xs k d inside)

pub length-moved_to_one : {A : Type 0} (item n : ℕ) (value : ℕ → A) (xs : List A) → length (moved_to_one item n value xs) ≡ length xs
length-moved_to_one item zero value xs = refl
length-moved_to_one item (suc n) value xs = length-set xs item (value n)

pub moved_to_one_none : {A : Type 0} (item n : ℕ) (value : ℕ → A) (xs : List A) → n ≡ 0 → moved_to_one item n value xs ≡ xs
moved_to_one_none item zero value xs none = refl
moved_to_one_none item (suc n) value xs none = absurd (omega arith)

pub moved_to_one_last : {A : Type 0} (item n : ℕ) (value : ℕ → A) (xs : List A) → 0 < n
    → moved_to_one item n value xs ≡ slice_set xs item (value (n - 1))
moved_to_one_last item zero value xs some = absurd (omega arith)
moved_to_one_last item (suc n) value xs some =
    let last : n ≡ suc n - 1 = omega arith in ap (λ j. slice_set xs item (value j)) last

-- where the list ends, so do the moves
item_within : {A : Type 0} (first n m : ℕ) (value : ℕ → A) (k : ℕ) (x : A) → k < first + m → m ≤ n
    → item_after first n value k x ≡ item_after first m value k x
item_within first n m value k x inside fewer = grind (arith, nat_tests)

pub moved_within : {A : Type 0} (first n m : ℕ) (value : ℕ → A) (xs : List A) → m ≤ n → m ≡ n ⊎ length xs ≤ first + m
    → moved_items first n value xs ≡ moved_items first m value xs
moved_within first n m value xs fewer (inl same) = ap (λ j. moved_items first j value xs) (sym same)
moved_within first n m value xs fewer (inr past) =
    let sizes : length (moved_items first n value xs) ≡ length (moved_items first m value xs) =
    length-moved first n value xs ∙ sym (length-moved first m value xs) in
    same_lists (moved_items first n value xs) (moved_items first m value xs) sizes (λ k d within.
    let inside : k < length xs = omega (arith, length-moved first n value xs) in
    get_or-moved first n value xs k d inside
    ∙ item_within first n m value k (get_or xs k d) (omega arith) fewer
    ∙ sym (get_or-moved first m value xs k d inside))
