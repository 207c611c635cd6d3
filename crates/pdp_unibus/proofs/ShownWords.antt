-- The words of the registers that are shown, one after another.
use Rattle.std.proofs.Common.{◌≡◌, ℕ, zero, suc, ◌+◌, ◌<◌, List, [], ◌∷◌, length, map, take, set, slice_get, slice_set, Some, refl, ap, ◌∙◌, add-one, arith}
use Rattle.std.specs.Option.{option_map}
use Rattle.std.proofs.lemmas.Option.{slice_get-map}
use Rattle.pdp_unibus.specs.Handbook.BusWorld.{BusWorld}
use Rattle.pdp_io_page.specs.Handbook.Register.{value_in}
use Rattle.pdp_unibus.specs.Handbook.Shown.{devices_of, shown_registers}
use Rattle.pdp_io_page.specs.declared.register.Register.{Register}

-- a list of which the first elements are those of another, with one more
one_more : {X : Type 0} (xs ys : List X) (x : X) (i : ℕ) → slice_get xs i ≡ Some x → i < length ys → take i ys ≡ take i xs
    → take (suc i) (set ys i x) ≡ take (suc i) xs
one_more [] ys x i is below before = absurd (cc)
one_more (a ∷ xs) [] x i is below before = absurd (omega arith)
one_more (a ∷ xs) (b ∷ ys) x zero is below before = let same : a ≡ x = cc in rw same refl
one_more (a ∷ xs) (b ∷ ys) x (suc i) is below before =
    let same : b ≡ a = cc in
    let rest : take i ys ≡ take i xs = cc in
    rw same (ap (λ more. a ∷ more) (one_more xs ys x i is (omega arith) rest))

-- the words up to one, and then with that one
pub one_more_word : (w : BusWorld) (words : List ℕ) (register : Register) (i : ℕ) → slice_get (map (λ shown. shown.1) shown_registers) i ≡ Some register
    → i < length words → take i words ≡ take i (devices_of w).words
    → take (i + 1) (slice_set words i (value_in register (length w.drives) w.io_page)) ≡ take (i + 1) (devices_of w).words
unfolding devices_of
one_more_word w words register i is below before =
    let value = λ (r : Register). value_in r (length w.drives) w.io_page in
    let registers : List Register = map (λ shown. shown.1) shown_registers in
    let word : slice_get (map value registers) i ≡ Some (value register) = slice_get-map value registers i ∙ ap (option_map value) is in
    rw add-one (one_more (map value registers) words (value register) i word below before)
