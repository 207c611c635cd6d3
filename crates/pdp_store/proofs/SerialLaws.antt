-- Serials are given once.
use Rattle.std.proofs.Common.{◌≡◌, ℕ, suc, zero, ◌+◌, ◌<◌, ◌≤◌, List, [], ◌∷◌, Option, Some, None, slice_get, refl, arith}
use Rattle.std.proofs.lemmas.Bool.Decides.{nat_tests}
use Rattle.pdp_store.specs.Pages.{given_after, most_serials, next_given, next_serial, serials_taken}
use Rattle.pdp_store.specs.PageLaws.{SerialsAreGivenOnce, places_without_base}

next_serial_is : (given : ℕ) → given + 1 ≤ most_serials → next_serial given ≡ given + 1
next_serial_is given enough = grind (arith, nat_tests)

next_given_is : (given : ℕ) → given + 1 ≤ most_serials → next_given given ≡ given + 1
next_given_is given enough = omega arith

kept : (bases : List (Option ℕ)) (given k serial : ℕ) → slice_get bases k ≡ Some (Some serial) → slice_get (serials_taken bases given) k ≡ Some serial
unfolding serials_taken
kept [] given k serial is = absurd (cc)
kept (None ∷ bases) given zero serial is = absurd (cc)
kept (Some its ∷ bases) given zero serial is = cc
kept (None ∷ bases) given (suc k) serial is = kept bases (next_given given) k serial is
kept (Some its ∷ bases) given (suc k) serial is = kept bases given k serial is

grows : (bases : List (Option ℕ)) (given : ℕ) → given + places_without_base bases ≤ most_serials → given ≤ given_after bases given
unfolding given_after
grows [] given enough = omega arith
grows (None ∷ bases) given enough =
    let next : next_given given ≡ given + 1 = next_given_is given (omega arith) in
    let rest : next_given given ≤ given_after bases (next_given given) = grows bases (next_given given) (omega arith) in
    omega arith
grows (Some its ∷ bases) given enough = grows bases given enough

above : (bases : List (Option ℕ)) (given k serial : ℕ) → given + places_without_base bases ≤ most_serials
    → slice_get bases k ≡ Some None → slice_get (serials_taken bases given) k ≡ Some serial → given < serial
unfolding serials_taken
above [] given k serial enough none is = absurd (cc)
above (None ∷ bases) given zero serial enough none is =
    let first : next_serial given ≡ given + 1 = next_serial_is given (omega arith) in
    let same : next_serial given ≡ serial = cc in
    omega arith
above (None ∷ bases) given (suc k) serial enough none is =
    let next : next_given given ≡ given + 1 = next_given_is given (omega arith) in
    let rest : next_given given < serial = above bases (next_given given) k serial (omega arith) none is in
    omega arith
above (Some its ∷ bases) given zero serial enough none is = absurd (cc)
above (Some its ∷ bases) given (suc k) serial enough none is = above bases given k serial enough none is

within : (bases : List (Option ℕ)) (given k serial : ℕ) → given + places_without_base bases ≤ most_serials
    → slice_get bases k ≡ Some None → slice_get (serials_taken bases given) k ≡ Some serial → serial ≤ given_after bases given
unfolding serials_taken given_after
within [] given k serial enough none is = absurd (cc)
within (None ∷ bases) given zero serial enough none is =
    let first : next_serial given ≡ given + 1 = next_serial_is given (omega arith) in
    let same : next_serial given ≡ serial = cc in
    let next : next_given given ≡ given + 1 = next_given_is given (omega arith) in
    let rest : next_given given ≤ given_after bases (next_given given) = grows bases (next_given given) (omega arith) in
    omega arith
within (None ∷ bases) given (suc k) serial enough none is =
    let next : next_given given ≡ given + 1 = next_given_is given (omega arith) in
    within bases (next_given given) k serial (omega arith) none is
within (Some its ∷ bases) given zero serial enough none is = absurd (cc)
within (Some its ∷ bases) given (suc k) serial enough none is = within bases given k serial enough none is

differ : (bases : List (Option ℕ)) (given j k serial : ℕ) → given + places_without_base bases ≤ most_serials
    → slice_get bases j ≡ Some None → slice_get bases k ≡ Some None
    → slice_get (serials_taken bases given) j ≡ Some serial → slice_get (serials_taken bases given) k ≡ Some serial → j ≡ k
unfolding serials_taken
differ [] given j k serial enough none none-2 is is-2 = absurd (cc)
differ (None ∷ bases) given zero zero serial enough none none-2 is is-2 = refl
differ (None ∷ bases) given zero (suc k) serial enough none none-2 is is-2 =
    let first : next_serial given ≡ given + 1 = next_serial_is given (omega arith) in
    let same : next_serial given ≡ serial = cc in
    let next : next_given given ≡ given + 1 = next_given_is given (omega arith) in
    let later : next_given given < serial = above bases (next_given given) k serial (omega arith) none-2 is-2 in
    absurd (omega arith)
differ (None ∷ bases) given (suc j) zero serial enough none none-2 is is-2 =
    let first : next_serial given ≡ given + 1 = next_serial_is given (omega arith) in
    let same : next_serial given ≡ serial = cc in
    let next : next_given given ≡ given + 1 = next_given_is given (omega arith) in
    let later : next_given given < serial = above bases (next_given given) j serial (omega arith) none is in
    absurd (omega arith)
differ (None ∷ bases) given (suc j) (suc k) serial enough none none-2 is is-2 =
    let next : next_given given ≡ given + 1 = next_given_is given (omega arith) in
    let rest : j ≡ k = differ bases (next_given given) j k serial (omega arith) none none-2 is is-2 in
    omega arith
differ (Some its ∷ bases) given zero k serial enough none none-2 is is-2 = absurd (cc)
differ (Some its ∷ bases) given (suc j) zero serial enough none none-2 is is-2 = absurd (cc)
differ (Some its ∷ bases) given (suc j) (suc k) serial enough none none-2 is is-2 =
    let rest : j ≡ k = differ bases given j k serial enough none none-2 is is-2 in
    omega arith

pub serials_are_given_once : SerialsAreGivenOnce
serials_are_given_once bases given enough = record {
  kept = kept bases given;
  new = λ k serial none is. (above bases given k serial enough none is, within bases given k serial enough none is);
  differ = λ j k serial none none-2 is is-2. differ bases given j k serial enough none none-2 is is-2;
}
