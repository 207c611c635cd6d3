-- The next byte of a tape, and how far it is read.
use Rattle.std.proofs.Common.{◌≡◌, ℕ, ◌+◌, ◌<◌, ◌≤◌, nat_lt, true, false, List, length, refl, arith}
use Rattle.std.proofs.lemmas.Bool.Decides.{nat_tests}
use Rattle.pdp_unibus.specs.Handbook.Tape.{read_on}

pub read_on_is : (bytes : List ℕ) (k : ℕ) → k < length bytes → k + 1 ≡ read_on bytes k
read_on_is bytes k below = let is : nat_lt k (length bytes) ≡ true = grind (arith, nat_tests, below) in rw is refl

pub nothing_read_on : (bytes : List ℕ) (k : ℕ) → length bytes ≤ k → k ≡ read_on bytes k
nothing_read_on bytes k past = let is : nat_lt k (length bytes) ≡ false = grind (arith, nat_tests, past) in rw is refl
