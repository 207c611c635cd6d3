-- How many pulls it takes to read some bytes.
use Rattle.std.proofs.Common.{◌≡◌, ℕ, ◌+◌, ◌<◌, ◌≤◌, List, ◌++◌, length, take, arith, length-append}
use Rattle.std.proofs.lemmas.List.{length-take-le}

-- a pull that brought bytes brought one at least
pub some_read : (pulls between pulls_after : ℕ) (read buf : List ℕ) (count : ℕ) → pulls_after + 1 ≡ between → count ≤ length buf → 0 < count
    → pulls ≤ between + length read → pulls ≤ pulls_after + length (read ++ take count buf)
some_read pulls between pulls_after read buf count lowers bound some before =
    omega (arith, length-append read (take count buf), length-take-le count buf bound)
