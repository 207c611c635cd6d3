-- The paper tape in the reader: PDP-11 Peripherals Handbook, PC11.
use Rattle.std.specs.Prelude.{ℕ, ◌+◌, nat_lt, List, Option, length, slice_get, if◌then◌else◌}

-- all bytes of a tape, and how many of them have been read
pub record Reel : Type 0 where
  pub bytes : List ℕ
  pub read : ℕ

-- the next byte of a tape of which so many have been read: none at its end
abbrev pub next_byte : List ℕ → ℕ → Option ℕ
next_byte tape read = slice_get tape read

-- how many have been read after one more read: one more if there was a byte, and as many at the end
-- [6.64]
abbrev pub read_on : List ℕ → ℕ → ℕ
read_on tape read = if nat_lt read (length tape) then read + 1 else read
