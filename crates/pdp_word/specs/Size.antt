-- What the size of an operand says of its values: DEC PDP-11/40 Processor Handbook (1972),
-- Addressing modes.
use Rattle.std.specs.Prelude.{ℕ, Bool, nat_le}
use Rattle.pdp_word.specs.declared.size.Size.{Size}
use Rattle.pdp_word.specs.declared.size.Size.TheVariants.{Word, Byte}

-- how many values a word or a byte has: of 16 bits, and of 8 [1.1]
abbrev pub span : Size → ℕ
span Word = 0o200000
span Byte = 0o400

-- half of them: if the top bit is set
abbrev pub half : Size → ℕ
half Word = 0o100000
half Byte = 0o200

-- whether the top bit of a value below the span is set
abbrev pub is_negative : Size → ℕ → Bool
is_negative size value = nat_le (half size) value
