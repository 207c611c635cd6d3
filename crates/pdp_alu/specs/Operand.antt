-- Operands by their size: the words and bytes that the rules name, and operands as signed numbers
-- (DEC PDP-11/40 Processor Handbook (1972), Instruction set).
use Rattle.std.specs.Prelude.{ℕ, ℤ, pos, ◌-ℤ◌, neg_ℤ, int_le, int_lt, Bool, ◌||◌, if◌then◌else◌}
use Rattle.pdp_word.specs.declared.size.Size.{Size}
use Rattle.pdp_word.specs.declared.size.Size.TheVariants.{Word, Byte}
use Rattle.pdp_word.specs.Size.{span, half, is_negative}

-- the largest positive number
abbrev pub most_positive : Size → ℕ
most_positive Word = 0o077777
most_positive Byte = 0o177

-- the most negative number: the top bit alone
abbrev pub most_negative : Size → ℕ
most_negative Word = 0o100000
most_negative Byte = 0o200

-- every bit set
abbrev pub all_ones : Size → ℕ
all_ones Word = 0o177777
all_ones Byte = 0o377

-- how many bits it has
abbrev pub width : Size → ℕ
width Word = 16
width Byte = 8

-- an operand below the span, as a signed number: less the span if its top bit is set
abbrev pub signed_at : Size → ℕ → ℤ
signed_at size operand = if is_negative size operand then pos operand -ℤ pos
    (span size) else pos operand

-- whether a number is below the negative of this bound, or not below the bound
abbrev pub is_beyond : ℕ → ℤ → Bool
is_beyond bound number = int_lt number (neg_ℤ (pos bound)) || int_le (pos bound) number

-- whether a number is no signed number of this size
abbrev pub overflows : Size → ℤ → Bool
overflows size number = is_beyond (half size) number
