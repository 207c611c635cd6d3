-- Numbers of 32 bits, which two registers hold: the high word in R, the low word in R or 1
-- (DEC PDP-11/40 Processor Handbook (1972), Extended instruction set).
use Rattle.std.specs.Prelude.{ℕ, ℤ, pos, ◌+◌, ◌*◌, ◌/◌, ◌%◌, ◌^◌, ◌-ℤ◌, ◌==◌, Bool, nat_le}
use Rattle.std.specs.Prelude.{if◌then◌else◌}
use Rattle.pdp_alu.specs.declared.long.LongEffect.{LongEffect}
use Rattle.pdp_alu.specs.Operand.{is_beyond}

-- the number with these two words
abbrev pub join_words : ℕ → ℕ → ℕ
join_words high low = high * 0o200000 + low

abbrev pub high_word : ℕ → ℕ
high_word long = long / 0o200000

abbrev pub low_word : ℕ → ℕ
low_word long = long % 0o200000

-- whether bit 31 is set
abbrev pub is_negative_long : ℕ → Bool
is_negative_long long = nat_le (2 ^ 31) long

-- as a signed number: less 2 ^ 32 if bit 31 is set
abbrev pub signed_long : ℕ → ℤ
signed_long long = if is_negative_long long then pos long -ℤ pos (2 ^ 32) else pos long

-- whether a number is no signed number of 32 bits
abbrev pub overflows_long : ℤ → Bool
overflows_long number = is_beyond (2 ^ 31) number

-- a number of 32 bits: N if its bit 31 is set, Z if it is 0
abbrev pub long_effect : ℕ → Bool → Bool → LongEffect
long_effect long overflow carry =
    record {
      value = long;
      codes = record { n = is_negative_long long; z = long == 0; v = overflow; c = carry };
    }
