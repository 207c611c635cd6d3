-- A word is a whole number from 0 to 177777 octal, a byte from 0 to 377 octal
-- (DEC PDP-11/40 Processor Handbook (1972), Addressing modes and Instruction set).
use Rattle.std.specs.Prelude.{ℕ, ℤ, pos, ◌+◌, ◌-◌, ◌*◌, ◌/◌, ◌%◌, ◌-ℤ◌, nat_lt, if◌then◌else◌}

-- a word as a signed number: less 2 ^ 16 if its top bit is set [1.2]
abbrev pub signed_value : ℕ → ℤ
signed_value word = if nat_lt word 0o100000 then pos word else pos word -ℤ pos 0o200000

abbrev pub low_byte : ℕ → ℕ
low_byte word = word % 256

abbrev pub high_byte : ℕ → ℕ
high_byte word = word / 256

-- the word with these two bytes
abbrev pub join : ℕ → ℕ → ℕ
join high low = high * 256 + low

-- the word whose low byte is this one, with the byte's top bit in all of the high byte
abbrev pub sign_extended : ℕ → ℕ
sign_extended byte = if nat_lt byte 0o200 then byte else byte + 0o177400

-- one word less another, modulo 200000
abbrev pub less : ℕ → ℕ → ℕ
less word other = if nat_lt word other then word + 0o200000 - other else word - other
