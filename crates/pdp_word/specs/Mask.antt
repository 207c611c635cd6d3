-- Bits by their masks: the word that has that bit alone, as the handbook's octal words show it
-- (DEC PDP-11/40 Processor Handbook (1972), Processor status word).
use Rattle.std.specs.Prelude.{ℕ, ◌/◌, ◌%◌, ◌==◌, Bool}

-- whether a word has the bit of this mask
abbrev pub is_set : ℕ → ℕ → Bool
is_set mask word = word / mask % 2 == 1
