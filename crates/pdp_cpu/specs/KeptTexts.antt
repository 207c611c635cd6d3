-- Bytes that came out of a machine, kept with their turns.
use Rattle.std.specs.Prelude.{ℕ, ◌+◌, ◌++◌, List, [], ◌∷◌, drop, map, nat_le, take, if◌then◌else◌}
use Rattle.pdp_cpu.specs.declared.kept_text.KeptByte.{KeptByte}

-- bytes without their turns
abbrev pub without_turns : List KeptByte → List ℕ
without_turns bytes = map (λ b. b.byte) bytes

-- the bytes that are kept, those that came out of the machine as it is now, which are the first of
-- them, and for how many more bytes there is room
pub record Kept : Type 0 where
  pub bytes : List KeptByte
  pub text : List ℕ
  pub room : ℕ

-- a byte is put in its place, over the one that is there, or last
abbrev pub put_over : ℕ → KeptByte → List KeptByte → List KeptByte
put_over place b bytes = take place bytes ++ b ∷ drop (place + 1) bytes

-- bytes come out in a turn after so many: each is put in its place
abbrev pub kept_over : ℕ → List ℕ → ℕ → List KeptByte → List KeptByte
kept_over turn [] place bytes = bytes
kept_over turn (byte ∷ out) place bytes = kept_over turn out (place + 1) (put_over place
    (record { byte = byte; turn = turn }) bytes)

-- a byte goes if it came out in this turn or later and none after it stays
abbrev pub kept_first : ℕ → KeptByte → List KeptByte → List KeptByte
kept_first turn b (c ∷ cs) = b ∷ c ∷ cs
kept_first turn b [] = if nat_le turn b.turn then [] else b ∷ []

-- the bytes up to the last that came out before this turn: if they came out in the order of their
-- turns, all of those
abbrev pub kept_before : ℕ → List KeptByte → List KeptByte
kept_before turn [] = []
kept_before turn (b ∷ bs) = kept_first turn b (kept_before turn bs)
