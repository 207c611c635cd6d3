-- The greatest turn that an event may have and that can be asked about, and the longest delay [P].
use Rattle.std.specs.Prelude.{ℕ}

-- the last state of a run: its turns are those below [8.4]
abbrev pub last_turn : ℕ
last_turn = 1000000000
