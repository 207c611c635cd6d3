-- What a meter of turns counts.
use Rattle.std.specs.Prelude.{◌≡◌, ℕ, ◌+◌, ◌-◌, ◌^◌, ◌≤◌, min}

-- it counts so many turns more; at 18,446,744,073,709,551,615 it stays there
abbrev pub Counts : ℕ → ℕ → ℕ → Type 0
Counts turns before after = (after ≡ min (before + turns) (2 ^ 64 - 1)) × (before ≤ after)
