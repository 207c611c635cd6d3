-- Accesses to words of core and of drives, in their order. No rule of the handbook is here.
use Rattle.std.specs.Prelude.{ℕ, ◌≡◌, ◌≢◌, ◌/◌, ◌==◌, ◌&&◌, Bool, true, false, List, [], ◌∷◌}
use Rattle.std.specs.Prelude.{Option, Some, if◌then◌else◌}
use Rattle.pdp_store.specs.declared.Agent.{Agent}
use Rattle.pdp_store.specs.declared.Stamp.{Stamp}
use Rattle.pdp_store.specs.declared.part.Part.{Part}
use Rattle.pdp_store.specs.declared.part.Part.TheVariants.{Core, Drive}

abbrev pub is_core : Part → Bool
is_core Core = true
is_core (Drive number) = false

-- one access to a word: when, by whom, whether it writes, where, and the word's number there
pub record TracedAccess : Type 0 where
  pub turn : ℕ
  pub agent : Agent
  pub writes : Bool
  pub part : Part
  pub word : ℕ

-- the stamp that a write leaves on a word of core
abbrev pub stamp_of : TracedAccess → Stamp
stamp_of touch = record { turn = touch.turn; agent = touch.agent }

-- the last write to a word of core in a trace, or the one before the trace if it has none
abbrev pub last_write : List TracedAccess → ℕ → Option Stamp → Option Stamp
last_write [] word before = before
last_write (x ∷ xs) word before =
    last_write xs word (if x.writes && is_core x.part && x.word == word then Some
    (stamp_of x) else before)

-- no access of the trace is to this page of 256 words
abbrev pub Avoids : Part → ℕ → List TracedAccess → Type 0
Avoids part page [] = Unit {0}
Avoids part page (x ∷ xs) = (x.part ≡ part → x.word / 256 ≢ page) × Avoids part page xs
