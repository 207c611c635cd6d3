-- Trails: the turns of a run as they are listed [P].
use Rattle.std.specs.Prelude.{ℕ, ◌≡◌, zero, suc, ◌+◌, ◌++◌, List, [], ◌∷◌}
use Rattle.pdp_unibus.specs.declared.event.Event.{Event}
use Rattle.pdp_operand.specs.Phases.World.{World}
use Rattle.pdp_cpu.specs.Handbook.MachineState.{MachineState}
use Rattle.pdp_cpu.specs.Handbook.Regs.{regs_of}
use Rattle.pdp_cpu.specs.Handbook.Turn.{turn_act}
use Rattle.pdp_script.specs.Entries.{events_at}
use Rattle.pdp_script.specs.Script.{ScriptData}
use Rattle.pdp_replay.specs.Past.{Past}
use Rattle.pdp_replay.specs.Run.States.{at, state_at}
use Rattle.pdp_replay.specs.declared.ask.trail.TrailEntry.{TrailEntry}

-- turn t with these events as a trail lists it: its number, PC before it, and its act
abbrev pub trail_entry : ℕ → List Event → World → TrailEntry
trail_entry t events w = record { turn = t; pc = (regs_of w).pc; act = turn_act t events w }

-- so many turns from this one on, in their order
unfoldable pub trail_of : Past → ℕ → ℕ → List TrailEntry
trail_of p first zero = []
trail_of p first (suc n) =
    trail_of p first n ++ trail_entry (first + n) (events_at p.script.entries (first + n))
    (state_at p (first + n)) ∷ []

-- this is the trail of the machine's next turns, so many from this one on, of every past with this
-- script whose machine before them it is
abbrev pub IsTrailFrom : ScriptData → ℕ → ℕ → MachineState → List TrailEntry → Type 0
IsTrailFrom script first count machine trail = (p : Past) → p.script ≡ script → machine
    ≡ at p first → trail ≡ trail_of p first count
