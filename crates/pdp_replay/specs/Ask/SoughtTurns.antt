-- The turns that a search looks for [P].
use Rattle.std.specs.Prelude.{ℕ, ◌≡◌, ◌<◌, ◌==◌, ◌&&◌, Bool, true, false, List, [], Option, None}
use Rattle.std.specs.Prelude.{Ok, Result, Some}
use Rattle.pdp_kt11.specs.Handbook.Mode.{mode_bits}
use Rattle.pdp_kt11.specs.declared.mode.Mode.{Mode}
use Rattle.pdp_unibus.specs.declared.event.Event.{Event}
use Rattle.pdp_operand.specs.Phases.World.{World}
use Rattle.pdp_cpu.specs.Turns.CalmTurns.{after_calm_turns}
use Rattle.pdp_cpu.specs.Handbook.MachineState.{MachineWithTexts}
use Rattle.pdp_cpu.specs.Handbook.Regs.{regs_of}
use Rattle.pdp_cpu.specs.Handbook.Turn.{turn_act}
use Rattle.pdp_cpu.specs.Handbook.TurnTrap.{turn_trap}
use Rattle.pdp_cpu.specs.declared.act.Act.{Act}
use Rattle.pdp_cpu.specs.declared.turn_trap.ActWithTrap.{ActWithTrap}
use Rattle.pdp_cpu.specs.declared.act.Act.TheVariants.{Trace, Stack, Irq}
use Rattle.pdp_script.specs.Entries.{events_at}
use Rattle.pdp_script.specs.declared.faults.Fault.{Fault}
use Rattle.pdp_replay.specs.Past.{Past}
use Rattle.pdp_replay.specs.Past.Setup.{SetupData}
use Rattle.pdp_replay.specs.Run.States.{state_at}
use Rattle.pdp_replay.specs.declared.ask.sought.Sought.{Sought}
use Rattle.pdp_replay.specs.declared.ask.sought.Sought.TheVariants.{Instruction, Interrupt}
use Rattle.pdp_replay.specs.declared.ask.sought.Sought.TheVariants.{PendingTrap, Trap, Where}
use Rattle.pdp_replay.specs.Ask.Searches.{search_checked}
use Rattle.pdp_replay.specs.Ask.TurnConditions.{all_fit, all_met_in}
use Rattle.pdp_replay.specs.Ask.RegisterTests.{all_stepped}
use Rattle.pdp_replay.specs.Ask.TurnConditions.{conditions_checked, is_instruction}
use Rattle.pdp_replay.specs.Ask.Writes.{then_checked}

-- is an act the interrupt through this vector (octal, bytes)?
abbrev pub is_interrupt : ℕ → Act → Bool
is_interrupt vector (Irq through) = through == vector
is_interrupt vector _ = false

-- is it a trap that was pending: the trace trap, or the stack trap?
abbrev pub is_pending_trap : Act → Bool
is_pending_trap Trace = true
is_pending_trap Stack = true
is_pending_trap _ = false

-- is a mode the one that is asked for, if one is?
abbrev pub is_mode : Option Mode → Mode → Bool
is_mode None mode = true
is_mode (Some asked) mode = mode_bits asked == mode_bits mode

-- is the trap that a turn has through this vector (octal, bytes)?
abbrev pub is_trap_through : ℕ → Option ℕ → Bool
is_trap_through vector None = false
is_trap_through vector (Some through) = through == vector

-- the act of turn t, with its trap
abbrev pub act_with_trap : ℕ → List Event → World → ActWithTrap
act_with_trap t events w = record { act = turn_act t events w; trap = turn_trap t events w }

-- is the world before a turn as what is sought asks?
abbrev pub is_state_sought : Sought → World → Bool
is_state_sought (Instruction address asked) w =
    (regs_of w).pc == address && is_mode asked w.bus.io_page.status.mode
is_state_sought (Where conditions) w = all_met_in conditions w
is_state_sought _ w = true

-- and its act?
abbrev pub is_act_sought : Sought → ActWithTrap → Bool
is_act_sought (Instruction address asked) told = is_instruction told.act
is_act_sought (Interrupt vector) told = is_interrupt vector told.act
is_act_sought PendingTrap told = is_pending_trap told.act
is_act_sought (Trap vector) told = is_trap_through vector told.trap
is_act_sought (Where conditions) told = all_fit conditions told.act

-- does a search for it look at each turn? No burst passes turns of it
abbrev pub is_sought_by_step : Sought → Bool
is_sought_by_step (Trap vector) = true
is_sought_by_step (Where conditions) = all_stepped conditions
is_sought_by_step _ = false

-- is turn t with these events in this world what is sought?
abbrev pub turn_is_sought : Sought → ℕ → List Event → World → Bool
turn_is_sought sought t events w =
    is_state_sought sought w && is_act_sought sought (act_with_trap t events w)

-- is turn t in the run of this past?
abbrev pub is_sought_at : Past → Sought → ℕ → Bool
is_sought_at p sought t = turn_is_sought sought t (events_at p.script.entries t) (state_at p t)

-- none of a machine's next n turns without events is
abbrev pub NoneIsSought : Sought → ℕ → MachineWithTexts → Type 0
NoneIsSought sought n m =
    (k : ℕ) → k < n → turn_is_sought sought (after_calm_turns k m).state.turn []
    (after_calm_turns k m).state.world ≡ false

-- can it be sought in turns from one on and before another? The words of core that conditions are
-- on are in core
abbrev pub sought_checked : Sought → SetupData → Result (Unit {0}) Fault
sought_checked (Where conditions) s = conditions_checked conditions s
sought_checked _ s = Ok tt

abbrev pub seek_checked : Sought → ℕ → ℕ → SetupData → Result (Unit {0}) Fault
seek_checked sought from to s = then_checked (search_checked from to) (sought_checked sought s)
