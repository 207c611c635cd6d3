-- What a search watches for, turn by turn [P].
use Rattle.std.specs.Prelude.{ℕ, ◌≡◌, ◌+◌, ◌-◌, ◌<◌, ◌≤◌, ◌==◌, ◌&&◌, Bool, true, false, List}
use Rattle.std.specs.Prelude.{length, nat_lt, Option, None, Some, not}
use Rattle.pdp_store.specs.declared.Stamp.{Stamp}
use Rattle.pdp_unibus.specs.declared.event.Event.{Event}
use Rattle.pdp_cpu.specs.Turns.CalmTurns.{StampStays, after_calm_turns, word_stamp}
use Rattle.pdp_cpu.specs.Handbook.MachineState.{MachineState, MachineWithTexts}
use Rattle.pdp_cpu.specs.declared.turn_trap.ActWithTrap.{ActWithTrap}
use Rattle.pdp_script.specs.Entries.{events_at}
use Rattle.pdp_script.specs.Script.{ScriptData}
use Rattle.pdp_replay.specs.Past.{Past}
use Rattle.pdp_replay.specs.Run.KeptRuns.{IsOnWay, IsUnderWay, IsWithoutEvents, MetersTurns}
use Rattle.pdp_replay.specs.Run.States.{disk_of, state_at}
use Rattle.pdp_replay.specs.Ask.DiskChanges.{word_on}
use Rattle.pdp_replay.specs.Ask.Searches.{IsFirst}
use Rattle.pdp_replay.specs.Ask.SoughtTurns.{NoneIsSought, is_act_sought, is_sought_at}
use Rattle.pdp_replay.specs.Ask.SoughtTurns.{is_sought_by_step, is_state_sought}
use Rattle.pdp_replay.specs.Ask.TextParts.{is_out_after}
use Rattle.pdp_replay.specs.Ask.Writes.{is_written}
use Rattle.pdp_replay.specs.declared.ask.text_part.TextKind.{TextKind}
use Rattle.pdp_replay.specs.declared.ask.text_part.TextKind.TheVariants.{Printed, Punched}
use Rattle.pdp_replay.specs.declared.ask.watch.Watchpoint.{Watchpoint}
use Rattle.pdp_replay.specs.declared.ask.watch.Watchpoint.TheVariants as watch
use Rattle.pdp_replay.specs.declared.run.kept_run.KeptRun.{KeptRun}

-- is turn t what a search watches for? A turn that begins with what is sought; one that writes the
-- core word of this number; one after which more than so many bytes of a text came out; or one
-- after which the word of this number of a drive isn't this one
abbrev pub is_watched_at : Past → Watchpoint → ℕ → Bool
is_watched_at p (watch.Act sought) t = is_sought_at p sought t
is_watched_at p (watch.Write number) t = is_written p number t
is_watched_at p (watch.Output kind number) t = is_out_after kind number p t
is_watched_at p (watch.Change drive number word) t =
    not (word == word_on drive number (state_at p (t + 1)))

-- a machine can be watched: a word is in its core, or on the drive
abbrev pub IsInside : Watchpoint → MachineWithTexts → Type 0
IsInside (watch.Write number) m = number < length m.state.world.bus.core
IsInside (watch.Change drive number word) m = number < length (disk_of m.state.world drive)
IsInside _ m = Unit {0}

-- the bytes that came out of a machine: those that were printed on the console, or those that were
-- punched
abbrev pub bytes_of : TextKind → MachineState → List ℕ
bytes_of Printed m = m.text
bytes_of Punched m = m.punched

-- is a stamp of this turn?
abbrev pub is_of_turn : ℕ → Option Stamp → Bool
is_of_turn t None = false
is_of_turn t (Some stamp) = stamp.turn == t

-- can the turn after a machine be watched for, by what the machine is before it?
abbrev pub is_possible : Watchpoint → MachineWithTexts → Bool
is_possible (watch.Act sought) before = is_state_sought sought before.state.world
is_possible _ before = true

-- is its act as what is watched for asks?
abbrev pub is_act_watched : Watchpoint → ActWithTrap → Bool
is_act_watched (watch.Act sought) told = is_act_sought sought told
is_act_watched _ told = true

-- was this turn watched for, which could be or couldn't, had this act, and left this machine?
abbrev pub is_met : Watchpoint → Bool → ℕ → ActWithTrap → MachineWithTexts → Bool
is_met (watch.Act sought) possible t told now = possible && is_act_sought sought told
is_met (watch.Write number) possible t told now = is_of_turn t (word_stamp number now)
is_met (watch.Output kind number) possible t told now = nat_lt number (length (bytes_of kind
    now.state))
is_met (watch.Change drive number word) possible t told now =
    not (word == word_on drive number now.state.world)

-- does a search for it look at each turn? No burst passes turns of it
abbrev pub is_stepped : Watchpoint → Bool
is_stepped (watch.Act sought) = is_sought_by_step sought
is_stepped _ = false

-- of a machine's next n turns without events none is watched for, but maybe the last, if that
-- writes the word
abbrev pub PassesTo : Watchpoint → ℕ → MachineWithTexts → Type 0
PassesTo (watch.Act sought) n m = NoneIsSought sought n m
PassesTo (watch.Write number) n m = StampStays number n m
PassesTo (watch.Output kind number) n m = 0 < n → length (bytes_of kind (after_calm_turns n
    m).state) ≤ number
PassesTo (watch.Change drive number word) n m = (k : ℕ) → k < n
    → word ≡ word_on drive number (after_calm_turns (k + 1) m).state.world

-- was the last of them, which left this machine?
abbrev pub is_met_last : Watchpoint → ℕ → MachineWithTexts → Bool
is_met_last (watch.Write number) t now = is_of_turn t (word_stamp number now)
is_met_last _ t now = false

-- this is the first turn that is watched for of those that took a machine from one state to
-- another, in every run in whose next turn these events happen
abbrev pub IsFirstWith : List Event → Watchpoint → MachineWithTexts → MachineWithTexts → Option ℕ
    → Type 0
IsFirstWith events watch before after found = (p : Past) (known : ℕ)
    → events ≡ events_at p.script.entries before.state.turn → IsUnderWay p known before
    → IsFirst (is_watched_at p watch) before.state.turn after.state.turn found

-- in every run without events before turn `to`
abbrev pub IsFirstQuietly : ℕ → Watchpoint → MachineWithTexts → MachineWithTexts → Option ℕ
    → Type 0
IsFirstQuietly to watch before after found = (p : Past) (known : ℕ)
    → IsWithoutEvents p before.state.turn to → IsUnderWay p known before
    → IsFirst (is_watched_at p watch) before.state.turn after.state.turn found

-- in every run with this script
abbrev pub IsFirstOnWay : ScriptData → Watchpoint → MachineWithTexts → MachineWithTexts → Option ℕ
    → Type 0
IsFirstOnWay script watch before after found = (p : Past) (known : ℕ) → p.script ≡ script
    → IsUnderWay p known before
    → IsFirst (is_watched_at p watch) before.state.turn after.state.turn found

-- and in every run with this script that is kept, of those from its machine's turn to another one
abbrev pub IsFirstTo : ℕ → ScriptData → Watchpoint → KeptRun → Option ℕ → Type 0
IsFirstTo to script watch r found = (p : Past) → p.script ≡ script → IsOnWay p r
    → IsFirst (is_watched_at p watch) r.machine.state.turn to found

abbrev pub IsFirstInRun : ScriptData → Watchpoint → KeptRun → KeptRun → Option ℕ → Type 0
IsFirstInRun script watch before after found =
    IsFirstTo after.machine.state.turn script watch before found

-- a machine that is on its way through a run, in whose next turn these events happen, still is
abbrev pub StaysWith : List Event → MachineWithTexts → MachineWithTexts → Type 0
StaysWith events before after = (p : Past) (known : ℕ)
    → events ≡ events_at p.script.entries before.state.turn → IsUnderWay p known before
    → IsUnderWay p known after

-- through a run without events before turn `to`
abbrev pub StaysQuietly : ℕ → MachineWithTexts → MachineWithTexts → Type 0
StaysQuietly to before after = (p : Past) (known : ℕ) → IsWithoutEvents p before.state.turn to
    → IsUnderWay p known before → IsUnderWay p known after

-- through a run with this script
abbrev pub StaysOnWay : ScriptData → MachineWithTexts → MachineWithTexts → Type 0
StaysOnWay script before after = (p : Past) (known : ℕ) → p.script ≡ script
    → IsUnderWay p known before → IsUnderWay p known after

-- A part of a search took a machine from one state to another, of turn `to` at the latest, and a
-- meter from one count to another: it counted each turn that was run. The machine can still be
-- watched.
pub record SearchesTo (to : ℕ) (watch : Watchpoint) (before after : MachineWithTexts)
    (metered counted : ℕ) : Type 0 where
  pub inside : IsInside watch after
  pub least : before.state.turn ≤ after.state.turn
  pub most : after.state.turn ≤ to
  pub ran : MetersTurns (after.state.turn - before.state.turn) metered counted
