-- How many turns began an instruction at each of some words of virtual addresses [P].
use Rattle.std.specs.Prelude.{ℕ, zero, suc, ◌≡◌, ◌+◌, ◌*◌, ◌-◌, ◌<◌, ◌≤◌, ◌==◌, ◌%◌, ◌&&◌, Bool}
use Rattle.std.specs.Prelude.{true, false, List, [], ◌∷◌, length, slice_index, nat_le, Some, Result}
use Rattle.std.specs.Prelude.{Ok, Err, if◌then◌else◌}
use Rattle.std.specs.List.{All}
use Rattle.pdp_kt11.specs.declared.mode.Mode.{Mode}
use Rattle.pdp_unibus.specs.declared.event.Event.{Event}
use Rattle.pdp_cpu.specs.Handbook.MachineState.{MachineWithTexts}
use Rattle.pdp_cpu.specs.declared.act.Act.{Act}
use Rattle.pdp_script.specs.Entries.{events_at}
use Rattle.pdp_script.specs.Script.{ScriptData}
use Rattle.pdp_script.specs.declared.faults.Fault.{Fault}
use Rattle.pdp_script.specs.declared.faults.Fault.TheVariants.{CountOutOfRange, OddAddress}
use Rattle.pdp_replay.specs.Past.{Past}
use Rattle.pdp_replay.specs.Run.KeptRuns.{IsOnWay, IsUnderWay, IsWithoutEvents}
use Rattle.pdp_replay.specs.Ask.Searches.{search_checked}
use Rattle.pdp_replay.specs.Ask.SoughtTurns.{is_mode, is_sought_at}
use Rattle.pdp_replay.specs.Ask.TurnConditions.{is_instruction}
use Rattle.pdp_replay.specs.Ask.Writes.{then_checked}
use Rattle.pdp_replay.specs.declared.ask.counts.CountedWords.{CountedWords}
use Rattle.pdp_replay.specs.declared.ask.sought.Sought.TheVariants.{Instruction}
use Rattle.pdp_replay.specs.declared.run.kept_run.KeptRun.{KeptRun}

-- 1 if so, otherwise 0
abbrev pub one_if : Bool → ℕ
one_if true = 1
one_if false = 0

-- how many of n turns from one on have the property
unfoldable pub turns_counted : (ℕ → Bool) → ℕ → ℕ → ℕ
turns_counted holds from zero = 0
turns_counted holds from (suc n) = turns_counted holds from n + one_if (holds (from + n))

-- how many of n turns from one on began an instruction at this address (octal, bytes) in this mode
abbrev pub instructions_counted : Past → Mode → ℕ → ℕ → ℕ → ℕ
instructions_counted p mode address from n =
    turns_counted (is_sought_at p (Instruction address (Some mode))) from n

-- the same for each of `count` words, the first of which is at this address
unfoldable pub counts_in_turns : Past → Mode → ℕ → ℕ → ℕ → ℕ → List ℕ
counts_in_turns p mode first zero from n = []
counts_in_turns p mode first (suc count) from n =
    instructions_counted p mode first from n ∷ counts_in_turns p mode (first + 2) count from n

-- the end of the virtual addresses (octal 200000, bytes)
abbrev pub end_of_addresses : ℕ
end_of_addresses = 65536

-- the most words at which instructions are counted
abbrev pub most_words_counted : ℕ
most_words_counted = 256

-- can instructions be counted at these words? From one to the most, each in the virtual addresses,
-- the first at an even address
abbrev pub words_checked : CountedWords → Result (Unit {0}) Fault
words_checked words = (
    if nat_le 1 words.count && nat_le words.count most_words_counted then
    if nat_le (words.first + 2 * words.count) end_of_addresses then
    if words.first % 2 == 0 then Ok tt
    else Err OddAddress
    else Err CountOutOfRange
    else Err CountOutOfRange)

-- can they be counted in the turns from one on and before another?
abbrev pub counts_checked : CountedWords → ℕ → ℕ → Result (Unit {0}) Fault
counts_checked words from to = then_checked (search_checked from to) (words_checked words)

-- is a turn with this act, and with PC and the mode before it, counted at the word of this number?
abbrev pub is_counted : CountedWords → ℕ → Act → ℕ → Mode → Bool
is_counted words number act pc mode =
    (pc == words.first + 2 * number && is_mode (Some words.mode) mode) && is_instruction act

-- each of some counts is at most this number
abbrev pub AreAtMost : ℕ → List ℕ → Type 0
AreAtMost most counts = All (λ count. count ≤ most) counts

-- a turn with this act, and with PC and the mode before it, was added to the counts: that of its
-- word is 1 more, if it is counted, and the others are as before
pub record AddsTurn (words : CountedWords) (act : Act) (pc : ℕ) (mode : Mode)
    (before after : List ℕ) : Type 0 where
  pub size : length after ≡ length before
  pub each : (number : ℕ) → number < length before → slice_index after number
      ≡ slice_index before number + one_if (is_counted words number act pc mode)

-- the turns of a run from one on and before another were added to the counts
pub record AddsTurns (p : Past) (words : CountedWords) (from to : ℕ) (before after : List ℕ)
    : Type 0
  where
    pub size : length after ≡ length before
    pub each : (number : ℕ) → number < length before → slice_index after number
        ≡ slice_index before number
        + instructions_counted p words.mode (words.first + 2 * number) from (to - from)

-- the turns that took a machine from one state to another were, in every run in whose next turn
-- these events happen
abbrev pub AddsWith : List Event → CountedWords → MachineWithTexts → MachineWithTexts → List ℕ
    → List ℕ → Type 0
AddsWith events words before after counts now = (p : Past) (known : ℕ)
    → events ≡ events_at p.script.entries before.state.turn → IsUnderWay p known before
    → AddsTurns p words before.state.turn after.state.turn counts now

-- in every run without events before turn `to`
abbrev pub AddsQuietly : ℕ → CountedWords → MachineWithTexts → MachineWithTexts → List ℕ → List ℕ
    → Type 0
AddsQuietly to words before after counts now = (p : Past) (known : ℕ)
    → IsWithoutEvents p before.state.turn to → IsUnderWay p known before
    → AddsTurns p words before.state.turn after.state.turn counts now

-- in every run with this script
abbrev pub AddsOnWay : ScriptData → CountedWords → MachineWithTexts → MachineWithTexts → List ℕ
    → List ℕ → Type 0
AddsOnWay script words before after counts now = (p : Past) (known : ℕ) → p.script ≡ script
    → IsUnderWay p known before
    → AddsTurns p words before.state.turn after.state.turn counts now

-- and in every run with this script that is kept, those from its machine's turn to another one
abbrev pub AddsTo : ℕ → ScriptData → CountedWords → KeptRun → List ℕ → List ℕ → Type 0
AddsTo to script words r counts now = (p : Past) → p.script ≡ script → IsOnWay p r
    → AddsTurns p words r.machine.state.turn to counts now

-- these are the counts of the turns from a run's on and before another, of every past with this
-- script whose run it is
abbrev pub AreCountsTo : ℕ → ScriptData → CountedWords → KeptRun → List ℕ → Type 0
AreCountsTo to script words r counts = (p : Past) → p.script ≡ script → IsOnWay p r
    → counts ≡ counts_in_turns p words.mode words.first words.count r.machine.state.turn
    (to - r.machine.state.turn)
