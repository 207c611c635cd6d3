-- The reads of a word of core in some turns.
use Rattle.std.proofs.Common.{◌≡◌, ◌∙◌, ◌+◌, ◌*◌, ℕ, Bool, Option, None, Some, ap, ap₂, option_map, refl, slice_get, slice_index, sym}
use Rattle.pdp_store.specs.CycleLogs.{KeptCycles}
use Rattle.pdp_store.specs.declared.Agent.TheVariants.{Cpu}
use Rattle.pdp_store.specs.declared.cycle_log.BusCycle.{BusCycle}
use Rattle.pdp_cpu.specs.Handbook.MachineState.{MachineState, after_turn, state_with_log}
use Rattle.pdp_script.specs.Entries.{events_at}
use Rattle.pdp_script.specs.Script.{ScriptData}
use Rattle.pdp_replay.specs.Past.{Past}
use Rattle.pdp_replay.specs.Run.States.{at}
use Rattle.pdp_replay.specs.Ask.DiskCompletions.{disk_turn, disk_turn_at}
use Rattle.pdp_replay.specs.Ask.Reads.{IsLoggedState, first_read_at, is_read_by_disk, log_of_first_read, processor_read, disk_or_processor_read, read_in}
use Rattle.pdp_replay.specs.Ask.Searches.{EndsAfter}
use Rattle.pdp_replay.specs.declared.ask.disk_completions.DiskTurn.{DiskTurn}
use Rattle.pdp_replay.specs.declared.ask.reads.WordRead.{WordRead}
use Rattle.pdp_replay.proofs.run.LoggedTurns.{disk_turn_logged, events_of, logged_turn, same_with_log}

-- the disk in the turn of a machine that keeps a log is that of the run
pub disk_there : (p : Past) (script : ScriptData) (log : KeptCycles) (m : MachineState) (d : DiskTurn) → p.script ≡ script → IsLoggedState p m
    → d ≡ disk_turn (events_at script.entries m.turn) (state_with_log log m) → d ≡ disk_turn_at p m.turn
disk_there p script log m d same here is =
    is ∙ ap₂ (λ es s. disk_turn es s) (events_of p script m.turn same) (same_with_log p log m here)
    ∙ disk_turn_logged (events_at p.script.entries m.turn) log (at p m.turn)

-- and so is the first cycle that its log keeps
pub first_there : (p : Past) (script : ScriptData) (log : KeptCycles) (address : ℕ) (m now : MachineState) → p.script ≡ script → IsLoggedState p m
    → log ≡ log_of_first_read address → now ≡ logged_turn (events_at script.entries m.turn) log m
    → slice_get now.world.bus.log.told 0 ≡ first_read_at p address m.turn
first_there p script log address m now same here kind is =
    ap (λ (s : MachineState). slice_get s.world.bus.log.told 0)
    (is ∙ ap₂ (λ es s. after_turn es s) (events_of p script m.turn same)
    (same_with_log p log m here ∙ ap (λ l. state_with_log l (at p m.turn)) kind))

-- the read of the turn, by the disk or by the processor
pub read_there : (p : Past) (number turn word : ℕ) (by : Bool) (d : DiskTurn) (first : Option BusCycle) → d ≡ disk_turn_at p turn
    → is_read_by_disk number d ≡ by → word ≡ slice_index (at p turn).world.bus.core number → first ≡ first_read_at p (number * 2) turn
    → disk_or_processor_read by d.turn word first ≡ read_in p number turn
read_there p number turn word by d first is by_disk word_is first_is =
    ap (λ b. disk_or_processor_read b d.turn word first) (sym by_disk)
    ∙ ap (λ (e : DiskTurn). disk_or_processor_read (is_read_by_disk number e) e.turn word first) is
    ∙ ap₂ (λ w f. disk_or_processor_read (is_read_by_disk number (disk_turn_at p turn)) turn w f) word_is first_is

-- a read is of its turn
word_told : (t now : ℕ) (value : Option ℕ) → now ≡ t + 1
    → EndsAfter now (option_map (λ (r : WordRead). r.turn) (option_map (λ word. record { turn = t; agent = Cpu; word = word }) value))
word_told t now None next = refl
word_told t now (Some word) next = next

pub read_told : (t now : ℕ) (first : Option BusCycle) → now ≡ t + 1 → EndsAfter now (option_map (λ (r : WordRead). r.turn) (processor_read t first))
read_told t now None next = refl
read_told t now (Some cycle) next = word_told t now cycle.value next
