-- The functions of the disk that are completed in some turns.
use Rattle.std.proofs.Common.{◌≡◌, ◌∙◌, ℕ, ◌+◌, ◌-◌, ◌≤◌, Bool, true, false, List, Option, None, Some, add-one, ap, ap₂, arith, if◌then◌else◌, option_map, refl, sym}
use Rattle.pdp_rk11.specs.declared.rk.Rk.{Rk}
use Rattle.pdp_unibus.specs.declared.event.Event.{Event}
use Rattle.pdp_cpu.specs.Handbook.MachineState.{MachineState}
use Rattle.pdp_cpu.specs.Handbook.TurnDisk.{disk_begun}
use Rattle.pdp_script.specs.Entries.{events_at}
use Rattle.pdp_script.specs.Script.{ScriptData}
use Rattle.pdp_replay.specs.Past.{Past}
use Rattle.pdp_replay.specs.Run.States.{at}
use Rattle.pdp_replay.specs.Ask.Backwards.{last_of_turns}
use Rattle.pdp_replay.specs.Ask.DiskCompletions.{completion_if, completion_of, disk_turn, disk_turn_at, has_completion, idle_by, is_disk_idle}
use Rattle.pdp_replay.specs.Ask.Searches.{EndsAfter}
use Rattle.pdp_replay.specs.declared.ask.disk_completions.DiskCompletion.{DiskCompletion}
use Rattle.pdp_replay.specs.declared.ask.disk_completions.DiskTurn.{DiskTurn}

-- the disk in the next turn of a machine of a run, told by a machine in the same state
pub disk_turn_there : (p : Past) (script : ScriptData) (events : List Event) (m ready : MachineState) (turn : ℕ) (before after : Rk)
    → p.script ≡ script → m ≡ at p m.turn → ready ≡ m → events ≡ events_at script.entries turn → turn ≡ ready.turn
    → before ≡ ready.world.bus.io_page.disk → after ≡ disk_begun ready.turn events ready.world
    → record { turn = turn; before = before; after = after } ≡ disk_turn_at p m.turn
disk_turn_there p script events m ready turn before after same here was happen number first second =
    told ∙ ap₂ disk_turn events_are (was ∙ here)
  where
    events_are : events ≡ events_at p.script.entries m.turn
    events_are =
        happen ∙ ap (events_at script.entries) (number ∙ ap (λ (s : MachineState). s.turn) was)
        ∙ ap (λ (s : ScriptData). events_at s.entries m.turn) (sym same)

    told : ◌≡◌ {A = DiskTurn} (record { turn = turn; before = before; after = after }) (disk_turn events ready)
    told = λ i. record { turn = number i; before = first i; after = second i }

-- a completion is of its turn
completion_is : (there : Bool) (begun : Option ℕ) (d : DiskTurn) (now : ℕ) → now ≡ d.turn + 1
    → EndsAfter now (option_map (λ c. c.turn) (completion_if there begun d))
completion_is true begun d now next = next
completion_is false begun d now next = refl

pub ends_after_completion : (begun : Option ℕ) (d : DiskTurn) (item : Option DiskCompletion) (turn now : ℕ) → item ≡ completion_of begun d
    → d.turn ≡ turn → now ≡ turn + 1 → EndsAfter now (option_map (λ c. c.turn) item)
ends_after_completion begun d item turn now is number next =
    rw is (completion_is (has_completion d) begun d now (next ∙ ap (λ t. t + 1) (sym number)))

last_next : (holds : ℕ → Bool) (first n : ℕ)
    → last_of_turns holds first (n + 1) ≡ (if holds (first + n) then Some (first + n) else last_of_turns holds first n)
unfolding last_of_turns
last_next holds first n = rw add-one refl

pub none_idle : (holds : ℕ → Bool) (first n : ℕ) → n ≡ 0 → None ≡ last_of_turns holds first n
unfolding last_of_turns
none_idle holds first n none = rw none refl

-- the last turn in which the disk did nothing, with one turn more
pub idle_next : (p : Past) (first turn now : ℕ) (begun after : Option ℕ) (d : DiskTurn) → first ≤ turn → now ≡ turn + 1 → d ≡ disk_turn_at p turn
    → begun ≡ last_of_turns (is_disk_idle p) first (turn - first) → after ≡ idle_by begun d
    → after ≡ last_of_turns (is_disk_idle p) first (now - first)
idle_next p first turn now begun after d least next is was by =
    let n : ℕ = turn - first in
    let here : turn ≡ first + n = omega (arith, least) in
    let more : n + 1 ≡ now - first = omega (arith, least, next) in
    by
    ∙ ap₂ idle_by was is
    ∙ ap (λ t. if is_disk_idle p t then Some t else last_of_turns (is_disk_idle p) first n) here
    ∙ sym (last_next (is_disk_idle p) first n)
    ∙ ap (last_of_turns (is_disk_idle p) first) more

-- and the completion in it
pub completion_there : (p : Past) (first turn : ℕ) (begun : Option ℕ) (d : DiskTurn) (item : Option DiskCompletion) → d ≡ disk_turn_at p turn
    → begun ≡ last_of_turns (is_disk_idle p) first (turn - first) → item ≡ completion_of begun d
    → item ≡ completion_of (last_of_turns (is_disk_idle p) first (turn - first)) (disk_turn_at p turn)
completion_there p first turn begun d item is was by = by ∙ ap₂ completion_of was is
