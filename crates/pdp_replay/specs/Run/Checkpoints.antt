-- What an engine keeps of a run: the bytes that came out of it, with their turns, and some of its
-- states.
use Rattle.std.specs.Prelude.{ℕ, zero, suc, ◌≡◌, ◌≤◌, ◌+◌, ◌/◌, ◌++◌, List, [], length, map}
use Rattle.std.specs.Prelude.{drop, replicate}
use Rattle.std.specs.List.{All}
use Rattle.pdp_checkpoint.specs.Formers.{FormerData}
use Rattle.pdp_checkpoint.specs.Ladder.{AreCheckpoints, LadderData}
use Rattle.pdp_checkpoint.specs.declared.checkpoint.Checkpoint.{Checkpoint}
use Rattle.pdp_cpu.specs.Saved.{saved_machine}
use Rattle.pdp_cpu.specs.KeptTexts.{without_turns}
use Rattle.pdp_cpu.specs.SavedOutput.{OutputData}
use Rattle.pdp_cpu.specs.Handbook.MachineState.{MachineWithTexts}
use Rattle.pdp_cpu.specs.Handbook.Turn.{printed_in, punched_in}
use Rattle.pdp_cpu.specs.declared.kept_text.KeptByte.{KeptByte}
use Rattle.pdp_script.specs.Entries.{events_at}
use Rattle.pdp_store.specs.FirstTouches.{never}
use Rattle.pdp_replay.specs.Run.FirstTouches.{first_touches_at}
use Rattle.pdp_replay.specs.Past.{Past}
use Rattle.pdp_replay.specs.Past.Setup.{SetupData, core_size, drive_words}
use Rattle.pdp_replay.specs.Run.States.{at, punched_at, state_at, text_at}

-- these bytes, with the turn in which they came out
abbrev pub with_turn : ℕ → List ℕ → List KeptByte
with_turn turn bytes = map (λ byte. record { byte = byte; turn = turn }) bytes

-- the bytes that were printed before turn n, with their turns
unfoldable pub text_kept_at : Past → ℕ → List KeptByte
text_kept_at p zero = []
text_kept_at p (suc n) = text_kept_at p n ++ with_turn n (printed_in n (events_at p.script.entries
    n) (state_at p n))

-- and those that were punched
unfoldable pub punched_kept_at : Past → ℕ → List KeptByte
punched_kept_at p zero = []
punched_kept_at p (suc n) = punched_kept_at p n ++ with_turn n (punched_in n
    (events_at p.script.entries n) (state_at p n))

-- the machine has what no turn changes: the tape of this setup, and the sizes of its core and its
-- stamps, and as many drives as there are, each with its words
pub record IsBuiltFrom (s : SetupData) (m : MachineWithTexts) : Type 0 where
  pub tape : m.state.world.bus.tape ≡ s.tape
  pub core : length m.state.world.bus.core ≡ core_size s
  pub stamps : length m.state.world.bus.stamps ≡ core_size s
  pub drives : map length m.state.world.bus.drives ≡ replicate s.drives drive_words

-- the machine keeps what was printed and punched before the known turn, and the first touches of
-- the turns before it
pub record KeepsTexts (p : Past) (known : ℕ) (m : MachineWithTexts) : Type 0 where
  pub text : m.kept_text ≡ text_kept_at p known
  pub punched : m.kept_punched ≡ punched_kept_at p known
  pub first_touches : m.first_touches ≡ first_touches_at p known

-- these bytes, without their turns, are what was printed and punched before the known turn
pub record ShowsTexts (p : Past) (known : ℕ) (m : MachineWithTexts) : Type 0 where
  pub text : without_turns m.kept_text ≡ text_at p known
  pub punched : without_turns m.kept_punched ≡ punched_at p known

-- the machine is in the run's state of its turn, which is not above the known one
pub record IsInRun (p : Past) (known : ℕ) (m : MachineWithTexts) : Type 0 where
  pub here : m.state ≡ at p m.state.turn
  pub reached : m.state.turn ≤ known

-- a state that is kept is the run's of its turn, which is not above the known one
pub record IsKeptState (p : Past) (known : ℕ) (c : Checkpoint) : Type 0 where
  pub saved : c.saved ≡ saved_machine (at p c.turn)
  pub within : c.turn ≤ known

-- both pasts have the same tape, and the same events in turn c and in each later turn
pub record SameInputsFrom (c : ℕ) (p q : Past) : Type 0 where
  pub tape : p.setup.tape ≡ q.setup.tape
  pub events : (t : ℕ) → c ≤ t → events_at p.script.entries t ≡ events_at q.script.entries t

-- what came out of a run up to a known turn, from some byte on, and its first touches
pub record IsOutputOf (p : Past) (known : ℕ) (o : OutputData) : Type 0 where
  pub text : o.text ≡ drop o.text_from (text_kept_at p known)
  pub punched : o.punched ≡ drop o.punched_from (punched_kept_at p known)
  pub first_touches : o.first_touches ≡ first_touches_at p known

-- the bytes that are left out at the front all came out before this state
pub record ComesAfter (o : OutputData) (c : Checkpoint) : Type 0 where
  pub text : o.text_from ≤ c.saved.text_length
  pub punched : o.punched_from ≤ c.saved.punched_length

-- a former run is that of another past, with a machine of the same size and the same tape, and with
-- the same events after the greatest turn that was edited since: its states, and what came out
pub record IsFormerOf (p : Past) (f : FormerData) : Type 0 where
  pub past : Past
  pub inputs : SameInputsFrom (f.edited + 1) p past
  pub units : past.setup.units ≡ p.setup.units
  pub drives : past.setup.drives ≡ p.setup.drives
  pub states : All (IsKeptState past f.known) f.states
  pub output : IsOutputOf past f.known f.output
  pub after : All (ComesAfter f.output) f.states
  pub small : f.known ≤ never

-- the checkpoints are those of the run at turn 0 and at each multiple of the stride up to the known
-- turn
pub record AreCheckpointsOf (p : Past) (known : ℕ) (l : LadderData) : Type 0 where
  pub states : All (λ c. c.saved ≡ saved_machine (at p c.turn)) l.kept
  pub checkpoints : AreCheckpoints l
  pub count : length l.kept ≡ known / l.stride + 1

-- they are, the states between them are the run's too, and the former runs are such
pub record AreStatesOf (p : Past) (known : ℕ) (l : LadderData) : Type 0 where
  pub states : All (λ c. c.saved ≡ saved_machine (at p c.turn)) l.kept
  pub checkpoints : AreCheckpoints l
  pub count : length l.kept ≡ known / l.stride + 1
  pub near : All (IsKeptState p known) l.near
  pub formers : All (IsFormerOf p) l.formers

-- what an engine keeps of a run up to the known turn: states, texts, and what no turn changes
pub record AreKept (p : Past) (known : ℕ) (m : MachineWithTexts) (l : LadderData) : Type 0 where
  pub states : AreStatesOf p known l
  pub texts : KeepsTexts p known m
  pub built : IsBuiltFrom p.setup m
