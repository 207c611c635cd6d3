-- A machine that goes on from a saved machine of another run, which its own run meets.
use Rattle.std.specs.Prelude.{ℕ, ◌≡◌, ◌+◌, ◌++◌, drop, length}
use Rattle.pdp_store.specs.Overlays.{first_touches_over}
use Rattle.pdp_cpu.specs.Saved.{SavedMeet, saved_machine, saved_over, state_on}
use Rattle.pdp_cpu.specs.Handbook.MachineState.{MachineWithTexts}
use Rattle.pdp_replay.specs.Past.{Past}
use Rattle.pdp_replay.specs.Run.Checkpoints.{KeepsTexts, SameInputsFrom, punched_kept_at}
use Rattle.pdp_replay.specs.Run.Checkpoints.{text_kept_at}
use Rattle.pdp_replay.specs.Run.FirstTouches.{first_touches_at}
use Rattle.pdp_replay.specs.Run.Meetings.{TouchesNoMore}
use Rattle.pdp_replay.specs.Run.States.{at, punched_at, text_at}

-- of the run of q a machine takes the bytes that come out in turn c and later, before turn n, and
-- the first touches of the turns before turn n; of those before turn c it keeps its own. Its world
-- stays.
pub record TakesTexts (c n : ℕ) (q : Past) (before after : MachineWithTexts) : Type 0 where
  pub world : after.state.world ≡ before.state.world
  pub text : after.kept_text
      ≡ before.kept_text ++ drop (length (text_at q c)) (text_kept_at q n)
  pub punched : after.kept_punched
      ≡ before.kept_punched ++ drop (length (punched_at q c)) (punched_kept_at q n)
  pub first_touches : after.first_touches
      ≡ first_touches_over c before.first_touches (first_touches_at q n)

-- a machine before turn c takes these, and is then made the saved machine of q before turn n, with
-- the stamps laid over those that it had
pub record Adopts (c n : ℕ) (q : Past) (before taking after : MachineWithTexts) : Type 0 where
  pub texts : TakesTexts c n q before taking
  pub state : after.state ≡ state_on taking (saved_over c (saved_machine before.state)
      (saved_machine (at q c)) (saved_machine (at q n)))
  pub text : after.kept_text ≡ taking.kept_text
  pub punched : after.kept_punched ≡ taking.kept_punched
  pub first_touches : after.first_touches ≡ taking.first_touches

-- if the run of p meets that of q in turn c, and the machine is in state c of the run of p with the
-- texts of p, then it is afterwards in a later state of the run of p, with the texts of p up to
-- there
abbrev pub AdoptedRunsGoOn : Type 0
AdoptedRunsGoOn =
    (p q : Past) (c d : ℕ) (before taking after : MachineWithTexts)
    → before.state ≡ at p c → KeepsTexts p c before
    → SameInputsFrom c p q → SavedMeet (saved_machine before.state) (saved_machine (at q c))
    → TouchesNoMore c p q → Adopts c (d + c) q before taking after
    → (after.state ≡ at p (d + c)) × KeepsTexts p (d + c) after
