-- Two runs that meet: their states are equal except for stamps, and their events from then on.
use Rattle.std.specs.Prelude.{ℕ, ◌≡◌, ◌≤◌, ◌+◌, ◌++◌, drop, length}
use Rattle.pdp_store.specs.Overlays.{first_touches_over, stamps_over}
use Rattle.pdp_operand.specs.Phases.World.{World}
use Rattle.pdp_cpu.specs.Handbook.MachineState.{world_with_stamps}
use Rattle.pdp_script.specs.Entries.{events_at}
use Rattle.pdp_replay.specs.Past.{Past}
use Rattle.pdp_replay.specs.Run.FirstTouches.{first_touches_at, trace_of_turn}
use Rattle.pdp_replay.specs.Run.States.{punched_at, state_at, text_at}

-- state c of the run of p is that of the run of q, except for the last stamps of core, of which
-- there are as many; and both scripts have the same events in turn c and in each later turn. What
-- was printed or punched before turn c may differ, and so may the setups.
pub record MeetAt (c : ℕ) (p q : Past) : Type 0 where
  pub world_is : state_at p c ≡ world_with_stamps (state_at q c) (state_at p c).bus.stamps
  pub size : length (state_at p c).bus.stamps ≡ length (state_at q c).bus.stamps
  pub events : (t : ℕ) → c ≤ t → events_at p.script.entries t ≡ events_at q.script.entries t

-- this world, with those of its last stamps that are of turn c or of a later turn laid over the
-- stamps of another world
abbrev pub world_over : ℕ → World → World → World
world_over c under w = world_with_stamps w (stamps_over c under.bus.stamps w.bus.stamps)

-- d turns after turn c the run of p is that of q: in state d + c all is equal except stamps, and of
-- these the later ones too; turn d + c has the same accesses; and to what had come out in the run
-- of p before turn c both have added the same bytes
pub record StaysEqual (c d : ℕ) (p q : Past) : Type 0 where
  pub world_is : state_at p (d + c) ≡ world_over c (state_at p c) (state_at q (d + c))
  pub trace : trace_of_turn p (d + c) ≡ trace_of_turn q (d + c)
  pub text : text_at p (d + c) ≡ text_at p c ++ drop (length (text_at q c)) (text_at q (d + c))
  pub punched : punched_at p (d + c)
      ≡ punched_at p c ++ drop (length (punched_at q c)) (punched_at q (d + c))

-- two runs that meet stay equal
abbrev pub EqualStaysEqual : Type 0
EqualStaysEqual = (p q : Past) (c d : ℕ) → MeetAt c p q → StaysEqual c d p q

-- each page that the run of q touches before turn c, the run of p touches before turn c too
abbrev pub TouchesNoMore : ℕ → Past → Past → Type 0
TouchesNoMore c p q =
    first_touches_over c (first_touches_at p c) (first_touches_at q c) ≡ first_touches_at p c

-- then the first touches of p at each later turn are its own before turn c, and those of q
-- otherwise
abbrev pub FirstTouchesAreTaken : Type 0
FirstTouchesAreTaken =
    (p q : Past) (c d : ℕ) → MeetAt c p q → TouchesNoMore c p q
    → first_touches_at p (d + c)
    ≡ first_touches_over c (first_touches_at p c) (first_touches_at q (d + c))

-- and they meet again at each later turn, so that one comparison of states is enough
abbrev pub MeetAgain : Type 0
MeetAgain = (p q : Past) (c d : ℕ) → MeetAt c p q → MeetAt (d + c) p q

abbrev pub TouchesNoMoreAgain : Type 0
TouchesNoMoreAgain =
    (p q : Past) (c d : ℕ) → MeetAt c p q → TouchesNoMore c p q → TouchesNoMore (d + c) p q
