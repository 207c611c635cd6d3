-- What a course that never touches a page of 256 words has to do with it. No rule of the handbook
-- is here.
use Rattle.std.specs.Prelude.{ℕ, ◌≡◌}
use Rattle.pdp_store.specs.declared.part.Part.{Part}
use Rattle.pdp_unibus.specs.Handbook.BusWorld.{BusWorld}
use Rattle.pdp_unibus.specs.Page.{AlikeOutside, SamePage}
use Rattle.pdp_operand.specs.Phases.Phase.{State, state_of}
use Rattle.pdp_operand.specs.Phases.Course.{Course, follow}
use Rattle.pdp_operand.specs.Laws.Trace.{trace_of}

-- the same state on another bus
abbrev pub on_bus : State → BusWorld → State
on_bus s c = state_of s.world.processor c s.latch

-- a course from this state, and from the same state on bus c: it ends in the same way on both, with
-- the same trace, and leaves each its own words of the page
pub record UndisturbedCourse (part : Part) (page : ℕ) (course : Course) (s : State)
    (c : BusWorld) : Type 0 where
  pub processor : (follow course s).world.processor ≡ (follow course (on_bus s c)).world.processor
  pub latch : (follow course s).latch ≡ (follow course (on_bus s c)).latch
  pub bus : AlikeOutside part page (follow course s).world.bus (follow course
      (on_bus s c)).world.bus
  pub trace : trace_of course s ≡ trace_of course (on_bus s c)
  pub page_of_one : SamePage part page s.world.bus (follow course s).world.bus
  pub page_of_other : SamePage part page c (follow course (on_bus s c)).world.bus
