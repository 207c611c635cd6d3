-- What was noted of plans that follow one another: of an instruction, and of a sequence. No rule of
-- the handbook is here.
use Rattle.std.specs.Prelude.{◌≡◌, ℕ, Bool, true, false, List, [], ◌∷◌, Result, Ok, Err}
use Rattle.std.specs.Prelude.{flat_map}
use Rattle.pdp_action.specs.declared.trap.Trap.{Trap}
use Rattle.pdp_io_page.specs.Handbook.Status.{status_word}
use Rattle.pdp_operand.specs.Phases.Phase.{Phase, State, run, stop_at}
use Rattle.pdp_instruction.specs.declared.saved_context.SavedContext.{SavedContext}
use Rattle.pdp_made.specs.Cells.{DataCell}
use Rattle.pdp_made.specs.CourseRows.{CourseRows, follow_rows, made_along, of_lost_plan}
use Rattle.pdp_made.specs.CourseRows.{of_saved_codes}
use Rattle.pdp_word.specs.declared.codes.Codes.{Codes}
use Rattle.pdp_steps.specs.declared.step.Microstep.{Microstep}
use Rattle.pdp_steps.specs.declared.step.Microstep.TheVariants as step
use Rattle.pdp_steps.specs.declared.trap_step.TrapStep.TheVariants as trapping
use Rattle.pdp_moves.specs.Moves.{sources_before}
use Rattle.pdp_moves.specs.PlanRows.{moves_noted}
use Rattle.pdp_moves.specs.declared.noted_act.NotedAct.{NotedAct}
use Rattle.pdp_moves.specs.declared.noted_plan.NotedPlan.{NotedPlan}
use Rattle.pdp_moves.specs.declared.noted_sequence.NotedSequence.{NotedSequence}

-- Phases end here: they go on to a state, or come to a trap, after which the latch is as it was
-- before them.
abbrev pub EndAt : List Phase → State → Result (Unit {0}) Trap → State → Type 0
EndAt phases s (Ok x) t = run phases s ≡ Ok t
EndAt phases s (Err trap) t = (run phases s ≡ Err (stop_at trap t.world)) × (t.latch ≡ s.latch)

abbrev pub is_trap : Result (Unit {0}) Trap → Bool
is_trap (Ok x) = false
is_trap (Err trap) = true

-- of which cells before a plan each cell after it is made: a trap loses what its steps handed on
abbrev pub lost_if : Bool → (DataCell → List DataCell) → DataCell → List DataCell
lost_if true made c = of_lost_plan made c
lost_if false made c = made c

abbrev pub sources_of_plan : NotedPlan → DataCell → List DataCell
sources_of_plan plan c = lost_if plan.is_lost (sources_before (moves_noted plan.steps.items)) c

-- the same of a sequence, which may become red
abbrev pub sources_of_red : NotedSequence → DataCell → List DataCell
sources_of_red noted c = flat_map (sources_of_plan noted.red) (sources_of_plan noted.halt c)

abbrev pub sources_of_sequence : NotedSequence → DataCell → List DataCell
sources_of_sequence noted c = flat_map (sources_of_plan noted.first) (sources_of_red noted c)

-- and of an act: before a sequence the codes are saved
abbrev pub saved_if : Bool → DataCell → List DataCell
saved_if true c = of_saved_codes c
saved_if false c = c ∷ []

abbrev pub sources_of_trap : NotedAct → DataCell → List DataCell
sources_of_trap act c = flat_map (saved_if act.saves_codes) (sources_of_sequence act.sequence c)

abbrev pub sources_of_act : NotedAct → DataCell → List DataCell
sources_of_act act c = flat_map (sources_of_plan act.plan) (sources_of_trap act c)

-- A course was run from one state to another, and these are the sources of each cell.
pub record IsNoted (rows : CourseRows) (saved : Codes) (s t : State)
    (sources : DataCell → List DataCell) : Type 0 where
  pub follows : follow_rows rows saved s ≡ t
  pub made : (c : DataCell) → sources c ≡ made_along rows saved s c

-- the steps of a sequence, and those of the red sequence: step 3 writes the program status word
abbrev pub steps_of_sequence : Bool → ℕ → SavedContext → List Microstep
steps_of_sequence marks vector context =
    step.Trap (trapping.ReadCounter vector) ∷ step.Trap (trapping.ReadStatus vector)
    ∷ step.Trap trapping.LowerStack
    ∷ step.Trap (trapping.PutWord marks (status_word context.status))
    ∷ step.Trap trapping.LowerStack ∷ step.Trap (trapping.PutWord marks context.counter)
    ∷ step.Trap (trapping.Enter context) ∷ []

abbrev pub steps_of_red : SavedContext → List Microstep
steps_of_red context =
    step.Trap trapping.BareStack ∷ step.Trap (trapping.ReadCounter 4)
    ∷ step.Trap (trapping.ReadStatus 4)
    ∷ step.Trap (trapping.Save 2 (status_word context.status))
    ∷ step.Trap (trapping.Save 0 context.counter) ∷ step.Trap (trapping.EnterRed context) ∷ []
