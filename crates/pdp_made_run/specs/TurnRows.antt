-- Rows of a turn [P].
use Rattle.std.specs.Prelude.{ℕ, Bool, true, false, List, [], ◌∷◌, flat_map}
use Rattle.pdp_io_page.specs.Handbook.Source.{vector_of}
use Rattle.pdp_unibus.specs.declared.event.Event.{Event}
use Rattle.pdp_operand.specs.Phases.Phase.{Phase, inner_of}
use Rattle.pdp_operand.specs.Phases.World.{World}
use Rattle.pdp_instruction.specs.Handbook.TrapSequence.{saved_context_of}
use Rattle.pdp_cpu.specs.Handbook.Due.{due_of, serve, take_stack, take_trace}
use Rattle.pdp_cpu.specs.Handbook.Turn.{at_turn, one_turn}
use Rattle.pdp_cpu.specs.declared.due.Due.{Due}
use Rattle.pdp_cpu.specs.declared.due.Due.TheVariants as due
use Rattle.pdp_made.specs.Cells.{Data, DataCell, Same, data_at, no_saved_codes}
use Rattle.pdp_made.specs.CourseRows.{CourseRows, Finished, Along, Saving, GoAlong}
use Rattle.pdp_made.specs.CourseRows.{instruction_rows, made_along, sequence_rows}
use Rattle.pdp_made.specs.OperandRows.{keeps_data}
use Rattle.pdp_made_run.specs.BeginningRows.{BeginAlike, made_in_beginning}
use Rattle.pdp_made_run.specs.Origins.{EachOrigin, Events, Origin}

-- what is served goes first, which changes no data, and the codes of now are saved
abbrev pub serving_rows : Phase → Bool → ℕ → CourseRows
serving_rows taken marks vector = Along (keeps_data taken ∷ []) (λ i. Saving (sequence_rows marks
    vector (saved_context_of i))) (λ _ _. Finished)

-- the rows of what is due: those of an instruction, of a sequence with its vector, or none
abbrev pub rows_of_due : Due → CourseRows
rows_of_due due.Instruction = instruction_rows
rows_of_due due.TraceTrap = serving_rows take_trace true 0o14
rows_of_due due.StackTrap = serving_rows take_stack false 0o4
rows_of_due (due.Interrupt source) = serving_rows (serve source) true (vector_of source)
rows_of_due due.Nothing = Finished

-- the rows of the act of turn t
abbrev pub rows_of_turn : ℕ → List Event → World → CourseRows
rows_of_turn t events w = rows_of_due (due_of (inner_of (at_turn t events w)))

-- of what turn t makes each cell: back through its act, and then through its beginning
unfoldable pub made_in_turn : ℕ → List Event → World → DataCell → List Origin
made_in_turn t events w c = flat_map (made_in_beginning t events w.bus) (made_along (rows_of_turn t
    events w) no_saved_codes (at_turn t events w) c)

-- Turn t goes the same way in two worlds: its beginning does, and then its act.
pub record TurnsAlike (t : ℕ) (es fs : List Event) (w v : World) : Type 0 where
  pub begin : BeginAlike t es fs w v
  pub act : GoAlong (rows_of_turn t es w) no_saved_codes no_saved_codes (at_turn t es w)
      (at_turn t fs v)

-- the data of a world between two turns
abbrev pub data_in : World → Data
data_in w = data_at no_saved_codes w

-- The law of a turn: it goes the same way in two worlds. If the origins that `made_in_turn` names
-- for a cell are the same, that cell is the same after the turn.
abbrev pub TurnsTell : Type 0
TurnsTell = (t : ℕ) (given other : Events) (w v : World) → TurnsAlike t (given t) (other t) w v
    → (c : DataCell) → EachOrigin other given (data_in v) (data_in w) (made_in_turn t
    (given t) w c)
    → Same (data_in (one_turn t (other t) v)) (data_in (one_turn t (given t) w)) c
