-- Rows of courses: of an instruction with its fetch and its traps, and of sequences. No rule of the
-- handbook is here.
use Rattle.std.specs.Prelude.{◌≡◌, ℕ, Bool, true, List, [], ◌∷◌, flat_map, Result, Ok, Err}
use Rattle.pdp_word.specs.declared.codes.Codes.{Codes}
use Rattle.pdp_action.specs.Action.{action_of}
use Rattle.pdp_action.specs.declared.trap.Trap.{Trap}
use Rattle.pdp_action.specs.declared.trap.Trap.TheVariants.{StackLimit}
use Rattle.pdp_decode.specs.declared.instruction.Instr.{Instr}
use Rattle.pdp_store.specs.CycleLogs.{KeptCycles}
use Rattle.pdp_operand.specs.Phases.Course.{caught_in, follow, go_on}
use Rattle.pdp_operand.specs.Phases.Phase.{Inner, Latch, State, Stop, inner_of, run}
use Rattle.pdp_instruction.specs.Handbook.Instruction.{fetch_instruction, instruction, note_trace}
use Rattle.pdp_instruction.specs.Handbook.TrapSequence.{saved_context_of, sequence, trap_vector}
use Rattle.pdp_instruction.specs.declared.saved_context.SavedContext.{SavedContext}
use Rattle.pdp_made.specs.Cells.{AreAlike, Data, DataCell, CoreByte, DriveByte, RegisterByte}
use Rattle.pdp_made.specs.Cells.{CodeNow, Buffer, TapeByte}
use Rattle.pdp_made.specs.Cells.{CodeSaved, EachSame, Same, data_left, data_of}
use Rattle.pdp_made.specs.Cells.{no_saved_codes, with_data}
use Rattle.pdp_made.specs.InstructionRows.{rows_of_action}
use Rattle.pdp_made.specs.OperandRows.{keeps_data}
use Rattle.pdp_made.specs.PhaseRows.{GoTheSameWay, AreSoundRows, PhaseRow, made_through}
use Rattle.pdp_made.specs.PhaseRows.{phases_in}
use Rattle.pdp_made.specs.TrapRows.{give_up_row, red_rows, trap_rows, with_saved_codes}

-- The rows of a course: those of a plan, with what follows if it goes on and if it comes to a trap;
-- or the codes of now are saved, and the rest follows.
pub data CourseRows : Type 0 where
  Finished : CourseRows
  Along : List PhaseRow → (Inner → CourseRows) → (Trap → Inner → CourseRows) → CourseRows
  Saving : CourseRows → CourseRows

abbrev pub codes_at : State → Codes
codes_at s = s.world.bus.io_page.status.codes

-- the course of these rows, to its end
unfoldable pub follow_rows : CourseRows → Codes → State → State
follow_rows Finished saved s = s
follow_rows (Along rows next caught) saved s =
    go_on (λ t. follow_rows (next (inner_of t)) saved t) (λ trap t. follow_rows (caught trap
    (inner_of t)) saved t) s.latch (run (phases_in rows saved) s)
follow_rows (Saving rest) saved s = follow_rows rest (codes_at s) s

-- at a trap the latch is as it was before the plan
abbrev pub of_lost_plan : (DataCell → List DataCell) → DataCell → List DataCell
of_lost_plan made (CoreByte k half) = made (CoreByte k half)
of_lost_plan made (DriveByte n k half) = made (DriveByte n k half)
of_lost_plan made (RegisterByte n half) = made (RegisterByte n half)
of_lost_plan made (CodeNow code) = made (CodeNow code)
of_lost_plan made (Buffer buffer) = made (Buffer buffer)
of_lost_plan made (TapeByte k) = made (TapeByte k)
of_lost_plan made (CodeSaved code) = made (CodeSaved code)
of_lost_plan made c = c ∷ []

-- what is saved are the codes of now
abbrev pub of_saved_codes : DataCell → List DataCell
of_saved_codes (CodeSaved code) = CodeNow code ∷ []
of_saved_codes c = c ∷ []

abbrev pub made_after : (State → DataCell → List DataCell)
    → (Trap → State → DataCell → List DataCell) → Latch → (DataCell → List DataCell)
    → Result State Stop → DataCell → List DataCell
made_after next caught latch first (Ok t) c = flat_map first (next t c)
made_after next caught latch first (Err stop) c = flat_map (of_lost_plan first) (caught stop.trap
    (caught_in latch stop) c)

-- of which cells before a course each cell after it is made
unfoldable pub made_along : CourseRows → Codes → State → DataCell → List DataCell
made_along Finished saved s c = c ∷ []
made_along (Along rows next caught) saved s c =
    made_after (λ t. made_along (next (inner_of t)) saved t) (λ trap t. made_along (caught trap
    (inner_of t)) saved t) s.latch (made_through rows saved s) (run (phases_in rows saved) s) c
made_along (Saving rest) saved s c = flat_map of_saved_codes (made_along rest (codes_at s) s c)

-- Two states go the same way along a course: along the phases of its plan, and along what follows.
abbrev pub NextAlike : (State → State → Type 0) → (Trap → State → State → Type 0) → Latch → Latch
    → Result State Stop → Result State Stop → Type 0
NextAlike next caught latch left (Ok t) (Ok v) = next t v
NextAlike next caught latch left (Err stop) (Err end) = caught stop.trap (caught_in latch stop)
    (caught_in left end)
NextAlike next caught latch left (Ok t) (Err end) = Unit {0}
NextAlike next caught latch left (Err stop) (Ok v) = Unit {0}

unfoldable pub GoAlong : CourseRows → Codes → Codes → State → State → Type 0
GoAlong Finished saved other s u = Unit {0}
GoAlong (Along rows next caught) saved other s u =
    GoTheSameWay rows saved other s u
    × NextAlike (λ t v. GoAlong (next (inner_of t)) saved other t v) (λ trap t v. GoAlong (caught
    trap (inner_of t)) saved other t v) s.latch u.latch (run (phases_in rows saved) s) (run
    (phases_in rows other) u)
GoAlong (Saving rest) saved other s u = GoAlong rest (codes_at s) (codes_at u) s u

-- Each row of a course is sound, and which rows follow depends on no data.
abbrev pub IsSoundCourse : CourseRows → Type 0
IsSoundCourse Finished = Unit {0}
IsSoundCourse (Along rows next caught) =
    AreSoundRows rows × ((i : Inner) → IsSoundCourse (next i)) × ((trap : Trap) (i : Inner)
    → IsSoundCourse (caught trap i)) × ((d : Data) (log : KeptCycles) (t : State) → next (inner_of
    (with_data d log t)) ≡ next (inner_of t)) × ((trap : Trap) (d : Data) (log : KeptCycles)
    (t : State) → caught trap (inner_of (with_data d log t)) ≡ caught trap (inner_of t))
IsSoundCourse (Saving rest) = IsSoundCourse rest

-- The law of courses: if the cells that `made_along` names for a cell are the same before, that
-- cell is the same after.
abbrev pub CoursesTell : Type 0
CoursesTell = (rows : CourseRows) (saved other : Codes) (s u : State) → IsSoundCourse rows
    → AreAlike saved other s u → GoAlong rows saved other s u → (c : DataCell)
    → EachSame (data_of other u) (data_of saved s) (made_along rows saved s c)
    → Same (data_left (follow_rows rows other u)) (data_left (follow_rows rows saved s)) c

-- The rows of an instruction

-- the red sequence, and what follows if it can't go on
abbrev pub red_course_rows : SavedContext → CourseRows
red_course_rows context = Along (red_rows context) (λ _. Finished) (λ _ _. Along (give_up_row
    context ∷ []) (λ _. Finished) (λ _ _. Finished))

abbrev pub sequence_rows : Bool → ℕ → SavedContext → CourseRows
sequence_rows marks vector context = Along (trap_rows marks vector context) (λ _. Finished)
    (λ _ _. red_course_rows context)

abbrev pub after_trap_rows : Trap → SavedContext → CourseRows
after_trap_rows StackLimit context = red_course_rows context
after_trap_rows trap context = sequence_rows true (trap_vector trap) context

abbrev pub trap_course_rows : Trap → Inner → CourseRows
trap_course_rows trap i = Saving (after_trap_rows trap (saved_context_of i))

abbrev pub instruction_course_rows : Instr → CourseRows
instruction_course_rows instr = Along (rows_of_action (action_of instr)) (λ _. Along (keeps_data
    (note_trace instr) ∷ []) (λ _. Finished) (λ _ _. Finished)) trap_course_rows

abbrev pub instruction_rows : CourseRows
instruction_rows = Along (keeps_data fetch_instruction ∷ []) (λ i. instruction_course_rows
    i.latch.instr) trap_course_rows

-- The rows of an instruction follow its course, and those of a sequence with saved codes follow the
-- sequence.
abbrev pub RowsFollowInstructions : Type 0
RowsFollowInstructions = (saved : Codes) (s : State)
    → follow_rows instruction_rows saved s ≡ follow instruction s

abbrev pub RowsFollowSequences : Type 0
RowsFollowSequences = (marks : Bool) (vector : ℕ) (context : SavedContext) (saved : Codes)
    (s : State) → follow_rows (sequence_rows marks vector context) saved s
    ≡ follow (sequence marks vector (with_saved_codes context saved)) s

-- The law of instructions, each with its fetch and its traps: two states are alike except for data,
-- and the instruction goes the same way from both. If the cells that its rows name for a cell are
-- the same before, that cell is the same after.
abbrev pub InstructionsTell : Type 0
InstructionsTell = (s u : State) → AreAlike no_saved_codes no_saved_codes s u
    → GoAlong instruction_rows no_saved_codes no_saved_codes s u → (c : DataCell)
    → EachSame (data_left u) (data_left s) (made_along instruction_rows no_saved_codes s c)
    → Same (data_left (follow instruction u)) (data_left (follow instruction s)) c

-- The same of the sequence of a trap or an interrupt, whose saved codes are cells too.
abbrev pub SequencesTell : Type 0
SequencesTell = (marks : Bool) (vector : ℕ) (context : SavedContext) (saved other : Codes)
    (s u : State) → AreAlike saved other s u
    → GoAlong (sequence_rows marks vector context) saved other s u → (c : DataCell)
    → EachSame (data_of other u) (data_of saved s) (made_along (sequence_rows marks vector
    context) saved s c)
    → Same (data_left (follow (sequence marks vector (with_saved_codes context other)) u))
    (data_left (follow (sequence marks vector (with_saved_codes context saved)) s)) c
