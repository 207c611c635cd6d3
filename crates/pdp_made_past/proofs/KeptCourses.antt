-- What a course of rows leaves, by the cycles of its phases; and that a log is told of these cycles.
use Rattle.std.proofs.Common.{◌≡◌, ◌∙◌, ℕ, ◌*◌, ◌<◌, Bool, true, List, [], ◌∷◌, ◌++◌, Ok, Err, Result, flat_map, refl, ap}
use Rattle.pdp_word.specs.Physical.{first_register}
use Rattle.pdp_word.specs.declared.codes.Codes.{Codes}
use Rattle.pdp_action.specs.Action.{action_of}
use Rattle.pdp_action.specs.declared.trap.Trap.{Trap}
use Rattle.pdp_action.specs.declared.trap.Trap.TheVariants.{StackLimit, OddAddress, MappingAbort, BusTimeout, Reserved, JumpToRegister, Breakpoint, InputOutput, Emulator, TrapInstruction}
use Rattle.pdp_store.specs.declared.cycle_log.BusCycle.{BusCycle}
use Rattle.pdp_operand.specs.Phases.Course.{caught_in}
use Rattle.pdp_operand.specs.Phases.Phase.{Inner, Latch, State, Stop, inner_of, run, step}
use Rattle.pdp_instruction.specs.Handbook.TrapSequence.{saved_context_of, trap_vector}
use Rattle.pdp_instruction.specs.declared.saved_context.SavedContext.{SavedContext}
use Rattle.pdp_made.specs.Cells.{Half, DataCell, CoreByte, DriveByte, TapeByte}
use Rattle.pdp_made.specs.CourseRows.{CourseRows, Finished, Along, Saving, codes_at, instruction_rows, made_after, made_along, of_lost_plan, of_saved_codes}
use Rattle.pdp_made.specs.CourseRows.{red_course_rows, sequence_rows, trap_course_rows}
use Rattle.pdp_made.specs.PhaseRows.{PhaseRow, made_next, made_through, phases_in}
use Rattle.pdp_made_past.proofs.RowCycles.{Spares, cycles_of_phase, left_by, spares_split}
use Rattle.pdp_made_past.proofs.KeptRows.{AllLeave, gives_up, keeps, red_leave, rows_leave, trap_leave}

-- The cycles of rows one after the other, and of a course
abbrev pub next_cycles : (State → List BusCycle) → Result State Stop → List BusCycle
next_cycles rest (Ok t) = rest t
next_cycles rest (Err stop) = []

unfoldable pub cycles_through : List PhaseRow → Codes → State → List BusCycle
cycles_through [] saved s = []
cycles_through (row ∷ rows) saved s = cycles_of_phase (row.phase saved) s ++ next_cycles (λ t. cycles_through rows saved t) (step (row.phase saved) s)

abbrev pub cycles_after : (State → List BusCycle) → (Trap → State → List BusCycle) → Latch → Result State Stop → List BusCycle
cycles_after next caught latch (Ok t) = next t
cycles_after next caught latch (Err stop) = caught stop.trap (caught_in latch stop)

unfoldable pub cycles_along : CourseRows → Codes → State → List BusCycle
cycles_along Finished saved s = []
cycles_along (Along rows next caught) saved s =
    cycles_through rows saved s
    ++ cycles_after (λ t. cycles_along (next (inner_of t)) saved t) (λ trap t. cycles_along (caught trap (inner_of t)) saved t) s.latch (run (phases_in rows saved) s)
cycles_along (Saving rest) saved s = cycles_along rest (codes_at s) s

-- what a cell is made of in two steps that leave it
left_twice : (first : DataCell → List DataCell) (cells : List DataCell) (c : DataCell) → cells ≡ c ∷ [] → first c ≡ c ∷ [] → flat_map first cells ≡ c ∷ []
left_twice first cells c then before = ap (flat_map first) then ∙ ap (λ (xs : List DataCell). xs ++ []) before

-- A word that no cycle wrote
module _ (k : ℕ) (half : Half) (below : k * 2 < first_register) where
  abbrev word : DataCell
  word = CoreByte k half

  through_next : (made : DataCell → List DataCell) (rest : State → DataCell → List DataCell) (cycles : State → List BusCycle) (one : Result State Stop)
      → left_by made one word ≡ word ∷ [] → Spares (next_cycles cycles one) k half → ((t : State) → Spares (cycles t) k half → rest t word ≡ word ∷ [])
      → made_next rest made one word ≡ word ∷ []
  through_next made rest cycles (Ok t) first spares then = left_twice made (rest t word) word (then t spares) first
  through_next made rest cycles (Err stop) first spares then = refl

  through_left : (rows : List PhaseRow) → AllLeave rows → (saved : Codes) (s : State) → Spares (cycles_through rows saved s) k half → made_through rows saved s word ≡ word ∷ []
  unfolding made_through cycles_through
  through_left [] leave saved s spares = refl
  through_left (row ∷ rows) leave saved s spares =
      let both = spares_split (cycles_of_phase (row.phase saved) s) (next_cycles (λ t. cycles_through rows saved t) (step (row.phase saved) s)) k half spares in
      through_next (row.made s) (λ t. made_through rows saved t) (λ t. cycles_through rows saved t) (step (row.phase saved) s)
      (leave.0.core saved s k half below both.0) both.1 (λ t rest. through_left rows leave.1 saved t rest)

  along_next : (first : DataCell → List DataCell) (next : State → DataCell → List DataCell) (caught : Trap → State → DataCell → List DataCell)
      (cycles : State → List BusCycle) (trapped : Trap → State → List BusCycle) (latch : Latch) (one : Result State Stop)
      → first word ≡ word ∷ [] → Spares (cycles_after cycles trapped latch one) k half
      → ((t : State) → Spares (cycles t) k half → next t word ≡ word ∷ [])
      → ((trap : Trap) (t : State) → Spares (trapped trap t) k half → caught trap t word ≡ word ∷ [])
      → made_after next caught latch first one word ≡ word ∷ []
  along_next first next caught cycles trapped latch (Ok t) before spares goes_on catches = left_twice first (next t word) word (goes_on t spares) before
  along_next first next caught cycles trapped latch (Err stop) before spares goes_on catches =
      left_twice (of_lost_plan first) (caught stop.trap (caught_in latch stop) word) word (catches stop.trap (caught_in latch stop) spares) before

-- The rows of a course leave the cells.
abbrev pub CourseLeaves : CourseRows → Type 0
CourseLeaves Finished = Unit {0}
CourseLeaves (Along rows next caught) = AllLeave rows × ((i : Inner) → CourseLeaves (next i)) × ((trap : Trap) (i : Inner) → CourseLeaves (caught trap i))
CourseLeaves (Saving rest) = CourseLeaves rest

pub word_left : (k : ℕ) (half : Half) → k * 2 < first_register → (rows : CourseRows) → CourseLeaves rows → (saved : Codes) (s : State)
    → Spares (cycles_along rows saved s) k half → made_along rows saved s (CoreByte k half) ≡ CoreByte k half ∷ []
unfolding made_along cycles_along
word_left k half below Finished leave saved s spares = refl
word_left k half below (Along rows next caught) leave saved s spares =
    let both = spares_split (cycles_through rows saved s)
    (cycles_after (λ t. cycles_along (next (inner_of t)) saved t) (λ trap t. cycles_along (caught trap (inner_of t)) saved t) s.latch (run (phases_in rows saved) s)) k half spares in
    along_next k half below (made_through rows saved s) (λ t. made_along (next (inner_of t)) saved t) (λ trap t. made_along (caught trap (inner_of t)) saved t)
    (λ t. cycles_along (next (inner_of t)) saved t) (λ trap t. cycles_along (caught trap (inner_of t)) saved t) s.latch (run (phases_in rows saved) s)
    (through_left k half below rows leave.0 saved s both.0) both.1
    (λ t rest. word_left k half below (next (inner_of t)) (leave.1 (inner_of t)) saved t rest)
    (λ trap t rest. word_left k half below (caught trap (inner_of t)) (leave.2 trap (inner_of t)) saved t rest)
word_left k half below (Saving rest) leave saved s spares =
    left_twice of_saved_codes (made_along rest (codes_at s) s (CoreByte k half)) (CoreByte k half) (word_left k half below rest leave (codes_at s) s spares) refl

-- A cell that every row leaves
abbrev IsLeft : DataCell → List PhaseRow → Type 0
IsLeft c [] = Unit {0}
IsLeft c (row ∷ rows) = ((s : State) → row.made s c ≡ c ∷ []) × IsLeft c rows

module _ (c : DataCell) where
  next_left : (made : DataCell → List DataCell) (rest : State → DataCell → List DataCell) (one : Result State Stop) → made c ≡ c ∷ [] → ((t : State) → rest t c ≡ c ∷ [])
      → made_next rest made one c ≡ c ∷ []
  next_left made rest (Ok t) first then = left_twice made (rest t c) c (then t) first
  next_left made rest (Err stop) first then = refl

  all_through : (rows : List PhaseRow) → IsLeft c rows → (saved : Codes) (s : State) → made_through rows saved s c ≡ c ∷ []
  unfolding made_through
  all_through [] left saved s = refl
  all_through (row ∷ rows) left saved s = next_left (row.made s) (λ t. made_through rows saved t) (step (row.phase saved) s) (left.0 s) (λ t. all_through rows left.1 saved t)

  module _ (of_rows : (rows : List PhaseRow) → AllLeave rows → IsLeft c rows) (not_lost : (made : DataCell → List DataCell) → of_lost_plan made c ≡ made c) (not_saved : of_saved_codes c ≡ c ∷ []) where
    after_left : (first : DataCell → List DataCell) (next : State → DataCell → List DataCell) (caught : Trap → State → DataCell → List DataCell) (latch : Latch) (one : Result State Stop)
        → first c ≡ c ∷ [] → ((t : State) → next t c ≡ c ∷ []) → ((trap : Trap) (t : State) → caught trap t c ≡ c ∷ []) → made_after next caught latch first one c ≡ c ∷ []
    after_left first next caught latch (Ok t) before goes_on catches = left_twice first (next t c) c (goes_on t) before
    after_left first next caught latch (Err stop) before goes_on catches =
        left_twice (of_lost_plan first) (caught stop.trap (caught_in latch stop) c) c (catches stop.trap (caught_in latch stop)) (not_lost first ∙ before)

    all_along : (rows : CourseRows) → CourseLeaves rows → (saved : Codes) (s : State) → made_along rows saved s c ≡ c ∷ []
    unfolding made_along
    all_along Finished leave saved s = refl
    all_along (Along rows next caught) leave saved s =
        after_left (made_through rows saved s) (λ t. made_along (next (inner_of t)) saved t) (λ trap t. made_along (caught trap (inner_of t)) saved t) s.latch (run (phases_in rows saved) s)
        (all_through rows (of_rows rows leave.0) saved s)
        (λ t. all_along (next (inner_of t)) (leave.1 (inner_of t)) saved t)
        (λ trap t. all_along (caught trap (inner_of t)) (leave.2 trap (inner_of t)) saved t)
    all_along (Saving rest) leave saved s =
        left_twice of_saved_codes (made_along rest (codes_at s) s c) c (all_along rest leave (codes_at s) s) not_saved

drives_of : (drive k : ℕ) (half : Half) (rows : List PhaseRow) → AllLeave rows → IsLeft (DriveByte drive k half) rows
drives_of drive k half [] leave = tt
drives_of drive k half (row ∷ rows) leave = (λ s. leave.0.drives s drive k half, drives_of drive k half rows leave.1)

tape_of : (k : ℕ) (rows : List PhaseRow) → AllLeave rows → IsLeft (TapeByte k) rows
tape_of k [] leave = tt
tape_of k (row ∷ rows) leave = (λ s. leave.0.tape s k, tape_of k rows leave.1)

pub drive_left : (drive k : ℕ) (half : Half) (rows : CourseRows) → CourseLeaves rows → (saved : Codes) (s : State) → made_along rows saved s (DriveByte drive k half) ≡ DriveByte drive k half ∷ []
drive_left drive k half rows leave saved s = all_along (DriveByte drive k half) (drives_of drive k half) (λ made. refl) refl rows leave saved s

pub tape_left : (k : ℕ) (rows : CourseRows) → CourseLeaves rows → (saved : Codes) (s : State) → made_along rows saved s (TapeByte k) ≡ TapeByte k ∷ []
tape_left k rows leave saved s = all_along (TapeByte k) (tape_of k) (λ made. refl) refl rows leave saved s

-- Sequences and instructions
red_course_leaves : (context : SavedContext) → CourseLeaves (red_course_rows context)
red_course_leaves context = (red_leave context, λ i. tt, λ trap i. ((gives_up context, tt), λ j. tt, λ other j. tt))

pub sequence_leaves : (marks : Bool) (vector : ℕ) (context : SavedContext) → CourseLeaves (sequence_rows marks vector context)
sequence_leaves marks vector context = (trap_leave marks vector context, λ i. tt, λ trap i. red_course_leaves context)

trap_course_leaves : (trap : Trap) (i : Inner) → CourseLeaves (trap_course_rows trap i)
trap_course_leaves StackLimit i = red_course_leaves (saved_context_of i)
trap_course_leaves OddAddress i = sequence_leaves true (trap_vector OddAddress) (saved_context_of i)
trap_course_leaves MappingAbort i = sequence_leaves true (trap_vector MappingAbort) (saved_context_of i)
trap_course_leaves BusTimeout i = sequence_leaves true (trap_vector BusTimeout) (saved_context_of i)
trap_course_leaves Reserved i = sequence_leaves true (trap_vector Reserved) (saved_context_of i)
trap_course_leaves JumpToRegister i = sequence_leaves true (trap_vector JumpToRegister) (saved_context_of i)
trap_course_leaves Breakpoint i = sequence_leaves true (trap_vector Breakpoint) (saved_context_of i)
trap_course_leaves InputOutput i = sequence_leaves true (trap_vector InputOutput) (saved_context_of i)
trap_course_leaves Emulator i = sequence_leaves true (trap_vector Emulator) (saved_context_of i)
trap_course_leaves TrapInstruction i = sequence_leaves true (trap_vector TrapInstruction) (saved_context_of i)

pub instruction_leaves : CourseLeaves instruction_rows
instruction_leaves = ((keeps _, tt), λ i. (rows_leave (action_of i.latch.instr), λ j. ((keeps _, tt), λ k. tt, λ trap k. tt), trap_course_leaves), trap_course_leaves)
