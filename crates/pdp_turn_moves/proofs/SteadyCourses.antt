-- What a course of steady rows makes of what depends on no notes of accesses and on no log.
use Rattle.std.proofs.Common.{◌≡◌, ◌∙◌, ℕ, Bool, true, List, [], ◌∷◌, flat_map, Ok, Err, Result, refl, ap}
use Rattle.pdp_word.specs.declared.codes.Codes.{Codes}
use Rattle.pdp_action.specs.Action.{action_of}
use Rattle.pdp_action.specs.declared.trap.Trap.{Trap}
use Rattle.pdp_action.specs.declared.trap.Trap.TheVariants.{StackLimit, OddAddress, MappingAbort, BusTimeout, Reserved, JumpToRegister, Breakpoint, InputOutput, Emulator, TrapInstruction}
use Rattle.pdp_operand.specs.Phases.Course.{caught_in}
use Rattle.pdp_operand.specs.Phases.Phase.{Inner, Latch, State, Stop, inner_of, run, step}
use Rattle.pdp_instruction.specs.Handbook.TrapSequence.{saved_context_of, trap_vector}
use Rattle.pdp_instruction.specs.declared.saved_context.SavedContext.{SavedContext}
use Rattle.pdp_made.specs.Cells.{DataCell}
use Rattle.pdp_made.specs.CourseRows.{CourseRows, Finished, Along, Saving, codes_at, instruction_rows, made_after, made_along, of_lost_plan, of_saved_codes}
use Rattle.pdp_made.specs.CourseRows.{red_course_rows, sequence_rows, trap_course_rows}
use Rattle.pdp_made.specs.PhaseRows.{PhaseRow, made_next, made_through, phases_in}
use Rattle.pdp_turn_moves.proofs.Noted.{LeavesOutcome, Notes, noted_run, noted_step, noting}
use Rattle.pdp_turn_moves.proofs.SteadyRows.{AreSteadyRows, red_steady, rows_steady, trap_steady}

-- Rows one after the other
module _ (rows : List PhaseRow) (saved : Codes) (rest : (t : State) (n : Notes) (c : DataCell) → made_through rows saved (noting t n) c ≡ made_through rows saved t c) where
  next_steady : (first noted : DataCell → List DataCell) → ((c : DataCell) → noted c ≡ first c) → (one other : Result State Stop) → LeavesOutcome one other → (c : DataCell)
      → made_next (λ t. made_through rows saved t) noted other c ≡ made_next (λ t. made_through rows saved t) first one c
  next_steady first noted same (Ok t) other so c =
      ap (λ r. made_next (λ u. made_through rows saved u) noted r c) so.is
      ∙ ap (λ made. flat_map made (made_through rows saved (noting t so.left) c)) (λ i d. same d i)
      ∙ ap (flat_map first) (rest t so.left c)
  next_steady first noted same (Err stop) other so c = ap (λ r. made_next (λ u. made_through rows saved u) noted r c) so.is

through_steady : (rows : List PhaseRow) → AreSteadyRows rows → (saved : Codes) (s : State) (n : Notes) (c : DataCell) → made_through rows saved (noting s n) c ≡ made_through rows saved s c
unfolding made_through
through_steady [] steady saved s n c = refl
through_steady (row ∷ rows) steady saved s n c =
    next_steady rows saved (λ t left d. through_steady rows steady.1 saved t left d) (row.made s) (row.made (noting s n)) (λ d. steady.0 s n d)
    (step (row.phase saved) s) (step (row.phase saved) (noting s n)) (noted_step (row.phase saved) s n) c

-- A course is steady if each of its rows is.
abbrev pub IsSteadyCourse : CourseRows → Type 0
IsSteadyCourse Finished = Unit {0}
IsSteadyCourse (Along rows next caught) = AreSteadyRows rows × ((i : Inner) → IsSteadyCourse (next i)) × ((trap : Trap) (i : Inner) → IsSteadyCourse (caught trap i))
IsSteadyCourse (Saving rest) = IsSteadyCourse rest

module _ (next : State → DataCell → List DataCell) (caught : Trap → State → DataCell → List DataCell)
    (next_same : (t : State) (n : Notes) (c : DataCell) → next (noting t n) c ≡ next t c)
    (caught_same : (trap : Trap) (t : State) (n : Notes) (c : DataCell) → caught trap (noting t n) c ≡ caught trap t c) where
  after_steady : (latch : Latch) (first noted : DataCell → List DataCell) → ((c : DataCell) → noted c ≡ first c) → (one other : Result State Stop) → LeavesOutcome one other → (c : DataCell)
      → made_after next caught latch noted other c ≡ made_after next caught latch first one c
  after_steady latch first noted same (Ok t) other so c =
      ap (λ r. made_after next caught latch noted r c) so.is
      ∙ ap (λ made. flat_map made (next (noting t so.left) c)) (λ i d. same d i)
      ∙ ap (flat_map first) (next_same t so.left c)
  after_steady latch first noted same (Err stop) other so c =
      ap (λ r. made_after next caught latch noted r c) so.is
      ∙ ap (λ made. flat_map (of_lost_plan made) (caught stop.trap (noting (caught_in latch stop) so.left) c)) (λ i d. same d i)
      ∙ ap (flat_map (of_lost_plan first)) (caught_same stop.trap (caught_in latch stop) so.left c)

pub along_steady : (rows : CourseRows) → IsSteadyCourse rows → (saved : Codes) (s : State) (n : Notes) (c : DataCell) → made_along rows saved (noting s n) c ≡ made_along rows saved s c
unfolding made_along
along_steady Finished steady saved s n c = refl
along_steady (Along rows next caught) steady saved s n c =
    after_steady (λ t. made_along (next (inner_of t)) saved t) (λ trap t. made_along (caught trap (inner_of t)) saved t)
    (λ t left d. along_steady (next (inner_of t)) (steady.1 (inner_of t)) saved t left d)
    (λ trap t left d. along_steady (caught trap (inner_of t)) (steady.2 trap (inner_of t)) saved t left d)
    s.latch (made_through rows saved s) (made_through rows saved (noting s n)) (λ d. through_steady rows steady.0 saved s n d)
    (run (phases_in rows saved) s) (run (phases_in rows saved) (noting s n)) (noted_run (phases_in rows saved) s n) c
along_steady (Saving rest) steady saved s n c = ap (flat_map of_saved_codes) (along_steady rest steady (codes_at s) s n c)

-- Sequences and instructions
red_course_steady : (context : SavedContext) → IsSteadyCourse (red_course_rows context)
red_course_steady context = (red_steady context, λ i. tt, λ trap i. ((λ s n c. refl, tt), λ j. tt, λ other j. tt))

pub sequence_steady : (marks : Bool) (vector : ℕ) (context : SavedContext) → IsSteadyCourse (sequence_rows marks vector context)
sequence_steady marks vector context = (trap_steady marks vector context, λ i. tt, λ trap i. red_course_steady context)

trap_course_steady : (trap : Trap) (i : Inner) → IsSteadyCourse (trap_course_rows trap i)
trap_course_steady StackLimit i = red_course_steady (saved_context_of i)
trap_course_steady OddAddress i = sequence_steady true (trap_vector OddAddress) (saved_context_of i)
trap_course_steady MappingAbort i = sequence_steady true (trap_vector MappingAbort) (saved_context_of i)
trap_course_steady BusTimeout i = sequence_steady true (trap_vector BusTimeout) (saved_context_of i)
trap_course_steady Reserved i = sequence_steady true (trap_vector Reserved) (saved_context_of i)
trap_course_steady JumpToRegister i = sequence_steady true (trap_vector JumpToRegister) (saved_context_of i)
trap_course_steady Breakpoint i = sequence_steady true (trap_vector Breakpoint) (saved_context_of i)
trap_course_steady InputOutput i = sequence_steady true (trap_vector InputOutput) (saved_context_of i)
trap_course_steady Emulator i = sequence_steady true (trap_vector Emulator) (saved_context_of i)
trap_course_steady TrapInstruction i = sequence_steady true (trap_vector TrapInstruction) (saved_context_of i)

pub instruction_steady : IsSteadyCourse instruction_rows
instruction_steady = ((λ s n c. refl, tt), λ i. (rows_steady (action_of i.latch.instr), λ j. ((λ s n c. refl, tt), λ k. tt, λ trap k. tt), trap_course_steady), trap_course_steady)
