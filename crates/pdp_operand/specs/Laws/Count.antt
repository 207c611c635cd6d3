-- How many phases run. One that stops is counted too, and is the last of its plan. No rule of the
-- handbook is here.
use Rattle.std.specs.Prelude.{ℕ, ◌+◌, List, [], ◌∷◌, Result, Ok, Err}
use Rattle.pdp_operand.specs.Phases.Phase.{Phase, State, Stop, Latch, step, inner_of}
use Rattle.pdp_operand.specs.Phases.Plan.{phases_of, run_plan}
use Rattle.pdp_operand.specs.Phases.Course.{Course, End, Go, caught_in}
use Rattle.pdp_action.specs.declared.trap.Trap.{Trap}

abbrev pub counted_next : (State → ℕ) → Result State Stop → ℕ
counted_next next (Ok t) = next t
counted_next next (Err stop) = 0

-- how many phases of a list run
unfoldable pub run_length : List Phase → State → ℕ
run_length [] s = 0
run_length (p ∷ ps) s = 1 + counted_next (λ t. run_length ps t) (step p s)

abbrev pub counted_on : (State → ℕ) → (Trap → State → ℕ) → Latch → Result State Stop → ℕ
counted_on next caught latch (Ok t) = next t
counted_on next caught latch (Err stop) = caught stop.trap (caught_in latch stop)

-- how many phases of a course run
unfoldable pub course_length : Course → State → ℕ
course_length End s = 0
course_length (Go plan next caught) s =
    run_length (phases_of plan) s
    + counted_on (λ t. course_length (next (inner_of t)) t) (λ trap t. course_length (caught trap
    (inner_of t)) t) s.latch (run_plan plan s)
