-- How many phases a course can run at most.
use Rattle.std.proofs.Common.{◌≡◌, ℕ, ◌+◌, ◌≤◌, List, [], ◌∷◌, refl, Ok, Err, Result, length, length-append, arith}
use Rattle.pdp_word.specs.declared.size.Size.{Size}
use Rattle.pdp_decode.specs.declared.instruction.Specifier.{Specifier}
use Rattle.pdp_decode.specs.declared.instruction.Specifier.TheVariants.{Register, Deferred, Autoincrement, AutoincrementDeferred, Autodecrement, AutodecrementDeferred, Index, IndexDeferred}
use Rattle.pdp_operand.specs.Phases.Phase.{Phase, Inner, State, Stop, Latch, step, inner_of}
use Rattle.pdp_operand.specs.Phases.Plan.{Plan, Do, ◌▸◌, phases_of, run_plan}
use Rattle.pdp_operand.specs.Phases.Course.{Course, End, Go, caught_in}
use Rattle.pdp_operand.specs.Laws.Count.{run_length, counted_next, course_length, counted_on}
use Rattle.pdp_operand.specs.Handbook.Operand.{find}
use Rattle.pdp_action.specs.declared.trap.Trap.{Trap}

-- how many phases a plan has
abbrev pub size_of : Plan → ℕ
size_of (Do ps) = length ps
size_of (a ▸ b) = size_of a + size_of b

length-phases_of : (plan : Plan) → length (phases_of plan) ≡ size_of plan
length-phases_of (Do ps) = refl
length-phases_of (a ▸ b) =
    rw (length-append (phases_of a) (phases_of b), length-phases_of a, length-phases_of b) refl

rest_le : (ps : List Phase) (r : Result State Stop) → ((t : State) → run_length ps t ≤ length ps)
    → counted_next (λ t. run_length ps t) r ≤ length ps
rest_le ps (Ok t) rest = rest t
rest_le ps (Err stop) rest = omega arith

run_length_le : (ps : List Phase) (s : State) → run_length ps s ≤ length ps
unfolding run_length
run_length_le [] s = omega arith
run_length_le (p ∷ ps) s = omega (arith, rest_le ps (step p s) (λ t. run_length_le ps t))

-- a course runs at most so many phases, whatever its phases meet
abbrev pub AtMost : Course → ℕ → Type 0
AtMost End n = Unit {0}
AtMost (Go plan next caught) n =
    (m : ℕ) × (size_of plan + m ≤ n) × ((i : Inner) → AtMost (next i) m) × ((trap : Trap) (i : Inner) → AtMost (caught trap i) m)

next_le : (m : ℕ) (next : Inner → Course) (caught : Trap → Inner → Course) (latch : Latch) (r : Result State Stop)
    → ((t : State) → course_length (next (inner_of t)) t ≤ m)
    → ((trap : Trap) (t : State) → course_length (caught trap (inner_of t)) t ≤ m)
    → counted_on (λ t. course_length (next (inner_of t)) t) (λ trap t. course_length (caught trap (inner_of t)) t) latch r ≤ m
next_le m next caught latch (Ok t) goes_on catches = goes_on t
next_le m next caught latch (Err stop) goes_on catches = catches stop.trap (caught_in latch stop)

pub course_length_le : (course : Course) (n : ℕ) (s : State) → AtMost course n → course_length course s ≤ n
unfolding course_length
course_length_le End n s bound = omega arith
course_length_le (Go plan next caught) n s bound =
    let first = run_length_le (phases_of plan) s in
    let size = length-phases_of plan in
    let rest = next_le bound.0 next caught s.latch (run_plan plan s)
    (λ t. course_length_le (next (inner_of t)) bound.0 t (bound.2 (inner_of t)))
    (λ trap t. course_length_le (caught trap (inner_of t)) bound.0 t (bound.3 trap (inner_of t))) in
    omega (arith, first, size, rest, bound.1)

-- finding an operand takes at most three phases
pub size_of_find : (size : Size) (spec : Specifier) → size_of (find size spec) ≤ 3
unfolding find
size_of_find size (Register r) = omega arith
size_of_find size (Deferred r) = omega arith
size_of_find size (Autoincrement r) = omega arith
size_of_find size (AutoincrementDeferred r) = omega arith
size_of_find size (Autodecrement r) = omega arith
size_of_find size (AutodecrementDeferred r) = omega arith
size_of_find size (Index r) = omega arith
size_of_find size (IndexDeferred r) = omega arith
