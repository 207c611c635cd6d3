-- A plan is the run of its phases.
use Rattle.std.proofs.Common.{◌≡◌, List, [], ◌∷◌, ◌++◌, refl, ap, ◌∙◌, Ok, Err, Result}
use Rattle.pdp_operand.specs.Phases.Phase.{Phase, State, Stop, run, step, and_then}
use Rattle.pdp_operand.specs.Phases.Plan.{Plan, Do, ◌▸◌, phases_of, run_plan}

and_then-assoc : (r : Result State Stop) (f g : State → Result State Stop)
    → and_then r (λ s. and_then (f s) g) ≡ and_then (and_then r f) g
and_then-assoc (Ok s) f g = refl
and_then-assoc (Err stop) f g = refl

and_then-ext : (r : Result State Stop) (f g : State → Result State Stop) → ((s : State) → f s ≡ g s) → and_then r f ≡ and_then r g
and_then-ext (Ok s) f g same = same s
and_then-ext (Err stop) f g same = refl

pub run-append : (ps qs : List Phase) (s : State) → run (ps ++ qs) s ≡ and_then (run ps s) (run qs)
unfolding run
run-append [] qs s = refl
run-append (p ∷ ps) qs s =
    and_then-ext (step p s) (λ t. run (ps ++ qs) t) (λ t. and_then (run ps t) (run qs)) (λ t. run-append ps qs t)
    ∙ and_then-assoc (step p s) (λ t. run ps t) (run qs)

pub run_phases_of : (plan : Plan) (s : State) → run (phases_of plan) s ≡ run_plan plan s
run_phases_of (Do ps) s = refl
run_phases_of (a ▸ b) s =
    run-append (phases_of a) (phases_of b) s
    ∙ ap (λ r. and_then r (run (phases_of b))) (run_phases_of a s)
    ∙ and_then-ext (run_plan a s) (run (phases_of b)) (run_plan b) (λ t. run_phases_of b t)
