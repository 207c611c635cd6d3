-- One phase, alone and before others.
use Rattle.std.proofs.Common.{◌≡◌, ◌∙◌, ◌<◌, ◌+◌, ℕ, List, [], ◌∷◌, refl, ap, subst, map, drop, get_or, length, Ok, Err, Result}
use Rattle.std.proofs.lemmas.List.{drop_more}
use Rattle.pdp_word.specs.Size.{span}
use Rattle.pdp_word.specs.declared.size.Size.{Size}
use Rattle.pdp_operand.specs.Phases.Phase.{Phase, State, Stop, and_then, run, step}
use Rattle.pdp_operand.specs.Phases.Plan.{one, run_plan}
use Rattle.pdp_steps.specs.Contract.{AreReady, CanRunInOrder}
use Rattle.pdp_steps.specs.Steps.{phase_of, size_after}
use Rattle.pdp_steps.specs.declared.step.Microstep.{Microstep}

unit_last : (r : Result State Stop) → and_then r (λ t. run [] t) ≡ r
unfolding run
unit_last (Ok t) = refl
unit_last (Err stop) = refl

pub single : (p : Phase) (s : State) → run_plan (one p) s ≡ step p s
unfolding run
single p s = unit_last (step p s)

-- a phase that goes on, and the phases after it
pub run_more : (p : Phase) (ps : List Phase) (s t : State) → run_plan (one p) s ≡ Ok t
    → run (p ∷ ps) s ≡ run ps t
unfolding run
run_more p ps s t is = rw (← single p s, is) refl

pub run_stopped : (p : Phase) (ps : List Phase) (s : State) (stop : Stop)
    → run_plan (one p) s ≡ Err stop → run (p ∷ ps) s ≡ Err stop
unfolding run
run_stopped p ps s stop is = rw (← single p s, is) refl

-- steps from a place on: after the step there, at its trap, and at the end
pub steps_more : (xs : List Microstep) (n : ℕ) (d : Microstep) (s t : State) → n < length xs
    → run_plan (one (phase_of (get_or xs n d))) s ≡ Ok t
    → run (map phase_of (drop n xs)) s ≡ run (map phase_of (drop (n + 1) xs)) t
steps_more xs n d s t below is = ap (λ ys. run (map phase_of ys) s) (drop_more xs n d below) ∙ run_more _ _ s t is

pub steps_stopped : (xs : List Microstep) (n : ℕ) (d : Microstep) (s : State) (stop : Stop) → n < length xs
    → run_plan (one (phase_of (get_or xs n d))) s ≡ Err stop
    → run (map phase_of (drop n xs)) s ≡ Err stop
steps_stopped xs n d s stop below is = ap (λ ys. run (map phase_of ys) s) (drop_more xs n d below) ∙ run_stopped _ _ s stop is

pub steps_done : (xs : List Microstep) (s : State) → xs ≡ [] → run (map phase_of xs) s ≡ Ok s
unfolding run
steps_done xs s is = rw is refl

pub ready_more : (xs : List Microstep) (n : ℕ) (d : Microstep) (old new : ℕ) → n < length xs → AreReady (drop n xs) old
    → ((size : Size) → old < span size → new < span (size_after (get_or xs n d) size))
    → AreReady (drop (n + 1) xs) new
ready_more xs n d old new below ready fits =
    let in_order = subst (λ ys. CanRunInOrder ys ready.size) (drop_more xs n d below) ready.in_order in
    record { size = size_after (get_or xs n d) ready.size; fits = fits ready.size ready.fits; in_order = in_order.1 }
