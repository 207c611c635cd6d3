-- What a sequence makes, by what was noted of its plans.
use Rattle.std.proofs.Common.{◌≡◌, ◌∙◌, ℕ, Bool, true, false, List, [], ◌∷◌, Option, Some, None, Result, Ok, Err, map, refl, ap, subst}
use Rattle.pdp_word.specs.declared.codes.Codes.{Codes}
use Rattle.pdp_action.specs.declared.trap.Trap.{Trap}
use Rattle.pdp_operand.specs.Phases.Phase.{State}
use Rattle.pdp_instruction.specs.declared.saved_context.SavedContext.{SavedContext}
use Rattle.pdp_made.specs.Cells.{DataCell}
use Rattle.pdp_made.specs.CourseRows.{Along, Finished, red_course_rows, sequence_rows}
use Rattle.pdp_made.specs.PhaseRows.{made_through, of_itself}
use Rattle.pdp_made.specs.TrapRows.{give_up_row, red_rows, trap_rows}
use Rattle.pdp_steps.specs.Steps.{phase_of}
use Rattle.pdp_steps.specs.declared.step.Microstep.{Microstep}
use Rattle.pdp_steps.specs.declared.step.Microstep.TheVariants as step
use Rattle.pdp_steps.specs.declared.trap_step.TrapStep.TheVariants as trapping
use Rattle.pdp_moves.specs.CourseMoves.{EndAt, IsNoted, is_trap, sources_of_plan, sources_of_red, sources_of_sequence, steps_of_red, steps_of_sequence}
use Rattle.pdp_moves.specs.Moves.{sources_before}
use Rattle.pdp_moves.specs.PlanRows.{moves_noted, rows_of_steps}
use Rattle.pdp_moves.specs.declared.noted_plan.NotedPlan.{NotedPlan}
use Rattle.pdp_moves.specs.declared.noted_sequence.NotedSequence.{NotedSequence}
use Rattle.pdp_moves.proofs.CourseMoves.{dropped, finished, goes_on, is_caught, kept, last_plan, no_step, noted_as, unchanged}

-- The rows of the steps are the rows of the sequences, where the codes of their context are saved.
sequence_made : (marks : Bool) (vector : ℕ) (context : SavedContext) (s : State) (c : DataCell)
    → made_through (rows_of_steps (Some 3) (steps_of_sequence marks vector context)) context.status.codes s c ≡ made_through (trap_rows marks vector context) context.status.codes s c
unfolding made_through
sequence_made marks vector context s c = refl

red_made : (context : SavedContext) (s : State) (c : DataCell)
    → made_through (rows_of_steps (Some 3) (steps_of_red context)) context.status.codes s c ≡ made_through (red_rows context) context.status.codes s c
unfolding made_through
red_made context s c = refl

give_up_made : (context : SavedContext) (s : State) (c : DataCell)
    → made_through (rows_of_steps None (step.Trap (trapping.GiveUp context) ∷ [])) context.status.codes s c ≡ made_through (give_up_row context ∷ []) context.status.codes s c
unfolding made_through
give_up_made context s c = refl

-- what was noted of a plan is made of what its steps make
abbrev pub IsMade : List Microstep → Option ℕ → State → NotedPlan → Type 0
IsMade steps saving s plan = (saved : Codes) (c : DataCell) → sources_before (moves_noted plan.steps.items) c ≡ made_through (rows_of_steps saving steps) saved s c

pub gave_up : (context : SavedContext) (s t : State) (result : Result (Unit {0}) Trap) (plan : NotedPlan)
    → EndAt (map phase_of (step.Trap (trapping.GiveUp context) ∷ [])) s result t → IsMade (step.Trap (trapping.GiveUp context) ∷ []) None s plan → plan.is_lost ≡ is_trap result
    → IsNoted (Along (give_up_row context ∷ []) (λ _. Finished) (λ _ _. Finished)) context.status.codes s t (sources_of_plan plan)
gave_up context s t result plan ends made is =
    last_plan (give_up_row context ∷ []) context.status.codes s t (sources_before (moves_noted plan.steps.items)) plan.is_lost result ends is
    (λ c. made context.status.codes c ∙ give_up_made context s c)

module _ (context : SavedContext) (steps : List Microstep) (s t : State) (noted : NotedSequence) (are : steps ≡ steps_of_red context) (made : IsMade steps (Some 3) s noted.red) where
  made_red : (c : DataCell) → sources_before (moves_noted noted.red.steps.items) c ≡ made_through (red_rows context) context.status.codes s c
  made_red c = made context.status.codes c ∙ ap (λ xs. made_through (rows_of_steps (Some 3) xs) context.status.codes s c) are ∙ red_made context s c

  pub red_done : EndAt (map phase_of steps) s (Ok tt) t → noted.red.is_lost ≡ false → noted.halt.steps.items ≡ [] → noted.halt.is_lost ≡ false
      → IsNoted (red_course_rows context) context.status.codes s t (sources_of_red noted)
  red_done ends is empty none =
      goes_on (red_rows context) (λ _. Finished) (λ _ _. Along (give_up_row context ∷ []) (λ _. Finished) (λ _ _. Finished)) context.status.codes s t (sources_of_plan noted.red) (sources_of_plan noted.halt) t
      (subst (λ xs. EndAt (map phase_of xs) s (Ok tt) t) are ends) (kept (sources_before (moves_noted noted.red.steps.items)) _ noted.red.is_lost is made_red)
      (noted_as _ _ _ _ of_itself (sources_of_plan noted.halt) (finished context.status.codes t) (no_step noted.halt empty none))

  pub red_caught : (trap : Trap) (end : State) → EndAt (map phase_of steps) s (Err trap) t → noted.red.is_lost ≡ true
      → IsNoted (Along (give_up_row context ∷ []) (λ _. Finished) (λ _ _. Finished)) context.status.codes t end (sources_of_plan noted.halt)
      → IsNoted (red_course_rows context) context.status.codes s end (sources_of_red noted)
  red_caught trap end ends is rest =
      let ended : EndAt (map phase_of (steps_of_red context)) s (Err trap) t = subst (λ xs. EndAt (map phase_of xs) s (Err trap) t) are ends in
      is_caught (red_rows context) (λ _. Finished) (λ _ _. Along (give_up_row context ∷ []) (λ _. Finished) (λ _ _. Finished)) context.status.codes s end (sources_of_plan noted.red) (sources_of_plan noted.halt)
      trap t ended.0 ended.1 (dropped (sources_before (moves_noted noted.red.steps.items)) _ noted.red.is_lost is made_red) rest

module _ (marks : Bool) (vector : ℕ) (context : SavedContext) (steps : List Microstep) (s t : State) (noted : NotedSequence) (are : steps ≡ steps_of_sequence marks vector context)
    (made : IsMade steps (Some 3) s noted.first) where
  made_first : (c : DataCell) → sources_before (moves_noted noted.first.steps.items) c ≡ made_through (trap_rows marks vector context) context.status.codes s c
  made_first c = made context.status.codes c ∙ ap (λ xs. made_through (rows_of_steps (Some 3) xs) context.status.codes s c) are ∙ sequence_made marks vector context s c

  pub sequence_done : EndAt (map phase_of steps) s (Ok tt) t → noted.first.is_lost ≡ false → noted.red.steps.items ≡ [] → noted.red.is_lost ≡ false
      → noted.halt.steps.items ≡ [] → noted.halt.is_lost ≡ false → IsNoted (sequence_rows marks vector context) context.status.codes s t (sources_of_sequence noted)
  sequence_done ends is empty none empty_halt no_halt =
      goes_on (trap_rows marks vector context) (λ _. Finished) (λ _ _. red_course_rows context) context.status.codes s t (sources_of_plan noted.first) (sources_of_red noted) t
      (subst (λ xs. EndAt (map phase_of xs) s (Ok tt) t) are ends) (kept (sources_before (moves_noted noted.first.steps.items)) _ noted.first.is_lost is made_first)
      (noted_as _ _ _ _ of_itself (sources_of_red noted) (finished context.status.codes t)
      (λ c. unchanged (sources_of_plan noted.red) (no_step noted.red empty none) (sources_of_plan noted.halt c) ∙ no_step noted.halt empty_halt no_halt c))

  pub sequence_caught : (trap : Trap) (end : State) → EndAt (map phase_of steps) s (Err trap) t → noted.first.is_lost ≡ true
      → IsNoted (red_course_rows context) context.status.codes t end (sources_of_red noted) → IsNoted (sequence_rows marks vector context) context.status.codes s end (sources_of_sequence noted)
  sequence_caught trap end ends is rest =
      let ended : EndAt (map phase_of (steps_of_sequence marks vector context)) s (Err trap) t = subst (λ xs. EndAt (map phase_of xs) s (Err trap) t) are ends in
      is_caught (trap_rows marks vector context) (λ _. Finished) (λ _ _. red_course_rows context) context.status.codes s end (sources_of_plan noted.first) (sources_of_red noted)
      trap t ended.0 ended.1 (dropped (sources_before (moves_noted noted.first.steps.items)) _ noted.first.is_lost is made_first) rest

-- the red sequence alone
pub red_alone : (context : SavedContext) (s t : State) (noted : NotedSequence) → noted.first.steps.items ≡ [] → noted.first.is_lost ≡ false
    → IsNoted (red_course_rows context) context.status.codes s t (sources_of_red noted) → IsNoted (red_course_rows context) context.status.codes s t (sources_of_sequence noted)
red_alone context s t noted empty none rest =
    noted_as _ _ _ _ (sources_of_red noted) (sources_of_sequence noted) rest (λ c. unchanged (sources_of_plan noted.first) (no_step noted.first empty none) (sources_of_red noted c))
