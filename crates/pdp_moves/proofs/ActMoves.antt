-- What an instruction makes, by what was noted of its plan and of its trap.
use Rattle.std.proofs.Common.{◌≡◌, ◌∙◌, ℕ, Bool, true, false, [], ◌∷◌, Ok, Err, flat_map, ap, sym, subst}
use Rattle.pdp_word.specs.declared.codes.Codes.{Codes}
use Rattle.pdp_action.specs.Action.{action_of}
use Rattle.pdp_action.specs.declared.trap.Trap.{Trap}
use Rattle.pdp_decode.specs.declared.instruction.Instr.{Instr}
use Rattle.pdp_operand.specs.Phases.Phase.{State, inner_of, run, step, stop_at}
use Rattle.pdp_operand.specs.Phases.Plan.{phases_of}
use Rattle.pdp_instruction.specs.Handbook.Action.{plan_of}
use Rattle.pdp_instruction.specs.Handbook.Instruction.{fetch_instruction, note_trace}
use Rattle.pdp_instruction.specs.Handbook.TrapSequence.{saved_context_of}
use Rattle.pdp_made.specs.Cells.{DataCell}
use Rattle.pdp_made.specs.CourseRows.{Along, Finished, Saving, after_trap_rows, codes_at, instruction_course_rows, instruction_rows, sequence_rows, trap_course_rows}
use Rattle.pdp_made.specs.InstructionRows.{rows_of_action}
use Rattle.pdp_made.specs.OperandRows.{keeps_data}
use Rattle.pdp_made.specs.PhaseRows.{made_through, of_itself}
use Rattle.pdp_made.proofs.ActionRows.{rows_phases}
use Rattle.pdp_moves.specs.CourseMoves.{EndAt, IsNoted, saved_if, sources_of_act, sources_of_plan, sources_of_sequence, sources_of_trap}
use Rattle.pdp_moves.specs.Moves.{sources_before}
use Rattle.pdp_moves.specs.PlanRows.{moves_noted}
use Rattle.pdp_moves.specs.declared.noted_act.NotedAct.{NotedAct}
use Rattle.pdp_moves.proofs.CourseMoves.{dropped, finished, goes_on, is_caught, keeps_caught, keeps_on, kept, no_step, noted_as, saves, unchanged}

-- no sequence follows
pub no_trap : (act : NotedAct) → act.saves_codes ≡ false → ((c : DataCell) → sources_of_sequence act.sequence c ≡ c ∷ []) → (c : DataCell) → sources_of_trap act c ≡ c ∷ []
no_trap act is none c =
    unchanged (saved_if act.saves_codes) (λ d. ap (λ saved. saved_if saved d) is) (sources_of_sequence act.sequence c) ∙ none c

-- the trace trap is noted
pub traced : (instr : Instr) (saved : Codes) (s t : State) → step (note_trace instr) s ≡ Ok t
    → IsNoted (Along (keeps_data (note_trace instr) ∷ []) (λ _. Finished) (λ _ _. Finished)) saved s t of_itself
traced instr saved s t is = keeps_on (note_trace instr) (λ _. Finished) (λ _ _. Finished) saved s t t of_itself is (finished saved t)

pub not_traced : (instr : Instr) (saved : Codes) (s t : State) (trap : Trap) → step (note_trace instr) s ≡ Err (stop_at trap t.world) → t.latch ≡ s.latch
    → IsNoted (Along (keeps_data (note_trace instr) ∷ []) (λ _. Finished) (λ _ _. Finished)) saved s t of_itself
not_traced instr saved s t trap is latch = keeps_caught (note_trace instr) (λ _. Finished) (λ _ _. Finished) saved s t t of_itself trap is latch (finished saved t)

-- a sequence alone
pub alone : (marks : Bool) (vector : ℕ) (saved : Codes) (s t : State) (act : NotedAct) → act.plan.steps.items ≡ [] → act.plan.is_lost ≡ false → act.saves_codes ≡ true
    → IsNoted (sequence_rows marks vector (saved_context_of (inner_of s))) (codes_at s) s t (sources_of_sequence act.sequence)
    → IsNoted (Saving (sequence_rows marks vector (saved_context_of (inner_of s)))) saved s t (sources_of_act act)
alone marks vector saved s t act empty none is rest = noted_as _ _ _ _ _ (sources_of_act act)
    (saves (sequence_rows marks vector (saved_context_of (inner_of s))) saved s t (sources_of_sequence act.sequence) rest)
    (λ c. unchanged (sources_of_plan act.plan) (no_step act.plan empty none) (sources_of_trap act c)
    ∙ ap (λ all. flat_map (saved_if all) (sources_of_sequence act.sequence c)) is)

-- a trap, whose sequence saves the codes of now
pub trapped : (trap : Trap) (saved : Codes) (s t : State) (act : NotedAct) → act.saves_codes ≡ true
    → IsNoted (after_trap_rows trap (saved_context_of (inner_of s))) (codes_at s) s t (sources_of_sequence act.sequence)
    → IsNoted (trap_course_rows trap (inner_of s)) saved s t (sources_of_trap act)
trapped trap saved s t act is rest = noted_as _ _ _ _ _ (sources_of_trap act)
    (saves (after_trap_rows trap (saved_context_of (inner_of s))) saved s t (sources_of_sequence act.sequence) rest)
    (λ c. ap (λ all. flat_map (saved_if all) (sources_of_sequence act.sequence c)) is)

module _ (instr : Instr) (saved : Codes) (s t end : State) (act : NotedAct)
    (made : (saved : Codes) (c : DataCell) → sources_before (moves_noted act.plan.steps.items) c ≡ made_through (rows_of_action (action_of instr)) saved s c) where
  pub executed : EndAt (phases_of (plan_of instr)) s (Ok tt) t → act.plan.is_lost ≡ false → act.saves_codes ≡ false
      → ((c : DataCell) → sources_of_sequence act.sequence c ≡ c ∷ [])
      → IsNoted (Along (keeps_data (note_trace instr) ∷ []) (λ _. Finished) (λ _ _. Finished)) saved t end of_itself
      → IsNoted (instruction_course_rows instr) saved s end (sources_of_act act)
  executed ends is no_codes none rest =
      goes_on (rows_of_action (action_of instr)) (λ _. Along (keeps_data (note_trace instr) ∷ []) (λ _. Finished) (λ _ _. Finished)) trap_course_rows saved s end (sources_of_plan act.plan) (sources_of_trap act)
      t (subst (λ phases. run phases s ≡ Ok t) (sym (rows_phases saved (action_of instr))) ends)
      (kept (sources_before (moves_noted act.plan.steps.items)) (made_through (rows_of_action (action_of instr)) saved s) act.plan.is_lost is (made saved))
      (noted_as _ _ _ _ of_itself (sources_of_trap act) rest (no_trap act no_codes none))

  pub not_executed : (trap : Trap) → EndAt (phases_of (plan_of instr)) s (Err trap) t → act.plan.is_lost ≡ true → act.saves_codes ≡ true
      → IsNoted (after_trap_rows trap (saved_context_of (inner_of t))) (codes_at t) t end (sources_of_sequence act.sequence)
      → IsNoted (instruction_course_rows instr) saved s end (sources_of_act act)
  not_executed trap ends is codes rest =
      is_caught (rows_of_action (action_of instr)) (λ _. Along (keeps_data (note_trace instr) ∷ []) (λ _. Finished) (λ _ _. Finished)) trap_course_rows saved s end (sources_of_plan act.plan) (sources_of_trap act)
      trap t (subst (λ phases. run phases s ≡ Err (stop_at trap t.world)) (sym (rows_phases saved (action_of instr))) ends.0) ends.1
      (dropped (sources_before (moves_noted act.plan.steps.items)) (made_through (rows_of_action (action_of instr)) saved s) act.plan.is_lost is (made saved))
      (trapped trap saved t end act codes rest)

-- an instruction after its fetch
pub fetched : (saved : Codes) (s t end : State) (act : NotedAct) → step fetch_instruction s ≡ Ok t → IsNoted (instruction_course_rows t.latch.instr) saved t end (sources_of_act act)
    → IsNoted instruction_rows saved s end (sources_of_act act)
fetched saved s t end act is rest = keeps_on fetch_instruction (λ i. instruction_course_rows i.latch.instr) trap_course_rows saved s t end (sources_of_act act) is rest

pub not_fetched : (saved : Codes) (s t end : State) (act : NotedAct) (trap : Trap) → step fetch_instruction s ≡ Err (stop_at trap t.world) → t.latch ≡ s.latch
    → act.plan.steps.items ≡ [] → act.plan.is_lost ≡ false → act.saves_codes ≡ true
    → IsNoted (after_trap_rows trap (saved_context_of (inner_of t))) (codes_at t) t end (sources_of_sequence act.sequence)
    → IsNoted instruction_rows saved s end (sources_of_act act)
not_fetched saved s t end act trap is latch empty none codes rest =
    keeps_caught fetch_instruction (λ i. instruction_course_rows i.latch.instr) trap_course_rows saved s t end (sources_of_act act) trap is latch
    (noted_as _ _ _ _ (sources_of_trap act) (sources_of_act act) (trapped trap saved t end act codes rest)
    (λ c. unchanged (sources_of_plan act.plan) (no_step act.plan empty none) (sources_of_trap act c)))
