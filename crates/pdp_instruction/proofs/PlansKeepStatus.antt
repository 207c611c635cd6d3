-- The plan of each action leaves the program status word if it can't go on: what changes the word
-- comes last.
use Rattle.std.proofs.Common.{◌≡◌, ℕ, refl, Err, Result}
use Rattle.pdp_decode.specs.declared.instruction.Instr.{Instr}
use Rattle.pdp_decode.specs.declared.instruction.Specifier.{Specifier}
use Rattle.pdp_word.specs.declared.size.Size.{Size}
use Rattle.pdp_word.specs.declared.size.Size.TheVariants.{Word, Byte}
use Rattle.pdp_io_page.specs.declared.status.Status.{Status}
use Rattle.pdp_operand.specs.Phases.Phase.{State, Stop}
use Rattle.pdp_operand.specs.Phases.Plan.{one, run_plan}
use Rattle.pdp_operand.specs.declared.place.Fill.{Fill}
use Rattle.pdp_instruction.specs.Handbook.Action.{plan_of_action, plan_of}
use Rattle.pdp_action.specs.Action.{action_of}
use Rattle.pdp_instruction.specs.Handbook.Branch.{branch_plan, sob_plan}
use Rattle.pdp_instruction.specs.Handbook.ChangeCodes.{clear_plan, set_plan}
use Rattle.pdp_instruction.specs.Handbook.Control.{halt_plan, wait_plan, reset_plan, raise_plan}
use Rattle.pdp_instruction.specs.Handbook.ReturnFromTrap.{keep_counter, return_plan}
use Rattle.pdp_instruction.specs.Handbook.TwoOperands.{compare_plan, combine_plan, execute_comparison, execute_combination}
use Rattle.pdp_instruction.specs.Handbook.Execute.{finish_plan, store_codes}
use Rattle.pdp_instruction.specs.Handbook.Extended.{mul_plan, div_plan, ash_plan, ashc_plan, multiply, divide, shift, shift_pair}
use Rattle.pdp_instruction.specs.Handbook.Instruction.{fetch_instruction}
use Rattle.pdp_instruction.specs.Handbook.Jump.{aim, jump_request, jmp_plan, jsr_plan, rts_plan, mark_plan, pop_register, take_link, link, return_by, take_mark}
use Rattle.pdp_instruction.specs.Handbook.Moves.{execute_mov, mov_plan, movb_plan}
use Rattle.pdp_instruction.specs.Handbook.Operands.{operands_plan, source_first, place_first, keep_source, take_register}
use Rattle.pdp_instruction.specs.Handbook.PreviousMode.{cross, mfpi_plan, mtpi_plan}
use Rattle.pdp_instruction.specs.Handbook.OneOperand.{execute_tst, execute_modification, execute_replacement, tst_plan, modify_plan, replace_plan}
use Rattle.pdp_action.specs.declared.action.Action.{Action}
use Rattle.pdp_action.specs.declared.action.Action.TheVariants as action
use Rattle.pdp_action.specs.declared.operation.Combination.{Combination}
use Rattle.pdp_action.specs.declared.operation.Comparison.{Comparison}
use Rattle.pdp_action.specs.declared.operation.Modification.{Modification}
use Rattle.pdp_action.specs.declared.operation.Replacement.{Replacement}
use Rattle.pdp_operand.specs.declared.place.Place.{Place}
use Rattle.pdp_operand.specs.declared.place.Place.TheVariants.{Reg, Mem}
use Rattle.pdp_instruction.proofs.StatusKept.{Stops, Safe, Steady, Sure, ReadsAtMost, steady_safe, steady_steady, safe_sure, steady_if, phase_safe, phase_steady, phase_sure, steady_find, steady_read, steady_read_before_write}

sure_codes : Sure (one store_codes)
unfolding store_codes
sure_codes = phase_sure _ (λ i. refl)

safe_finish : (how : Fill) → Safe (finish_plan how)
unfolding finish_plan
safe_finish how = safe_sure _ _ (phase_safe _) sure_codes

steady_operands : (size : Size) (source destination : Specifier) → Steady (operands_plan size source destination)
unfolding operands_plan source_first place_first keep_source take_register
steady_operands size source destination =
    steady_if _ _ _ (steady_steady _ _ (steady_find size destination) (phase_steady _ (λ i. tt) (λ i value. refl)))
    (steady_steady _ _ (steady_find size source)
    (steady_steady _ _ (steady_read size)
    (steady_steady _ _ (phase_steady _ (λ i. tt) (λ i value. refl)) (steady_find size destination))))

safe_mov : (source destination : Specifier) → Safe (mov_plan source destination)
unfolding mov_plan execute_mov
safe_mov source destination =
    steady_safe _ _ (steady_operands Word source destination)
    (steady_safe _ _ (phase_steady _ (λ i. tt) (λ i value. refl)) (safe_finish _))

safe_movb : (source destination : Specifier) → Safe (movb_plan source destination)
unfolding movb_plan execute_mov
safe_movb source destination =
    steady_safe _ _ (steady_operands Byte source destination)
    (steady_safe _ _ (phase_steady _ (λ i. tt) (λ i value. refl)) (safe_finish _))

safe_compare : (c : Comparison) (source destination : Specifier) → Safe (compare_plan c source destination)
unfolding compare_plan execute_comparison
safe_compare c source destination =
    steady_safe _ _ (steady_operands _ source destination)
    (steady_safe _ _ (steady_read _) (steady_safe _ _ (phase_steady _ (λ i. tt) (λ i value. refl)) (phase_safe _)))

safe_combine : (c : Combination) (source destination : Specifier) → Safe (combine_plan c source destination)
unfolding combine_plan execute_combination
safe_combine c source destination =
    steady_safe _ _ (steady_operands _ source destination)
    (steady_safe _ _ (steady_read_before_write _) (steady_safe _ _ (phase_steady _ (λ i. tt) (λ i value. refl)) (safe_finish _)))

safe_modify : (m : Modification) (destination : Specifier) → Safe (modify_plan m destination)
unfolding modify_plan execute_modification
safe_modify m destination =
    steady_safe _ _ (steady_find _ destination)
    (steady_safe _ _ (steady_read_before_write _) (steady_safe _ _ (phase_steady _ (λ i. tt) (λ i value. refl)) (safe_finish _)))

safe_replace : (r : Replacement) (destination : Specifier) → Safe (replace_plan r destination)
unfolding replace_plan execute_replacement
safe_replace r destination =
    steady_safe _ _ (steady_find _ destination)
    (steady_safe _ _ (phase_steady _ (λ i. tt) (λ i value. refl)) (safe_finish _))

safe_tst : (size : Size) (destination : Specifier) → Safe (tst_plan size destination)
unfolding tst_plan execute_tst
safe_tst size destination =
    steady_safe _ _ (steady_find _ destination)
    (steady_safe _ _ (steady_read _) (steady_safe _ _ (phase_steady _ (λ i. tt) (λ i value. refl)) (phase_safe _)))

jump_reads : (place : Place) → ReadsAtMost (jump_request place)
jump_reads (Reg id) = tt
jump_reads (Mem cell) = tt

steady_aim : Steady (one aim)
unfolding aim
steady_aim = phase_steady _ (λ i. jump_reads i.latch.place) (λ i value. refl)

safe_jmp : (destination : Specifier) → Safe (jmp_plan destination)
unfolding jmp_plan
safe_jmp destination = steady_safe _ _ (steady_find Word destination) (steady_safe _ _ steady_aim (phase_safe _))

safe_jsr : (r : ℕ) (destination : Specifier) → Safe (jsr_plan r destination)
unfolding jsr_plan take_link link
safe_jsr r destination =
    steady_safe _ _ (steady_find Word destination)
    (steady_safe _ _ steady_aim
    (steady_safe _ _ (steady_find Word _)
    (steady_safe _ _ (phase_steady _ (λ i. tt) (λ i value. refl)) (safe_sure _ _ (phase_safe _) (phase_sure _ (λ i. refl))))))

safe_pop : (r : ℕ) → Safe (pop_register r)
unfolding pop_register
safe_pop r = steady_safe _ _ (steady_find Word _) (steady_safe _ _ (steady_read Word) (phase_safe _))

safe_rts : (r : ℕ) → Safe (rts_plan r)
unfolding rts_plan return_by
safe_rts r = steady_safe _ _ (phase_steady _ (λ i. tt) (λ i value. refl)) (safe_pop r)

safe_mark : (words : ℕ) → Safe (mark_plan words)
unfolding mark_plan take_mark
safe_mark words = steady_safe _ _ (phase_steady _ (λ i. tt) (λ i value. refl)) (safe_pop 5)

safe_mul : (r : ℕ) (source : Specifier) → Safe (mul_plan r source)
unfolding mul_plan multiply
safe_mul r source =
    steady_safe _ _ (steady_find Word source)
    (steady_safe _ _ (steady_read Word) (steady_safe _ _ (phase_steady _ (λ i. tt) (λ i value. refl)) (phase_safe _)))

safe_div : (r : ℕ) (source : Specifier) → Safe (div_plan r source)
unfolding div_plan divide
safe_div r source =
    steady_safe _ _ (steady_find Word source)
    (steady_safe _ _ (steady_read Word) (steady_safe _ _ (phase_steady _ (λ i. tt) (λ i value. refl)) (phase_safe _)))

safe_ash : (r : ℕ) (source : Specifier) → Safe (ash_plan r source)
unfolding ash_plan shift
safe_ash r source =
    steady_safe _ _ (steady_find Word source)
    (steady_safe _ _ (steady_read Word) (steady_safe _ _ (phase_steady _ (λ i. tt) (λ i value. refl)) (phase_safe _)))

safe_ashc : (r : ℕ) (source : Specifier) → Safe (ashc_plan r source)
unfolding ashc_plan shift_pair
safe_ashc r source =
    steady_safe _ _ (steady_find Word source)
    (steady_safe _ _ (steady_read Word) (steady_safe _ _ (phase_steady _ (λ i. tt) (λ i value. refl)) (phase_safe _)))

steady_cross : Steady (one cross)
unfolding cross
steady_cross = phase_steady _ (λ i. tt) (λ i value. refl)

safe_mfpi : (source : Specifier) → Safe (mfpi_plan source)
unfolding mfpi_plan keep_source execute_mov
safe_mfpi source =
    steady_safe _ _ (steady_find Word source)
    (steady_safe _ _ steady_cross
    (steady_safe _ _ (steady_read Word)
    (steady_safe _ _ (phase_steady _ (λ i. tt) (λ i value. refl))
    (steady_safe _ _ (steady_find Word _)
    (steady_safe _ _ (phase_steady _ (λ i. tt) (λ i value. refl)) (safe_finish _))))))

safe_mtpi : (destination : Specifier) → Safe (mtpi_plan destination)
unfolding mtpi_plan keep_source execute_mov
safe_mtpi destination =
    steady_safe _ _ (steady_find Word _)
    (steady_safe _ _ (steady_read Word)
    (steady_safe _ _ (phase_steady _ (λ i. tt) (λ i value. refl))
    (steady_safe _ _ (steady_find Word destination)
    (steady_safe _ _ steady_cross
    (steady_safe _ _ (phase_steady _ (λ i. tt) (λ i value. refl)) (safe_finish _))))))

safe_return : Safe return_plan
unfolding return_plan keep_counter
safe_return =
    steady_safe _ _ (steady_find Word _)
    (steady_safe _ _ (steady_read Word)
    (steady_safe _ _ (phase_steady _ (λ i. tt) (λ i value. refl))
    (steady_safe _ _ (steady_find Word _) (steady_safe _ _ (steady_read Word) (phase_safe _)))))

safe_action : (a : Action) → Safe (plan_of_action a)
unfolding halt_plan wait_plan reset_plan raise_plan branch_plan sob_plan clear_plan set_plan
safe_action action.Halt = phase_safe _
safe_action action.Wait = phase_safe _
safe_action action.Reset = phase_safe _
safe_action action.ReturnFromTrap = safe_return
safe_action (action.Raise trap) = phase_safe _
safe_action (action.Jump destination) = safe_jmp destination
safe_action (action.JumpToSubroutine register destination) = safe_jsr register destination
safe_action (action.ReturnFromSubroutine register) = safe_rts register
safe_action (action.Mark words) = safe_mark words
safe_action (action.SubtractOne register words) = phase_safe _
safe_action (action.ClearCodes mask) = phase_safe _
safe_action (action.SetCodes mask) = phase_safe _
safe_action (action.Branch condition offset) = phase_safe _
safe_action (action.Move source destination) = safe_mov source destination
safe_action (action.MoveByte source destination) = safe_movb source destination
safe_action (action.Compare c source destination) = safe_compare c source destination
safe_action (action.Combine c source destination) = safe_combine c source destination
safe_action (action.Modify m destination) = safe_modify m destination
safe_action (action.Replace r destination) = safe_replace r destination
safe_action (action.Test size destination) = safe_tst size destination
safe_action (action.MoveFromPrevious source) = safe_mfpi source
safe_action (action.MoveToPrevious destination) = safe_mtpi destination
safe_action (action.Multiply register source) = safe_mul register source
safe_action (action.Divide register source) = safe_div register source
safe_action (action.Shift register source) = safe_ash register source
safe_action (action.ShiftPair register source) = safe_ashc register source

where_stopped : (status : Status) (r : Result State Stop) (stop : Stop) → r ≡ Err stop → Stops status r → stop.world.bus.io_page.status ≡ status
where_stopped status r stop is stops = rw is at stops

pub stopped_plan_keeps_status : (instr : Instr) (s : State) (stop : Stop) → run_plan (plan_of instr) s ≡ Err stop
    → stop.world.bus.io_page.status ≡ s.world.bus.io_page.status
stopped_plan_keeps_status instr s stop is =
    where_stopped s.world.bus.io_page.status (run_plan (plan_of instr) s) stop is ((safe_action (action_of instr)).at s)

pub stopped_fetch_keeps_status : (s : State) (stop : Stop) → run_plan (one fetch_instruction) s ≡ Err stop
    → stop.world.bus.io_page.status ≡ s.world.bus.io_page.status
stopped_fetch_keeps_status s stop is = where_stopped s.world.bus.io_page.status (run_plan (one fetch_instruction) s) stop is ((phase_safe fetch_instruction).at s)
