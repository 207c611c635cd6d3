-- Turns that a search passes, and the turn that it looks at.
use Rattle.std.proofs.Common.{◌≡◌, ◌∙◌, ℕ, ◌+◌, ◌-◌, ◌≤◌, ◌==◌, ◌&&◌, [], List, Option, ap, arith, refl, sym}
use Rattle.pdp_kt11.specs.declared.mode.Mode.{Mode}
use Rattle.pdp_operand.specs.Handbook.Processor.{register_of}
use Rattle.pdp_operand.specs.Phases.World.{World}
use Rattle.pdp_cpu.specs.Turns.CalmTurns.{InstructsFor, PassesNone, after_calm_turns}
use Rattle.pdp_cpu.specs.Handbook.MachineState.{MachineState, MachineWithTexts}
use Rattle.pdp_cpu.specs.Handbook.Regs.{regs_of}
use Rattle.pdp_script.specs.Entries.{events_at}
use Rattle.pdp_replay.specs.Past.{Past}
use Rattle.pdp_replay.specs.Run.KeptRuns.{IsUnderWay, IsWithoutEvents}
use Rattle.pdp_replay.specs.Run.States.{at, state_at}
use Rattle.pdp_replay.specs.Ask.Searches.{HoldsNowhere}
use Rattle.pdp_replay.specs.Ask.SoughtTurns.{NoneIsSought, act_with_trap, is_act_sought, is_interrupt, is_mode, is_pending_trap, is_sought_at, turn_is_sought}
use Rattle.pdp_replay.specs.Ask.TurnConditions.{AreUnmet}
use Rattle.pdp_replay.specs.declared.ask.sought.Sought.{Sought}
use Rattle.pdp_replay.specs.declared.ask.sought.Sought.TheVariants.{Instruction, Interrupt, PendingTrap, Where}
use Rattle.pdp_replay.specs.declared.ask.turn_condition.TurnCondition.{TurnCondition}
use Rattle.pdp_replay.proofs.run.CalmWays.{turn_after, way_on_calmly}

pc_of : (w : World) → (regs_of w).pc ≡ w.processor.counter
unfolding register_of
pc_of w = refl

-- no turn that begins with PC elsewhere is the instruction at an address
pub none_there : (address : ℕ) (asked : Option Mode) (n : ℕ) (m : MachineWithTexts) → PassesNone address n m
    → NoneIsSought (Instruction address asked) n m
none_there address asked n m none =
    λ k below.
    let now : MachineState = (after_calm_turns k m).state in
    ap (λ here. (here && is_mode asked now.world.bus.io_page.status.mode) && is_act_sought (Instruction address asked) (act_with_trap now.turn [] now.world))
    (ap (λ pc. pc == address) (pc_of now.world) ∙ none k below)

-- no turn is that isn't met by the machine before it
pub none_met : (conditions : List (Option TurnCondition)) (n : ℕ) (m : MachineWithTexts) → AreUnmet conditions n m
    → NoneIsSought (Where conditions) n m
none_met conditions n m unmet =
    λ k below.
    let now : MachineState = (after_calm_turns k m).state in
    ap (λ met. met && is_act_sought (Where conditions) (act_with_trap now.turn [] now.world)) (unmet k below)

-- no instruction is an interrupt or a pending trap
pub none_interrupts : (vector n : ℕ) (m : MachineWithTexts) → InstructsFor n m → NoneIsSought (Interrupt vector) n m
none_interrupts vector n m instructs = λ k below. ap (is_interrupt vector) (instructs k below)

pub none_traps : (n : ℕ) (m : MachineWithTexts) → InstructsFor n m → NoneIsSought PendingTrap n m
none_traps n m instructs = λ k below. ap is_pending_trap (instructs k below)

-- none of the turns that a machine passed on its way is sought
pub passed_calmly : (p : Past) (sought : Sought) (known to n : ℕ) (m : MachineWithTexts) → m.state.turn + n ≤ to
    → IsWithoutEvents p m.state.turn to → IsUnderWay p known m → NoneIsSought sought n m
    → HoldsNowhere (is_sought_at p sought) m.state.turn (m.state.turn + n)
passed_calmly p sought known to n m within quiet way none =
    λ turn least below.
    let k : ℕ = turn - m.state.turn in
    let now : MachineWithTexts = after_calm_turns k m in
    let number : m.state.turn + k ≡ turn = omega (arith, least) in
    let on : IsUnderWay p known now = way_on_calmly p known to k m (omega (arith, number, below, within)) quiet way in
    let there : now.state ≡ at p turn = on.here ∙ ap (at p) (turn_after k m ∙ number) in
    let none_happen : events_at p.script.entries turn ≡ [] = quiet turn least (omega (arith, below, within)) in
    ap (λ es. turn_is_sought sought turn es (state_at p turn)) none_happen
    ∙ sym (ap (λ (s : MachineState). turn_is_sought sought s.turn [] s.world) there)
    ∙ none k (omega (arith, number, below))
