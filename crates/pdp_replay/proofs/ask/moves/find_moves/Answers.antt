use Rattle.std.proofs.Common.{◌≡◌, ◌∙◌, ◌-◌, ap, ap₂, arith, sym}
use Rattle.std.proofs.lemmas.Result.{IfOk-weaker}
use Rattle.pdp_cpu.specs.Handbook.MachineState.{MachineState, state_with_log}
use Rattle.pdp_replay.specs.Past.{Past}
use Rattle.pdp_replay.specs.Run.Branches.{IsKeptOfSize}
use Rattle.pdp_replay.specs.Run.States.{at}
use Rattle.pdp_replay.specs.Ask.MovesListed.{moves_in_turns}
use Rattle.pdp_replay.specs.Ask.Reads.{IsLoggedState}
use Rattle.pdp_replay.proofs.run.Branches.{kept_metered}
use Rattle.pdp_replay.proofs.ask.moves.find_moves.Goals as goal
use Rattle.pdp_replay.proofs.ask.moves.find_moves.Goals.{In_ok-branch}

-- the branch is in the state of the run, with its log
there : (c : In_ok-branch) (p : Past) → IsKeptOfSize p c.args.base_setup.now c.args.script.now c.args.run.now → IsLoggedState p c.in_ok-branch.branch.machine.state
there c p is =
    let here = c.in_ok-branch.ensures.state p is in
    here ∙ ap₂ (λ (s : MachineState) (n : MachineState). state_with_log s.world.bus.log (at p n.turn)) (sym here) (sym here)

at_first : (c : In_ok-branch) (p : Past) → IsKeptOfSize p c.args.base_setup.now c.args.script.now c.args.run.now → c.in_ok-branch.branch.machine.state.turn ≡ c.args.first
at_first c p is = ap (λ (s : MachineState). s.turn) (c.in_ok-branch.ensures.state p is)

pub returns-clause-moves : goal.returns-clause-moves
returns-clause-moves c =
    let branch = (goal.at.returns-clause-moves c).In_ok-branch in
    IfOk-weaker c.list_moves.result _ _
    (λ found is. λ p kept. is p kept.same (there branch p kept) ∙ ap (λ first. moves_in_turns p first (c.args.to - first)) (at_first branch p kept))
    c.list_moves.ensures.moves

pub returns-clause-kept : goal.returns-clause-kept
returns-clause-kept c = λ p same run. kept_metered p c.logged_branch.new.self c.list_moves.new.meter (c.logged_branch.ensures.kept p same run)

-- no turn is run before the log is made, and a stride is above 0
pub returns-in_err-log-clause-bound : goal.returns-in_err-log-clause-bound
returns-in_err-log-clause-bound c =
    let positive = c.requires.run.is.run.kept.states.checkpoints.positive in
    let order = c.requires.order in
    omega (arith, positive, order)

pub returns-in_err-branch-clause-bound : goal.returns-in_err-branch-clause-bound
returns-in_err-branch-clause-bound c =
    let bound = c.logged_branch.ensures.bound in
    let order = c.requires.order in
    omega (arith, bound, order)

pub returns-clause-bound : goal.returns-clause-bound
returns-clause-bound c =
    let some = c.requires.run in
    let turn = at_first (goal.at.returns-clause-bound c).In_ok-branch some.past some.is in
    let bound = c.logged_branch.ensures.bound in
    let ran = c.list_moves.ensures.ran in
    let order = c.requires.order in
    omega (arith, turn, bound, ran, order)
