use Rattle.std.proofs.Common.{◌≡◌, ◌∙◌, ◌-◌, ◌*◌, ap, ap₂, arith, length, sym}
use Rattle.pdp_cpu.specs.Handbook.MachineState.{MachineState, state_with_log}
use Rattle.pdp_replay.specs.Past.{Past}
use Rattle.pdp_replay.specs.Past.Setup.{unit_words}
use Rattle.pdp_replay.specs.Run.Branches.{IsKeptOfSize}
use Rattle.pdp_replay.specs.Run.States.{at}
use Rattle.pdp_replay.specs.Ask.Reads.{IsLoggedState, reads_in_turns}
use Rattle.pdp_replay.proofs.run.Branches.{kept_metered}
use Rattle.pdp_replay.proofs.run.CoreSizes.{core_keeps_size}
use Rattle.pdp_replay.proofs.ask.reads.find_reads.Goals as goal
use Rattle.pdp_replay.proofs.ask.reads.find_reads.Goals.{In_ok-branch}

-- the branch is in the state of the run, with its log
there : (c : In_ok-branch) (p : Past) → IsKeptOfSize p c.args.base_setup.now c.args.script.now c.args.run.now → IsLoggedState p c.in_ok-branch.branch.machine.state
there c p is =
    let here = c.in_ok-branch.ensures.state p is in
    here
    ∙ ap₂ (λ (s : MachineState) (n : MachineState). state_with_log s.world.bus.log (at p n.turn)) (sym here) (sym here)

at_from : (c : In_ok-branch) → c.in_ok-branch.branch.machine.state.turn ≡ c.args.from
at_from c = let some = c.requires.run in ap (λ (s : MachineState). s.turn) (c.in_ok-branch.ensures.state some.past some.is)

pub list_reads-requires-clause-within : goal.list_reads-requires-clause-within
list_reads-requires-clause-within c =
    let some = c.requires.run in
    let p = some.past in
    let here = ap (λ (s : MachineState). length s.world.bus.core) (c.in_ok-branch.ensures.state p some.is) in
    let size = core_keeps_size p c.args.from in
    let units = ap (λ u. u * unit_words) some.is.units in
    let within = c.requires.within in
    omega (arith, here, size, units, within)

pub returns-in_err-reads-clause-kept : goal.returns-in_err-reads-clause-kept
returns-in_err-reads-clause-kept c = λ p same run. kept_metered p c.logged_branch.new.self c.list_reads.new.meter (c.logged_branch.ensures.kept p same run)

pub returns-clause-kept : goal.returns-clause-kept
returns-clause-kept c = λ p same run. kept_metered p c.logged_branch.new.self c.list_reads.new.meter (c.logged_branch.ensures.kept p same run)

pub returns-clause-reads : goal.returns-clause-reads
returns-clause-reads c = λ p is.
    let turn = ap (λ (s : MachineState). s.turn) (c.in_ok-branch.ensures.state p is) in
    let listed = c.in_ok-reads.ensures.reads p is.same (there (goal.at.returns-clause-reads c).In_ok-branch p is) in
    listed ∙ ap₂ (λ first now. reads_in_turns p c.args.number first (now - first)) turn (sym c.turns.ensures)

-- no turn is run before the log is made, and a stride is above 0
pub returns-in_err-log-clause-bound_to : goal.returns-in_err-log-clause-bound_to
returns-in_err-log-clause-bound_to c =
    let positive = c.requires.run.is.run.kept.states.checkpoints.positive in
    let order = c.requires.order in
    omega (arith, positive, order)

pub returns-in_err-branch-clause-bound_to : goal.returns-in_err-branch-clause-bound_to
returns-in_err-branch-clause-bound_to c =
    let bound = c.logged_branch.ensures.bound in
    let order = c.requires.order in
    omega (arith, bound, order)

pub returns-in_err-reads-clause-bound_to : goal.returns-in_err-reads-clause-bound_to
returns-in_err-reads-clause-bound_to c =
    let turn = at_from (goal.at.returns-in_err-reads-clause-bound_to c).In_ok-branch in
    let bound = c.logged_branch.ensures.bound in
    let ran = c.list_reads.ensures.ran_to in
    let order = c.requires.order in
    omega (arith, turn, bound, ran, order)

pub returns-clause-bound_to : goal.returns-clause-bound_to
returns-clause-bound_to c =
    let turn = at_from (goal.at.returns-clause-bound_to c).In_ok-branch in
    let bound = c.logged_branch.ensures.bound in
    let ran = c.list_reads.ensures.ran_to in
    let order = c.requires.order in
    omega (arith, turn, bound, ran, order)

pub returns-clause-least : goal.returns-clause-least
returns-clause-least c =
    let turn = at_from (goal.at.returns-clause-least c).In_ok-branch in
    let least = c.in_ok-reads.ensures.on.least in
    let here = c.turns.ensures in
    omega (arith, turn, least, here)

pub returns-clause-within_to : goal.returns-clause-within_to
returns-clause-within_to c =
    let most = c.in_ok-reads.ensures.on.most in
    let here = c.turns.ensures in
    omega (arith, most, here)

pub returns-clause-bound : goal.returns-clause-bound
returns-clause-bound c =
    let turn = at_from (goal.at.returns-clause-bound c).In_ok-branch in
    let bound = c.logged_branch.ensures.bound in
    let least = c.in_ok-reads.ensures.on.least in
    let ran = c.in_ok-reads.ensures.on.ran in
    let here = c.turns.ensures in
    omega (arith, turn, bound, least, ran, here)
