use Rattle.std.proofs.Common.{arith, subst, sym}
use Rattle.pdp_cpu.specs.Saved.{SavedMeet, saved_machine}
use Rattle.pdp_replay.specs.Run.States.{at}
use Rattle.pdp_replay.proofs.run.Branches.{counts_on, fits_beside, kept_metered, state_of_branch}
use Rattle.pdp_replay.proofs.run.kept_run.KeptRun.compare.Goals as goal

pub meets-requires : goal.meets-requires
meets-requires c =
    let beside = c.requires.beside in
    let here = c.in_ok-reach.ensures.there beside.past beside.same beside.run in
    let branch = c.in_ok-run.ensures.branch beside.other beside.branch in
    fits_beside beside.past beside.other c.args.turn c.args.turn c.reach.new.self.machine c.in_ok-here.here beside.units beside.drives here
    (state_of_branch beside.other c.run.new.self c.args.turn c.in_ok-here.here branch c.in_ok-run.ensures.turn c.in_ok-here.ensures.saved)

pub returns-then-meets-clause-told : goal.returns-then-meets-clause-told
returns-then-meets-clause-told c = λ p q same run branch.
    let here = c.in_ok-reach.ensures.there p same run in
    let there = state_of_branch q c.run.new.self c.args.turn c.in_ok-here.here (c.in_ok-run.ensures.branch q branch) c.in_ok-run.ensures.turn c.in_ok-here.ensures.saved in
    subst (SavedMeet (saved_machine (at p c.args.turn))) there (subst (λ s. SavedMeet (saved_machine s) c.in_ok-here.here) here (c.meets.ensures.0 c.if-meets.true))

pub returns-else-meets-clause-told : goal.returns-else-meets-clause-told
returns-else-meets-clause-told c = λ p q same run branch.
    let here = c.in_ok-reach.ensures.there p same run in
    let there = state_of_branch q c.run.new.self c.args.turn c.in_ok-here.here (c.in_ok-run.ensures.branch q branch) c.in_ok-run.ensures.turn c.in_ok-here.ensures.saved in
    (λ alike. absurd (let yes = c.meets.ensures.1 (subst (λ s. SavedMeet (saved_machine s) c.in_ok-here.here) (sym here) (subst (SavedMeet (saved_machine (at p c.args.turn))) (sym there) alike)) in let no = c.if-meets.false in cc), there)

pub returns-then-meets-clause-kept : goal.returns-then-meets-clause-kept
returns-then-meets-clause-kept c = λ p same run. kept_metered p c.reach.new.self c.run.new.meter (c.reach.ensures.kept p same run)

pub returns-then-meets-clause-counted : goal.returns-then-meets-clause-counted
returns-then-meets-clause-counted c =
    let turn = c.in_ok-run.ensures.turn in
    counts_on c.args.branch.now.machine.state.turn c.run.new.self.machine.state.turn c.args.turn c.args.self.now.meter c.reach.new.self.meter c.run.new.meter c.run.new.meter
    c.reach.ensures.advances.counted turn c.run.ensures.runs.ran (omega arith)

pub returns-else-meets-clause-counted : goal.returns-else-meets-clause-counted
returns-else-meets-clause-counted c =
    let turn = c.in_ok-run.ensures.turn in
    counts_on c.args.branch.now.machine.state.turn c.run.new.self.machine.state.turn c.args.turn c.args.self.now.meter c.reach.new.self.meter c.run.new.meter c.run.new.meter
    c.reach.ensures.advances.counted turn c.run.ensures.runs.ran (omega arith)
