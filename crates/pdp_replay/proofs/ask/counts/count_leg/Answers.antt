use Rattle.std.proofs.Common.{◌≡◌, ap, arith, refl, subst, sym}
use Rattle.std.proofs.lemmas.Result.{on_ok_weaker}
use Rattle.pdp_cpu.specs.Handbook.MachineState.{MachineWithTexts}
use Rattle.pdp_replay.specs.Past.{Past}
use Rattle.pdp_replay.specs.Run.KeptRuns.{Advances, IsOnWay, IsUnderWay, MetersWay}
use Rattle.pdp_replay.specs.Ask.Counts.{AddsTo, AreAtMost}
use Rattle.pdp_replay.proofs.run.Coming.{advances_from, arrives_from, arrives_where}
use Rattle.pdp_replay.proofs.run.OnWay.{on_way_settled}
use Rattle.pdp_replay.proofs.run.UnderWay.{way_of_run}
use Rattle.pdp_replay.proofs.ask.counts.count_leg.Goals as goal
use Rattle.pdp_replay.proofs.ask.counts.count_leg.Goals.{After-settle}

-- the machine is on its way where it came to, before the run settles there
came : (c : After-settle) (p : Past) → p.script ≡ c.args.script.now → IsOnWay p c.args.run.now
    → IsUnderWay p c.args.run.now.known c.count_part-counted.new.machine
came c p same on = c.count_part-counted.ensures.way p c.args.run.now.known same (way_of_run p c.args.run.now on)

-- and once it settled it is as far on
advanced : (c : After-settle) → Advances c.args.run.now.machine.state.turn c.args.to c.args.run.now c.settle.new.self
advanced c =
    let part = c.count_part-counted.ensures.runs in
    let before = c.replace-counting.ensures.value in
    let ran = part.ran in
    let least = part.least in
    let most = part.most in
    let end = c.min-end.ensures in
    advances_from _ _ _ c.args.run.now _ c.settle.new.self refl refl (omega (arith, ran, least, before)) (omega (arith, ran, before)) c.settle.ensures.advances (omega (arith, most, end))

pub returns-in_err-settle-clause-kept : goal.returns-in_err-settle-clause-kept
returns-in_err-settle-clause-kept c = λ p same on. c.settle.ensures.kept p on.kept.states (came (goal.at.returns-in_err-settle-clause-kept c).After-settle p same on)

pub returns-clause-kept : goal.returns-clause-kept
returns-clause-kept c = λ p same on. c.settle.ensures.kept p on.kept.states (came (goal.at.returns-clause-kept c).After-settle p same on)

pub returns-clause-way : goal.returns-clause-way
returns-clause-way c =
    let run = c.args.run.now in
    let machine = c.count_part-counted.new.machine in
    let settled = c.in_ok-settle.ensures in
    on_ok_weaker c.count_part-counted.result
    (λ _ p same on.
    let way = came (goal.at.returns-clause-way c).After-settle p same on in
    on_way_settled p run.known machine c.settle.new.self way (c.settle.ensures.kept p on.kept.states way).kept settled.machine settled.arrives.known)
    c.count_part-counted.ensures.turn

pub returns-clause-arrives : goal.returns-clause-arrives
returns-clause-arrives c =
    on_ok_weaker c.count_part-counted.result
    (λ _. arrives_where _ c.args.run.now c.settle.new.self (arrives_from _ c.args.run.now _ c.settle.new.self refl c.in_ok-settle.ensures.arrives))
    c.count_part-counted.ensures.turn

pub returns-clause-counts : goal.returns-clause-counts
returns-clause-counts c =
    let run = c.args.run.now in
    let counts = c.args.counts.now.items in
    let now = c.count_part-counted.new.counts.items in
    let turn = ap (λ (m : MachineWithTexts). m.state.turn) c.in_ok-settle.ensures.machine in
    on_ok_weaker c.count_part-counted.result
    (λ added. subst (λ t. AddsTo t c.args.script.now c.args.words run counts now) (sym turn) (λ p same on. added p run.known same (way_of_run p run on)))
    c.count_part-counted.ensures.counts

pub returns-clause-few : goal.returns-clause-few
returns-clause-few c =
    let now = c.count_part-counted.new.counts.items in
    let turn = ap (λ (m : MachineWithTexts). m.state.turn) c.in_ok-settle.ensures.machine in
    on_ok_weaker c.count_part-counted.result (λ few. subst (λ t. AreAtMost t now) (sym turn) few) c.count_part-counted.ensures.few

pub returns-in_err-settle-clause-advances : goal.returns-in_err-settle-clause-advances
returns-in_err-settle-clause-advances c = advanced (goal.at.returns-in_err-settle-clause-advances c).After-settle

pub returns-clause-advances : goal.returns-clause-advances
returns-clause-advances c = advanced (goal.at.returns-clause-advances c).After-settle

-- and the meter counted each turn
metered : (c : After-settle) → MetersWay c.args.run.now c.settle.new.self
metered c =
    let part = c.count_part-counted.ensures.runs in
    let before = c.replace-counting.ensures.value in
    let ran = part.ran in
    let least = part.least in
    let settled = c.settle.ensures.advances in
    let most = settled.turn_most in
    let on = settled.ran in
    let meter = c.settle.ensures.meter in
    omega (arith, before, ran, least, most, on, meter)

pub returns-in_err-settle-clause-metered : goal.returns-in_err-settle-clause-metered
returns-in_err-settle-clause-metered c = metered (goal.at.returns-in_err-settle-clause-metered c).After-settle

pub returns-clause-metered : goal.returns-clause-metered
returns-clause-metered c = metered (goal.at.returns-clause-metered c).After-settle
