use Rattle.std.proofs.Common.{◌≡◌, ap, arith, refl, subst, sym}
use Rattle.std.proofs.lemmas.Result.{IfOk-weaker, on_ok_weaker}
use Rattle.pdp_cpu.specs.Handbook.MachineState.{MachineWithTexts}
use Rattle.pdp_replay.specs.Past.{Past}
use Rattle.pdp_replay.specs.Run.KeptRuns.{Advances, IsOnWay, IsUnderWay, MetersWay}
use Rattle.pdp_replay.specs.Ask.Searches.{EndsAfter}
use Rattle.pdp_replay.specs.Ask.Watches.{IsFirstInRun, IsFirstOnWay, IsFirstTo, IsInside}
use Rattle.pdp_replay.proofs.run.Coming.{advances_from, arrives_from, arrives_where}
use Rattle.pdp_replay.proofs.run.OnWay.{on_way_settled}
use Rattle.pdp_replay.proofs.run.UnderWay.{way_of_run}
use Rattle.pdp_replay.proofs.ask.search.search_leg.Goals as goal
use Rattle.pdp_replay.proofs.ask.search.search_leg.Goals.{After-settle}

-- the machine is on its way where it came to, before the run settles there
came : (c : After-settle) (p : Past) → p.script ≡ c.args.script.now → IsOnWay p c.args.run.now
    → IsUnderWay p c.args.run.now.known c.search_part-found.new.machine
came c p same on = c.search_part-found.ensures.way p c.args.run.now.known same (way_of_run p c.args.run.now on)

-- and once it settled it is as far on
advanced : (c : After-settle) → Advances c.args.run.now.machine.state.turn c.args.to c.args.run.now c.settle.new.self
advanced c =
    let part = c.search_part-found.ensures.runs in
    let before = c.replace-counting.ensures.value in
    let ran = part.ran in
    let least = part.least in
    let most = part.most in
    let end = c.min-end.ensures in
    advances_from _ _ _ c.args.run.now _ c.settle.new.self refl refl (omega (arith, ran, least, before)) (omega (arith, ran, before)) c.settle.ensures.advances (omega (arith, most, end))

pub returns-in_err-settle-clause-kept : goal.returns-in_err-settle-clause-kept
returns-in_err-settle-clause-kept c = λ p same on. c.settle.ensures.kept p on.kept.states (came (goal.at.returns-in_err-settle-clause-kept c).After-settle p same on)

pub returns-clause-kept : goal.returns-clause-kept
returns-clause-kept c = λ p same on. c.settle.ensures.kept p on.kept.states (came (goal.at.returns-clause-kept c).After-settle p same on)

pub returns-clause-way : goal.returns-clause-way
returns-clause-way c =
    let run = c.args.run.now in
    let machine = c.search_part-found.new.machine in
    let settled = c.in_ok-settle.ensures in
    on_ok_weaker c.search_part-found.result
    (λ _ p same on.
    let way = came (goal.at.returns-clause-way c).After-settle p same on in
    on_way_settled p run.known machine c.settle.new.self way (c.settle.ensures.kept p on.kept.states way).kept settled.machine settled.arrives.known)
    c.search_part-found.ensures.on

pub returns-clause-arrives : goal.returns-clause-arrives
returns-clause-arrives c =
    on_ok_weaker c.search_part-found.result
    (λ _. arrives_where _ c.args.run.now c.settle.new.self (arrives_from _ c.args.run.now _ c.settle.new.self refl c.in_ok-settle.ensures.arrives))
    c.search_part-found.ensures.on

pub returns-clause-found : goal.returns-clause-found
returns-clause-found c =
    let run = c.args.run.now in
    let now = c.settle.new.self in
    let turn = ap (λ (m : MachineWithTexts). m.state.turn) c.in_ok-settle.ensures.machine in
    IfOk-weaker c.search_part-found.result (IsFirstOnWay c.args.script.now c.args.watch run.machine c.search_part-found.new.machine)
    (IsFirstInRun c.args.script.now c.args.watch run now)
    (λ found is. subst (λ t. IsFirstTo t c.args.script.now c.args.watch run found) (sym turn) (λ p same on. is p run.known same (way_of_run p run on)))
    c.search_part-found.ensures.found

pub returns-clause-ends : goal.returns-clause-ends
returns-clause-ends c =
    let turn = ap (λ (m : MachineWithTexts). m.state.turn) c.in_ok-settle.ensures.machine in
    IfOk-weaker c.search_part-found.result (EndsAfter c.search_part-found.new.machine.state.turn) (EndsAfter c.settle.new.self.machine.state.turn)
    (λ found ends. subst (λ t. EndsAfter t found) (sym turn) ends)
    c.search_part-found.ensures.ends

pub returns-in_err-settle-clause-advances : goal.returns-in_err-settle-clause-advances
returns-in_err-settle-clause-advances c = advanced (goal.at.returns-in_err-settle-clause-advances c).After-settle

pub returns-clause-advances : goal.returns-clause-advances
returns-clause-advances c = advanced (goal.at.returns-clause-advances c).After-settle

pub returns-clause-inside : goal.returns-clause-inside
returns-clause-inside c =
    let runs = c.search_part-found.ensures.runs in
    on_ok_weaker c.search_part-found.result (λ _. subst (IsInside c.args.watch) (sym c.in_ok-settle.ensures.machine) runs.inside)
    c.search_part-found.ensures.on

-- and the meter counted each turn
metered : (c : After-settle) → MetersWay c.args.run.now c.settle.new.self
metered c =
    let part = c.search_part-found.ensures.runs in
    let before = c.replace-counting.ensures.value in
    let ran = part.ran in
    let least = part.least in
    let settled = c.settle.ensures.advances in
    let most = settled.turn_most in
    let on = settled.ran in
    let meter = c.settle.ensures.meter in
    omega (arith, before, ran, least, most, on, meter)

pub returns-in_err-settle-clause-metered : goal.returns-in_err-settle-clause-metered
returns-in_err-settle-clause-metered c = metered (goal.at.returns-in_err-settle-clause-metered c).After-settle

pub returns-clause-metered : goal.returns-clause-metered
returns-clause-metered c = metered (goal.at.returns-clause-metered c).After-settle
