use Rattle.std.proofs.Common.{◌≡◌, arith, subst}
use Rattle.pdp_replay.specs.Run.KeptRuns.{Advances, ArrivesAt}
use Rattle.pdp_replay.proofs.run.Coming.{advances_nowhere, advances_on, arrives_nowhere, arrives_on, can_go_on}
use Rattle.pdp_replay.proofs.run.kept_run.KeptRun.forward.Goals as goal
use Rattle.pdp_replay.proofs.run.kept_run.KeptRun.forward.Goals.{After-part}

pub loop-alloc-init : goal.loop-alloc-init
loop-alloc-init c = record {
  way = λ p same on. on;
  there = arrives_nowhere c.args.self.now c.requires.ready;
  on = advances_nowhere c.args.self.now c.args.to c.requires.ready c.requires.forward;
}

pub part-requires-clause-ready : goal.part-requires-clause-ready
part-requires-clause-ready c =
    let before = c.loop-alloc.invariant in
    can_go_on _ _ _ c.args.self.now c.loop-alloc.self before.on before.there

-- after a part it is as far on as that came
parted : (c : After-part) → Advances c.args.self.now.machine.state.turn c.args.to c.args.self.now c.part.new.self
parted c =
    let before = c.loop-alloc.invariant in
    advances_on _ _ _ _ c.args.self.now c.loop-alloc.self c.part.new.self before.on before.there c.part.ensures.advances

pub take_back-requires-clause-ready : goal.take_back-requires-clause-ready
take_back-requires-clause-ready c =
    can_go_on _ _ _ c.loop-alloc.self c.part.new.self c.part.ensures.advances c.in_ok-part.ensures.arrives

pub take_back-requires-clause-run : goal.take_back-requires-clause-run
take_back-requires-clause-run c =
    let run = c.requires.run in
    record { past = run.past; way = c.in_ok-part.ensures.way run.past run.same (c.loop-alloc.invariant.way run.past run.same run.way) }

pub take_back-requires-clause-forward : goal.take_back-requires-clause-forward
take_back-requires-clause-forward c = c.part.ensures.advances.turn_most

pub loop-alloc-preserved : goal.loop-alloc-preserved
loop-alloc-preserved c =
    let before = c.loop-alloc.invariant in
    let on = c.in_ok-part.ensures.on in
    let ran = c.take_back.ensures.advances.ran in
    let counted = c.take_back.ensures.advances.counted in
    let part_there = arrives_on _ _ c.args.self.now c.loop-alloc.self c.part.new.self before.there c.in_ok-part.ensures.arrives (omega (arith, on)) in
    record {
      way = λ p same on. c.in_ok-take_back.ensures.way p (c.in_ok-part.ensures.way p same (before.way p same on));
      there = arrives_on _ _ c.args.self.now c.part.new.self c.take_back.new.self part_there c.in_ok-take_back.ensures.arrives (omega (arith, ran, counted));
      on = advances_on _ _ _ _ c.args.self.now c.part.new.self c.take_back.new.self (parted (goal.at.loop-alloc-preserved c).After-part) part_there c.take_back.ensures.advances;
    }

pub returns-in_err-part-clause-kept : goal.returns-in_err-part-clause-kept
returns-in_err-part-clause-kept c = λ p same on. c.part.ensures.kept p same (c.loop-alloc.invariant.way p same on)

pub returns-in_err-part-clause-advances : goal.returns-in_err-part-clause-advances
returns-in_err-part-clause-advances c =
    let before = c.loop-alloc.invariant in
    advances_on _ _ _ _ c.args.self.now c.loop-alloc.self c.part.new.self before.on before.there c.part.ensures.advances

pub returns-in_err-take_back-clause-kept : goal.returns-in_err-take_back-clause-kept
returns-in_err-take_back-clause-kept c = λ p same on. c.take_back.ensures.kept p (c.in_ok-part.ensures.way p same (c.loop-alloc.invariant.way p same on))

pub returns-in_err-take_back-clause-advances : goal.returns-in_err-take_back-clause-advances
returns-in_err-take_back-clause-advances c =
    let before = c.loop-alloc.invariant in
    let on = c.in_ok-part.ensures.on in
    let part_there = arrives_on _ _ c.args.self.now c.loop-alloc.self c.part.new.self before.there c.in_ok-part.ensures.arrives (omega (arith, on)) in
    advances_on _ _ _ _ c.args.self.now c.part.new.self c.take_back.new.self (parted (goal.at.returns-in_err-take_back-clause-advances c).After-part) part_there c.take_back.ensures.advances

pub returns-clause-arrives : goal.returns-clause-arrives
returns-clause-arrives c =
    let here = c.loop-alloc.invariant in
    let most = here.on.turn_most in
    let turn : c.loop-alloc.self.machine.state.turn ≡ c.args.to = omega (arith, most, c.loop-alloc-test.false, c.turns.ensures) in
    subst (λ n. ArrivesAt n c.args.self.now c.loop-alloc.self) turn here.there
