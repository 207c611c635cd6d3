use Rattle.std.proofs.Common.{subst}
use Rattle.std.proofs.lemmas.Result.{on_ok_weaker}
use Rattle.pdp_replay.specs.Ask.Answer.{turn_asked}
use Rattle.pdp_replay.specs.Run.KeptRuns.{Advances, resumed_turn}
use Rattle.pdp_replay.proofs.run.Coming.{advances_further, advances_on, arrives_on}
use Rattle.pdp_replay.proofs.ask.question.Question.answer.Goals as goal

pub returns-in_err-reach-clause-advances : goal.returns-in_err-reach-clause-advances
returns-in_err-reach-clause-advances c =
    let run = c.args.run.now in
    let now = c.reach.new.self in
    subst (λ n. Advances (resumed_turn run n) (turn_asked c.args.self) run now) c.first_turn.ensures.first
    (advances_further _ _ _ run now c.reach.ensures.advances c.first_turn.ensures.most)

pub returns-clause-advances : goal.returns-clause-advances
returns-clause-advances c =
    let run = c.args.run.now in
    let now = c.read.new.run in
    subst (λ n. Advances (resumed_turn run n) (turn_asked c.args.self) run now) c.first_turn.ensures.first
    (advances_on _ _ _ _ run c.reach.new.self now c.reach.ensures.advances c.in_ok-reach.ensures.arrives c.read.ensures.advances)

pub returns-clause-arrives : goal.returns-clause-arrives
returns-clause-arrives c =
    on_ok_weaker c.read.result
    (λ there. arrives_on _ _ c.args.run.now c.reach.new.self c.read.new.run c.in_ok-reach.ensures.arrives there c.first_turn.ensures.most)
    c.read.ensures.arrives
