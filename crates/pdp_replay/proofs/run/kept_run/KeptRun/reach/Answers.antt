use Rattle.std.proofs.Common.{◌∙◌, ap, arith, OnOk, Result, Ok, Err}
use Rattle.std.proofs.lemmas.Result.{on_ok_weaker}
use Rattle.pdp_replay.specs.Run.States.{at}
use Rattle.pdp_replay.proofs.run.Coming.{advances_from, arrives_from}
use Rattle.pdp_replay.proofs.run.kept_run.KeptRun.reach.Goals as goal

-- what two facts say of the same success
both_on_ok : {T E P Q R : Type 0} (r : Result T E) → (P → Q → R) → OnOk r P → OnOk r Q → OnOk r R
both_on_ok (Ok value) gives one other = gives one other
both_on_ok (Err refused) gives one other = tt

pub resume-requires : goal.resume-requires
resume-requires c =
    let run = c.requires.run in
    record { run = record { past = run.past; run = run.run } }

pub forward-requires-clause-run : goal.forward-requires-clause-run
forward-requires-clause-run c =
    let run = c.requires.run in
    record { past = run.past; same = run.same; way = c.resume.ensures.way run.past run.run }

pub returns-clause-kept : goal.returns-clause-kept
returns-clause-kept c = λ p same run. c.forward.ensures.kept p same (c.resume.ensures.way p run)

pub returns-clause-there : goal.returns-clause-there
returns-clause-there c =
    both_on_ok c.forward.result
    (λ way there p same run. (way p same (c.resume.ensures.way p run)).here ∙ ap (at p) there.turn)
    c.forward.ensures.way c.forward.ensures.arrives

pub returns-clause-arrives : goal.returns-clause-arrives
returns-clause-arrives c =
    on_ok_weaker c.forward.result
    (λ there. arrives_from _ c.args.self.now c.resume.new.self c.forward.new.self c.resume.ensures.resumed.known there)
    c.forward.ensures.arrives

pub returns-clause-advances : goal.returns-clause-advances
returns-clause-advances c =
    let resumed = c.resume.ensures.resumed in
    let turn = resumed.turn in
    let meter = resumed.meter in
    advances_from _ _ _ c.args.self.now c.resume.new.self c.forward.new.self resumed.known resumed.ladder
    (omega (arith, turn, meter)) (omega (arith, meter)) c.forward.ensures.advances (omega arith)

pub returns-clause-bound : goal.returns-clause-bound
returns-clause-bound c =
    let near = c.resume.ensures.resumed.near in
    let meter = c.resume.ensures.resumed.meter in
    let ran = c.forward.ensures.advances.ran in
    let most = c.forward.ensures.advances.turn_most in
    omega (arith, near, meter, ran, most)
