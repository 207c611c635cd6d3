use Rattle.std.proofs.Common.{◌+◌, ◌*◌, ◌≤◌, ap, arith, unwrap_or, ℕ}
use Rattle.std.proofs.lemmas.Result.{IfOk-weaker}
use Rattle.pdp_replay.specs.Ask.Backwards.{IsWithinBack}
use Rattle.pdp_replay.specs.declared.run.kept_run.KeptRun.{KeptRun}
use Rattle.pdp_replay.proofs.ask.LastTurns.{stride_grows, within_back}
use Rattle.pdp_replay.proofs.ask.backwards.find_last.Goals as goal
use Rattle.pdp_replay.proofs.ask.backwards.find_last.Goals.{After-search_back}

pub returns-in_err-make_known-clause-bound : goal.returns-in_err-make_known-clause-bound
returns-in_err-make_known-clause-bound c =
    let run = c.requires.run in
    let grows = stride_grows c.args.run.now c.make_known.new.run (record { past = run.past; run = run.run }) c.make_known.ensures.looked.stride in
    within_back c.args.from c.args.to c.args.run.now.known c.args.run.now.meter c.make_known.new.run.meter c.make_known.new.run.meter
    c.args.run.now.ladder.stride c.make_known.new.run.ladder.stride (λ all. ap (λ (r : KeptRun). r.meter) (c.make_known.ensures.none all))
    c.make_known.ensures.bound grows (omega (arith, c.requires.order))

-- a search back to turn n
back : (c : After-search_back) (n : ℕ) → c.search_back.new.run.meter + n ≤ c.make_known.new.run.meter + c.args.to + 2 * c.search_back.new.run.ladder.stride
    → IsWithinBack n c.args.to c.args.run.now.known c.args.run.now.meter c.search_back.new.run.meter c.search_back.new.run.ladder.stride
back c n ran =
    let run = c.requires.run in
    let first = stride_grows c.args.run.now c.make_known.new.run (record { past = run.past; run = run.run }) c.make_known.ensures.looked.stride in
    let then = stride_grows c.make_known.new.run c.search_back.new.run (record { past = run.past; run = c.make_known.ensures.kept run.past run.same run.run }) c.search_back.ensures.looked.stride in
    within_back n c.args.to c.args.run.now.known c.args.run.now.meter c.make_known.new.run.meter c.search_back.new.run.meter
    c.args.run.now.ladder.stride c.search_back.new.run.ladder.stride (λ all. ap (λ (r : KeptRun). r.meter) (c.make_known.ensures.none all))
    c.make_known.ensures.bound (omega (arith, first, then)) ran

pub returns-clause-bound : goal.returns-clause-bound
returns-clause-bound c = back (goal.at.returns-clause-bound c).After-search_back c.args.from c.search_back.ensures.bound

pub returns-clause-ran : goal.returns-clause-ran
returns-clause-ran c =
    IfOk-weaker c.search_back.result
    (λ found. c.search_back.new.run.meter + unwrap_or found c.args.from ≤ c.make_known.new.run.meter + c.args.to + 2 * c.search_back.new.run.ladder.stride)
    (λ found. IsWithinBack (unwrap_or found c.args.from) c.args.to c.args.run.now.known c.args.run.now.meter c.search_back.new.run.meter c.search_back.new.run.ladder.stride)
    (λ found ran. back (goal.at.returns-clause-ran c).After-search_back (unwrap_or found c.args.from) ran) c.search_back.ensures.ran
