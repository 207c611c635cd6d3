use Rattle.std.proofs.Common.{◌≡◌, ◌*◌, ◌+◌, ◌/◌, ◌-◌, ◌≤◌, Bool, None, Option, Some, arith, false, is_some, not, refl, subst, true, ℕ}
use Rattle.pdp_replay.specs.Ask.Backwards.{IsLastOf}
use Rattle.pdp_replay.specs.Ask.SoughtTurns.{is_sought_at}
use Rattle.pdp_replay.specs.Run.KeptRuns.{IsSomeRun}
use Rattle.pdp_replay.proofs.ask.LastTurns.{last_before, last_earlier, stride_grows}
use Rattle.pdp_replay.proofs.ask.Resuming.{resumed_near, resumed_there}
use Rattle.pdp_replay.proofs.run.Branches.{looked_at, looked_on}
use Rattle.pdp_replay.proofs.ask.backwards.search_back.Goals as goal
use Rattle.pdp_replay.proofs.ask.backwards.search_back.Goals.{After-find_last_between}

-- nothing was found before another part is searched
nothing : (found : Option ℕ) (none : Bool) → is_some found ≡ not none → none ≡ true → found ≡ None
nothing None none is looked = refl
nothing (Some t) true is looked = absurd (cc is)
nothing (Some t) false is looked = absurd (cc looked)

-- what is kept before a part is that of some run
some : (c : After-find_last_between) → IsSomeRun c.loop-found.run
some c =
    let run = c.requires.run in
    record { past = run.past; run = c.loop-found.invariant.kept run.past run.same run.run }

-- a part runs the turns from less than a stride before its first one on
part_ran : (c : After-find_last_between) → c.find_last_between.new.run.meter + c.part_before-start.result
    ≤ c.args.run.now.meter + c.args.to + c.find_last_between.new.run.ladder.stride
part_ran c =
    let before = c.loop-found.invariant in
    let on = c.find_last_between.ensures.advances in
    let low = before.looked.known_least in
    let exact = before.exact c.if-from-start.true in
    let near = resumed_near c.loop-found.run c.part_before-start.result (some c) (omega (arith, c.part_before-start.ensures.before, before.most, c.requires.known, low)) in
    let grows = stride_grows c.loop-found.run c.find_last_between.new.run (some c) on.stride in
    let ran = on.ran in
    let most = on.turn_most in
    omega (arith, exact, near, grows, ran, most)

pub returns-in_err-found-clause-bound : goal.returns-in_err-found-clause-bound
returns-in_err-found-clause-bound c =
    let ran = part_ran (goal.at.returns-in_err-found-clause-bound c).After-find_last_between in
    omega (arith, ran, c.part_before-start.ensures.begin)

pub loop-found-preserved : goal.loop-found-preserved
loop-found-preserved c =
    let before = c.loop-found.invariant in
    let part = (goal.at.loop-found-preserved c).After-find_last_between in
    let on = c.find_last_between.ensures.advances in
    let begin = c.part_before-start.ensures.begin in
    let earlier = c.part_before-start.ensures.before in
    let near = c.part_before-start.ensures.near in
    let low = before.looked.known_least in
    let most = before.most in
    let stride = c.stride.ensures.stride in
    let known = c.requires.known in
    let grows = stride_grows c.loop-found.run c.find_last_between.new.run (some part) on.stride in
    let run = c.requires.run in
    let none : c.loop-found.found ≡ None = nothing c.loop-found.found c.is_none.result c.is_none.ensures c.loop-found-test.true in
    record {
      kept = λ p same is. c.find_last_between.ensures.kept p same (before.kept p same is);
      looked = looked_on c.args.to c.args.run.now c.loop-found.run c.find_last_between.new.run before.looked
          (looked_at _ c.loop-found.start c.args.to c.loop-found.run c.find_last_between.new.run on most);
      least = omega (arith, begin);
      most = omega (arith, earlier, most);
      ran = part_ran part;
      exact = λ more.
          let is : c.part_before-start.result ≡ (c.loop-found.start - 1) / c.stride.result * c.stride.result = omega (arith, begin, more) in
          let there = resumed_there c.loop-found.run ((c.loop-found.start - 1) / c.stride.result) c.part_before-start.result (some part)
          (subst (λ n. c.part_before-start.result ≡ (c.loop-found.start - 1) / c.stride.result * n) stride is) (omega (arith, earlier, most, known, low)) in
          let exact = before.exact c.if-from-start.true in
          let ran = on.ran in
          let end = on.turn_most in
          omega (arith, there, exact, ran, end);
      near = λ t is.
          let last = c.in_ok-found.ensures.found run.past run.same (before.kept run.past run.same run.run) in
          let below = last_before (is_sought_at run.past c.args.sought) c.part_before-start.result c.loop-found.start c.in_ok-found.found t is last in
          omega (arith, below, near, grows, stride);
      last = λ p same is.
          last_earlier (is_sought_at p c.args.sought) c.part_before-start.result c.loop-found.start c.args.to c.in_ok-found.found most
          (subst (IsLastOf (is_sought_at p c.args.sought) c.loop-found.start c.args.to) none (before.last p same is))
          (c.in_ok-found.ensures.found p same (before.kept p same is));
    }
