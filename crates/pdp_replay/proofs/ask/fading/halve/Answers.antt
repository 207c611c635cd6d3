use Rattle.std.proofs.Common.{◌+◌, ◌-◌, ◌/◌, ◌<◌, ℕ, arith, subst}
use Rattle.pdp_replay.specs.Run.Branches.{AreAlikeAt, Compares}
use Rattle.pdp_replay.specs.declared.run.branch.Likeness.TheVariants.{Alike, Apart}
use Rattle.pdp_replay.proofs.ask.Fadings.{beside_apart, beside_at_after, beside_back, joined_if_alike, not_joined}
use Rattle.pdp_replay.proofs.run.Branches.{looked_further, looked_on}
use Rattle.pdp_replay.proofs.ask.fading.halve.Goals as goal

pub returns-in_err-compare-clause-looked : goal.returns-in_err-compare-clause-looked
returns-in_err-compare-clause-looked c =
    let before = c.loop-alike.invariant in
    let order = before.order in
    let most = before.most in
    looked_on c.args.bracket.alike c.args.run.now c.loop-alike.run c.compare.new.self before.looked
    (looked_further (c.loop-alike.apart + (c.loop-alike.alike - c.loop-alike.apart) / 2) c.args.bracket.alike c.loop-alike.run c.compare.new.self c.compare.ensures.looked (omega (arith, order, most)))

pub loop-alike-preserved-in-Alike : goal.loop-alike-preserved-in-Alike
loop-alike-preserved-in-Alike c =
    let before = c.loop-alike.invariant in
    let order = before.order in
    let most = before.most in
    let least = before.least in
    let test = c.loop-alike-test.true in
    let turn = c.in_ok-compare.ensures.turn in
    let middle : ℕ = c.loop-alike.apart + (c.loop-alike.alike - c.loop-alike.apart) / 2 in
    let later : c.loop-alike.apart < middle = omega (arith, order, test) in
    let sooner : middle < c.loop-alike.alike = omega (arith, order, test) in
    let told : Compares middle c.args.script.now c.loop-alike.run c.go_back.new.self Alike = subst (Compares middle c.args.script.now c.loop-alike.run c.go_back.new.self) c.in-Alike.is c.in_ok-compare.ensures.told in
    let back = beside_back c.args.script.now c.loop-alike.run c.loop-alike.branch c.go_back.new.self c.loop-alike.apart c.loop-alike.state before.beside c.go_back.ensures.branch c.go_back.ensures.turn in
    record {
      beside = beside_at_after c.args.script.now c.loop-alike.run c.compare.new.self c.go_back.new.self c.compare.new.branch c.loop-alike.apart c.loop-alike.state back c.compare.ensures.kept c.compare.ensures.branch (omega (arith, turn, later));
      order = later;
      most = omega (arith, sooner, most);
      least = least;
      kept = λ p same run. c.compare.ensures.kept p same (before.kept p same run);
      looked = looked_on c.args.bracket.alike c.args.run.now c.loop-alike.run c.compare.new.self before.looked
          (looked_further middle c.args.bracket.alike c.loop-alike.run c.compare.new.self c.compare.ensures.looked (omega (arith, sooner, most)));
      told = λ from to p q apart low bracket.
          let last = before.told from to p q apart low bracket in
          let high = last.1.most in
          let branch = (c.go_back.ensures.branch q (record { branch = last.0; state = last.1.state_is; reached = before.beside.reached })).branch in
          let alike : AreAlikeAt middle p q = told p q apart.same (before.kept p apart.same apart.run) branch in (
            c.compare.ensures.branch q branch,
            record {
              order = later;
              most = omega (arith, sooner, high);
              apart_is = last.1.apart_is;
              alike_is = joined_if_alike p q from middle apart.events (omega (arith, low, least, later)) alike;
              state_is = last.1.state_is;
            },
          );
    }

pub loop-alike-preserved : goal.loop-alike-preserved
loop-alike-preserved c =
    let before = c.loop-alike.invariant in
    let order = before.order in
    let most = before.most in
    let least = before.least in
    let test = c.loop-alike-test.true in
    let middle : ℕ = c.loop-alike.apart + (c.loop-alike.alike - c.loop-alike.apart) / 2 in
    let later : c.loop-alike.apart < middle = omega (arith, order, test) in
    let sooner : middle < c.loop-alike.alike = omega (arith, order, test) in
    let told : Compares middle c.args.script.now c.loop-alike.run c.go_back.new.self (Apart c.in-Apart.there) = subst (Compares middle c.args.script.now c.loop-alike.run c.go_back.new.self) c.in-Apart.is c.in_ok-compare.ensures.told in
    let back = beside_back c.args.script.now c.loop-alike.run c.loop-alike.branch c.go_back.new.self c.loop-alike.apart c.loop-alike.state before.beside c.go_back.ensures.branch c.go_back.ensures.turn in
    record {
      beside = beside_apart c.args.script.now c.loop-alike.run c.compare.new.self c.go_back.new.self c.compare.new.branch middle c.in-Apart.there back.beside c.compare.ensures.kept c.compare.ensures.branch told c.in_ok-compare.ensures.turn;
      order = sooner;
      most = most;
      least = omega (arith, later, least);
      kept = λ p same run. c.compare.ensures.kept p same (before.kept p same run);
      looked = looked_on c.args.bracket.alike c.args.run.now c.loop-alike.run c.compare.new.self before.looked
          (looked_further middle c.args.bracket.alike c.loop-alike.run c.compare.new.self c.compare.ensures.looked (omega (arith, sooner, most)));
      told = λ from to p q apart low bracket.
          let last = before.told from to p q apart low bracket in
          let branch = (c.go_back.ensures.branch q (record { branch = last.0; state = last.1.state_is; reached = before.beside.reached })).branch in
          let is = told p q apart.same (before.kept p apart.same apart.run) branch in (
            c.compare.ensures.branch q branch,
            record {
              order = sooner;
              most = last.1.most;
              apart_is = not_joined p q middle (λ joined. is.0 joined.state);
              alike_is = last.1.alike_is;
              state_is = is.1;
            },
          );
    }

pub returns-clause-found : goal.returns-clause-found
returns-clause-found c = λ from to p q apart low bracket.
    let before = c.loop-alike.invariant in
    let order = before.order in
    let test = c.loop-alike-test.false in
    let last = before.told from to p q apart low bracket in
    record {
      before = c.loop-alike.apart;
      next = omega (arith, order, test);
      most = last.1.most;
      apart = last.1.apart_is;
      joined = last.1.alike_is;
    }
