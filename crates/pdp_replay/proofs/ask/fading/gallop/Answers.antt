use Rattle.std.proofs.Common.{◌<◌, arith, subst}
use Rattle.pdp_replay.specs.Run.Branches.{AreAlikeAt, Compares}
use Rattle.pdp_replay.specs.declared.run.branch.Likeness.TheVariants.{Alike, Apart}
use Rattle.pdp_replay.proofs.ask.Fadings.{beside_apart, beside_at_after, joined_if_alike, not_joined}
use Rattle.pdp_replay.proofs.run.Branches.{looked_further, looked_on}
use Rattle.pdp_replay.proofs.ask.fading.gallop.Goals as goal

pub returns-in_err-compare-clause-looked : goal.returns-in_err-compare-clause-looked
returns-in_err-compare-clause-looked c =
    looked_on c.args.to c.args.run.now c.loop-apart.run c.compare.new.self c.loop-apart.invariant.looked
    (looked_further c.min-next.result c.args.to c.loop-apart.run c.compare.new.self c.compare.ensures.looked (omega (arith, c.min-next.ensures)))

pub returns-in-Alike-clause-found : goal.returns-in-Alike-clause-found
returns-in-Alike-clause-found c = λ p q apart state.
    let before = c.loop-apart.invariant in
    let last = before.told p q apart state in
    let told : Compares c.min-next.result c.args.script.now c.loop-apart.run c.loop-apart.branch Alike = subst (Compares c.min-next.result c.args.script.now c.loop-apart.run c.loop-apart.branch) c.in-Alike.is c.in_ok-compare.ensures.told in
    let alike : AreAlikeAt c.min-next.result p q = told p q apart.same (before.kept p apart.same apart.run) (before.branch q apart.branch) in
    let least = before.least in
    let test = c.loop-apart-test.true in
    let later : c.loop-apart.apart < c.min-next.result = omega (arith, test, least, c.max-step.ensures, c.saturating_add.ensures, c.min-next.ensures) in
    record {
      order = later;
      most = omega (arith, c.min-next.ensures);
      apart_is = last.0;
      alike_is = joined_if_alike p q c.args.from c.min-next.result apart.events (omega (arith, later, least)) alike;
      state_is = last.1;
    }

pub returns-in-Alike-clause-beside : goal.returns-in-Alike-clause-beside
returns-in-Alike-clause-beside c =
    let before = c.loop-apart.invariant in
    let least = before.least in
    let test = c.loop-apart-test.true in
    let turn = c.in_ok-compare.ensures.turn in
    let later : c.loop-apart.apart < c.min-next.result = omega (arith, test, least, c.max-step.ensures, c.saturating_add.ensures, c.min-next.ensures) in
    record {
      least = least;
      order = later;
      most = omega (arith, c.min-next.ensures);
      beside = beside_at_after c.args.script.now c.loop-apart.run c.compare.new.self c.loop-apart.branch c.compare.new.branch c.loop-apart.apart c.loop-apart.state before.beside c.compare.ensures.kept c.compare.ensures.branch
          (omega (arith, turn, later));
    }

pub returns-in-Alike-clause-looked : goal.returns-in-Alike-clause-looked
returns-in-Alike-clause-looked c =
    looked_on c.args.to c.args.run.now c.loop-apart.run c.compare.new.self c.loop-apart.invariant.looked
    (looked_further c.min-next.result c.args.to c.loop-apart.run c.compare.new.self c.compare.ensures.looked (omega (arith, c.min-next.ensures)))

pub loop-apart-preserved : goal.loop-apart-preserved
loop-apart-preserved c =
    let before = c.loop-apart.invariant in
    let least = before.least in
    let test = c.loop-apart-test.true in
    let later : c.loop-apart.apart < c.min-next.result = omega (arith, test, least, c.max-step.ensures, c.saturating_add.ensures, c.min-next.ensures) in
    let told : Compares c.min-next.result c.args.script.now c.loop-apart.run c.loop-apart.branch (Apart c.in-Apart.there) = subst (Compares c.min-next.result c.args.script.now c.loop-apart.run c.loop-apart.branch) c.in-Apart.is c.in_ok-compare.ensures.told in
    record {
      beside = beside_apart c.args.script.now c.loop-apart.run c.compare.new.self c.loop-apart.branch c.compare.new.branch c.min-next.result c.in-Apart.there before.beside.beside c.compare.ensures.kept c.compare.ensures.branch told c.in_ok-compare.ensures.turn;
      here = c.in_ok-compare.ensures.turn;
      least = omega (arith, later, least);
      most = omega (arith, c.min-next.ensures);
      kept = λ p same run. c.compare.ensures.kept p same (before.kept p same run);
      branch = λ q is. c.compare.ensures.branch q (before.branch q is);
      looked = looked_on c.args.to c.args.run.now c.loop-apart.run c.compare.new.self before.looked
          (looked_further c.min-next.result c.args.to c.loop-apart.run c.compare.new.self c.compare.ensures.looked (omega (arith, c.min-next.ensures)));
      told = λ p q apart state.
          let is = told p q apart.same (before.kept p apart.same apart.run) (before.branch q apart.branch) in
          (not_joined p q c.min-next.result (λ joined. is.0 joined.state), is.1);
    }
