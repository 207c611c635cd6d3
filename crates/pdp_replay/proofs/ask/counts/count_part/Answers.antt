use Rattle.std.proofs.Common.{arith, refl}
use Rattle.pdp_replay.proofs.ask.CountedTurns.{adds_none, adds_on}
use Rattle.pdp_replay.proofs.ask.counts.count_part.Goals as goal

pub loop-words-init : goal.loop-words-init
loop-words-init c =
    let forward = c.requires.forward in
    record {
      way = λ p known same way. way;
      counted = λ p known same way. adds_none p c.args.words c.args.machine.now.state.turn c.args.machine.now.state.turn c.args.counts.now.items refl;
      few = c.requires.few;
      runs = record { least = omega arith; most = omega (arith, forward); ran = omega arith };
    }

pub loop-words-preserved : goal.loop-words-preserved
loop-words-preserved c =
    let before = c.loop-words.invariant in
    let runs = before.runs in
    let least = runs.least in
    let ran = runs.ran in
    let part = c.in_ok-count_stretch.ensures in
    let on = part.on in
    let then = c.count_stretch.ensures.runs in
    let then_least = then.least in
    let then_most = then.most in
    let then_ran = then.ran in
    record {
      way = λ p known same way. c.count_stretch.ensures.way p known same (before.way p known same way);
      counted = λ p known same way.
          adds_on p c.args.words c.args.machine.now.state.turn c.loop-words.machine.state.turn c.count_stretch.new.machine.state.turn
          c.args.counts.now.items c.loop-words.counts.items c.count_stretch.new.counts.items least (omega (arith, on)) (before.counted p known same way)
          (part.counts p known same (before.way p known same way));
      few = part.few;
      runs = record {
        least = omega (arith, least, on);
        most = then_most;
        ran = omega (arith, ran, then_ran, least, then_least);
      };
    }

pub returns-in_err-count_stretch-clause-way : goal.returns-in_err-count_stretch-clause-way
returns-in_err-count_stretch-clause-way c = λ p known same way. c.count_stretch.ensures.way p known same (c.loop-words.invariant.way p known same way)
