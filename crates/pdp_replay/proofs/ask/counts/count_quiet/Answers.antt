use Rattle.std.proofs.Common.{arith, refl, sym}
use Rattle.pdp_replay.proofs.ask.CountedTurns.{adds_none, adds_on}
use Rattle.pdp_replay.proofs.ask.counts.count_quiet.Goals as goal

pub loop-words-init : goal.loop-words-init
loop-words-init c =
    let forward = c.requires.forward in
    record {
      way = λ p known quiet way. way;
      counted = λ p known quiet way. adds_none p c.args.words c.args.machine.now.state.turn c.args.machine.now.state.turn c.args.counts.now.items refl;
      few = c.requires.few;
      runs = record { least = omega arith; most = omega (arith, forward); ran = omega arith };
    }

pub loop-words-preserved : goal.loop-words-preserved
loop-words-preserved c =
    let before = c.loop-words.invariant in
    let runs = before.runs in
    let least = runs.least in
    let ran = runs.ran in
    let turn = c.in_ok-count_turn.ensures in
    let on = turn.on in
    let then = c.count_turn.ensures.runs in
    let then_least = then.least in
    let then_ran = then.ran in
    let short = c.loop-words-test.true in
    let here = c.turns.ensures in
    record {
      way = λ p known quiet way.
          c.count_turn.ensures.way p known (sym (quiet c.loop-words.machine.state.turn least (omega (arith, short, here)))) (before.way p known quiet way);
      counted = λ p known quiet way.
          adds_on p c.args.words c.args.machine.now.state.turn c.loop-words.machine.state.turn c.count_turn.new.machine.state.turn
          c.args.counts.now.items c.loop-words.counts.items c.count_turn.new.counts.items least (omega (arith, on)) (before.counted p known quiet way)
          (turn.counts p known (sym (quiet c.loop-words.machine.state.turn least (omega (arith, short, here)))) (before.way p known quiet way));
      few = turn.few;
      runs = record {
        least = omega (arith, least, on);
        most = omega (arith, short, here, on);
        ran = omega (arith, ran, then_ran, least, then_least);
      };
    }

pub returns-in_err-count_turn-clause-way : goal.returns-in_err-count_turn-clause-way
returns-in_err-count_turn-clause-way c = λ p known quiet way.
    let before = c.loop-words.invariant in
    let least = before.runs.least in
    let short = c.loop-words-test.true in
    let here = c.turns.ensures in
    c.count_turn.ensures.way p known (sym (quiet c.loop-words.machine.state.turn least (omega (arith, short, here)))) (before.way p known quiet way)
