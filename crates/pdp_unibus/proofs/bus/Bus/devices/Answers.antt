use Rattle.std.proofs.Common.{arith, length-set, ◌∙◌}
use Rattle.pdp_unibus.proofs.ShownWords.{one_more_word}
use Rattle.pdp_unibus.proofs.bus.Bus.devices.Goals as goal

pub loop-index-preserved : goal.loop-index-preserved
loop-index-preserved g c =
    let here = c.loop-index in
    let long = here.invariant.long in
    let within = c.loop-index-test.true in
    record {
      long = length-set here.words here.index c.value.result ∙ long;
      words = rw c.value.ensures
          (one_more_word c.args.self.now here.words c.shown_register.result here.index c.shown_register.ensures
          (omega (arith, long, within)) here.invariant.words);
    }
