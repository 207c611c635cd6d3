use Rattle.std.proofs.Common.{◌∙◌, None, length-set}
use Rattle.pdp_replay.proofs.past.Lists.{blank_stays, filled_one_more}
use Rattle.pdp_replay.proofs.past.image.fill.Goals as goal

pub loop-number-preserved : goal.loop-number-preserved
loop-number-preserved g c =
    let before = c.loop-number.invariant in
    record {
      long = rw c.set.ensures.words (length-set (g.S.Store.words c.loop-number.store) c.loop-number.number _) ∙ before.long;
      words = rw (c.set.ensures.words, before.words) (filled_one_more c.args.image.now (g.S.Store.words c.args.store.now) c.loop-number.number c.loop-number-test.true c.requires);
      stamps = λ n is. rw (c.set.ensures.stamps, before.stamps n is) (blank_stays n c.loop-number.number None);
      first_touches = c.set.ensures.first_touches ∙ before.first_touches;
    }
