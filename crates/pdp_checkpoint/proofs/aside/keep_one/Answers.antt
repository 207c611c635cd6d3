use Rattle.pdp_checkpoint.proofs.FormerStates.{one_at_most, one_left}
use Rattle.pdp_checkpoint.proofs.aside.keep_one.Goals as goal

pub returns-clause-left : goal.returns-clause-left
returns-clause-left c =
    one_left c.args.formers.now.items c.drop_first.new.formers.items c.truncate.new.self.items c.drop_needless.new.formers.items c.drop_first.ensures c.truncate.ensures.items c.drop_needless.ensures

pub returns-clause-few : goal.returns-clause-few
returns-clause-few c =
    one_at_most c.drop_first.new.formers.items c.truncate.new.self.items c.drop_needless.new.formers.items c.truncate.ensures.items c.drop_needless.ensures
