use Rattle.std.proofs.Common.{arith}
use Rattle.pdp_checkpoint.proofs.Bounds.{one_longer}
use Rattle.pdp_checkpoint.proofs.FormerStates.{formers_added}
use Rattle.pdp_checkpoint.proofs.aside.add_former.Goals as goal

pub returns-clause-left : goal.returns-clause-left
returns-clause-left c = formers_added c.args.former c.args.formers.now.items c.keep_one.new.formers.items c.add.new.list.items c.keep_one.ensures.left c.add.ensures

pub returns-clause-few : goal.returns-clause-few
returns-clause-few c =
    let more = one_longer c.keep_one.new.formers.items c.add.new.list.items c.args.former c.add.ensures in
    let few = c.keep_one.ensures.few in
    omega (arith, more, few)
