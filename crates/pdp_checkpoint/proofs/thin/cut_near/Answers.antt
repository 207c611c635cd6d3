use Rattle.std.proofs.Common.{rules, nat_le}
use Rattle.std.proofs.lemmas.Fn.{filter_same}
use Rattle.pdp_checkpoint.proofs.thin.cut_near.Goals as goal

pub returns : goal.returns
returns c =
    filter_same _ (λ x. nat_le x.turn c.args.turn) _ (λ x b f' h. search rules) _ _ c.retain.ensures.filtered
