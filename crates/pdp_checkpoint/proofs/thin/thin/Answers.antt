use Rattle.std.proofs.Common.{rules, ◌==◌, ◌%◌}
use Rattle.std.proofs.lemmas.Fn.{filter_same}
use Rattle.pdp_checkpoint.proofs.thin.thin.Goals as goal

pub returns : goal.returns
returns c =
    filter_same _ (λ x. x.turn % c.args.stride == 0) _ (λ x b f' h. search rules) _ _ c.retain.ensures.filtered
