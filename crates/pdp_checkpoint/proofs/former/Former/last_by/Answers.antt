use Rattle.std.proofs.Common.{◌∙◌, ◌++◌, [], arith, ap, ap₂, option_map, subst}
use Rattle.pdp_checkpoint.specs.Formers.{FormerData, IsLastBy}
use Rattle.pdp_checkpoint.proofs.former.Former.last_by.Goals as goal

pub returns : goal.returns
returns c =
    let last = c.last_of.ensures [] (λ k d inside. absurd (omega arith)) in
    let all = c.last_of-2.ensures c.deref-2.result.now last in
    subst (λ xs. IsLastBy xs c.args.turn (option_map (λ c. c.now) c.last_of-2.result)) (ap₂ ◌++◌ c.deref-2.ensures.value c.deref.ensures.value ∙ ap (λ (f : FormerData). f.states) c.self.view_is) all
