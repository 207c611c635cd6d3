use Rattle.std.proofs.Common.{◌∙◌, ◌++◌, [], arith, ap, ap₂, subst}
use Rattle.pdp_checkpoint.specs.Formers.{FormerData, IsFirstFrom}
use Rattle.pdp_checkpoint.proofs.former.Former.first_from.Goals as goal

pub returns : goal.returns
returns c =
    let first = c.first_of.ensures [] (λ k d inside. absurd (omega arith)) in
    let all = c.first_of-2.ensures c.deref-2.result.now first in
    subst (λ xs. IsFirstFrom xs c.args.turn c.first_of-2.result) (ap₂ ◌++◌ c.deref-2.ensures.value c.deref.ensures.value ∙ ap (λ (f : FormerData). f.states) c.self.view_is) all
