use Rattle.std.proofs.Common.{rules, ◌≡◌, ◌∙◌, All, ap, arith, drop, length, min, subst}
use Rattle.std.proofs.lemmas.List.{drop_min, length-drop}
use Rattle.pdp_checkpoint.proofs.FormerStates.{each_in}
use Rattle.pdp_checkpoint.specs.Formers.{IsStateIn}
use Rattle.pdp_checkpoint.proofs.aside.split_kept.Goals as goal

pub returns-in-Ok-clause-late : goal.returns-in-Ok-clause-late
returns-in-Ok-clause-late c =
    let late = c.in-Ok.ensures.tail in
    let kept = c.args.kept.now.items in
    let count : c.min-count.result ≡ min c.args.count (length kept) = search rules in
    subst (λ xs. All (IsStateIn xs) c.in-Ok.late.items) (late ∙ ap (λ n. drop n kept) count ∙ drop_min c.args.count kept) (each_in c.in-Ok.late.items)

pub returns-in-Ok-clause-few : goal.returns-in-Ok-clause-few
returns-in-Ok-clause-few c =
    let size = ap length c.in-Ok.ensures.tail ∙ length-drop c.min-count.result c.args.kept.now.items in
    omega (arith, size)
