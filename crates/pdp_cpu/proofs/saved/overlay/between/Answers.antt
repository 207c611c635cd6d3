use Rattle.std.proofs.Common.{◌∙◌, ap, ap₂, drop, take}
use Rattle.std.proofs.lemmas.List.{drop_min, take_min, take_rest}
use Rattle.pdp_cpu.proofs.saved.overlay.between.Goals as goal

pub returns : goal.returns
returns c =
    let bytes = c.args.bytes.now in
    let to_last = take c.min-end.result bytes in
    take_rest to_last c.min-start.result
    ∙ ap (λ n. drop n to_last) c.min-start.ensures
    ∙ drop_min c.saturating_sub-2.result to_last
    ∙ ap₂ drop c.saturating_sub-2.ensures
    (ap (λ n. take n bytes) c.min-end.ensures ∙ take_min c.saturating_sub.result bytes ∙ ap (λ n. take n bytes) c.saturating_sub.ensures)
