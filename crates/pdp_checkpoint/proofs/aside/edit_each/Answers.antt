use Rattle.std.proofs.Common.{rules, ◌≡◌, ◌∙◌, ◌++◌, ◌≤◌, ap, ap₂, append-nil, arith, get_or, length, map, slice_set}
use Rattle.std.proofs.lemmas.List.{drop_all, take_all}
use Rattle.pdp_checkpoint.specs.Formers.{former_edited}
use Rattle.pdp_checkpoint.proofs.FormerStates.{changed_more}
use Rattle.pdp_checkpoint.proofs.aside.edit_each.Goals as goal

pub loop-place-preserved : goal.loop-place-preserved
loop-place-preserved c =
    let f = former_edited c.args.turn in
    let all = c.args.formers.now.items in
    let place = c.loop-place.place in
    let read = c.index_mut.result.now in
    let end : c.len-place-end.result ≡ length all = search rules in
    ap (slice_set c.loop-place.formers.items place) c.edit.ensures
    ∙ ap (λ xs. slice_set xs place (f read)) c.loop-place.invariant
    ∙ changed_more f place read all (omega (arith, end, c.loop-place-test.true)) (c.index_mut.ensures.value ∙ ap (λ xs. get_or xs place read) c.loop-place.invariant)

pub returns : goal.returns
returns c =
    let f = former_edited c.args.turn in
    let all = c.args.formers.now.items in
    let place = c.loop-place.place in
    let end : c.len-place-end.result ≡ length all = search rules in
    let past : length all ≤ place = omega (arith, end, c.loop-place-test.false) in
    c.loop-place.invariant ∙ ap₂ ◌++◌ (ap (map f) (take_all place all past)) (drop_all place all past) ∙ append-nil (map f all)
