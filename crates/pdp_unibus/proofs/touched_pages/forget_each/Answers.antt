use Rattle.std.proofs.Common.{◌∙◌, ◌<◌, ap, rules, map, length, slice_index_or, slice_set, []}
use Rattle.std.proofs.lemmas.List.{length-map}
use Rattle.pdp_store.specs.FirstTouches.{first_touches_before}
use Rattle.pdp_unibus.proofs.SavedDrives.{changed_next}
use Rattle.pdp_unibus.proofs.touched_pages.forget_each.Goals as goal

pub loop-number-preserved : goal.loop-number-preserved
loop-number-preserved g c =
    let (words, first_touches, as_many, as_many_first) = c.loop-number.invariant in
    let number = c.loop-number.number in
    let before = first_touches_before c.args.turn in
    let all = map g.D.Store.first_touches c.args.drives.now.items in
    let below : number < length c.args.drives.now.items = search rules in
    let within : number < length all = rw length-map below in (
      c.forget_one.ensures.words ∙ words,
      c.forget_one.ensures.first_touches
          ∙ ap (λ xs. slice_set xs number (before (slice_index_or xs number []))) first_touches
          ∙ changed_next before number [] all within,
      c.forget_one.ensures.count ∙ as_many,
      as_many_first,
    )
