use Rattle.std.proofs.Common.{rules, ◌≡◌, ◌∙◌, arith, length, map, refl}
use Rattle.std.proofs.lemmas.List.{length-map}
use Rattle.pdp_unibus.specs.SavedTouches.{turns_in}
use Rattle.pdp_unibus.proofs.ComparedDrives.{as_many_seen, drive_laid_more, drives_all_laid, laid_alike}
use Rattle.pdp_unibus.proofs.save.saved_touches.lay_each.Goals as goal

pub loop-number-init : goal.loop-number-init
loop-number-init g c =
    let count : length c.args.drives.now.items ≡ c.len-number-end.result = search rules in
    (refl, refl, count, as_many_seen turns_in g.D.Store.first_touches c.args.over.now.items c.args.drives.now.items c.requires ∙ count, count)

pub lay_one-requires-clause-pages : goal.lay_one-requires-clause-pages
lay_one-requires-clause-pages g c =
    let (words, laid, as_many, as_many_over, as_many_first) = c.loop-number.invariant in
    laid_alike c.args.from c.args.to (map g.D.Store.first_touches c.args.drives.now.items) (map turns_in c.args.over.now.items) _ c.loop-number.number c.requires laid

pub loop-number-preserved : goal.loop-number-preserved
loop-number-preserved g c =
    let (words, laid, as_many, as_many_over, as_many_first) = c.loop-number.invariant in
    let under = map g.D.Store.first_touches c.args.drives.now.items in
    let over = map turns_in c.args.over.now.items in
    let all : length under ≡ length c.args.drives.now.items = length-map c.args.drives.now.items g.D.Store.first_touches in
    let listed : length over ≡ length c.args.over.now.items = length-map c.args.over.now.items turns_in in (
      c.lay_one.ensures.words ∙ words,
      drive_laid_more c.args.from c.args.to under over _ _ c.loop-number.number (omega (arith, all, as_many_first, c.loop-number-test.true))
          (omega (arith, all, listed, as_many_first, as_many_over)) laid c.lay_one.ensures.first_touches,
      c.lay_one.ensures.count ∙ as_many,
      as_many_over,
      as_many_first,
    )

pub returns-clause-first_touches : goal.returns-clause-first_touches
returns-clause-first_touches g c =
    let (words, laid, as_many, as_many_over, as_many_first) = c.loop-number.invariant in
    let under = map g.D.Store.first_touches c.args.drives.now.items in
    let over = map turns_in c.args.over.now.items in
    let all : length under ≡ length c.args.drives.now.items = length-map c.args.drives.now.items g.D.Store.first_touches in
    let listed : length over ≡ length c.args.over.now.items = length-map c.args.over.now.items turns_in in
    drives_all_laid c.args.from c.args.to under over _ c.loop-number.number (omega (arith, all, as_many_first, c.loop-number-test.false))
    (omega (arith, all, listed, as_many_first, as_many_over)) laid
