use Rattle.std.proofs.Common.{rules, ◌≡◌, ◌∙◌, [], ap, arith, get_or, length, map, refl, sym}
use Rattle.std.proofs.lemmas.List.{length-map}
use Rattle.pdp_store.specs.FirstTouches.{first_touches_before}
use Rattle.pdp_store.specs.Overlays.{drives_over}
use Rattle.pdp_unibus.specs.SavedTouches.{turns_in}
use Rattle.pdp_unibus.proofs.ComparedDrives.{alike_at, all_same, as_many_seen, drive_comes_to, length-drives_over, one_same_more}
use Rattle.pdp_unibus.proofs.save.saved_touches.each_has_touches.Goals as goal

pub loop-number-init : goal.loop-number-init
loop-number-init g c =
    let count : length c.args.drives.now.items ≡ c.len-number-end.result = search rules in
    (refl, count, as_many_seen turns_in g.D.Store.first_touches c.args.over.now.items c.args.drives.now.items c.requires ∙ count)

pub one_has_touches-requires-clause-pages : goal.one_has_touches-requires-clause-pages
one_has_touches-requires-clause-pages g c =
    alike_at (map turns_in c.args.over.now.items) (map g.D.Store.first_touches c.args.drives.now.items) c.loop-number.number c.requires

pub returns-then-not-one_has_touches : goal.returns-then-not-one_has_touches
returns-then-not-one_has_touches g c =
    let (same, as_many, as_many_over) = c.loop-number.invariant in
    let under = map g.D.Store.first_touches c.args.drives.now.items in
    let over = map turns_in c.args.over.now.items in
    let all : length under ≡ length c.args.drives.now.items = length-map c.args.drives.now.items g.D.Store.first_touches in
    let listed : length over ≡ length c.args.over.now.items = length-map c.args.over.now.items turns_in in
    let comes = drive_comes_to c.args.turn c.args.turn under over c.loop-number.number (omega (arith, all, as_many, c.loop-number-test.true)) (omega (arith, all, listed, as_many, as_many_over)) in (
      λ wrong. absurd (cc),
      λ is. sym c.if-not-one_has_touches.true ∙ c.one_has_touches.ensures.1 (sym comes ∙ ap (λ xs. get_or xs c.loop-number.number []) is),
    )

pub loop-number-preserved : goal.loop-number-preserved
loop-number-preserved g c =
    let (same, as_many, as_many_over) = c.loop-number.invariant in
    let under = map g.D.Store.first_touches c.args.drives.now.items in
    let over = map turns_in c.args.over.now.items in
    let all : length under ≡ length c.args.drives.now.items = length-map c.args.drives.now.items g.D.Store.first_touches in
    let listed : length over ≡ length c.args.over.now.items = length-map c.args.over.now.items turns_in in
    let sizes : length over ≡ length under = omega (arith, all, listed, as_many, as_many_over) in
    let size = length-drives_over c.args.turn under (map (first_touches_before c.args.turn) over) (length-map over (first_touches_before c.args.turn) ∙ sizes) in
    let comes = drive_comes_to c.args.turn c.args.turn under over c.loop-number.number (omega (arith, all, as_many, c.loop-number-test.true)) sizes in (
      one_same_more (drives_over c.args.turn under (map (first_touches_before c.args.turn) over)) under c.loop-number.number
          (omega (arith, all, size, as_many, c.loop-number-test.true)) size same (comes ∙ c.one_has_touches.ensures.0 c.if-not-one_has_touches.false),
      as_many,
      as_many_over,
    )

pub returns : goal.returns
returns g c =
    let (same, as_many, as_many_over) = c.loop-number.invariant in
    let under = map g.D.Store.first_touches c.args.drives.now.items in
    let over = map turns_in c.args.over.now.items in
    let all : length under ≡ length c.args.drives.now.items = length-map c.args.drives.now.items g.D.Store.first_touches in
    let listed : length over ≡ length c.args.over.now.items = length-map c.args.over.now.items turns_in in
    let sizes : length over ≡ length under = omega (arith, all, listed, as_many, as_many_over) in
    let size = length-drives_over c.args.turn under (map (first_touches_before c.args.turn) over) (length-map over (first_touches_before c.args.turn) ∙ sizes) in (
      λ yes. all_same (drives_over c.args.turn under (map (first_touches_before c.args.turn) over)) under c.loop-number.number
          (omega (arith, all, size, as_many, c.loop-number-test.false)) size same,
      λ is. refl,
    )
