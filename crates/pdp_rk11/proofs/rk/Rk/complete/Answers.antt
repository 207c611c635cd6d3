use Rattle.std.proofs.Common.{sym, ap, map, ◌∙◌}
use Rattle.pdp_store.specs.FirstTouches.{first_touches_after, first_touches_of}
use Rattle.pdp_rk11.proofs.FirstTouches.{under_way, not_under_way}
use Rattle.pdp_rk11.proofs.Names.{map_length}
use Rattle.pdp_rk11.proofs.rk.Rk.complete.Goals as goal

pub returns-then-is_under_way-clause-first_touches : goal.returns-then-is_under_way-clause-first_touches
returns-then-is_under_way-clause-first_touches g c =
    let drives = c.args.drives.now in
    let before = first_touches_of (g.S.Store.first_touches c.args.core.now) (map g.D.Store.first_touches drives) in
    c.run_unless_refused.ensures.first_touches
    ∙ ap (λ xs. first_touches_after xs before)
    (under_way _ _ _ (sym c.is_under_way.ensures ∙ c.if-is_under_way.true) (sym (map_length g.D.Store.words drives)))

pub returns-else-is_under_way-clause-first_touches : goal.returns-else-is_under_way-clause-first_touches
returns-else-is_under_way-clause-first_touches g c =
    not_under_way _ _ _ (sym c.is_under_way.ensures ∙ c.if-is_under_way.false)
