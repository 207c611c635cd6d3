use Rattle.std.proofs.Common.{◌∙◌, None, ap, refl, slice_index_or, sym}
use Rattle.std.proofs.lemmas.List.{get_or_read}
use Rattle.pdp_store.specs.Overlays.{later_turn, latest_turn}
use Rattle.pdp_store.proofs.LatestTurns.{latest_more}
use Rattle.pdp_store.proofs.overlay.latest_turn.Goals as goal

-- src/overlay.rt
pub loop-last-init : goal.loop-last-init
unfolding latest_turn
loop-last-init c = refl

pub loop-last-preserved : goal.loop-last-preserved
loop-last-preserved c =
    let item = get_or_read c.args.stamps.now c.loop-last.last-index c.last-item.result c.loop-last-test.true c.last-item.is None in
    c.later_turn-latest.ensures ∙ ap (later_turn c.loop-last.latest) item ∙ ap (λ n. later_turn n (slice_index_or c.args.stamps.now c.loop-last.last-index None)) c.loop-last.invariant
    ∙ sym (latest_more c.args.stamps.now c.loop-last.last-index None c.loop-last-test.true)
