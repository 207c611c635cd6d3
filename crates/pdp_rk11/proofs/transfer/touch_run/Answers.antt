use Rattle.std.proofs.Common.{◌≡◌, ◌*◌, ◌/◌, ◌∙◌, ap, sym, refl, arith}
use Rattle.pdp_store.specs.FirstTouches.{touch_page}
use Rattle.pdp_rk11.proofs.TouchedRuns.{run_begun, run_more, run_none}
use Rattle.pdp_rk11.proofs.transfer.touch_run.Goals as goal

-- src/transfer.rt
pub loop-page-init : goal.loop-page-init
loop-page-init g c = record {
  from = omega arith;
  words = refl;
  stamps = refl;
  log = refl;
  first_touches = sym (run_begun c.args.start c.args.count c.args.turn (g.S.Store.first_touches c.args.store.now));
}

pub loop-page-preserved : goal.loop-page-preserved
loop-page-preserved g c =
    let held = c.loop-page.invariant in
    let page = c.loop-page.page in
    let turn = c.args.turn in
    let same : page * 256 / 256 ≡ page = omega arith in
    record {
      from = omega (arith, held.from);
      words = c.touch.ensures.words ∙ held.words;
      stamps = c.touch.ensures.stamps ∙ held.stamps;
      log = c.touch.ensures.log ∙ held.log;
      first_touches =
          c.touch.ensures.first_touches
          ∙ ap (λ p. touch_page (g.S.Store.first_touches c.loop-page.store) p turn) same
          ∙ ap (λ xs. touch_page xs page turn) held.first_touches
          ∙ run_more c.args.start c.args.count turn page (g.S.Store.first_touches c.args.store.now) (omega arith) held.from (omega arith);
    }

pub returns-else-count-gt0-clause-first_touches : goal.returns-else-count-gt0-clause-first_touches
returns-else-count-gt0-clause-first_touches g c =
    run_none c.args.start c.args.count c.args.turn (g.S.Store.first_touches c.args.store.now) (omega arith)
