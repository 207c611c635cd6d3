use Rattle.std.proofs.Common.{◌∙◌, ap, refl}
use Rattle.pdp_rk11.specs.Touched.{run_touched, after_steps}
use Rattle.pdp_rk11.proofs.TouchedRuns.{core_of, core_untouched}
use Rattle.pdp_rk11.proofs.transfer.Transfer.touch_core.Goals as goal

-- src/transfer.rt
pub returns-in-Read-clause-first_touches : goal.returns-in-Read-clause-first_touches
returns-in-Read-clause-first_touches g c =
    let before = g.S.Store.first_touches c.args.core.now in
    c.touch_run.ensures.first_touches
    ∙ ap (λ n. after_steps (run_touched c.args.self.core_start c.args.turn) n before) c.words_named-count.ensures
    ∙ core_of c.args.function c.args.self c.args.turn before c.in-Read.is

pub returns-in_default : goal.returns-in_default
returns-in_default g c = record {
  kept = record { same_words = refl; same_stamps = refl };
  first_touches =
      core_untouched c.args.function c.args.self c.args.turn (g.S.Store.first_touches c.args.core.now)
      c.in_default.not-Write c.in_default.not-Read c.in_default.not-WriteCheck;
  log = refl;
}
