use Rattle.pdp_rk11.proofs.TouchedRuns.{disk_untouched}
use Rattle.pdp_rk11.proofs.transfer.Transfer.touch_disk.Goals as goal

-- src/transfer.rt
pub returns-in_default-clause-first_touches : goal.returns-in_default-clause-first_touches
returns-in_default-clause-first_touches g c =
    disk_untouched c.args.function c.args.self c.args.turn (g.D.Store.first_touches c.args.disk.now)
    c.in_default.not-Write c.in_default.not-Read c.in_default.not-WriteCheck c.in_default.not-ReadCheck
