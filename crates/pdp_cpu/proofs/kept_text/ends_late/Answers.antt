use Rattle.std.proofs.Common.{arith}
use Rattle.pdp_cpu.proofs.KeptTexts.{early_stays, late_goes}
use Rattle.pdp_cpu.proofs.kept_text.ends_late.Goals as goal

pub returns-clause-late : goal.returns-clause-late
returns-clause-late c = late_goes c.args.bytes.now c.args.count c.args.turn _ (omega (arith, c.if-count-eq0.false)) c.requires

pub returns-clause-early : goal.returns-clause-early
returns-clause-early c = early_stays c.args.bytes.now c.args.count c.args.turn _ (omega (arith, c.if-count-eq0.false)) c.requires
