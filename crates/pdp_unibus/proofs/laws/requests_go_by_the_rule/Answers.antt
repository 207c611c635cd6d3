use Rattle.pdp_unibus.proofs.RuleLaws.{disk_goes, keyboard_goes, printer_goes, punch_goes}
use Rattle.pdp_unibus.proofs.laws.requests_go_by_the_rule.Goals as goal

-- src/laws.rt
pub returns-clause-keyboard : goal.returns-clause-keyboard
returns-clause-keyboard c = keyboard_goes

pub returns-clause-printer : goal.returns-clause-printer
returns-clause-printer c = printer_goes

pub returns-clause-punch : goal.returns-clause-punch
returns-clause-punch c = punch_goes

pub returns-clause-disk : goal.returns-clause-disk
returns-clause-disk c = disk_goes
