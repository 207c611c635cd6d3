use Rattle.pdp_console.proofs.KeyLaws.{others_leave_the_key}
use Rattle.pdp_console.proofs.laws.keys_set_done_and_reads_clear_it.Goals as goal

-- src/laws.rt
pub returns-clause-others : goal.returns-clause-others
returns-clause-others c = others_leave_the_key
