use Rattle.pdp_rk11.proofs.ReadLaws.{checks_change_no_word}
use Rattle.pdp_rk11.proofs.laws.a_check_changes_no_word.Goals as goal

-- src/laws.rt
pub returns : goal.returns
returns c = checks_change_no_word
