use Rattle.pdp_session.proofs.KeptLines.{session_lines_kept}
use Rattle.pdp_session.proofs.laws.session_lines_are_kept.Goals as goal

pub returns : goal.returns
returns c = session_lines_kept
