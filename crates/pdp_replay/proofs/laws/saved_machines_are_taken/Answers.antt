use Rattle.pdp_replay.proofs.run.SavedMeetings.{kept_bytes_are_taken, saved_machines_are_taken}
use Rattle.pdp_replay.proofs.laws.saved_machines_are_taken.Goals as goal

pub returns-clause-machines : goal.returns-clause-machines
returns-clause-machines c = λ p q turn d same meets. saved_machines_are_taken p q turn d same meets

pub returns-clause-bytes : goal.returns-clause-bytes
returns-clause-bytes c = λ p q turn d same meets. kept_bytes_are_taken p q turn d same meets
