use Rattle.pdp_replay.proofs.ask.LastWrites.{stamps_of_checkpoints, stamps_of_states}
use Rattle.pdp_replay.proofs.laws.stamps_of_states_are_last_writes.Goals as goal

-- src/laws.rt
pub returns-clause-states : goal.returns-clause-states
returns-clause-states c = stamps_of_states

pub returns-clause-kept : goal.returns-clause-kept
returns-clause-kept c = stamps_of_checkpoints
