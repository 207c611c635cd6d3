use Rattle.std.proofs.Common.{◌≤◌, min}
use Rattle.pdp_checkpoint.proofs.ladder.Ladder.first_meeting.Given as goal

abbrev pub invariant-loop-former : goal.invariant-loop-former
invariant-loop-former l = (min l.from l.to ≤ l.first) × (l.first ≤ l.to)
