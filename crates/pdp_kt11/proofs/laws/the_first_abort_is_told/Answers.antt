use Rattle.pdp_kt11.proofs.AbortLaws.{fetch_follows, first_is_told, later_is_not_told, pass_leaves_status}
use Rattle.pdp_kt11.proofs.laws.the_first_abort_is_told.Goals as goal

-- src/laws.rt
pub returns-clause-first : goal.returns-clause-first
returns-clause-first c = first_is_told

pub returns-clause-later : goal.returns-clause-later
returns-clause-later c = later_is_not_told

pub returns-clause-passes : goal.returns-clause-passes
returns-clause-passes c = pass_leaves_status

pub returns-clause-fetches : goal.returns-clause-fetches
returns-clause-fetches c = fetch_follows
