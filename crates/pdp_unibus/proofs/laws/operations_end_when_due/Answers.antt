use Rattle.pdp_unibus.proofs.CompletionLaws.{disk_ends, disk_outlives, printing_ends, printing_outlives, punching_ends, punching_outlives, reading_ends, reading_outlives}
use Rattle.pdp_unibus.proofs.laws.operations_end_when_due.Goals as goal

-- src/laws.rt
pub returns-clause-printing : goal.returns-clause-printing
returns-clause-printing c = printing_ends

pub returns-clause-reading : goal.returns-clause-reading
returns-clause-reading c = reading_ends

pub returns-clause-punching : goal.returns-clause-punching
returns-clause-punching c = punching_ends

pub returns-clause-disk : goal.returns-clause-disk
returns-clause-disk c = disk_ends

pub returns-clause-disk_outlives : goal.returns-clause-disk_outlives
returns-clause-disk_outlives c = disk_outlives

pub returns-clause-printing_outlives : goal.returns-clause-printing_outlives
returns-clause-printing_outlives c = printing_outlives

pub returns-clause-reading_outlives : goal.returns-clause-reading_outlives
returns-clause-reading_outlives c = reading_outlives

pub returns-clause-punching_outlives : goal.returns-clause-punching_outlives
returns-clause-punching_outlives c = punching_outlives
