use Rattle.pdp_kt11.proofs.WrittenLaws.{power_clears_written, power_gives_pages, uses_keep_pages, written_tells}
use Rattle.pdp_kt11.proofs.laws.written_bits_tell_the_truth.Goals as goal

-- src/laws.rt
pub returns-clause-bits : goal.returns-clause-bits
returns-clause-bits c = written_tells

pub returns-clause-pages : goal.returns-clause-pages
returns-clause-pages c = uses_keep_pages

pub returns-clause-powered : goal.returns-clause-powered
returns-clause-powered c = power_gives_pages

pub returns-clause-clear : goal.returns-clause-clear
returns-clause-clear c = power_clears_written
