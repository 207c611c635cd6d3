use Rattle.pdp_cpu.proofs.Halted.{halted_stays, halted_words_stay}
use Rattle.pdp_cpu.proofs.laws.halted_machines_stay.Goals as goal

-- src/laws.rt
pub returns-clause-stays : goal.returns-clause-stays
returns-clause-stays c = halted_stays

pub returns-clause-words : goal.returns-clause-words
returns-clause-words c = halted_words_stay
