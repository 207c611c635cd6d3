use Rattle.pdp_made_past.proofs.KeptCells.{drives_stay, tape_stays, words_stay}
use Rattle.pdp_made_past.proofs.laws.unwritten_cells_stay.Goals as goal

pub returns-clause-core : goal.returns-clause-core
returns-clause-core c = λ t events w logged k half below unwritten. words_stay t events w logged k half below unwritten

pub returns-clause-drives : goal.returns-clause-drives
returns-clause-drives c = λ t events w drive k half. drives_stay t events w drive k half

pub returns-clause-tape : goal.returns-clause-tape
returns-clause-tape c = λ t events w k. tape_stays t events w k
