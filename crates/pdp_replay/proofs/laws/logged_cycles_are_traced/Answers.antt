use Rattle.pdp_replay.proofs.ask.DiskReads.{disk_reads_are_traced}
use Rattle.pdp_replay.proofs.ask.LoggedCycles.{cycles_are_listed, turns_are_logged}
use Rattle.pdp_replay.proofs.laws.logged_cycles_are_traced.Goals as goal

pub returns-clause-turns : goal.returns-clause-turns
returns-clause-turns c = λ t events w. turns_are_logged t events w

pub returns-clause-listed : goal.returns-clause-listed
returns-clause-listed c = λ p t logged. cycles_are_listed p t logged

pub returns-clause-disk : goal.returns-clause-disk
returns-clause-disk c = λ events m number small. disk_reads_are_traced events m number small
