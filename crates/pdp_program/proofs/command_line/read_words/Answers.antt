-- The options of the words have the rows that clap gives.
use Rattle.std.proofs.Common.{inr}
use Rattle.pdp_program.proofs.command_line.read_words.Goals as goal

pub returns-in-Ok : goal.returns-in-Ok
returns-in-Ok g c = inr (c.in-Ok.ensures.faults, rw c.in-Ok.ensures.rows at c.asked_by.ensures)
