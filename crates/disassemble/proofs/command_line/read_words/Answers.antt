-- The text that the getter gives is that of clap's rows.
use Rattle.std.proofs.Common.{inr, codes, ap, ◌∙◌}
use Rattle.clap.specs.Words.{found_of}
use Rattle.clap.proofs.WalkLemmas.{first_value-rows}
use Rattle.disassemble.specs.CommandLine.{direction_of, text_command}
use Rattle.clap.specs.Words.{first_of}
use Rattle.disassemble.proofs.command_line.read_words.Goals as goal

pub returns-in-Ok : goal.returns-in-Ok
returns-in-Ok g c =
    let value = c.get_str.ensures ∙ first_value-rows (found_of c.in-Ok.matches) (codes "assemble")
    ∙ ap (first_of (codes "assemble")) c.in-Ok.ensures.rows in
    inr (c.in-Ok.ensures.faults, c.direction_of.ensures ∙ ap direction_of value)
