-- The names that the getters give are those of clap's rows.
use Rattle.std.proofs.Common.{◌∙◌, codes}
use Rattle.clap.specs.Words.{found_of}
use Rattle.clap.proofs.WalkLemmas.{first_value-rows}
use Rattle.pdp_program.proofs.command_line.names_of.Goals as goal

pub returns : goal.returns
returns c = record {
  core = c.in_ok-core.ensures ∙ c.get_str.ensures ∙ first_value-rows (found_of c.args.matches.now) (codes "core");
  drives = c.in_ok-drives.ensures;
  tape = c.in_ok-tape.ensures ∙ c.get_str-2.ensures ∙ first_value-rows (found_of c.args.matches.now) (codes "tape");
}
