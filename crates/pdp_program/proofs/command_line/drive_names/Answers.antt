-- The names that the getters give are those of clap's rows.
use Rattle.std.proofs.Common.{codes}
use Rattle.clap.specs.Words.{found_of}
use Rattle.clap.proofs.WalkLemmas.{first_value-rows}
use Rattle.pdp_program.proofs.command_line.drive_names.Goals as goal

pub returns : goal.returns
returns c =
    let m = found_of c.args.matches.now in
    rw (
      ← first_value-rows m (codes "disk"),
      ← first_value-rows m (codes "disk1"),
      ← first_value-rows m (codes "disk2"),
      ← first_value-rows m (codes "disk3"),
      ← first_value-rows m (codes "disk4"),
      ← first_value-rows m (codes "disk5"),
      ← first_value-rows m (codes "disk6"),
      ← first_value-rows m (codes "disk7"),
      ← c.get_str.ensures,
      ← c.get_str-2.ensures,
      ← c.get_str-3.ensures,
      ← c.get_str-4.ensures,
      ← c.get_str-5.ensures,
      ← c.get_str-6.ensures,
      ← c.get_str-7.ensures,
      ← c.get_str-8.ensures,
    )
    c.owned_names.ensures
