use Rattle.pdp_program.proofs.NamedFiles.{drives_added}
use Rattle.pdp_program.proofs.command_line.with_drives.Goals as goal

pub returns : goal.returns
returns c =
    drives_added c.with_file-8.result _ _ _ _ _ _ _ _ c.in_ok-command.ensures c.in_ok-command-2.ensures c.in_ok-command-3.ensures c.in_ok-command-4.ensures
    c.in_ok-command-5.ensures c.in_ok-command-6.ensures c.in_ok-command-7.ensures c.with_file-8.ensures
