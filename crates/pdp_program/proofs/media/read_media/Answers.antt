use Rattle.std.proofs.Common.{map, rules}
use Rattle.std.proofs.lemmas.Result.{err_from_is_err_and}
use Rattle.pdp_program.specs.Media.{AreBytesOf}
use Rattle.pdp_program.proofs.ReadFiles.{core_refused, drives_refused}
use Rattle.pdp_program.proofs.media.read_media.Goals as goal

pub returns-in_err-core-2-clause-media : goal.returns-in_err-core-2-clause-media
returns-in_err-core-2-clause-media g c =
    let known = g.F.Files.contents c.args.files.now in
    let drives = map (λ bytes. bytes.items) c.in_ok-drives.drives.items in
    let bytes : AreBytesOf known c.args.units c.args.names c.in_ok-core.core.items drives c.in_ok-tape.tape.items = search rules in
    let (exit, is, same) = err_from_is_err_and c.from_residual-in_err-core-2.result c.from_residual-in_err-core-2.ensures.1 in
    rw (is, same) (core_refused known c.args.units c.args.names c.in_ok-core.core.items drives c.in_ok-tape.tape.items _ bytes c.in_err-core-2.ensures)

pub returns-in_err-drives-2-clause-media : goal.returns-in_err-drives-2-clause-media
returns-in_err-drives-2-clause-media g c =
    let known = g.F.Files.contents c.args.files.now in
    let drives = map (λ bytes. bytes.items) c.in_ok-drives.drives.items in
    let bytes : AreBytesOf known c.args.units c.args.names c.in_ok-core.core.items drives c.in_ok-tape.tape.items = search rules in
    let (exit, is, same) = err_from_is_err_and c.from_residual-in_err-drives-2.result c.from_residual-in_err-drives-2.ensures.1 in
    rw (is, same) (drives_refused known c.args.units c.args.names c.in_ok-core.core.items drives c.in_ok-tape.tape.items _ bytes c.in_err-drives-2.ensures)
