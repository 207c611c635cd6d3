use Rattle.std.proofs.Common.{ap, map}
use Rattle.pdp_rk11.specs.Handbook.Completion.{disk_world}
use Rattle.pdp_rk11.proofs.FirstTouches.{moves_words, none_worked}
use Rattle.pdp_rk11.proofs.rk.Rk.run_function.Goals as goal

-- these functions move no words
pub returns-in-ControlReset-clause-first_touches : goal.returns-in-ControlReset-clause-first_touches
returns-in-ControlReset-clause-first_touches g c =
    let core = c.args.core.now in
    let drives = map g.D.Store.words c.args.drives.now in
    let world = disk_world c.args.self.now (g.S.Store.words core) (g.S.Store.stamps core) drives in
    none_worked c.args.turn world _ (ap moves_words c.in-ControlReset.is)

pub returns-in-Seek-clause-first_touches : goal.returns-in-Seek-clause-first_touches
returns-in-Seek-clause-first_touches g c =
    let core = c.args.core.now in
    let drives = map g.D.Store.words c.args.drives.now in
    let world = disk_world c.args.self.now (g.S.Store.words core) (g.S.Store.stamps core) drives in
    none_worked c.args.turn world _ (ap moves_words c.in-Seek.is)

pub returns-in-DriveReset-clause-first_touches : goal.returns-in-DriveReset-clause-first_touches
returns-in-DriveReset-clause-first_touches g c =
    let core = c.args.core.now in
    let drives = map g.D.Store.words c.args.drives.now in
    let world = disk_world c.args.self.now (g.S.Store.words core) (g.S.Store.stamps core) drives in
    none_worked c.args.turn world _ (ap moves_words c.in-DriveReset.is)

pub returns-in-WriteLock-clause-first_touches : goal.returns-in-WriteLock-clause-first_touches
returns-in-WriteLock-clause-first_touches g c =
    let core = c.args.core.now in
    let drives = map g.D.Store.words c.args.drives.now in
    let world = disk_world c.args.self.now (g.S.Store.words core) (g.S.Store.stamps core) drives in
    none_worked c.args.turn world _ (ap moves_words c.in-WriteLock.is)
