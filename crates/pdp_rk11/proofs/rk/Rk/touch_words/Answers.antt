use Rattle.std.proofs.Common.{◌≡◌, ◌∙◌, ap, sym}
use Rattle.pdp_rk11.specs.Touched.{disk_after}
use Rattle.pdp_rk11.specs.Handbook.Geometry.{drive_in}
use Rattle.pdp_rk11.proofs.FirstTouches.{touched_there}
use Rattle.pdp_rk11.proofs.Names.{map_get, map_length, map_with}
use Rattle.pdp_rk11.proofs.rk.Rk.touch_words.Goals as goal

pub returns-clause-first_touches : goal.returns-clause-first_touches
returns-clause-first_touches g c =
    let function = c.args.self.now.function in
    let t = c.args.transfer in
    let number = drive_in c.args.self.now.disk_address in
    let drives = c.args.drives.now in
    let drive = c.index-drives-drive.result in
    let named : c.drive-drive.result ≡ number = c.drive-drive.ensures.value in
    touched_there function t number c.args.turn _ _ _ _ _ (g.D.Store.first_touches c.touch.new.disk)
    (rw (map_length g.D.Store.first_touches drives) c.requires.drive)
    (map_get g.D.Store.first_touches drives number drive c.requires.drive (rw named at c.index-drives-drive.is))
    c.touch.ensures.core_first_touches
    (c.touch.ensures.disk_first_touches
    ∙ ap (λ x. disk_after function t c.args.turn (g.D.Store.first_touches x)) (sym c.index-drives-drive.is))
    (rw named (map_with g.D.Store.first_touches drives number c.touch.new.disk))
