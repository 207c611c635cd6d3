use Rattle.std.proofs.Common.{◌≡◌, ◌∙◌, ◌<◌, subst, sym}
use Rattle.pdp_replay.specs.Timeline.{Timeline}
use Rattle.pdp_replay.proofs.past.EditedSetups.{disk_edit_is}
use Rattle.pdp_replay.proofs.engine.Engine.set_disk.Goals as goal

pub set_patch-requires : goal.set_patch-requires
set_patch-requires c =
    let below = subst (λ drives. c.args.drive < drives) c.count.ensures c.in_ok-number.ensures.there in
    record {
      there = (subst (λ (t : Timeline). c.args.drive < t.past.setup.drives) c.self.view_is below, c.in_ok-number.ensures.below);
    }

pub returns-clause-after : goal.returns-clause-after
returns-clause-after c =
    let found = c.in_ok-number.ensures.word c.args.self.now.past.setup (subst (λ (t : Timeline). t.past.setup.drives ≡ c.count.result) c.self.view_is (sym c.count.ensures)) in
    c.in_ok-set_patch.ensures.after ∙ disk_edit_is c.args.self.now c.args.drive c.args.number c.args.word c.in_ok-number.number found c.in_ok-number.ensures.same
