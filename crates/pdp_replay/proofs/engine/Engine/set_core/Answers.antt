use Rattle.std.proofs.Common.{◌≡◌, ◌∙◌, ◌<◌, refl, subst}
use Rattle.pdp_replay.specs.Past.Setup.{core_size}
use Rattle.pdp_replay.specs.Timeline.{Timeline}
use Rattle.pdp_replay.proofs.past.EditedSetups.{core_edit_is}
use Rattle.pdp_replay.proofs.engine.Engine.set_core.Goals as goal

pub set_patch-requires : goal.set_patch-requires
set_patch-requires c = record {
  there = subst (λ (t : Timeline). c.in_ok-number.number < core_size t.past.setup) c.self.view_is c.in_ok-number.ensures.below;
}

pub returns-clause-after : goal.returns-clause-after
returns-clause-after c =
    let found = c.in_ok-number.ensures.number c.args.self.now.past.setup (subst (λ (t : Timeline). t.past.setup.units ≡ c.self.inside.base_setup.units) c.self.view_is refl) in
    c.in_ok-set_patch.ensures.after ∙ core_edit_is c.args.self.now c.args.address c.args.word c.in_ok-number.number found c.in_ok-number.ensures.half
