use Rattle.std.proofs.Common.{◌≡◌, ◌∙◌, Ok, ap, ap₂, false, refl, rules, subst, sym}
use Rattle.pdp_operand.specs.Phases.World.{World}
use Rattle.pdp_replay.specs.Past.{Past, past_from, with_setup}
use Rattle.pdp_replay.specs.Past.FirstWords.{IsThere}
use Rattle.pdp_replay.specs.Past.Restored.{past_with_word_restored, patches_restored}
use Rattle.pdp_replay.specs.Past.PatchedWords.{patch_of}
use Rattle.pdp_replay.specs.Past.Setup.{SetupData, setup_of}
use Rattle.pdp_replay.specs.Timeline.{Timeline, word_restored}
use Rattle.pdp_replay.proofs.past.EditedSetups.{known_patched, pages_kept, timeline, told_patched, touched_before, with_those_patches, word_kept}
use Rattle.pdp_replay.proofs.past.RestoredWords.{engine_restored}
use Rattle.pdp_replay.proofs.engine.Engine.restore_word.Goals as goal

pub set_word-requires : goal.set_word-requires
set_word-requires c =
    let old = c.self.inside in
    let k = c.args.before.at in
    let p : Past = past_from old.base_setup old.run.machine.state.world.bus.tape old.delays old.patches old.script in
    let inside : IsThere p.setup k = subst (λ (t : Timeline). IsThere t.past.setup k) (sym c.self.view_is) c.requires.there in
    let kept = c.self.invariant.run.kept in
    record {
      there = word_kept p old.run.known old.run.ladder k kept.states inside;
      alike = pages_kept p k old.highest old.run c.self.invariant inside;
      touches = touched_before p old.highest old.run c.self.invariant;
    }

pub invariant_of-self-2 : goal.invariant_of-self-2
invariant_of-self-2 c =
    let old = c.self.inside in
    let run = c.set_word.new.self in
    let patches = c.restore_patch.new.patches in
    let k = c.args.before.at in
    let was = c.args.before.was in
    let p : Past = past_from old.base_setup old.run.machine.state.world.bus.tape old.delays old.patches old.script in
    let inside : IsThere p.setup k = subst (λ (t : Timeline). IsThere t.past.setup k) (sym c.self.view_is) c.requires.there in
    let q : Past = past_from old.base_setup run.machine.state.world.bus.tape old.delays patches old.script in
    let done = c.in_ok-set_word.ensures.patched in
    let entries : patches.entries ≡ patches_restored k was old.patches.entries = search rules in
    let setup : q.setup ≡ with_those_patches (patches_restored k was p.setup.patches) p.setup =
    ap₂ (λ (w : World) entries. setup_of old.base_setup w.bus.tape old.delays entries) done.world entries in
    engine_restored p q k was c.first_word-word.result old.highest old.run run c.self.invariant setup refl inside
    (ap (λ ps. patch_of ps k) (sym entries) ∙ c.restore_patch.ensures.word) c.first_word-word.ensures done

pub returns-clause-after : goal.returns-clause-after
returns-clause-after c =
    let old = c.self.inside in
    let run = c.set_word.new.self in
    let patches = c.restore_patch.new.patches in
    let k = c.args.before.at in
    let was = c.args.before.was in
    let p : Past = past_from old.base_setup old.run.machine.state.world.bus.tape old.delays old.patches old.script in
    let inside : IsThere p.setup k = subst (λ (t : Timeline). IsThere t.past.setup k) (sym c.self.view_is) c.requires.there in
    let q : Past = past_from old.base_setup run.machine.state.world.bus.tape old.delays patches old.script in
    let done = c.in_ok-set_word.ensures.patched in
    let entries : patches.entries ≡ patches_restored k was old.patches.entries = search rules in
    let setup : q.setup ≡ with_those_patches (patches_restored k was p.setup.patches) p.setup =
    ap₂ (λ (w : World) entries. setup_of old.base_setup w.bus.tape old.delays entries) done.world entries in
    let known = known_patched p k c.first_word-word.result old.highest old.run run c.self.invariant inside done in
    subst (λ (t : Timeline). timeline q old.highest run ≡ word_restored c.args.before false t) c.self.view_is
    (told_patched p q (Ok (past_with_word_restored c.args.before p)) k c.first_word-word.result old.highest _ old.run run
    (ap (λ (s : SetupData). Ok (with_setup p s)) (sym setup)) known done)
