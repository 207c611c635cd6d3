use Rattle.std.proofs.Common.{◌≡◌, ◌<◌, None, Ok, ap, ap₂, false, refl, rules, subst, sym}
use Rattle.indexmap.specs.IndexMap.{insert_entry, spare}
use Rattle.pdp_operand.specs.Phases.World.{World}
use Rattle.pdp_replay.specs.Past.Edit.{with_patch}
use Rattle.pdp_replay.specs.Past.{Past, of_setup, past_from, with_setup}
use Rattle.pdp_replay.specs.Past.FirstWords.{IsThere}
use Rattle.pdp_replay.specs.Past.PatchedWords.{is_same_word, patch_of}
use Rattle.pdp_replay.specs.Past.Setup.{SetupData, setup_of}
use Rattle.pdp_replay.specs.Timeline.{Timeline, word_patched}
use Rattle.pdp_replay.proofs.past.EditedSetups.{engine_patched, known_patched, pages_kept, timeline, told_patched, touched_before, word_kept}
use Rattle.pdp_replay.proofs.past.Lists.{ok_is_no_err}
use Rattle.pdp_replay.proofs.past.PoweredWords.{patched}
use Rattle.pdp_replay.proofs.engine.Engine.set_patch.Goals as goal

pub set_word-requires : goal.set_word-requires
set_word-requires c =
    let old = c.self.inside in
    let k = c.args.at in
    let p : Past = past_from old.base_setup old.run.machine.state.world.bus.tape old.delays old.patches old.script in
    let inside : IsThere p.setup k = subst (λ (t : Timeline). IsThere t.past.setup k) (sym c.self.view_is) c.requires.there in
    let kept = c.self.invariant.run.kept in
    record {
      there = word_kept p old.run.known old.run.ladder k kept.states inside;
      alike = pages_kept p k old.highest old.run c.self.invariant inside;
      touches = touched_before p old.highest old.run c.self.invariant;
    }

pub invariant_of-self-2 : goal.invariant_of-self-2
invariant_of-self-2 c =
    let old = c.self.inside in
    let run = c.set_word.new.self in
    let patches = c.insert.new.self in
    let k = c.args.at in
    let p : Past = past_from old.base_setup old.run.machine.state.world.bus.tape old.delays old.patches old.script in
    let inside : IsThere p.setup k = subst (λ (t : Timeline). IsThere t.past.setup k) (sym c.self.view_is) c.requires.there in
    let q : Past = past_from old.base_setup run.machine.state.world.bus.tape old.delays patches old.script in
    let done = c.in_ok-set_word.ensures.patched in
    let entries : patches.entries ≡ insert_entry is_same_word old.patches.entries k c.args.word = search rules in
    let setup : q.setup ≡ patched p.setup k c.args.word =
    ap₂ (λ (w : World) entries. setup_of old.base_setup w.bus.tape old.delays entries) done.world entries in
    engine_patched p q k c.args.word old.highest old.run run c.self.invariant setup refl inside done

pub returns-clause-after : goal.returns-clause-after
returns-clause-after c =
    let old = c.self.inside in
    let run = c.set_word.new.self in
    let patches = c.insert.new.self in
    let k = c.args.at in
    let p : Past = past_from old.base_setup old.run.machine.state.world.bus.tape old.delays old.patches old.script in
    let inside : IsThere p.setup k = subst (λ (t : Timeline). IsThere t.past.setup k) (sym c.self.view_is) c.requires.there in
    let q : Past = past_from old.base_setup run.machine.state.world.bus.tape old.delays patches old.script in
    let done = c.in_ok-set_word.ensures.patched in
    let entries : patches.entries ≡ insert_entry is_same_word old.patches.entries k c.args.word = search rules in
    let setup : q.setup ≡ patched p.setup k c.args.word =
    ap₂ (λ (w : World) entries. setup_of old.base_setup w.bus.tape old.delays entries) done.world entries in
    let known = known_patched p k c.args.word old.highest old.run run c.self.invariant inside done in
    subst (λ (t : Timeline). timeline q old.highest run ≡ word_patched k c.args.word false t) c.self.view_is
    (told_patched p q (of_setup p (with_patch c.args.word p.setup k)) k c.args.word old.highest _ old.run run
    (ap (λ (s : SetupData). Ok (with_setup p s)) (sym setup)) known done)

-- there was room for the patch, so it was put in
put_in : {X : Type 0} (c : goal.After-from_residual-in_err-insert) → X
put_in c =
    let none : patch_of c.make_room.new.patches.entries c.args.at ≡ None = search rules in
    let room : 0 < spare c.make_room.new.patches = c.in_ok-make_room.ensures.room none in
    ok_is_no_err c.insert.result _ c.in_err-insert.was (c.insert.ensures.succeeds room)

pub invariant_of-self-in_err-insert : goal.invariant_of-self-in_err-insert
invariant_of-self-in_err-insert c = put_in c

pub returns-in_err-insert-clause-after : goal.returns-in_err-insert-clause-after
returns-in_err-insert-clause-after c = put_in c

pub returns-in_err-insert-clause-refused : goal.returns-in_err-insert-clause-refused
returns-in_err-insert-clause-refused c = put_in c
