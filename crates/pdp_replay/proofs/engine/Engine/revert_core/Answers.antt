use Rattle.std.proofs.Common.{◌≡◌, ◌∙◌, ◌/◌, None, ap, ap₂, false, true, is_some, min, refl, rules, subst}
use Rattle.pdp_store.specs.Parts.{word_at}
use Rattle.pdp_store.specs.declared.part.Part.TheVariants as part
use Rattle.pdp_replay.specs.Run.FirstTouches.{first_touch}
use Rattle.pdp_replay.specs.Timeline.{Timeline, core_reverted}
use Rattle.indexmap.specs.IndexMap.{shift_remove_entry}
use Rattle.pdp_operand.specs.Phases.World.{World}
use Rattle.pdp_replay.specs.Past.Edit.{revert_edit}
use Rattle.pdp_replay.specs.Past.{Past, past_from}
use Rattle.pdp_replay.specs.Past.PatchedWords.{is_same_word, patch_of}
use Rattle.pdp_replay.specs.Past.Setup.{setup_of}
use Rattle.pdp_replay.proofs.past.EditedSetups.{engine_reverted, known_patched, pages_kept, revert_is, timeline, told_patched, touched_before, word_kept}
use Rattle.pdp_replay.specs.Run.KeptRuns.{IsPatchedRun}
use Rattle.pdp_replay.proofs.past.PoweredWords.{unpatched}
use Rattle.pdp_replay.proofs.engine.Engine.revert_core.Goals as goal

pub set_word-requires : goal.set_word-requires
set_word-requires c =
    let old = c.self.inside in
    let p : Past = past_from old.base_setup old.run.machine.state.world.bus.tape old.delays old.patches old.script in
    record {
      there = word_kept p old.run.known old.run.ladder (word_at part.Core c.in_ok-number.number) c.self.invariant.run.kept.states c.in_ok-number.ensures.below;
      alike = pages_kept p (word_at part.Core c.in_ok-number.number) old.highest old.run c.self.invariant c.in_ok-number.ensures.below;
      touches = touched_before p old.highest old.run c.self.invariant;
    }

pub returns-then-not-contains_key-clause-answer : goal.returns-then-not-contains_key-clause-answer
unfolding revert_edit
returns-then-not-contains_key-clause-answer c =
    let found : c.contains_key.result ≡ is_some (patch_of c.self.inside.patches.entries (word_at part.Core c.in_ok-number.number)) = c.contains_key.ensures ∙ search rules in
    search rules

pub returns-then-not-contains_key-clause-after : goal.returns-then-not-contains_key-clause-after
unfolding revert_edit
returns-then-not-contains_key-clause-after c =
    let found : c.contains_key.result ≡ is_some (patch_of c.self.inside.patches.entries (word_at part.Core c.in_ok-number.number)) = c.contains_key.ensures ∙ search rules in
    search rules

pub returns-in_err-set_word-clause-answer : goal.returns-in_err-set_word-clause-answer
unfolding revert_edit
returns-in_err-set_word-clause-answer c =
    let found : c.contains_key.result ≡ is_some (patch_of c.self.inside.patches.entries (word_at part.Core c.in_ok-number.number)) = c.contains_key.ensures ∙ search rules in
    search rules

pub invariant_of-self-2 : goal.invariant_of-self-2
invariant_of-self-2 c =
    let old = c.self.inside in
    let run = c.set_word.new.self in
    let patches = c.shift_remove.new.self in
    let number = c.in_ok-number.number in
    let p : Past = past_from old.base_setup old.run.machine.state.world.bus.tape old.delays old.patches old.script in
    let q : Past = past_from old.base_setup run.machine.state.world.bus.tape old.delays patches old.script in
    let set = c.in_ok-set_word.ensures in
    let entries : patches.entries ≡ shift_remove_entry (is_same_word (word_at part.Core number)) old.patches.entries = search rules in
    let none : patch_of patches.entries (word_at part.Core number) ≡ None = search rules in
    let setup : q.setup ≡ unpatched p.setup (word_at part.Core number) =
    ap₂ (λ (w : World) entries. setup_of old.base_setup w.bus.tape old.delays entries) set.patched.world entries in
    let without : patch_of (unpatched p.setup (word_at part.Core number)).patches (word_at part.Core number) ≡ None = subst (λ ps. patch_of ps (word_at part.Core number) ≡ None) entries none in
    engine_reverted p q number old.highest old.run run c.self.invariant setup refl c.in_ok-number.ensures.below without
    (subst (λ w. IsPatchedRun (word_at part.Core number) w old.run run) c.core_word-word.ensures set.patched)

pub returns-clause-answer : goal.returns-clause-answer
unfolding revert_edit
returns-clause-answer c =
    let found : c.contains_key.result ≡ is_some (patch_of c.self.inside.patches.entries (word_at part.Core c.in_ok-number.number)) = c.contains_key.ensures ∙ search rules in
    search rules

pub returns-clause-after : goal.returns-clause-after
returns-clause-after c =
    let old = c.self.inside in
    let run = c.set_word.new.self in
    let patches = c.shift_remove.new.self in
    let number = c.in_ok-number.number in
    let p : Past = past_from old.base_setup old.run.machine.state.world.bus.tape old.delays old.patches old.script in
    let q : Past = past_from old.base_setup run.machine.state.world.bus.tape old.delays patches old.script in
    let done = c.in_ok-set_word.ensures.patched in
    let entries : patches.entries ≡ shift_remove_entry (is_same_word (word_at part.Core number)) old.patches.entries = search rules in
    let found : c.contains_key.result ≡ is_some (patch_of old.patches.entries (word_at part.Core number)) = c.contains_key.ensures ∙ search rules in
    let there : is_some (patch_of old.patches.entries (word_at part.Core number)) ≡ true = search rules in
    let setup : q.setup ≡ unpatched p.setup (word_at part.Core number) =
    ap₂ (λ (w : World) entries. setup_of old.base_setup w.bus.tape old.delays entries) done.world entries in
    let patched : IsPatchedRun (word_at part.Core number) c.core_word-word.result old.run run = done in
    let known : run.known ≡ min old.run.known (first_touch p part.Core (number / 256) old.run.known) =
    known_patched p (word_at part.Core number) _ old.highest old.run run c.self.invariant c.in_ok-number.ensures.below patched in
    subst (λ (t : Timeline). timeline q old.highest run ≡ core_reverted c.args.address false t) c.self.view_is
    (told_patched p q (revert_edit c.args.address p) (word_at part.Core number) _ old.highest _ old.run run
    (revert_is p q c.args.address number (c.in_ok-number.ensures.number p.setup refl) there setup refl)
    (known ∙ ap (λ n. min old.run.known (first_touch p part.Core (n / 256) old.run.known)) c.in_ok-number.ensures.half) patched)
