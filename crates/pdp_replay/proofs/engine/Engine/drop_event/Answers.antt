use Rattle.std.proofs.Common.{◌≡◌, ◌∙◌, ◌≤◌, All, ℕ, ap, min, subst, sym, unwrap_or}
use Rattle.pdp_operand.specs.Phases.World.{World}
use Rattle.pdp_script.specs.Entries.{entry_of}
use Rattle.pdp_replay.specs.Past.{Past, past_from}
use Rattle.pdp_replay.specs.Past.Setup.{setup_from}
use Rattle.pdp_replay.specs.Timeline.{IsEngine}
use Rattle.pdp_replay.proofs.past.EditedEngines.{engine_edited}
use Rattle.pdp_replay.proofs.past.EditedStates.{SameAfter, SameBefore, refused_left, same_after_drop, same_before_drop, turn_or}
use Rattle.pdp_replay.proofs.engine.Engine.drop_event.Goals as goal

pub invariant_of-self : goal.invariant_of-self
invariant_of-self c =
    let old = c.self.inside in
    let left = c.drop_event.ensures.after ∙ refused_left _ old.script c.drop_event.result _ c.drop_event.ensures.answer c.in_err-drop_event.was in
    subst (λ script. IsEngine (past_from old.base_setup old.run.machine.state.world.bus.tape old.delays old.patches script) old.highest old.run)
    (sym left) c.self.invariant

pub invariant_of-self-2 : goal.invariant_of-self-2
invariant_of-self-2 c =
    let old = c.self.inside in
    let run = c.lower.new.self in
    let script = c.drop_event.new.self in
    let p : Past = past_from old.base_setup old.run.machine.state.world.bus.tape old.delays old.patches old.script in
    let q : Past = past_from old.base_setup run.machine.state.world.bus.tape old.delays old.patches script in
    let lower = c.lower.ensures in
    let reached : ℕ = turn_or 0 (entry_of old.script.entries c.args.number) in
    let back : c.unwrap_or-before.result ≡ reached = c.unwrap_or-before.ensures ∙ ap (λ found. unwrap_or found 0) c.turn_of.ensures.turn in
    let same : SameBefore reached old.script script =
    subst (SameBefore reached old.script) (sym c.drop_event.ensures.after) (same_before_drop c.args.number old.script) in
    let later : SameAfter reached old.script script =
    subst (SameAfter reached old.script) (sym c.drop_event.ensures.after) (same_after_drop c.args.number old.script) in
    engine_edited p q reached reached old.highest old.run run c.self.invariant
    (ap (λ (w : World). setup_from old.base_setup w.bus.tape old.delays old.patches) (sym lower.world)) same later
    (subst (λ n. All (λ f. n ≤ f.edited) run.ladder.formers) back lower.formers)
    (lower.known ∙ ap (min old.run.known) back) lower.stride (lower.run p c.self.invariant.run)
