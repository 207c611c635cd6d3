use Rattle.std.proofs.Common.{◌≡◌, ◌∙◌, ◌≤◌, All, ℕ, ap, arith, max, min, subst, sym, unwrap_or}
use Rattle.pdp_operand.specs.Phases.World.{World}
use Rattle.pdp_script.specs.Entries.{entry_of}
use Rattle.pdp_replay.specs.Past.{Past, past_from}
use Rattle.pdp_replay.specs.Past.Setup.{setup_from}
use Rattle.pdp_replay.specs.Timeline.{IsEngine}
use Rattle.pdp_replay.proofs.past.EditedEngines.{engine_edited}
use Rattle.pdp_replay.proofs.past.EditedStates.{SameAfter, SameBefore, refused_left, same_after_alteration, same_before_alteration, turn_or}
use Rattle.pdp_replay.proofs.engine.Engine.alter.Goals as goal

pub invariant_of-self : goal.invariant_of-self
invariant_of-self c =
    let old = c.self.inside in
    let left = c.alter.ensures.after ∙ refused_left _ old.script c.alter.result _ c.alter.ensures.answer c.in_err-alter.was in
    subst (λ script. IsEngine (past_from old.base_setup old.run.machine.state.world.bus.tape old.delays old.patches script) old.highest old.run)
    (sym left) c.self.invariant

pub invariant_of-self-2 : goal.invariant_of-self-2
invariant_of-self-2 c =
    let old = c.self.inside in
    let run = c.lower.new.self in
    let script = c.alter.new.self in
    let turn = c.args.turn in
    let p : Past = past_from old.base_setup old.run.machine.state.world.bus.tape old.delays old.patches old.script in
    let q : Past = past_from old.base_setup run.machine.state.world.bus.tape old.delays old.patches script in
    let lower = c.lower.ensures in
    let before : c.unwrap_or-before.result ≡ turn_or turn (entry_of old.script.entries c.args.number) =
    c.unwrap_or-before.ensures ∙ ap (λ found. unwrap_or found turn) c.turn_of.ensures.turn in
    let reached : ℕ = min (turn_or turn (entry_of old.script.entries c.args.number)) turn in
    let back : c.min.result ≡ reached = omega (arith, c.min.ensures, before) in
    let same : SameBefore reached old.script script =
    subst (SameBefore reached old.script) (sym c.alter.ensures.after) (same_before_alteration c.args.number turn c.args.event old.script) in
    let edited : ℕ = max (turn_or turn (entry_of old.script.entries c.args.number)) turn in
    let last : c.max.result ≡ edited = omega (arith, c.max.ensures, before) in
    let later : SameAfter edited old.script script =
    subst (SameAfter edited old.script) (sym c.alter.ensures.after) (same_after_alteration c.args.number turn c.args.event old.script) in
    engine_edited p q reached edited old.highest old.run run c.self.invariant
    (ap (λ (w : World). setup_from old.base_setup w.bus.tape old.delays old.patches) (sym lower.world)) same later
    (subst (λ n. All (λ f. n ≤ f.edited) run.ladder.formers) last lower.formers)
    (lower.known ∙ ap (min old.run.known) back) lower.stride (lower.run p c.self.invariant.run)
