use Rattle.std.proofs.Common.{◌≡◌, ◌∙◌, ◌≤◌, All, ℕ, ap, arith, max, min, rules, subst, sym, unwrap_or}
use Rattle.pdp_operand.specs.Phases.World.{World}
use Rattle.pdp_script.specs.Restore.{script_restored}
use Rattle.pdp_unibus.specs.Handbook.LastTurn.{last_turn}
use Rattle.pdp_replay.specs.Past.{Past, past_from}
use Rattle.pdp_replay.specs.Past.Setup.{setup_from}
use Rattle.pdp_replay.specs.Timeline.{IsEngine}
use Rattle.pdp_replay.proofs.past.EditedEngines.{engine_edited}
use Rattle.pdp_replay.proofs.past.EditedStates.{SameAfter, SameBefore}
use Rattle.pdp_replay.proofs.past.RestoredEvents.{left_if_done, left_if_refused, same_after_restored, same_before_restored, turn_now, turn_then}
use Rattle.pdp_replay.proofs.engine.Engine.restore_event.Goals as goal

pub invariant_of-self : goal.invariant_of-self
invariant_of-self c =
    let old = c.self.inside in
    let left = c.restore.ensures ∙ left_if_refused c.restore.result _ old.script _ c.in_err-restore.was in
    subst (λ script. IsEngine (past_from old.base_setup old.run.machine.state.world.bus.tape old.delays old.patches script) old.highest old.run)
    (sym left) c.self.invariant

pub invariant_of-self-2 : goal.invariant_of-self-2
invariant_of-self-2 c =
    let old = c.self.inside in
    let run = c.lower.new.self in
    let script = c.restore.new.self in
    let before = c.args.before in
    let p : Past = past_from old.base_setup old.run.machine.state.world.bus.tape old.delays old.patches old.script in
    let q : Past = past_from old.base_setup run.machine.state.world.bus.tape old.delays old.patches script in
    let lower = c.lower.ensures in
    let left : script ≡ script_restored before old.script = c.restore.ensures ∙ left_if_done c.restore.result tt old.script (script_restored before old.script) (search rules) in
    let reached : ℕ = min (turn_now last_turn before old.script) (turn_then last_turn before) in
    let edited : ℕ = max (turn_now 0 before old.script) (turn_then 0 before) in
    let same : SameBefore reached old.script script =
    subst (SameBefore reached old.script) (sym left) (same_before_restored before old.script last_turn) in
    let later : SameAfter edited old.script script =
    subst (SameAfter edited old.script) (sym left) (same_after_restored before old.script 0) in
    let now_low : c.unwrap_or.result ≡ turn_now last_turn before old.script = c.unwrap_or.ensures ∙ ap (λ found. unwrap_or found last_turn) c.turn_of-now.ensures.turn in
    let was_low : c.unwrap_or-2.result ≡ turn_then last_turn before = c.unwrap_or-2.ensures ∙ ap (λ found. unwrap_or found last_turn) c.turn-was.ensures in
    let now_high : c.unwrap_or-3.result ≡ turn_now 0 before old.script = c.unwrap_or-3.ensures ∙ ap (λ found. unwrap_or found 0) c.turn_of-now.ensures.turn in
    let was_high : c.unwrap_or-4.result ≡ turn_then 0 before = c.unwrap_or-4.ensures ∙ ap (λ found. unwrap_or found 0) c.turn-was.ensures in
    let back : c.min-first.result ≡ reached = omega (arith, c.min-first.ensures, now_low, was_low) in
    let last : c.max-last.result ≡ edited = omega (arith, c.max-last.ensures, now_high, was_high) in
    engine_edited p q reached edited old.highest old.run run c.self.invariant
    (ap (λ (w : World). setup_from old.base_setup w.bus.tape old.delays old.patches) (sym lower.world)) same later
    (subst (λ n. All (λ f. n ≤ f.edited) run.ladder.formers) last lower.formers)
    (lower.known ∙ ap (min old.run.known) back) lower.stride (lower.run p c.self.invariant.run)
