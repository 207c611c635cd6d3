use Rattle.std.proofs.Common.{◌≡◌, ◌∙◌, ◌-◌, ◌<◌, ap, arith, length, refl, sym}
use Rattle.pdp_store.specs.FirstTouches.{all_first_touches_before}
use Rattle.pdp_cpu.specs.KeptTexts.{kept_before}
use Rattle.pdp_cpu.specs.Saved.{state_cut}
use Rattle.pdp_checkpoint.specs.Ladder.{next_of}
use Rattle.pdp_replay.proofs.run.Coming.{advances_settled}
use Rattle.pdp_replay.proofs.run.UnderWay.{way_in_run}
use Rattle.pdp_replay.proofs.run.Settled.{settled, settled_refused, settled_taken, stride_settled, stride_taken}
use Rattle.pdp_replay.proofs.run.kept_run.KeptRun.settle.Goals as goal
use Rattle.pdp_replay.proofs.run.kept_run.KeptRun.settle.Goals.{then-turn-next+in_default, else-turn-next}

pub returns-in-Err-clause-kept : goal.returns-in-Err-clause-kept
returns-in-Err-clause-kept c = λ p are way.
    let m = c.args.self.now.machine in
    let here : m.state.turn ≡ next_of c.args.self.now.ladder = sym c.turns-turn.ensures ∙ c.if-turn-next.true ∙ c.next.ensures.next in
    let cut = c.keep_text.new.self in
    let now = c.forget.new.self in
    let taken = c.in-Err.ensures in
    let text : now.kept_text ≡ kept_before (m.state.turn - 1) m.kept_text = c.forget.ensures.kept_text ∙ rw (← c.turns-turn.ensures, ← taken.machine) c.keep_text.ensures.kept_text in
    let punched : now.kept_punched ≡ kept_before (m.state.turn - 1) m.kept_punched = c.forget.ensures.kept_punched ∙ rw (← c.turns-turn.ensures, ← taken.machine) c.keep_text.ensures.kept_punched in
    let state : now.state ≡ state_cut (length cut.kept_text) (length cut.kept_punched) m.state = c.forget.ensures.state ∙ rw (← taken.machine) c.keep_text.ensures.state in
    let first_touches : now.first_touches ≡ all_first_touches_before (m.state.turn - 1) m.first_touches = rw (← c.turns-turn.ensures, ← taken.machine) (c.forget.ensures.first_touches ∙ ap (all_first_touches_before _) c.keep_text.ensures.first_touches) in
    record {
      kept = rw (c.max-self.ensures, taken.refused, c.turns-turn.ensures)
          (settled_refused p c.args.self.now.known (length cut.kept_text) (length cut.kept_punched) m now c.args.self.now.ladder are way here text punched first_touches (omega (arith, c.requires.limit)) state);
      current = λ yes. absurd cc;
    }

pub returns-clause-kept : goal.returns-clause-kept
returns-clause-kept c = λ p are way.
    let r = c.args.self.now in
    elim c.if-turn-next.branch [
      | then-turn-next+in_default w ↦
          let here : r.machine.state.turn ≡ next_of r.ladder = sym c.turns-turn.ensures ∙ w.if-turn-next.true ∙ c.next.ensures.next in
          let machine = w.take.ensures.machine in
          rw (c.max-self-2.ensures, w.self-is, c.turns-turn.ensures, machine)
          (record {
            kept = settled_taken p r.known r.machine r.ladder w.take.new.self are way here w.in_default.ensures.kept w.take.ensures.checkpoints w.in_default.ensures.next;
            current = λ yes. way_in_run p r.known r.machine way;
          })
      | else-turn-next w ↦
          let below : r.machine.state.turn < next_of r.ladder = omega (arith, c.requires.within, c.turns-turn.ensures, w.if-turn-next.false, c.next.ensures.next) in
          rw (c.max-self-2.ensures, w.self-is, c.turns-turn.ensures) (record {
            kept = settled p r.known r.machine r.ladder are way below;
            current = λ yes. way_in_run p r.known r.machine way;
          })
    ]

pub returns-clause-advances : goal.returns-clause-advances
returns-clause-advances c =
    let r = c.args.self.now in
    let current = c.requires.current in
    elim c.if-turn-next.branch [
      | then-turn-next+in_default w ↦
          let here : r.machine.state.turn ≡ next_of r.ladder = sym c.turns-turn.ensures ∙ w.if-turn-next.true ∙ c.next.ensures.next in
          let next = w.in_default.ensures.next in
          let positive = w.take.ensures.checkpoints.positive in
          rw (c.max-self-2.ensures, w.self-is, c.turns-turn.ensures, w.take.ensures.machine)
          (advances_settled r _ refl refl refl (omega (arith, here, next, positive)) (omega (arith, next)) current
          (λ start high is. stride_taken start high r.known r.machine.state r.ladder w.take.new.self c.next.ensures.checkpoints here w.in_default.ensures.kept is))
      | else-turn-next w ↦
          let below : r.machine.state.turn < next_of r.ladder = omega (arith, c.requires.within, c.turns-turn.ensures, w.if-turn-next.false, c.next.ensures.next) in
          rw (c.max-self-2.ensures, w.self-is, c.turns-turn.ensures)
          (advances_settled r _ refl refl refl below (omega arith) current
          (λ start high is. stride_settled start high r.known r.machine.state.turn r.ladder c.next.ensures.checkpoints below is))
    ]
