use Rattle.std.proofs.Common.{◌≡◌, ◌∙◌, ◌&&◌, ◌≤◌, ap, ap₂, arith, length, nat_le, subst, sym, true}
use Rattle.std.specs.List.{All}
use Rattle.pdp_checkpoint.specs.Ladder.{LadderData}
use Rattle.pdp_cpu.specs.KeptTexts.{kept_before}
use Rattle.pdp_cpu.specs.Saved.{state_cut}
use Rattle.pdp_store.specs.FirstTouches.{all_first_touches_before}
use Rattle.pdp_cpu.specs.Handbook.MachineState.{MachineState, MachineWithTexts}
use Rattle.pdp_replay.specs.declared.run.kept_run.KeptRun.{KeptRun}
use Rattle.pdp_replay.proofs.run.Checkpoints.{states_cut}
use Rattle.pdp_replay.proofs.run.Formers.{all_edited, edited_after, formers_after, states_edited}
use Rattle.pdp_replay.proofs.run.Lowered.{both_true, built_stays, in_run_lowered, texts_cut}
use Rattle.pdp_replay.proofs.run.kept_run.KeptRun.lower.Goals as goal

pub returns-clause-run : goal.returns-clause-run
returns-clause-run c = λ p run.
    let kept = run.kept in
    let r = c.args.self.now in
    let cut = c.set_aside.ensures in
    let edited = c.edit_formers.new.self in
    let after = c.forget_from.new.self in
    let is = c.forget_from.ensures in
    let to = c.min-known.result in
    let machine : c.set_aside.new.self.machine ≡ r.machine = ap (λ (a : KeptRun). a.machine) cut.same in
    let le : to ≤ r.known = omega (arith, c.min-known.ensures) in
    let now = after.machine in
    let text : now.kept_text ≡ kept_before to r.machine.kept_text = ap (λ (a : KeptRun). a.machine.kept_text) is ∙ ap (λ (m : MachineWithTexts). kept_before to m.kept_text) machine in
    let punched : now.kept_punched ≡ kept_before to r.machine.kept_punched = ap (λ (a : KeptRun). a.machine.kept_punched) is ∙ ap (λ (m : MachineWithTexts). kept_before to m.kept_punched) machine in
    let first_touches : now.first_touches ≡ all_first_touches_before to r.machine.first_touches = ap (λ (a : KeptRun). a.machine.first_touches) is ∙ ap (λ (m : MachineWithTexts). all_first_touches_before to m.first_touches) machine in
    let state : now.state ≡ state_cut (length now.kept_text) (length now.kept_punched) r.machine.state =
    ap (λ (a : KeptRun). a.machine.state) is
    ∙ ap (λ (m : MachineWithTexts). state_cut (length (kept_before to m.kept_text)) (length (kept_before to m.kept_punched)) m.state) machine
    ∙ ap₂ (λ printed punched. state_cut (length printed) (length punched) r.machine.state) (sym text) (sym punched) in
    let turn : now.state.turn ≡ r.machine.state.turn = ap (λ (s : MachineState). s.turn) state in
    let known : after.known ≡ to = ap (λ (a : KeptRun). a.known) is in
    let ladder : after.ladder ≡ c.set_aside.new.self.ladder = ap (λ (a : KeptRun). a.ladder) is in
    let current : after.is_current ≡ c.is_current_by-self.result = ap (λ (a : KeptRun). a.is_current) is ∙ ap (λ (a : KeptRun). a.is_current) cut.same in
    let texts = texts_cut p r.known to r.machine now kept.texts le (omega (arith, c.ranges.turn.fits, c.min-known.ensures)) text punched first_touches in
    rw (known, ladder) (record {
      kept = record {
        states = states_cut p r.known to edited c.set_aside.new.self.ladder (states_edited p c.args.edited r.known r.ladder edited c.edit_formers.ensures kept.states) le
            (formers_after p to c.args.edited (record r { ladder = edited }) c.set_aside.new.self
            (record { states = states_edited p c.args.edited r.known r.ladder edited c.edit_formers.ensures kept.states; texts = kept.texts; built = kept.built })
            le cut.small cut.formers)
            cut.kept cut.near cut.stride cut.count cut.checkpoints;
        texts = texts;
        built = built_stays p.setup r.machine now kept.built (ap (λ (s : MachineState). s.world) state);
      };
      current = λ yes. in_run_lowered p r.known to r.machine now r.is_current run.current texts state (subst (λ n. (r.is_current && nat_le n to) ≡ true) (sym turn) (sym c.is_current_by-self.ensures ∙ sym current ∙ yes));
    })

pub returns-clause-formers : goal.returns-clause-formers
returns-clause-formers c =
    let r = c.args.self.now in
    let edited = c.edit_formers.new.self in
    let all = subst (λ (l : LadderData). All (λ f. c.args.edited ≤ f.edited) l.formers) (sym c.edit_formers.ensures) (all_edited c.args.edited r.ladder.formers) in
    subst (λ (a : KeptRun). All (λ f. c.args.edited ≤ f.edited) a.ladder.formers) (sym c.forget_from.ensures)
    (edited_after c.min-known.result c.args.edited (record r { ladder = edited }) c.set_aside.new.self all c.set_aside.ensures.formers)

pub returns-then-known-self-clause-formers : goal.returns-then-known-self-clause-formers
returns-then-known-self-clause-formers c =
    subst (λ (l : LadderData). All (λ f. c.args.edited ≤ f.edited) l.formers) (sym c.edit_formers.ensures) (all_edited c.args.edited c.args.self.now.ladder.formers)

pub returns-then-known-self-clause-run : goal.returns-then-known-self-clause-run
returns-then-known-self-clause-run c = λ p run.
    let r = c.args.self.now in
    record {
      kept = record {
        states = states_edited p c.args.edited r.known r.ladder c.edit_formers.new.self c.edit_formers.ensures run.kept.states;
        texts = run.kept.texts;
        built = run.kept.built;
      };
      current = λ yes. run.current (both_true r.is_current (nat_le r.machine.state.turn c.min-known.result) (sym c.is_current_by-self.ensures ∙ yes)).0;
    }
