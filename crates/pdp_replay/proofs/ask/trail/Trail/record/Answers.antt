use Rattle.std.proofs.Common.{◌≡◌, ◌+◌, ◌∙◌, ap, arith, length, subst}
use Rattle.pdp_cpu.specs.Handbook.MachineState.{after_turn}
use Rattle.pdp_script.specs.Entries.{events_at}
use Rattle.pdp_replay.specs.Ask.Trails.{trail_entry}
use Rattle.pdp_replay.specs.Run.KeptRuns.{Advances, ArrivesAt}
use Rattle.pdp_replay.proofs.run.Coming.{advances_further, advances_on, arrives_on, can_go_on}
use Rattle.pdp_replay.proofs.ask.Trails.{length_pushed, listed_next, reached_next}
use Rattle.pdp_replay.proofs.ask.trail.Trail.record.Goals as goal
use Rattle.pdp_replay.proofs.ask.trail.Trail.record.Goals.{After-record_turn}

-- a run that made a turn more is as far on
advanced : (c : After-record_turn)
    → Advances c.args.run.now.machine.state.turn (c.args.run.now.machine.state.turn + c.args.count) c.args.run.now c.record_turn.new.run
advanced c =
    let before = c.loop-done.invariant in
    let turn = before.there.turn in
    advances_on _ _ _ _ c.args.run.now c.loop-done.run c.record_turn.new.run before.on before.there
    (advances_further _ _ _ c.loop-done.run c.record_turn.new.run c.record_turn.ensures.advances (omega (arith, turn)))

pub record_turn-requires-clause-ready : goal.record_turn-requires-clause-ready
record_turn-requires-clause-ready c =
    let before = c.loop-done.invariant in
    can_go_on _ _ _ c.args.run.now c.loop-done.run before.on before.there

pub loop-done-preserved : goal.loop-done-preserved
loop-done-preserved c =
    let before = c.loop-done.invariant in
    let first = c.args.run.now.machine.state.turn in
    let script = c.args.script.now in
    let machine = c.loop-done.run.machine.state in
    let stepped = c.in_ok-entry.ensures in
    let turn = before.there.turn in
    let next = subst (λ t. c.record_turn.new.run.machine.state ≡ after_turn (events_at script.entries t) machine) turn stepped.machine in
    let entry = subst (λ t. c.in_ok-entry.entry ≡ trail_entry t (events_at script.entries t) machine.world) turn stepped.entry in
    let now : c.loop-done.run.machine.state.turn + 1 ≡ first + (c.loop-done._done + 1) = omega (arith, turn) in
    record {
      way = λ p same on. stepped.way p same (before.way p same on);
      there = arrives_on _ _ c.args.run.now c.loop-done.run c.record_turn.new.run before.there
          (subst (λ n. ArrivesAt n c.loop-done.run c.record_turn.new.run) now stepped.arrives) (omega arith);
      on = advanced (goal.at.loop-done-preserved c).After-record_turn;
      here = λ p same begun. reached_next p script first c.loop-done._done machine _ same (before.here p same begun) next;
      listed = λ p same begun.
          ap (λ b. b.items) c.push_back.ensures.items
          ∙ listed_next p script first c.loop-done._done c.loop-done.entries.capacity machine c.in_ok-entry.entry c.loop-done.entries.items same
          (before.here p same begun) entry (before.listed p same begun) (omega arith);
      size = ap (λ b. length b.items) c.push_back.ensures.items
          ∙ length_pushed c.loop-done.entries.capacity c.loop-done.entries.items c.in_ok-entry.entry (omega arith) ∙ ap (λ n. n + 1) before.size;
      capacity = ap (λ b. b.capacity) c.push_back.ensures.items ∙ before.capacity;
    }

pub returns-in_err-entry-clause-advances : goal.returns-in_err-entry-clause-advances
returns-in_err-entry-clause-advances c = advanced (goal.at.returns-in_err-entry-clause-advances c).After-record_turn
