use Rattle.std.proofs.Common.{ap, arith, length, slice_set}
use Rattle.pdp_checkpoint.proofs.Bounds.{no_formers}
use Rattle.pdp_checkpoint.specs.Ladder.{LadderData}
use Rattle.pdp_checkpoint.proofs.DelayedCheckpoints.{IsDelayed, is_delayed}
use Rattle.pdp_checkpoint.proofs.ladder.Ladder.set_delays.Goals as goal

after : (c : goal.After-self-1)
    → IsDelayed c.args.delays (record { kept = c.self.inside.kept.items; stride = c.self.inside.stride; near = c.self.inside.near.items; formers = c.self.inside.formers.items }) (record { kept = slice_set c.truncate.new.self.items 0 (record { turn = c.index_mut.result.now.turn; saved = c.set_delays.new.self }); stride = c.self.inside.stride; near = c.clear.new.self.items; formers = c.clear-2.new.self.items })
after c =
    let l : LadderData = record { kept = c.self.inside.kept.items; stride = c.self.inside.stride; near = c.self.inside.near.items; formers = c.self.inside.formers.items } in
    rw (c.clear.ensures.items, c.clear-2.ensures.items) (is_delayed l c.args.delays c.truncate.new.self.items c.index_mut.result.now c.set_delays.new.self c.self.invariant.checkpoints c.truncate.ensures.items (cc) c.set_delays.ensures)

pub invariant_of-self : goal.invariant_of-self
invariant_of-self c = record {
  checkpoints = (after c).checkpoints;
  near = let none = ap length c.clear.ensures.items in omega (arith, none);
  formers = rw c.clear-2.ensures.items no_formers;
}

pub returns-clause-kept : goal.returns-clause-kept
returns-clause-kept c = rw (← c.self.view_is) (after c).is

pub returns-clause-checkpoints : goal.returns-clause-checkpoints
returns-clause-checkpoints c = (after c).checkpoints
