use Rattle.pdp_turn_moves.proofs.Turns.{act_followed, act_made}
use Rattle.pdp_turn_moves.proofs.turn_moves.ActNotesRunsAct.run_act.Goals as goal

pub returns-clause-act : goal.returns-clause-act
returns-clause-act g c =
    act_followed c.args.processor.now _ c.args.bus.now _ _ _ c.empty-latch.ensures c.act_noting.ensures.follows

pub returns-clause-has_run : goal.returns-clause-has_run
returns-clause-has_run g c = λ saved cell.
    act_made c.args.processor.now c.args.bus.now _ saved cell _ c.empty-latch.ensures (c.act_noting.ensures.made saved cell)
