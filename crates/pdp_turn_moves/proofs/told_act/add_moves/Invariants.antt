use Rattle.std.proofs.Common.{◌≡◌, ◌++◌, drop, map}
use Rattle.pdp_turn_moves.specs.declared.act_move.ActMove.TheVariants as act
use Rattle.pdp_turn_moves.proofs.told_act.add_moves.Given as goal

abbrev pub invariant-loop-source : goal.invariant-loop-source
invariant-loop-source l =
    l.moves.items ++ map (λ s. act.Of l.cell s) (drop l.source-index l.sources) ≡ l.fn.moves.items ++ map (λ s. act.Of l.cell s) l.sources
