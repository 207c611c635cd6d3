use Rattle.std.proofs.Common.{◌≡◌, ◌++◌, map, take}
use Rattle.pdp_replay.specs.declared.ask.moves.MoveDetail.TheVariants as moved
use Rattle.pdp_replay.proofs.ask.moves.list_act.Given as goal

abbrev pub invariant-loop-index : goal.invariant-loop-index
invariant-loop-index l = l.details.items ≡ l.fn.details.items ++ take l.index (map moved.Act l.moves)
