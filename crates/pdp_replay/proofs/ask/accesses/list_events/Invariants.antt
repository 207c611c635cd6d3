use Rattle.std.proofs.Common.{◌≡◌, ◌++◌, map, take}
use Rattle.pdp_replay.specs.declared.ask.accesses.TurnDetail.TheVariants as detail
use Rattle.pdp_replay.proofs.ask.accesses.list_events.Given as goal

abbrev pub invariant-loop-index : goal.invariant-loop-index
invariant-loop-index l = l.details.items ≡ l.fn.details.items ++ take l.index (map detail.Event l.events)
