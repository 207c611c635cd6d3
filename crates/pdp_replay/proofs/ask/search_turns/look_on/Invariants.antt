use Rattle.std.proofs.Common.{ℕ, ◌-◌}
use Rattle.pdp_replay.specs.Run.KeptRuns.{IsUnderWay, IsWithoutEvents}
use Rattle.pdp_replay.specs.Past.{Past}
use Rattle.pdp_replay.specs.Ask.Searches.{HoldsNowhere}
use Rattle.pdp_replay.specs.Ask.Watches.{SearchesTo, StaysQuietly, is_watched_at}
use Rattle.pdp_replay.proofs.ask.search_turns.look_on.Given as goal

abbrev pub invariant-loop-watch : goal.invariant-loop-watch
invariant-loop-watch l = record {
  way : StaysQuietly l.to l.fn.machine l.machine;
  none : (p : Past) (known : ℕ) → IsWithoutEvents p l.fn.machine.state.turn l.to → IsUnderWay p known l.fn.machine
      → HoldsNowhere (is_watched_at p l.watch) l.fn.machine.state.turn l.machine.state.turn;
  runs : SearchesTo l.to l.watch l.fn.machine l.machine l.fn.meter l.meter;
}

abbrev pub decreases-loop-watch : goal.decreases-loop-watch
decreases-loop-watch l = l.to - l.machine.state.turn
