use Rattle.std.proofs.Common.{◌≡◌, take}
use Rattle.pdp_unibus.specs.Handbook.Beginning.{after_events, progress}
use Rattle.pdp_unibus.specs.SingleBytes.{IsSingle}
use Rattle.pdp_unibus.proofs.bus.Bus.take_events.Given as goal

abbrev pub invariant-loop-event : goal.invariant-loop-event
invariant-loop-event g l = record {
  after : progress l.self l.output ≡ after_events (take l.event-index l.events) (progress l.fn.self l.fn.output);
  single : IsSingle l.self.io_page l.output;
}
