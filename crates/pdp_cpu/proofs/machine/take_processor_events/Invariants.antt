use Rattle.std.proofs.Common.{◌≡◌, take}
use Rattle.pdp_cpu.specs.Handbook.Turn.{processor_after_events}
use Rattle.pdp_cpu.proofs.machine.take_processor_events.Given as goal

abbrev pub invariant-loop-event : goal.invariant-loop-event
invariant-loop-event l = l.processor ≡ processor_after_events (take l.event-index l.events) l.initial.processor
