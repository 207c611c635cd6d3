-- What the beginning of a turn does to the processor.
use Rattle.std.proofs.Common.{◌≡◌, ℕ, zero, suc, ◌+◌, ◌<◌, List, [], ◌∷◌, length, take, get_or, refl, add-one, arith}
use Rattle.pdp_unibus.specs.declared.event.Event.{Event}
use Rattle.pdp_operand.specs.declared.processor.Processor.{Processor}
use Rattle.pdp_cpu.specs.Handbook.Turn.{processor_after, processor_after_events}

one_more : (es : List Event) (i : ℕ) (d : Event) (p : Processor) → i < length es
    → processor_after_events (take (suc i) es) p ≡ processor_after (get_or es i d) (processor_after_events (take i es) p)
one_more [] i d p below = absurd (omega arith)
one_more (e ∷ es) zero d p below = refl
one_more (e ∷ es) (suc i) d p below = one_more es i d (processor_after e p) (omega arith)

pub after_more_events : (es : List Event) (i : ℕ) (d : Event) (p : Processor) → i < length es
    → processor_after_events (take (i + 1) es) p ≡ processor_after (get_or es i d) (processor_after_events (take i es) p)
after_more_events es i d p below = rw add-one (one_more es i d p below)
