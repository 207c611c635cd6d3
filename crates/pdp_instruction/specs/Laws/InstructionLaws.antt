-- What the law of instructions speaks of. No rule of the handbook is here.
use Rattle.std.specs.Prelude.{◌≡◌}
use Rattle.pdp_operand.specs.Phases.Phase.{State, Stop}

-- the program status word, codes and all, is as it was in the state before
abbrev pub LeavesStatus : State → Stop → Type 0
LeavesStatus s stop = stop.world.bus.io_page.status ≡ s.world.bus.io_page.status
