-- What a device is doing, and when it is done [P].
use Rattle.std.specs.Prelude.{ℕ, ◌+◌, ◌==◌, nat_lt, Bool, true, false, Option, Some, None}
use Rattle.std.specs.Prelude.{if◌then◌else◌}
use Rattle.pdp_device.specs.declared.operation.Operation.{Operation}
use Rattle.pdp_device.specs.declared.operation.Operation.TheVariants.{Idle, ByEvent, At}

-- begun in this turn, with a delay in turns; delay 0 means by its event alone [6.56]
abbrev pub begun_operation : ℕ → ℕ → Operation
begun_operation turn delay = if delay == 0 then ByEvent else At (turn + delay)

abbrev pub is_under_way : Operation → Bool
is_under_way Idle = false
is_under_way ByEvent = true
is_under_way (At due) = true

-- it completes by itself at the start of this turn [6.56]
abbrev pub is_due : ℕ → Operation → Bool
is_due turn (At due) = due == turn
is_due turn _ = false

-- the turn at whose start it completes by itself, if that is later than this turn
abbrev pub due_after : ℕ → Operation → Option ℕ
due_after turn (At due) = if nat_lt turn due then Some due else None
due_after turn _ = None
