-- Requests of devices for interrupts [P].
use Rattle.std.specs.Prelude.{Bool, ◌&&◌, ◌||◌, not}

-- whether a device requests after one change of its condition: a request appears if the condition
-- goes from false to true, and goes if the condition is false [6.106]
abbrev pub request_after : Bool → Bool → Bool → Bool
request_after before after request = after && (request || not before)
