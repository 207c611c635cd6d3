-- Which words the completion of a function moves: PDP-11 Peripherals Handbook, RK11.
use Rattle.std.specs.Prelude.{Option, Some, None, length, if◌then◌else◌}
use Rattle.pdp_device.specs.Operation.{is_under_way}
use Rattle.pdp_rk11.specs.Handbook.Completion.{DiskWorld, refusal}
use Rattle.pdp_rk11.specs.Handbook.Geometry.{drive_in}
use Rattle.pdp_rk11.specs.Laws.{transfer_in}
use Rattle.pdp_rk11.specs.declared.disk_moves.DiskMoves.{DiskMoves}
use Rattle.pdp_rk11.specs.declared.failure.Failure.{Failure}
use Rattle.pdp_rk11.specs.declared.function.Function.{Function}
use Rattle.pdp_rk11.specs.declared.function.Function.TheVariants.{Read, Write}

-- the words of the function's transfer, and the drive that RKDA names
abbrev pub transfer_moves : DiskWorld → DiskMoves
transfer_moves w = record {
  function = w.rk.function;
  transfer = transfer_in w;
  drive = drive_in w.rk.disk_address;
}

-- only a read and a write move words [6.74] [6.75] [6.76] [6.77]
abbrev pub function_moves : Function → DiskWorld → Option DiskMoves
function_moves Read w = Some (transfer_moves w)
function_moves Write w = Some (transfer_moves w)
function_moves _ w = None

-- a function that fails one of its tests moves none [6.80]
abbrev pub moves_unless_refused : Option Failure → DiskWorld → Option DiskMoves
moves_unless_refused (Some failure) w = None
moves_unless_refused None w = function_moves w.rk.function w

-- which words the completion of what is under way moves, if it moves any; if nothing is under way
-- it moves none [6.58]
unfoldable pub completion_moves : DiskWorld → Option DiskMoves
completion_moves w =
    if is_under_way w.rk.operation then moves_unless_refused (refusal w.rk (length w.drives)) w
    else None
