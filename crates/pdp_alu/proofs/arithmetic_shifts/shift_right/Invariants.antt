use Rattle.std.proofs.Common.{◌≡◌, ◌<◌, ◌*◌}
use Rattle.std.specs.Fn.{iterate}
use Rattle.pdp_alu.specs.ArithmeticShifts.{shifted_right, shifting_from}
use Rattle.pdp_alu.proofs.arithmetic_shifts.shift_right.Given as goal

abbrev pub invariant-loop-place : goal.invariant-loop-place
invariant-loop-place l = record {
  shifting : l.shifting ≡ iterate (shifted_right l.sign) l._place (shifting_from l.number);
  fits : l.shifting.number < 2 * l.sign;
}
