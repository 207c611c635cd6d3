use Rattle.std.proofs.Common.{◌≡◌, ◌<◌, ◌*◌}
use Rattle.std.specs.Fn.{iterate}
use Rattle.pdp_alu.specs.ArithmeticShifts.{shifted_left, shifting_from}
use Rattle.pdp_alu.proofs.arithmetic_shifts.shift_left.Given as goal

abbrev pub invariant-loop-place : goal.invariant-loop-place
invariant-loop-place l = record {
  shifting : l.shifting ≡ iterate (shifted_left l.sign) l._place (shifting_from l.number);
  fits : l.shifting.number < 2 * l.sign;
}
