use Rattle.std.proofs.Common.{◌∙◌, ap, sym}
use Rattle.pdp_alu.specs.ArithmeticShifts.{shifted_left, shifting_from}
use Rattle.pdp_alu.proofs.Iterations.{iterate_more}
use Rattle.pdp_alu.proofs.arithmetic_shifts.shift_left.Goals as goal

-- src/arithmetic_shifts.rt
pub loop-place-preserved : goal.loop-place-preserved
loop-place-preserved c = record {
  shifting = c.left-shifting.ensures.shifted ∙ ap (shifted_left c.args.sign) c.loop-place.invariant.shifting
      ∙ sym (iterate_more (shifted_left c.args.sign) c.loop-place._place (shifting_from c.args.number));
  fits = c.left-shifting.ensures.fits;
}
