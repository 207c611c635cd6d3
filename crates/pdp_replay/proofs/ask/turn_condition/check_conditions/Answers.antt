use Rattle.std.proofs.Common.{◌≡◌, ◌∙◌, Err, Ok, Result, length, refl, rules}
use Rattle.pdp_script.specs.declared.faults.Fault.{Fault}
use Rattle.pdp_replay.specs.Ask.Writes.{then_checked}
use Rattle.pdp_replay.proofs.ask.TurnConditions.{four_checked}
use Rattle.pdp_replay.proofs.ask.turn_condition.check_conditions.Goals as goal

last : (checked : Result (Unit {0}) Fault) → then_checked checked (Ok tt) ≡ checked
last (Ok x) = refl
last (Err fault) = refl

pub returns : goal.returns
returns c = record {
  refusal = λ s same.
      let four : length c.args.conditions ≡ 4 = search rules in
      let first = c.in_ok-check_if_there.ensures.refusal s same in
      let second = c.in_ok-check_if_there-2.ensures.refusal s same in
      let third = c.in_ok-check_if_there-3.ensures.refusal s same in
      let fourth = c.check_if_there-4.ensures.refusal s same in
      four_checked c.args.conditions s four ∙ rw (first, second, third, fourth) (last c.check_if_there-4.result);
}

pub returns-in_err-check_if_there : goal.returns-in_err-check_if_there
returns-in_err-check_if_there c = record {
  refusal = λ s same.
      let four : length c.args.conditions ≡ 4 = search rules in
      let first = c.in_err-check_if_there.ensures.refusal s same in
      four_checked c.args.conditions s four ∙ rw first (search rules);
}

pub returns-in_err-check_if_there-2 : goal.returns-in_err-check_if_there-2
returns-in_err-check_if_there-2 c = record {
  refusal = λ s same.
      let four : length c.args.conditions ≡ 4 = search rules in
      let first = c.in_ok-check_if_there.ensures.refusal s same in
      let second = c.in_err-check_if_there-2.ensures.refusal s same in
      four_checked c.args.conditions s four ∙ rw (first, second) (search rules);
}

pub returns-in_err-check_if_there-3 : goal.returns-in_err-check_if_there-3
returns-in_err-check_if_there-3 c = record {
  refusal = λ s same.
      let four : length c.args.conditions ≡ 4 = search rules in
      let first = c.in_ok-check_if_there.ensures.refusal s same in
      let second = c.in_ok-check_if_there-2.ensures.refusal s same in
      let third = c.in_err-check_if_there-3.ensures.refusal s same in
      four_checked c.args.conditions s four ∙ rw (first, second, third) (search rules);
}
