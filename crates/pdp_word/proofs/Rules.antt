-- The lemmas that attributes cite, by their subject.
use Rattle.pdp_word.proofs.Digits.{number_below, worth_next, next_small}

-- for goals on the number that octal or decimal digits write, as they are read one by one
pub ruleset digits = (number_below, worth_next, next_small)
