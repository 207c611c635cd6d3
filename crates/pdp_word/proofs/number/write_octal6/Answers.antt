use Rattle.std.proofs.Common.{rules}
use Rattle.pdp_word.specs.Number.{octal_digits}
use Rattle.pdp_word.proofs.Digits.{number_back}
use Rattle.pdp_word.proofs.number.write_octal6.Goals as goal

pub returns-clause-reads_back : goal.returns-clause-reads_back
unfolding octal_digits
returns-clause-reads_back c = λ small. number_back c.args.number _ (search rules) small
