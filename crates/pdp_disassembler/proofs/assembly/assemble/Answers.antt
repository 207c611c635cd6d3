-- What the first word that serves gives is all that there is.
use Rattle.std.proofs.Common.{◌<◌, arith}
use Rattle.pdp_disassembler.proofs.Assembled.{found_none, found_one}
use Rattle.pdp_disassembler.proofs.assembly.assemble.Goals as goal

pub returns-in-Some : goal.returns-in-Some
returns-in-Some c = found_one c.args.address c.args.text.now c.in-Some.words.items c.in-Some.ensures

pub returns : goal.returns
returns c =
    found_none c.args.address c.args.text.now
    (λ number small. c.loop-number.invariant number (let l : number < c.loop-number.number = omega arith in l))
