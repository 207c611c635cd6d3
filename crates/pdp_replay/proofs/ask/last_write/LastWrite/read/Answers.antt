use Rattle.std.proofs.Common.{rules}
use Rattle.pdp_replay.proofs.ask.LastWrites.{last_is}
use Rattle.pdp_replay.proofs.ask.last_write.LastWrite.read.Goals as goal

pub returns-in_err-stamp : goal.returns-in_err-stamp
returns-in_err-stamp c = λ p n here. let is = last_is p n c.args.number c.args.machine.now.state here c.requires in search rules

pub returns : goal.returns
returns c = λ p n here. let is = last_is p n c.args.number c.args.machine.now.state here c.requires in search rules
