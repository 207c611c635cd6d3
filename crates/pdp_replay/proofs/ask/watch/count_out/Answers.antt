use Rattle.std.proofs.Common.{◌≡◌, length, subst, sym}
use Rattle.pdp_replay.specs.Ask.Watches.{bytes_of}
use Rattle.pdp_replay.proofs.ask.Watches.{count_is}
use Rattle.pdp_replay.proofs.ask.watch.count_out.Goals as goal

pub returns-in-Printed : goal.returns-in-Printed
returns-in-Printed c =
    let state = c.args.machine.now.state in
    subst (λ kind. length c.text.result.now ≡ length (bytes_of kind state)) (sym c.in-Printed.is)
    (count_is c.text.result.now state.text c.text.ensures.bytes)

pub returns-in-Punched : goal.returns-in-Punched
returns-in-Punched c =
    let state = c.args.machine.now.state in
    subst (λ kind. length c.punched.result.now ≡ length (bytes_of kind state)) (sym c.in-Punched.is)
    (count_is c.punched.result.now state.punched c.punched.ensures.bytes)
