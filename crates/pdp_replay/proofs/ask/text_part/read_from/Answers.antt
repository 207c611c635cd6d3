use Rattle.std.proofs.Common.{◌∙◌, ap, arith, drop}
use Rattle.std.proofs.lemmas.Result.{IfOk-weaker}
use Rattle.pdp_replay.proofs.ask.TextParts.{part_is}
use Rattle.pdp_replay.proofs.ask.text_part.read_from.Goals as goal

pub returns-clause-bytes : goal.returns-clause-bytes
returns-clause-bytes c =
    let run = c.reach.new.self in
    let known = c.in_ok-reach.ensures.arrives.known in
    IfOk-weaker c.read_bytes.result _ _
    (λ bytes is. λ p same kept.
    part_is c.args.kind p c.args.turn c.args.first run c.after_first.result.now bytes (omega (arith, known))
    (c.in_ok-reach.ensures.there p same kept) (c.reach.ensures.kept p same kept)
    (c.after_first.ensures ∙ ap (drop c.args.first) c.shown.ensures) is)
    c.read_bytes.ensures
