use Rattle.std.proofs.Common.{◌≡◌, ◌<◌, ◌++◌, ◌∷◌, [], length, sym, ◌∙◌, length-append, arith, rules}
use Rattle.std.proofs.lemmas.List.{take_all, take-append-le}
use Rattle.pdp_session.specs.Inside.Progress.{most_held}
use Rattle.pdp_session.proofs.lines.hold.Goals as goal

pub returns-then-not-is_full : goal.returns-then-not-is_full
returns-then-not-is_full c =
    let held = c.args.held.now.items in
    let short : length held < most_held = search rules in
    c.push.ensures.items ∙ sym (take_all most_held (held ++ c.args.byte ∷ []) (omega (arith, length-append held (c.args.byte ∷ []))))

pub returns-else-not-is_full : goal.returns-else-not-is_full
returns-else-not-is_full c =
    let held = c.args.held.now.items in
    let full : length held ≡ most_held = search rules in
    sym (take-append-le most_held held (c.args.byte ∷ []) (omega arith) ∙ take_all most_held held (omega arith))
