use Rattle.std.proofs.Common.{None, Some, Ok, Err, ap, refl, sym, ◌∙◌}
use Rattle.pdp_session.proofs.ServedLines.{no_other_search, read_without_search}
use Rattle.pdp_session.specs.declared.grammar.LineMeaning.TheVariants as kind
use Rattle.pdp_session.proofs.grammar.read_line.Goals as goal

pub returns-in-Ok-None : goal.returns-in-Ok-None
returns-in-Ok-None g c =
    let means = sym c.read_session_line.ensures ∙ c.in-Ok-None.is ∙ ap Ok c.in-Ok-None.field-0-is in
    sym (read_without_search _ c.args.version c.args.line.now (Ok None) means (λ found. refl))

pub returns-in-Ok-Some : goal.returns-in-Ok-Some
returns-in-Ok-Some g c =
    let means = sym c.read_session_line.ensures ∙ c.in-Ok-Some.is ∙ ap Ok c.in-Ok-Some.field-0-is in
    ap (λ command. Ok (kind.Command command)) c.in-Ok-Some.command-is
    ∙ sym (read_without_search _ c.args.version c.args.line.now (Ok (Some c.in-Ok-Some.command)) means (λ found. refl))

pub returns-then-ne : goal.returns-then-ne
returns-then-ne g c =
    let means = sym c.read_session_line.ensures ∙ c.in-Err.is in
    sym (read_without_search _ c.args.version c.args.line.now (Err c.in-Err.fault) means (λ found. no_other_search c.in-Err.fault found (λ same. let told = rw same at c.if-ne.ensures in absurd (cc told))))
