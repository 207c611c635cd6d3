-- A line was read and answered.
use Rattle.std.proofs.Common.{List, ℕ, rules, ap, subst, sym, ◌∙◌}
use Rattle.disassemble.specs.Answer.{IsAnswer, line_in}
use Rattle.disassemble.proofs.AnsweredLines.{line_answered}
use Rattle.disassemble.proofs.lines.answer_next.Goals as goal

pub returns : goal.returns
returns g c =
    let line = sym (c.line_in.ensures ∙ ap line_in c.as_slice.ensures.value) in
    let P : List ℕ → Type 0 = λ l. IsAnswer c.args.direction l c.in_ok-answer.answer.items in
    let Q : List ℕ → Type 0 = λ l. IsAnswer c.args.direction (line_in c.read_until.new.buf.items) l in
    line_answered c.args.direction (g.R.Read.remaining c.args.reader.now) (g.R.Read.remaining c.read_until.new.self)
    (g.W.Write.contents c.args.writer.now) (g.W.Write.contents c.write_all.new.self) (g.W.Write.contents c.flush.new.self)
    c.new-read.result.items c.read_until.new.buf.items c.as_slice-2.result.now
    c.new-read.ensures.items c.in_ok-read_until.ensures.bytes c.in_ok-read_until.ensures.rest (search rules)
    (subst Q (sym c.as_slice-2.ensures.value) (subst P (sym line) c.in_ok-answer.ensures))
    c.in_ok-write_all.ensures.bytes c.in_ok-flush.ensures.bytes
