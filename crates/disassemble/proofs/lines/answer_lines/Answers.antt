-- All lines were answered.
use Rattle.disassemble.proofs.AnsweredLines.{answered_all, answered_more, answered_nothing}
use Rattle.disassemble.proofs.lines.answer_lines.Goals as goal

pub lines-init : goal.lines-init
lines-init g c = answered_nothing c.args.direction (g.R.Read.remaining c.args.reader.now) (g.W.Write.contents c.args.writer.now)

pub lines-preserved : goal.lines-preserved
lines-preserved g c = answered_more c.args.direction (g.R.Read.remaining c.args.reader.now) (g.R.Read.remaining c.lines.reader)
    (g.R.Read.remaining c.answer_next.new.reader) (g.W.Write.contents c.args.writer.now) (g.W.Write.contents c.lines.writer)
    (g.W.Write.contents c.answer_next.new.writer) c.in_ok-answer_next.field-0 c.lines.invariant c.in_ok-answer_next.ensures
    c.if-not-branch.false

pub returns-then-not-branch : goal.returns-then-not-branch
returns-then-not-branch g c = answered_all c.args.direction (g.R.Read.remaining c.args.reader.now) (g.R.Read.remaining c.lines.reader)
    (g.R.Read.remaining c.answer_next.new.reader) (g.W.Write.contents c.args.writer.now) (g.W.Write.contents c.lines.writer)
    (g.W.Write.contents c.answer_next.new.writer) c.in_ok-answer_next.field-0 c.lines.invariant c.in_ok-answer_next.ensures
    c.if-not-branch.true
