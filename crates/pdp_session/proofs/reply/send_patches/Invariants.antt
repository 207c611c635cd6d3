use Rattle.std.proofs.Common.{codes}
use Rattle.pdp_session.specs.Reply.{kept_patch_line}
use Rattle.pdp_session.specs.Version.{version_of}
use Rattle.pdp_session.proofs.ListedLines.{IsListedTo}
use Rattle.pdp_session.proofs.reply.send_patches.Given as goal

abbrev pub invariant-loop-index : goal.invariant-loop-index
invariant-loop-index g l =
    IsListedTo (codes "patches") (kept_patch_line (version_of l.engine.past)) l.engine.past.setup.patches l.index (g.W.Drain.output l.fn.writer) (g.W.Drain.output l.writer)
