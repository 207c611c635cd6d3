use Rattle.std.proofs.Common.{not, nat_eq, ◌++◌, ℕ, List, take}
use Rattle.pdp_session.specs.Pasts.{Pasts}
use Rattle.pdp_session.specs.Inside.Progress.{Reached, Goes}
use Rattle.pdp_session.specs.Language.{language_with}
use Rattle.pdp_session.specs.History.{pasts}
use Rattle.pdp_session.proofs.session.serving.take_bytes.Given as goal

abbrev pub invariant-loop-byte : goal.invariant-loop-byte
invariant-loop-byte g l =
    (past : Pasts) (done out : List ℕ) → Reached (language_with (not (nat_eq g.row.SEARCHES 0))) past done out l.fn.held.items (pasts l.fn.history)
    → Goes (language_with (not (nat_eq g.row.SEARCHES 0))) past (done ++ take l.byte-index l.bytes) out (g.W.Drain.output l.fn.writer) (g.W.Drain.output l.writer) l.held.items (pasts l.history)
