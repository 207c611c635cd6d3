use Rattle.std.proofs.Common.{◌≡◌, ◌+◌, ◌<◌, ℕ, List, None, Option, get_or, length}
use Rattle.pdp_store.specs.Overlays.{laid_to}
use Rattle.pdp_store.specs.declared.Stamp.{Stamp}
use Rattle.pdp_store.proofs.overlay.lay_each.Given as goal

abbrev pub invariant-loop-k : goal.invariant-loop-k
invariant-loop-k l =
    (under all : List (Option Stamp)) → length all ≡ length under
    → ((k : ℕ) → k < length l.over → get_or all (l.start + k) None ≡ get_or l.over k None)
    → l.initial.stamps ≡ laid_to l.start l.turn under all → l.stamps ≡ laid_to (l.start + l.k) l.turn under all
