use Rattle.std.proofs.Common.{◌≡◌, ◌≤◌, length, take}
use Rattle.pdp_cpu.specs.KeptTexts.{kept_before}
use Rattle.pdp_cpu.proofs.kept_text.kept_length.Given as goal

abbrev pub invariant-loop-kept : goal.invariant-loop-kept
invariant-loop-kept l = (l.kept ≤ length l.bytes) × (kept_before l.turn (take l.kept l.bytes) ≡ kept_before l.turn l.bytes)

abbrev pub decreases-loop-kept : goal.decreases-loop-kept
decreases-loop-kept l = l.kept
