-- What the accesses of a trace leave of the last stamps of core.
use Rattle.std.specs.Prelude.{ℕ, ◌≡◌, ◌<◌, ◌&&◌, List, [], ◌∷◌, Option, Some, None, length}
use Rattle.std.specs.Prelude.{slice_index_or, slice_set, if◌then◌else◌}
use Rattle.pdp_store.specs.TracedAccess.{TracedAccess, is_core, last_write, stamp_of}
use Rattle.pdp_store.specs.declared.Stamp.{Stamp}

-- the last stamps of the words of core after one access: a write to core leaves its stamp on its
-- word, any other access leaves all as they are
abbrev pub stamps_after_access : TracedAccess → List (Option Stamp) → List (Option Stamp)
stamps_after_access x stamps = if x.writes && is_core x.part then slice_set stamps x.word (Some
    (stamp_of x)) else stamps

-- the last stamps after the accesses of a trace, one after the other
unfoldable pub stamps_after_trace : List TracedAccess → List (Option Stamp) → List (Option Stamp)
stamps_after_trace [] stamps = stamps
stamps_after_trace (x ∷ xs) stamps = stamps_after_trace xs (stamps_after_access x stamps)

-- the stamp of each word after a trace is that of the last write to it there, or the one before the
-- trace if it has none
abbrev pub TracesLeaveLastWrites : Type 0
TracesLeaveLastWrites =
    (xs : List TracedAccess) (stamps : List (Option Stamp)) (word : ℕ) → word < length stamps
    → slice_index_or (stamps_after_trace xs stamps) word None
    ≡ last_write xs word (slice_index_or stamps word None)
