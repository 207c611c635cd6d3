-- Counts as they are written one after another.
use Rattle.std.proofs.Common.{◌≡◌, ℕ, ◌≤◌, List, ◌++◌, length, codes, Result, Ok, Err, append_assoc, subst}
use Rattle.std.specs.List.{flat_map}
use Rattle.pdp_session.specs.Reply.{line_at}
use Rattle.pdp_session.specs.Search.{count_shown, counts_line}
use Rattle.pdp_session.specs.Streams.{DrainData}
use Rattle.pdp_session.specs.Inside.Sends.{Cut, Sends, Sent}
use Rattle.pdp_session.proofs.ListedLines.{AreLinesTo, lines_are_whole, lines_cut_at_item}
use Rattle.pdp_session.proofs.Pieces.{cut_first, cut_last, sent_then}

-- the name and i counts were written
abbrev pub AreCountsTo : List ℕ → ℕ → DrainData → DrainData → Type 0
AreCountsTo counts i output output_after = AreLinesTo (codes "counts") count_shown counts i output output_after

-- the writer failed in the name, or in a count
pub counts_cut_at_name : (counts : List ℕ) (output output_after : DrainData) → Cut (codes "counts") output output_after → Cut (counts_line counts) output output_after
unfolding counts_line
counts_cut_at_name counts output output_after cut = cut_first (codes "counts") (flat_map count_shown counts ++ codes "\n") output output_after cut

whole : (counts : List ℕ) → (codes "counts" ++ flat_map count_shown counts) ++ codes "\n" ≡ counts_line counts
unfolding counts_line
whole counts = append_assoc (codes "counts") (flat_map count_shown counts) (codes "\n")

pub counts_cut_at_count : (counts : List ℕ) (i : ℕ) (output between output_after : DrainData) → AreCountsTo counts i output between
    → Cut (line_at count_shown counts i) between output_after → Cut (counts_line counts) output output_after
counts_cut_at_count counts i output between output_after before cut =
    subst (λ all. Cut all output output_after) (whole counts)
    (cut_first (codes "counts" ++ flat_map count_shown counts) (codes "\n") output output_after
    (lines_cut_at_item (codes "counts") count_shown counts i output between output_after before cut))

-- after all counts the line ends, or the writer fails there
pub counts_end : {T E : Type 0} (counts : List ℕ) (i : ℕ) (output between output_after : DrainData) (result : Result T E) → length counts ≤ i
    → AreCountsTo counts i output between → Sends (codes "\n") between output_after result → Sends (counts_line counts) output output_after result
counts_end counts i output between output_after (Ok x) all before sent =
    subst (λ text. Sent text output output_after) (whole counts)
    (sent_then (codes "counts" ++ flat_map count_shown counts) (codes "\n") output between output_after (lines_are_whole (codes "counts") count_shown counts i output between all before) sent)
counts_end counts i output between output_after (Err e) all before sent =
    subst (λ text. Cut text output output_after) (whole counts)
    (cut_last (codes "counts" ++ flat_map count_shown counts) (codes "\n") output between output_after (lines_are_whole (codes "counts") count_shown counts i output between all before) sent)
