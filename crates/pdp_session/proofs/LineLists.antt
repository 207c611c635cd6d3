-- The lines of a text that goes on, and what is held of a line.
use Rattle.std.proofs.Common.{◌≡◌, ℕ, ◌<◌, false, List, [], ◌∷◌, ◌++◌, length, refl, ap, ◌∙◌, arith}
use Rattle.std.proofs.Math.Dec.{eqb-suc-zero}
use Rattle.std.specs.List.{All, slice_split}
use Rattle.std.proofs.lemmas.List.Splits.{slice_split_none, slice_split_at, length-slice_split}
use Rattle.pdp_session.specs.Lines.{is_line_feed, without_return, closed_pieces, open_piece, ended_lines, lines_of}

closed_pieces-cons : (piece : List ℕ) (pieces : List (List ℕ)) → 0 < length pieces → closed_pieces (piece ∷ pieces) ≡ without_return piece ∷ closed_pieces pieces
closed_pieces-cons piece [] some = absurd (omega arith)
closed_pieces-cons piece (next ∷ pieces) some = refl

open_piece-cons : (piece : List ℕ) (pieces : List (List ℕ)) → 0 < length pieces → open_piece (piece ∷ pieces) ≡ open_piece pieces
open_piece-cons piece [] some = absurd (omega arith)
open_piece-cons piece (next ∷ pieces) some = refl

has_pieces : (text : List ℕ) → 0 < length (slice_split is_line_feed text)
has_pieces text = omega (arith, length-slice_split is_line_feed text)

abbrev pub IsOpen : List ℕ → Type 0
IsOpen tail = All (λ byte. is_line_feed byte ≡ false) tail

-- an LF ends the line that was open
pub ended_lines-feed : (tail next : List ℕ) → IsOpen tail → ended_lines (tail ++ 10 ∷ next) ≡ without_return tail ∷ ended_lines next
unfolding ended_lines
ended_lines-feed tail next is_open =
    ap closed_pieces (slice_split_at is_line_feed tail 10 next is_open refl) ∙ closed_pieces-cons tail (slice_split is_line_feed next) (has_pieces next)

pub lines_of-feed : (tail next : List ℕ) → IsOpen tail → lines_of (tail ++ 10 ∷ next) ≡ without_return tail ∷ lines_of next
unfolding lines_of
lines_of-feed tail next is_open =
    let pieces = slice_split is_line_feed next in
    ap (λ parts. closed_pieces parts ++ open_piece parts) (slice_split_at is_line_feed tail 10 next is_open refl)
    ∙ rw (closed_pieces-cons tail pieces (has_pieces next), open_piece-cons tail pieces (has_pieces next)) refl

-- with no LF no line has ended
pub ended_lines-open : (tail : List ℕ) → IsOpen tail → ended_lines tail ≡ []
unfolding ended_lines
ended_lines-open tail is_open = ap closed_pieces (slice_split_none is_line_feed tail is_open)

pub lines_of-open : (tail : List ℕ) → IsOpen tail → 0 < length tail → lines_of tail ≡ tail ∷ []
unfolding lines_of
lines_of-open tail is_open some =
    ap (λ parts. closed_pieces parts ++ open_piece parts) (slice_split_none is_line_feed tail is_open) ∙ if_some tail some
  where
    if_some : (text : List ℕ) → 0 < length text → open_piece (text ∷ []) ≡ text ∷ []
    if_some [] none = absurd (omega arith)
    if_some (byte ∷ bytes) has = rw (eqb-suc-zero (length bytes)) refl

pub lines_of-nil : lines_of [] ≡ []
unfolding lines_of
lines_of-nil = refl
