-- The lines of a text [P]. A line ends at LF, and one CR directly before that LF is dropped. What
-- follows the last LF is a line too, as it stands, unless it is empty.
use Rattle.std.specs.Prelude.{ℕ, Bool, List, [], ◌∷◌, ◌++◌, ◌-◌, ◌==◌, if◌then◌else◌, length, take}
use Rattle.std.specs.Prelude.{slice_index}
use Rattle.std.specs.List.{slice_split}

-- the most bytes that a line of the grammar has
abbrev pub longest_line : ℕ
longest_line = 200

abbrev pub is_line_feed : ℕ → Bool
is_line_feed byte = byte == 10

-- a line less one CR at its end
abbrev pub without_return : List ℕ → List ℕ
without_return line = if slice_index line (length line - 1) == 13 then take
    (length line - 1) line else line

-- of the pieces between line feeds, the lines that an LF ended: all but the last
abbrev pub closed_pieces : List (List ℕ) → List (List ℕ)
closed_pieces [] = []
closed_pieces (piece ∷ []) = []
closed_pieces (piece ∷ next ∷ pieces) = without_return piece ∷ closed_pieces (next ∷ pieces)

-- of the pieces between line feeds, the line that no LF ended: the last, if it has a byte
abbrev pub open_piece : List (List ℕ) → List (List ℕ)
open_piece [] = []
open_piece (piece ∷ []) = if length piece == 0 then [] else piece ∷ []
open_piece (piece ∷ next ∷ pieces) = open_piece (next ∷ pieces)

-- the lines that had ended
unfoldable pub ended_lines : List ℕ → List (List ℕ)
ended_lines text = closed_pieces (slice_split is_line_feed text)

-- all lines
unfoldable pub lines_of : List ℕ → List (List ℕ)
lines_of text = closed_pieces (slice_split is_line_feed text) ++ open_piece
    (slice_split is_line_feed text)
