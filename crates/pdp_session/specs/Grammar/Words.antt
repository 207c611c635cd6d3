-- The words of a line: what stands between its spaces and tabs [P].
use Rattle.std.specs.Prelude.{ℕ, Bool, ◌||◌, ◌==◌, nat_lt, List, length}
use Rattle.std.specs.List.{slice_split, filter}

-- a space or a tab; any other byte is part of a word
abbrev pub is_blank : ℕ → Bool
is_blank byte = byte == 32 || byte == 9

unfoldable pub words_of_line : List ℕ → List (List ℕ)
words_of_line text = filter (λ word. nat_lt 0 (length word)) (slice_split is_blank text)
