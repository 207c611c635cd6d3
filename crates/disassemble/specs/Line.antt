-- A line of input: an address and three words, in octal; or an address, and the text of an
-- instruction [P].
use Rattle.std.specs.Prelude.{ℕ, Bool, ◌||◌, ◌==◌, not, nat_lt, if◌then◌else◌, List, [], ◌∷◌}
use Rattle.std.specs.Prelude.{length, filter, take, drop, Option, Some, None, Result, Ok, Err}
use Rattle.std.specs.List.{prefix_len, slice_split}
use Rattle.pdp_word.specs.Number.{number_of}
use Rattle.disassemble.specs.declared.line.Code.{Code}
use Rattle.disassemble.specs.declared.line.BadLine.{BadLine}
use Rattle.disassemble.specs.declared.line.BadLine.TheVariants.{FieldCount, NoText, Digits, Range}

-- a space or a tab
abbrev pub is_separator : ℕ → Bool
is_separator byte = byte == 32 || byte == 9

abbrev pub is_field : List ℕ → Bool
is_field piece = not (length piece == 0)

-- what stands between the separators of a line
abbrev pub fields_of : List ℕ → List (List ℕ)
fields_of line = filter is_field (slice_split is_separator line)

-- a number that fits a word
abbrev pub word_of_number : Option ℕ → Result ℕ BadLine
word_of_number None = Err Digits
word_of_number (Some number) = if nat_lt number 0o200000 then Ok number else Err Range

-- the word that a field shows: 1 to 6 octal digits, at most 177777
abbrev pub word_in_field : List ℕ → Result ℕ BadLine
word_in_field field =
    if nat_lt 6 (length field) then Err Digits else word_of_number (number_of 8 field)

-- a word, or what is wrong with its field
abbrev pub WordRead : Type 0
WordRead = Result ℕ BadLine

-- the code of these words, or what is wrong with the first bad one
abbrev pub code_with : WordRead → WordRead → WordRead → WordRead → Result Code BadLine
code_with (Err bad) word next last = Err bad
code_with (Ok address) (Err bad) next last = Err bad
code_with (Ok address) (Ok word) (Err bad) last = Err bad
code_with (Ok address) (Ok word) (Ok next) (Err bad) = Err bad
code_with (Ok address) (Ok word) (Ok next) (Ok last) = Ok (record {
  address = address;
  words = word ∷ next ∷ last ∷ [];
})

-- the code that four fields show: an address, an instruction word, and the two words that follow
abbrev pub code_in_fields : List (List ℕ) → Result Code BadLine
code_in_fields (address ∷ word ∷ next ∷ last ∷ []) =
    code_with (word_in_field address) (word_in_field word) (word_in_field next) (word_in_field last)
code_in_fields _ = Err FieldCount

-- no space and no tab
abbrev pub is_inside : ℕ → Bool
is_inside byte = not (is_separator byte)

-- a line without the separators before its first field
abbrev pub from_field : List ℕ → List ℕ
from_field line = drop (prefix_len is_separator line) line

abbrev pub first_field : List ℕ → List ℕ
first_field line = take (prefix_len is_inside (from_field line)) (from_field line)

-- what stands after the first field, and the separators after that
abbrev pub after_field : List ℕ → List ℕ
after_field line = from_field (drop (prefix_len is_inside (from_field line)) (from_field line))

-- the address that the first field shows, if a text follows
abbrev pub address_of_text : List ℕ → Result ℕ BadLine
address_of_text line =
    if length (after_field line) == 0 then Err NoText else word_in_field (first_field line)
