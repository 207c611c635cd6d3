-- The words that the text of an instruction says [P]. A text that is no instruction's gives words
-- too, and so the caller compares their text with it.
use Rattle.std.specs.Prelude.{ℕ, ◌+◌, ◌-◌, ◌*◌, ◌/◌, ◌%◌, Bool, ◌||◌, ◌==◌, not}
use Rattle.std.specs.Prelude.{if◌then◌else◌, List, [], ◌∷◌, ◌++◌, codes, length, take, drop}
use Rattle.std.specs.Prelude.{Option, Some, None}
use Rattle.std.specs.List.{prefix_len}
use Rattle.std.specs.Str.{bytes_eq}
use Rattle.pdp_word.specs.Number.{is_digit, number_of}
use Rattle.pdp_decode.specs.Table.{instr_of_word}
use Rattle.pdp_disassembler.specs.Operands.{operands_of}
use Rattle.pdp_disassembler.specs.Text.{further}
use Rattle.pdp_disassembler.specs.declared.operands.Operands.{Operands}
use Rattle.pdp_disassembler.specs.declared.operands.Operands.TheVariants.{Absent, Register, Number}
use Rattle.pdp_disassembler.specs.declared.operands.Operands.TheVariants.{Branch, Loop, Single}
use Rattle.pdp_disassembler.specs.declared.operands.Operands.TheVariants.{RegisterFirst}
use Rattle.pdp_disassembler.specs.declared.operands.Operands.TheVariants.{RegisterLast, Double}
use Rattle.pdp_disassembler.specs.declared.operands.Operands.TheVariants.{Word}

-- the bytes before the first that fails a test
abbrev pub front : (ℕ → Bool) → List ℕ → List ℕ
front passes text = take (prefix_len passes text) text

-- that byte, and what follows
abbrev pub beyond : (ℕ → Bool) → List ℕ → List ℕ
beyond passes text = drop (prefix_len passes text) text

-- @ # ( and -, which stand before a number or the name of a register
abbrev pub is_mark : ℕ → Bool
is_mark byte = byte == 64 || byte == 35 || byte == 40 || byte == 45

abbrev pub is_no_comma : ℕ → Bool
is_no_comma byte = not (byte == 44)

abbrev pub word_or_zero : Option ℕ → ℕ
word_or_zero None = 0
word_or_zero (Some number) = number % 0o200000

-- the word that octal digits show
abbrev pub word_of_digits : List ℕ → ℕ
word_of_digits digits = word_or_zero (number_of 8 digits)

-- the register whose name a text begins with: R and a digit, SP or PC
abbrev pub register_read : List ℕ → ℕ
register_read (first ∷ second ∷ others) =
    if first == 82 then second % 8 else if first == 83 then 6 else 7
register_read others = 7

-- the mode that marks, and what follows the name of a register, show
abbrev pub mode_read : List ℕ → List ℕ → ℕ
mode_read mark ending =
    if bytes_eq mark (codes "@-(") then 5
    else if bytes_eq mark (codes "-(") then 4
    else if bytes_eq mark (codes "@(") then 3
    else if bytes_eq mark (codes "(") then (if bytes_eq ending (codes ")") then 1 else 2)
    else 0

-- the word of a relative operand, from the address that it names
abbrev pub word_back : ℕ → ℕ → ℕ
word_back address target = (target + 0o200000 - (address + 2) % 0o200000) % 0o200000

-- six bits, mode and register, and the operand's own word, if it has one
abbrev pub OperandRead : Type 0
OperandRead = ℕ × List ℕ

-- an operand without a number
abbrev pub register_form : List ℕ → List ℕ → OperandRead
register_form mark ending = (mode_read mark (drop 2 ending) * 8 + register_read ending, [])

-- an operand with a number
abbrev pub number_form : ℕ → List ℕ → List ℕ → ℕ → OperandRead
number_form address mark ending number =
    if bytes_eq mark (codes "#") then (0o27, number ∷ [])
    else if bytes_eq mark (codes "@#") then (0o37, number ∷ [])
    else if length ending == 0
    then ((if length mark == 0 then 0o67 else 0o77), word_back address number ∷ [])
    else ((if length mark == 0 then 0o60 else 0o70) + register_read (drop 1 ending), number ∷ [])

-- an operand of these marks and digits, and what follows
abbrev pub form_read : ℕ → List ℕ → List ℕ → List ℕ → OperandRead
form_read address mark digits ending =
    if length digits == 0 then register_form mark ending
    else number_form address mark ending (word_of_digits digits)

-- the operand of a text, whose own word is at this address
unfoldable pub operand_read : ℕ → List ℕ → OperandRead
operand_read address text =
    form_read address (front is_mark text) (front (is_digit 8) (beyond is_mark text))
    (beyond (is_digit 8) (beyond is_mark text))

-- an instruction word, from that with zeros in its fields, and the bits of the fields
abbrev pub with_fields : ℕ → ℕ → ℕ
with_fields base bits = (base + bits) % 0o200000

-- the low byte of a branch, from the address that it names
abbrev pub offset_back : ℕ → ℕ → ℕ
offset_back address target = (target + 0o200000 - (address + 2) % 0o200000) % 0o200000 / 2 % 0o400

-- the words of SOB, from the address that it names
abbrev pub words_back : ℕ → ℕ → ℕ
words_back address target = ((address + 2) % 0o200000 + 0o200000 - target) % 0o200000 / 2

-- an operand whose own word would be the first after the instruction word
abbrev pub first_read : ℕ → List ℕ → OperandRead
first_read address text = operand_read (further address 2) (front is_no_comma text)

-- what stands after the comma
abbrev pub after_comma : List ℕ → List ℕ
after_comma text = drop 1 (beyond is_no_comma text)

-- the operand after a comma; its own word comes after the `count` words of the first
abbrev pub second_read : ℕ → ℕ → List ℕ → OperandRead
second_read address count text = operand_read (further address (2 + 2 * count)) (after_comma text)

abbrev pub one_operand_words : ℕ → OperandRead → List ℕ
one_operand_words base operand = with_fields base operand.0 ∷ operand.1

-- the first operand in the high field
abbrev pub two_operand_words : ℕ → OperandRead → OperandRead → List ℕ
two_operand_words base first second =
    with_fields base (first.0 * 0o100 + second.0) ∷ (first.1 ++ second.1)

-- the second operand in the high field
abbrev pub swapped_operand_words : ℕ → OperandRead → OperandRead → List ℕ
swapped_operand_words base first second =
    with_fields base (second.0 * 0o100 + first.0) ∷ (first.1 ++ second.1)

-- The words of an instruction with operands of this kind, whose word is `base` if its fields are
-- zeros. The text is what follows the operator and a space.
unfoldable pub words_read_as : Operands → ℕ → ℕ → List ℕ → List ℕ
words_read_as Absent base address text = base ∷ []
words_read_as (Register register) base address text =
    one_operand_words base (operand_read (further address 2) text)
words_read_as (Number number) base address text = with_fields base (word_of_digits text) ∷ []
words_read_as (Branch offset) base address text =
    with_fields base (offset_back address (word_of_digits text)) ∷ []
words_read_as (Loop register words) base address text =
    with_fields base ((first_read address text).0 * 0o100
    + words_back address (word_of_digits (after_comma text))) ∷ []
words_read_as (Single operand) base address text =
    one_operand_words base (operand_read (further address 2) text)
words_read_as (RegisterFirst register operand) base address text =
    two_operand_words base (first_read address text)
    (second_read address (length (first_read address text).1) text)
words_read_as (RegisterLast operand register) base address text =
    swapped_operand_words base (first_read address text)
    (second_read address (length (first_read address text).1) text)
words_read_as (Double source destination) base address text =
    two_operand_words base (first_read address text)
    (second_read address (length (first_read address text).1) text)
words_read_as Word base address text = word_of_digits text ∷ []

-- three words, with zeros after those that an instruction takes
abbrev pub with_zeros : List ℕ → List ℕ
with_zeros words = take 3 (words ++ 0 ∷ 0 ∷ [])

-- The words of an instruction whose word is `base` if its fields are zeros. `rest` is its text
-- without the operator.
abbrev pub words_of_text : ℕ → ℕ → List ℕ → List ℕ
words_of_text base address rest =
    with_zeros (words_read_as (operands_of (instr_of_word base)) base address (drop 1 rest))
