-- The text of an instruction, in the syntax of MACRO-11 (DEC PDP-11/40 Processor Handbook (1972),
-- Instruction set and Addressing modes; [P]). Numbers are octal, without leading zeros except after
-- .WORD.
use Rattle.std.specs.Prelude.{ℕ, ℤ, Bool, ◌+◌, ◌*◌, ◌%◌, ◌&&◌, ◌==◌, nat_lt, if◌then◌else◌, List}
use Rattle.std.specs.Prelude.{[], ◌∷◌, ◌++◌, codes, slice_index, take}
use Rattle.std.specs.Int.{w16, cast_unsigned}
use Rattle.pdp_word.specs.Number.{octal_digits}
use Rattle.pdp_word.specs.Word.{less}
use Rattle.pdp_word.specs.declared.codes.Codes.{Codes}
use Rattle.pdp_decode.specs.Instruction.{mnemonic}
use Rattle.pdp_decode.specs.Table.{instr_of_word}
use Rattle.pdp_decode.specs.declared.instruction.Specifier.{Specifier}
use Rattle.pdp_decode.specs.declared.instruction.Specifier.TheVariants as specifier
use Rattle.pdp_decode.specs.declared.instruction.Instr.{Instr}
use Rattle.pdp_decode.specs.declared.instruction.Instr.TheVariants.{ClearCodes, SetCodes, Reserved}
use Rattle.pdp_disassembler.specs.Operands.{is_of_no_code, operands_of, takes_word}
use Rattle.pdp_disassembler.specs.Operands.{words_that_follow}
use Rattle.pdp_disassembler.specs.declared.operands.Operands.{Operands}
use Rattle.pdp_disassembler.specs.declared.operands.Operands.TheVariants.{Absent, Register, Number}
use Rattle.pdp_disassembler.specs.declared.operands.Operands.TheVariants.{Branch, Loop, Single}
use Rattle.pdp_disassembler.specs.declared.operands.Operands.TheVariants.{RegisterFirst}
use Rattle.pdp_disassembler.specs.declared.operands.Operands.TheVariants.{RegisterLast, Double}
use Rattle.pdp_disassembler.specs.declared.operands.Operands.TheVariants.{Word}

-- how many octal digits show a word without leading zeros
abbrev pub digit_count : ℕ → ℕ
digit_count number =
    if nat_lt number 0o10 then 1
    else if nat_lt number 0o100 then 2
    else if nat_lt number 0o1000 then 3
    else if nat_lt number 0o10000 then 4
    else if nat_lt number 0o100000 then 5
    else 6

unfoldable pub octal_text : ℕ → List ℕ
octal_text number = octal_digits (digit_count number) number

unfoldable pub register_name : ℕ → List ℕ
register_name register =
    if register == 0 then codes "R0"
    else if register == 1 then codes "R1"
    else if register == 2 then codes "R2"
    else if register == 3 then codes "R3"
    else if register == 4 then codes "R4"
    else if register == 5 then codes "R5"
    else if register == 6 then codes "SP"
    else codes "PC"

-- an address so many bytes on, modulo 200000
abbrev pub further : ℕ → ℕ → ℕ
further address count = (address + count) % 0o200000

-- the address that a relative operand names, whose word is at this address: PC is past that word
abbrev pub relative_target : ℕ → ℕ → ℕ
relative_target address word = further (address + 2) word

-- an index and its register; by PC, the address that they name
abbrev pub index_text : ℕ → ℕ → ℕ → List ℕ
index_text address word r =
    if r == 7 then octal_text (relative_target address word)
    else octal_text word ++ codes "(" ++ register_name r ++ codes ")"

-- an operand; its word, if it has one, is at this address
unfoldable pub operand_text : ℕ → ℕ → Specifier → List ℕ
operand_text address word (specifier.Register r) = register_name r
operand_text address word (specifier.Deferred r) = codes "(" ++ register_name r ++ codes ")"
operand_text address word (specifier.Autoincrement r) =
    if r == 7 then codes "#" ++ octal_text word else codes "(" ++ register_name r ++ codes ")+"
operand_text address word (specifier.AutoincrementDeferred r) =
    if r == 7 then codes "@#" ++ octal_text word else codes "@(" ++ register_name r ++ codes ")+"
operand_text address word (specifier.Autodecrement r) = codes "-(" ++ register_name r ++ codes ")"
operand_text address word (specifier.AutodecrementDeferred r) =
    codes "@-(" ++ register_name r ++ codes ")"
operand_text address word (specifier.Index r) = index_text address word r
operand_text address word (specifier.IndexDeferred r) = codes "@" ++ index_text address word r

-- an instruction's only or first operand: its word comes after the instruction word
abbrev pub first_text : ℕ → ℕ → Specifier → List ℕ
first_text address next operand = operand_text (further address 2) next operand

-- an instruction's second operand: its word comes after that of the first, if that has one
abbrev pub second_text : ℕ → ℕ → ℕ → Specifier → Specifier → List ℕ
second_text address next last first second =
    if takes_word first then operand_text (further address 4) last second
    else first_text address next second

-- where the branch at this address goes
abbrev pub branch_target : ℕ → ℤ → ℕ
branch_target address offset = further (address + 2) (cast_unsigned w16 offset * 2)

-- where the SOB at this address goes
abbrev pub loop_target : ℕ → ℕ → ℕ
loop_target address words = less (further address 2) (words * 2)

-- the operands of the instruction at this address, from its word and the two that follow
unfoldable pub operands_text : ℕ → ℕ → ℕ → ℕ → Operands → List ℕ
operands_text address word next last Absent = []
operands_text address word next last (Register register) = codes " " ++ register_name register
operands_text address word next last (Number number) = codes " " ++ octal_text number
operands_text address word next last (Branch offset) =
    codes " " ++ octal_text (branch_target address offset)
operands_text address word next last (Loop register words) =
    codes " " ++ register_name register ++ codes "," ++ octal_text (loop_target address words)
operands_text address word next last (Single operand) = codes " " ++ first_text address next operand
operands_text address word next last (RegisterFirst register operand) =
    codes " " ++ register_name register ++ codes "," ++ first_text address next operand
operands_text address word next last (RegisterLast operand register) =
    codes " " ++ first_text address next operand ++ codes "," ++ register_name register
operands_text address word next last (Double source destination) =
    codes " " ++ first_text address next source
    ++ codes "," ++ second_text address next last source destination
operands_text address word next last Word = codes " " ++ octal_digits 6 word

-- texts with a space between each two
abbrev pub with_spaces : List (List ℕ) → List ℕ
with_spaces [] = []
with_spaces (text ∷ []) = text
with_spaces (text ∷ next ∷ texts) = text ++ codes " " ++ with_spaces (next ∷ texts)

abbrev pub text_if : Bool → List ℕ → List (List ℕ)
text_if holds text = if holds then text ∷ [] else []

-- one operator for each code that is named: CLN CLZ CLV CLC, or with SE
abbrev pub code_operators : List ℕ → Codes → List ℕ
code_operators verb flags = with_spaces
    (text_if flags.n (verb ++ codes "N") ++ text_if flags.z (verb ++ codes "Z")
    ++ text_if flags.v (verb ++ codes "V") ++ text_if flags.c (verb ++ codes "C"))

-- all condition codes are named
abbrev pub is_of_all_codes : Codes → Bool
is_of_all_codes flags = flags.n && flags.z && flags.v && flags.c

-- the operators that clear these codes
abbrev pub clear_text : Codes → List ℕ
clear_text flags =
    if is_of_no_code flags then codes "NOP"
    else if is_of_all_codes flags then codes "CCC"
    else code_operators (codes "CL") flags

-- the operators that set these codes
abbrev pub set_text : Codes → List ℕ
set_text flags =
    if is_of_no_code flags then codes ".WORD"
    else if is_of_all_codes flags then codes "SCC"
    else code_operators (codes "SE") flags

-- what a text begins with: a mnemonic, the operators of condition codes, or .WORD
unfoldable pub operator_text : Instr → List ℕ
operator_text (ClearCodes flags) = clear_text flags
operator_text (SetCodes flags) = set_text flags
operator_text Reserved = codes ".WORD"
operator_text instr = mnemonic instr

-- the text of the instruction at an address, from its word and the two that follow
unfoldable pub instruction_text : ℕ → List ℕ → List ℕ
instruction_text address words =
    operator_text (instr_of_word (slice_index words 0))
    ++ operands_text address (slice_index words 0) (slice_index words 1) (slice_index words 2)
    (operands_of (instr_of_word (slice_index words 0)))

-- how many of these words the instruction takes: its own, and those that its operands' modes need
abbrev pub word_count : List ℕ → ℕ
word_count words = 1 + words_that_follow (operands_of (instr_of_word (slice_index words 0)))

-- the words of the instruction, the first of these three
abbrev pub words_taken : List ℕ → List ℕ
words_taken words = take (word_count words) words
