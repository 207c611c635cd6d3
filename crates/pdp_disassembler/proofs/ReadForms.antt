-- Each form's operands are read back.
use Rattle.std.proofs.Common.{◌≡◌, ℕ, ℤ, ◌+◌, ◌-◌, ◌*◌, ◌<◌, ◌≤◌, ◌⊎◌, inl, inr, Bool, true, false, List, [], ◌∷◌, ◌++◌, length, refl, arith, append_assoc}
use Rattle.std.specs.Prelude.{codes, if◌then◌else◌}
use Rattle.std.specs.Int.{w8, cast_unsigned}
use Rattle.std.specs.Int.RustNames.{FitsSigned}
use Rattle.std.proofs.lemmas.Int.{ints}
use Rattle.std.proofs.lemmas.Bool.Decides.{nat_tests}
use Rattle.pdp_word.specs.Word.{less}
use Rattle.pdp_word.specs.Number.{octal_digits}
use Rattle.pdp_decode.specs.Fields.{RegisterFits}
use Rattle.pdp_decode.specs.Format.{digits_of}
use Rattle.pdp_decode.specs.declared.instruction.Specifier.{Specifier}
use Rattle.pdp_disassembler.specs.Operands.{takes_word}
use Rattle.pdp_disassembler.specs.Reading.{after_comma, first_read, front, is_no_comma, offset_back, operand_read, second_read, two_operand_words, with_fields, words_back, words_read_as}
use Rattle.pdp_disassembler.specs.Text.{branch_target, further, loop_target, octal_text, operand_text, register_name, second_text}
use Rattle.pdp_disassembler.specs.declared.operands.Operands.TheVariants.{Absent, Register, Number, Branch, Loop, Single, RegisterFirst, RegisterLast, Double, Word}
use Rattle.pdp_disassembler.proofs.Cutting.{front-append, beyond-append}
use Rattle.pdp_disassembler.proofs.OctalTexts.{octal_read, six_read}
use Rattle.pdp_disassembler.proofs.OperandTexts.{SaysOperand, below_eight, operand_says, own_words}

-- the bits of the fields, added to a word with zeros there, make the instruction word
fields_make : (base bits word : ℕ) → base + bits ≡ word → word < 0o200000 → with_fields base bits ≡ word
fields_make base bits word e fits = omega arith

pub register_says : (address register : ℕ) → register < 8 → SaysOperand address (register_name register) register []
unfolding operand_read register_name
register_says address = below_eight (λ register. SaysOperand address (register_name register) register [])
    (record { read = refl; plain = refl })
    (record { read = refl; plain = refl })
    (record { read = refl; plain = refl })
    (record { read = refl; plain = refl })
    (record { read = refl; plain = refl })
    (record { read = refl; plain = refl })
    (record { read = refl; plain = refl })
    (record { read = refl; plain = refl })

-- an operator with no operand
pub alone_back : (base address word : ℕ) → base ≡ word → (text : List ℕ) → words_read_as Absent base address text ≡ word ∷ []
unfolding words_read_as
alone_back base address word e text = rw e refl

-- a number
pub numbered_back : (base address number word : ℕ) → base + number ≡ word → word < 0o200000
    → words_read_as (Number 0) base address (octal_text number) ≡ word ∷ []
unfolding words_read_as
numbered_back base address number word e fits =
    let small : number < 0o200000 = omega arith in
    rw (octal_read number small, fields_make base number word e fits) refl

pub directive_back : (base address word : ℕ) → word < 0o200000 → words_read_as Word base address (octal_digits 6 word) ≡ word ∷ []
unfolding words_read_as
directive_back base address word fits = rw (six_read word fits) refl

branch_offset : (address : ℕ) (offset : ℤ) → FitsSigned w8 offset
    → offset_back address (branch_target address offset) ≡ cast_unsigned w8 offset
branch_offset address offset fits = omega (arith, ints)

pub branching_back : (base address : ℕ) (offset other : ℤ) (word : ℕ) → FitsSigned w8 offset
    → base + cast_unsigned w8 offset ≡ word → word < 0o200000
    → words_read_as (Branch other) base address (octal_text (branch_target address offset)) ≡ word ∷ []
unfolding words_read_as
branching_back base address offset other word in_range e fits =
    let small : branch_target address offset < 0o200000 = omega arith in
    rw (
      octal_read (branch_target address offset) small,
      branch_offset address offset in_range,
      fields_make base (cast_unsigned w8 offset) word e fits,
    ) refl

-- one operand
pub single_back : (base address : ℕ) (other : Specifier) (text : List ℕ) (code : ℕ) (words : List ℕ) (word : ℕ)
    → SaysOperand (further address 2) text code words → base + code ≡ word → word < 0o200000
    → words_read_as (Single other) base address text ≡ word ∷ words
unfolding words_read_as
single_back base address other text code words word says e fits = rw (says.read, fields_make base code word e fits) refl

pub register_back : (base address register other word : ℕ) → register < 8 → base + register ≡ word → word < 0o200000
    → words_read_as (Register other) base address (register_name register) ≡ word ∷ []
unfolding words_read_as
register_back base address register other word l e fits =
    let says = register_says (further address 2) register l in rw (says.read, fields_make base register word e fits) refl

-- a text, a comma and a text
cut_front : (first second : List ℕ) (address code : ℕ) (words : List ℕ) → SaysOperand address first code words
    → front is_no_comma (first ++ codes "," ++ second) ≡ first
cut_front first second address code words says =
    rw (append_assoc first (codes ",") second) (front-append is_no_comma first (44 ∷ second) says.plain refl)

cut_after : (first second : List ℕ) (address code : ℕ) (words : List ℕ) → SaysOperand address first code words
    → after_comma (first ++ codes "," ++ second) ≡ second
cut_after first second address code words says =
    rw (append_assoc first (codes ",") second, beyond-append is_no_comma first (44 ∷ second) says.plain refl) refl

module _ (base address : ℕ) (first second : List ℕ) (code : ℕ) (words : List ℕ)
    (says : SaysOperand (further address 2) first code words) where
  module _ (other : ℕ) (others : List ℕ) (also : SaysOperand (further address (2 + 2 * length words)) second other others)
      (word : ℕ) (fits : word < 0o200000) where
    abbrev both : List ℕ
    both = first ++ codes "," ++ second

    two_back : base + (code * 0o100 + other) ≡ word
        → two_operand_words base (first_read address both) (second_read address (length (first_read address both).1) both)
        ≡ word ∷ (words ++ others)
    two_back e =
        rw (
          cut_front first second (further address 2) code words says,
          cut_after first second (further address 2) code words says,
          says.read,
          also.read,
          fields_make base (code * 0o100 + other) word e fits,
        ) refl

    pub double_back : (source destination : Specifier) → base + (code * 0o100 + other) ≡ word
        → words_read_as (Double source destination) base address both ≡ word ∷ (words ++ others)
    unfolding words_read_as
    double_back source destination e = two_back e

    pub register_first_back : (register : ℕ) (operand : Specifier) → base + (code * 0o100 + other) ≡ word
        → words_read_as (RegisterFirst register operand) base address both ≡ word ∷ (words ++ others)
    unfolding words_read_as
    register_first_back register operand e = two_back e

    pub register_last_back : (operand : Specifier) (register : ℕ) → base + (other * 0o100 + code) ≡ word
        → words_read_as (RegisterLast operand register) base address both ≡ word ∷ (words ++ others)
    unfolding words_read_as
    register_last_back operand register e =
        rw (
          cut_front first second (further address 2) code words says,
          cut_after first second (further address 2) code words says,
          says.read,
          also.read,
          fields_make base (other * 0o100 + code) word e fits,
        ) refl

-- the second of two operands
pub second_says : (address next last : ℕ) (first second : Specifier) → RegisterFits second → next < 0o200000 → last < 0o200000
    → SaysOperand (further address (2 + 2 * length (own_words first next))) (second_text address next last first second)
    (digits_of second) (own_words second (if takes_word first then last else next))
second_says address next last first second is next_fits last_fits = by_first (takes_word first)
  where
    by_first : (takes : Bool)
        → SaysOperand (further address (2 + 2 * length (if takes then next ∷ [] else [])))
        (if takes then operand_text (further address 4) last second else operand_text (further address 2) next second)
        (digits_of second) (own_words second (if takes then last else next))
    by_first true = operand_says (further address 4) last last_fits second is
    by_first false = operand_says (further address 2) next next_fits second is

less_is : (word other : ℕ)
    → ((word < other) × (less word other ≡ word + 0o200000 - other)) ⊎ ((other ≤ word) × (less word other ≡ word - other))
less_is word other = grind (arith, nat_tests)

-- the target of SOB fits a word, and gives the count of words back
abbrev LoopsBack : ℕ → ℕ → Type 0
LoopsBack address words = (loop_target address words < 0o200000) × (words_back address (loop_target address words) ≡ words)

loop_words : (address words : ℕ) → words < 0o100 → LoopsBack address words
loop_words address words small = elim (less_is (further address 2) (words * 2)) [
  | inl w ↦ let l = w.0 in let e = w.1 in (omega arith, omega arith)
  | inr w ↦ let l = w.0 in let e = w.1 in (omega arith, omega arith)
]

-- SOB
pub looping_back : (base address register words : ℕ) (other another word : ℕ) → register < 8 → words < 0o100
    → base + (register * 0o100 + words) ≡ word → word < 0o200000
    → words_read_as (Loop other another) base address (register_name register ++ codes "," ++ octal_text (loop_target address words))
    ≡ word ∷ []
unfolding words_read_as
looping_back base address register words other another word l small e fits =
    let says = register_says (further address 2) register l in
    let target = octal_text (loop_target address words) in
    let back = loop_words address words small in
    rw (
      cut_front (register_name register) target (further address 2) register [] says,
      cut_after (register_name register) target (further address 2) register [] says,
      says.read,
      octal_read (loop_target address words) back.0,
      back.1,
      fields_make base (register * 0o100 + words) word e fits,
    ) refl
