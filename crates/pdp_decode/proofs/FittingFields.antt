-- What the opcode table decodes has a word: its fields fit.
use Rattle.std.proofs.Common.{ℕ, zero, suc, ◌≡◌, refl, ◌/◌, ◌%◌, ◌<◌, inl, inr, sym, subst, List, [], ◌∷◌, arith}
use Rattle.std.specs.Int.{w8}
use Rattle.std.specs.Int.RustNames.{FitsSigned}
use Rattle.std.proofs.lemmas.Int.{ints}
use Rattle.pdp_decode.specs.declared.instruction.Instr.{Instr}
use Rattle.pdp_decode.specs.Fields.{RegisterFits, register_number, specifier_of, source_in, operand_in, register_in, last_register_in, word_count_in, code_in, offset_in}
use Rattle.pdp_decode.specs.Format.{IsEncodable}
use Rattle.pdp_decode.specs.Table.{Row, Section, table, control, branches, single_operands, double_operands, register_operands, high_branches, traps, byte_single_operands, high_double_operands, instr_of_word, decoded_by, decoded_in}
use Rattle.pdp_decode.proofs.Ascending.{choice}
use Rattle.pdp_decode.proofs.Words.{◌▹◌}

-- each row's meaning has a word
abbrev RowsFit : List Row → Type 0
RowsFit [] = Unit {0}
RowsFit (r ∷ rows) = ((word : ℕ) → IsEncodable (r.meaning word)) × RowsFit rows

rows_fit : (rows : List Row) → RowsFit rows → (word : ℕ) → IsEncodable (decoded_by rows word)
rows_fit [] h word = tt
rows_fit (r ∷ rows) (here, rest) word =
    let P : Instr → Type 0 = λ i. IsEncodable i in
    elim (choice r.first r.last word (r.meaning word) (decoded_by rows word)) [
      | inl w ↦ subst P (sym w.2) (here word)
      | inr w ↦ subst P (sym w.1) (rows_fit rows rest word)
    ]

abbrev SectionsFit : List Section → Type 0
SectionsFit [] = Unit {0}
SectionsFit (s ∷ sections) = RowsFit s.rows × SectionsFit sections

sections_fit : (sections : List Section) → SectionsFit sections → (word : ℕ) → IsEncodable (decoded_in sections word)
sections_fit [] h word = tt
sections_fit (s ∷ sections) (here, rest) word =
    let P : Instr → Type 0 = λ i. IsEncodable i in
    elim (choice s.first s.last word (decoded_by s.rows word) (decoded_in sections word)) [
      | inl w ↦ subst P (sym w.2) (rows_fit s.rows here word)
      | inr w ↦ subst P (sym w.1) (sections_fit sections rest word)
    ]

nothing_to_fit : (word : ℕ) → Unit {0}
nothing_to_fit word = tt

-- the register of a specifier is the one that it was made of
specified_register : (mode register : ℕ) → mode < 8 → register_number (specifier_of mode register) ≡ register
specified_register zero register l = refl
specified_register (suc zero) register l = refl
specified_register (suc (suc zero)) register l = refl
specified_register (suc (suc (suc zero))) register l = refl
specified_register (suc (suc (suc (suc zero)))) register l = refl
specified_register (suc (suc (suc (suc (suc zero))))) register l = refl
specified_register (suc (suc (suc (suc (suc (suc zero)))))) register l = refl
specified_register (suc (suc (suc (suc (suc (suc (suc zero))))))) register l = refl
specified_register (suc (suc (suc (suc (suc (suc (suc (suc mode)))))))) register l = absurd (omega arith)

operand_fits : (word : ℕ) → RegisterFits (operand_in word)
operand_fits word = let e = specified_register (word / 8 % 8) (word % 8) (omega arith) in omega arith

register_and_operand_fit : (word : ℕ) → (register_in word < 8) × RegisterFits (operand_in word)
register_and_operand_fit word = (omega arith, operand_fits word)

both_operands_fit : (word : ℕ) → RegisterFits (source_in word) × RegisterFits (operand_in word)
both_operands_fit word = (operand_fits (word / 0o100), operand_fits word)

last_register_fits : (word : ℕ) → last_register_in word < 8
last_register_fits word = omega arith

words_fit : (word : ℕ) → word_count_in word < 0o100
words_fit word = omega arith

loop_fits : (word : ℕ) → (register_in word < 8) × (word_count_in word < 0o100)
loop_fits word = (omega arith, omega arith)

code_fits : (word : ℕ) → code_in word < 0o400
code_fits word = omega arith

offset_fits : (word : ℕ) → FitsSigned w8 (offset_in word)
offset_fits word = omega (arith, ints)

control_fit : RowsFit control
unfolding control
control_fit =
    nothing_to_fit
    ▹ nothing_to_fit
    ▹ nothing_to_fit
    ▹ nothing_to_fit
    ▹ nothing_to_fit
    ▹ nothing_to_fit
    ▹ nothing_to_fit
    ▹ operand_fits
    ▹ last_register_fits
    ▹ nothing_to_fit
    ▹ nothing_to_fit
    ▹ operand_fits
    ▹ tt

branches_fit : RowsFit branches
unfolding branches
branches_fit =
    offset_fits
    ▹ offset_fits
    ▹ offset_fits
    ▹ offset_fits
    ▹ offset_fits
    ▹ offset_fits
    ▹ offset_fits
    ▹ tt

single_operands_fit : RowsFit single_operands
unfolding single_operands
single_operands_fit =
    register_and_operand_fit
    ▹ operand_fits
    ▹ operand_fits
    ▹ operand_fits
    ▹ operand_fits
    ▹ operand_fits
    ▹ operand_fits
    ▹ operand_fits
    ▹ operand_fits
    ▹ operand_fits
    ▹ operand_fits
    ▹ operand_fits
    ▹ operand_fits
    ▹ words_fit
    ▹ operand_fits
    ▹ operand_fits
    ▹ operand_fits
    ▹ tt

double_operands_fit : RowsFit double_operands
unfolding double_operands
double_operands_fit =
    both_operands_fit
    ▹ both_operands_fit
    ▹ both_operands_fit
    ▹ both_operands_fit
    ▹ both_operands_fit
    ▹ both_operands_fit
    ▹ tt

register_operands_fit : RowsFit register_operands
unfolding register_operands
register_operands_fit =
    register_and_operand_fit
    ▹ register_and_operand_fit
    ▹ register_and_operand_fit
    ▹ register_and_operand_fit
    ▹ register_and_operand_fit
    ▹ loop_fits
    ▹ tt

high_branches_fit : RowsFit high_branches
unfolding high_branches
high_branches_fit =
    offset_fits
    ▹ offset_fits
    ▹ offset_fits
    ▹ offset_fits
    ▹ offset_fits
    ▹ offset_fits
    ▹ offset_fits
    ▹ offset_fits
    ▹ tt

traps_fit : RowsFit traps
unfolding traps
traps_fit =
    code_fits
    ▹ code_fits
    ▹ tt

byte_single_operands_fit : RowsFit byte_single_operands
unfolding byte_single_operands
byte_single_operands_fit =
    operand_fits
    ▹ operand_fits
    ▹ operand_fits
    ▹ operand_fits
    ▹ operand_fits
    ▹ operand_fits
    ▹ operand_fits
    ▹ operand_fits
    ▹ operand_fits
    ▹ operand_fits
    ▹ operand_fits
    ▹ operand_fits
    ▹ tt

high_double_operands_fit : RowsFit high_double_operands
unfolding high_double_operands
high_double_operands_fit =
    both_operands_fit
    ▹ both_operands_fit
    ▹ both_operands_fit
    ▹ both_operands_fit
    ▹ both_operands_fit
    ▹ both_operands_fit
    ▹ tt

pub decoded_fits : (word : ℕ) → IsEncodable (instr_of_word word)
unfolding instr_of_word
decoded_fits word = sections_fit table
    (control_fit
    ▹ branches_fit
    ▹ single_operands_fit
    ▹ double_operands_fit
    ▹ register_operands_fit
    ▹ high_branches_fit
    ▹ traps_fit
    ▹ byte_single_operands_fit
    ▹ high_double_operands_fit ▹ tt) word
