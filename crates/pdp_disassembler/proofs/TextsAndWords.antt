-- The text of an instruction says its words, and shows no others.
use Rattle.std.proofs.Common.{◌≡◌, ℕ, List, [], ◌∷◌, ◌++◌, refl, sym, ap, subst, ◌∙◌, arith}
use Rattle.pdp_decode.specs.Table.{instr_of_word}
use Rattle.pdp_disassembler.specs.Operands.{operands_of}
use Rattle.pdp_disassembler.specs.Text.{instruction_text, operator_text, words_taken}
use Rattle.pdp_disassembler.specs.TextLaw.{AreThreeWords, TextsAreOfWords}
use Rattle.pdp_disassembler.proofs.OperatorWords.{words_said}
use Rattle.pdp_disassembler.proofs.ReadTexts.{following, instruction_reads, taken_words}
use Rattle.pdp_disassembler.proofs.SameTexts.{same_operands}

pub same_words : (address : ℕ) (words others : List ℕ) → AreThreeWords words → AreThreeWords others
    → instruction_text address words ≡ instruction_text address others → words_taken words ≡ words_taken others
same_words address words others are also same =
    sym (instruction_reads address words are) ∙ ap (words_said address) same
    ∙ instruction_reads address others also

abbrev pub three : ℕ → ℕ → ℕ → List ℕ
three word next last = word ∷ next ∷ last ∷ []

-- with one instruction word
pub same_following : (address word next last other another : ℕ)
    → following next last (operands_of (instr_of_word word)) ≡ following other another (operands_of (instr_of_word word))
    → instruction_text address (three word next last) ≡ instruction_text address (three word other another)
unfolding instruction_text
same_following address word next last other another same =
    ap (λ text. operator_text (instr_of_word word) ++ text)
    (same_operands address word next last other another (operands_of (instr_of_word word)) same)

same_three : (address word next last second other another : ℕ)
    → words_taken (three word next last) ≡ words_taken (three second other another)
    → instruction_text address (three word next last) ≡ instruction_text address (three second other another)
same_three address word next last second other another same =
    let before = taken_words word next last (operands_of (instr_of_word word)) in
    let after = taken_words second other another (operands_of (instr_of_word second)) in
    let whole : word ∷ following next last (operands_of (instr_of_word word))
    ≡ second ∷ following other another (operands_of (instr_of_word second)) = sym before ∙ same ∙ after in
    let equal : word ≡ second = cc in
    let rest : following next last (operands_of (instr_of_word word)) ≡ following other another (operands_of (instr_of_word second)) = cc in
    let P : ℕ → Type 0 = λ w. following next last (operands_of (instr_of_word word)) ≡ following other another (operands_of (instr_of_word w))
    → instruction_text address (three word next last) ≡ instruction_text address (three w other another) in
    subst P equal (same_following address word next last other another) rest

-- a list of three
pub record IsThree (words : List ℕ) : Type 0 where
  pub word : ℕ
  pub next : ℕ
  pub last : ℕ
  pub is : words ≡ three word next last

pub is_three : (words : List ℕ) → AreThreeWords words → IsThree words
is_three [] are = let e = are.three in absurd (omega arith)
is_three (word ∷ []) are = let e = are.three in absurd (omega arith)
is_three (word ∷ next ∷ []) are = let e = are.three in absurd (omega arith)
is_three (word ∷ next ∷ last ∷ []) are = record { word = word; next = next; last = last; is = refl }
is_three (word ∷ next ∷ last ∷ other ∷ others) are = let e = are.three in absurd (omega arith)

same_text : (address : ℕ) (words others : List ℕ) → AreThreeWords words → AreThreeWords others
    → words_taken words ≡ words_taken others → instruction_text address words ≡ instruction_text address others
same_text address words others are also same =
    let a = is_three words are in
    let b = is_three others also in
    let taken : words_taken (three a.word a.next a.last) ≡ words_taken (three b.word b.next b.last) =
    ap words_taken (sym a.is) ∙ same ∙ ap words_taken b.is in
    ap (instruction_text address) a.is
    ∙ same_three address a.word a.next a.last b.word b.next b.last taken
    ∙ ap (instruction_text address) (sym b.is)

pub texts_are_of_words : TextsAreOfWords
texts_are_of_words address words others are also =
    (same_words address words others are also, same_text address words others are also)
