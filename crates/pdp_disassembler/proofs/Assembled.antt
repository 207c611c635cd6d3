-- Each instruction is among the words that are tried, so a text that none of them has is that of no instruction.
use Rattle.std.proofs.Common.{◌≡◌, ◌≢◌, ℕ, ◌<◌, Bool, true, false, List, [], ◌∷◌, ◌++◌, Option, Some, None, MatchOption, refl, sym, ap, subst, ◌∙◌}
use Rattle.std.proofs.lemmas.List.{append_cancel_left}
use Rattle.std.specs.Prelude.{if◌then◌else◌}
use Rattle.pdp_decode.specs.Table.{instr_of_word}
use Rattle.pdp_disassembler.specs.Assembly.{Assembles, IsAssembly, IsOfOther, base_word_at, base_count}
use Rattle.pdp_disassembler.specs.Operands.{operands_of, takes_word}
use Rattle.pdp_disassembler.specs.Reading.{with_zeros, words_of_text}
use Rattle.pdp_disassembler.specs.Text.{instruction_text, operands_text, operator_text}
use Rattle.pdp_disassembler.specs.TextLaw.{AreThreeWords}
use Rattle.pdp_disassembler.specs.declared.operands.Operands.{Operands}
use Rattle.pdp_disassembler.specs.declared.operands.Operands.TheVariants.{Single, RegisterFirst, RegisterLast, Double}
use Rattle.pdp_disassembler.proofs.ReadTexts.{following, three_read}
use Rattle.pdp_disassembler.proofs.TextsAndWords.{is_three, same_following, same_words, three}

-- words with zeros after them are an instruction word and two more; of these, as many as the instruction takes are these words
record Pads (word : ℕ) (words : List ℕ) (taken : ℕ → ℕ → List ℕ) : Type 0 where
  next : ℕ
  last : ℕ
  is : with_zeros (word ∷ words) ≡ three word next last
  same : taken next last ≡ words

abbrev by_one : Bool → ℕ → ℕ → List ℕ
by_one takes next last = if takes then next ∷ [] else []

abbrev by_two : Bool → Bool → ℕ → ℕ → List ℕ
by_two first second next last =
    (if first then next ∷ [] else []) ++ (if second then (if first then last else next) ∷ [] else [])

pads_one : (word next last : ℕ) (takes : Bool) → Pads word (by_one takes next last) (by_one takes)
pads_one word next last true = record { next = next; last = 0; is = refl; same = refl }
pads_one word next last false = record { next = 0; last = 0; is = refl; same = refl }

pads_two : (word next last : ℕ) (first second : Bool) → Pads word (by_two first second next last) (by_two first second)
pads_two word next last true true = record { next = next; last = last; is = refl; same = refl }
pads_two word next last true false = record { next = next; last = 0; is = refl; same = refl }
pads_two word next last false true = record { next = next; last = 0; is = refl; same = refl }
pads_two word next last false false = record { next = 0; last = 0; is = refl; same = refl }

pads : (word next last : ℕ) (operands : Operands)
    → Pads word (following next last operands) (λ n l. following n l operands)
pads word next last (Single operand) = pads_one word next last (takes_word operand)
pads word next last (RegisterFirst register operand) = pads_one word next last (takes_word operand)
pads word next last (RegisterLast operand register) = pads_one word next last (takes_word operand)
pads word next last (Double source destination) = pads_two word next last (takes_word source) (takes_word destination)
pads word next last _ = record { next = 0; last = 0; is = refl; same = refl }

-- the text of an instruction is found by a word that is tried
pub record IsFound (address : ℕ) (text : List ℕ) : Type 0 where
  pub number : ℕ
  pub small : number < base_count
  pub rest : List ℕ
  pub begins : text ≡ operator_text (instr_of_word (base_word_at number)) ++ rest
  pub shown : instruction_text address (words_of_text (base_word_at number) address rest) ≡ text

three_found : (address word next last : ℕ) → AreThreeWords (three word next last)
    → IsFound address (instruction_text address (three word next last))
unfolding instruction_text
three_found address word next last are =
    let operands = operands_of (instr_of_word word) in
    let read = three_read address word next last are in
    let pad = pads word next last operands in
    let words : words_of_text (base_word_at read.number) address (operands_text address word next last operands) ≡ three word pad.next pad.last =
    ap with_zeros read.read ∙ pad.is in
    record {
      number = read.number;
      small = read.small;
      rest = operands_text address word next last operands;
      begins = ap (λ operator. operator ++ operands_text address word next last operands) (sym read.shown);
      shown = ap (instruction_text address) words ∙ same_following address word pad.next pad.last next last pad.same;
    }

pub is_found : (address : ℕ) (text words : List ℕ) → IsAssembly address text words → IsFound address text
is_found address text words assembly =
    let it = is_three assembly.three assembly.are in
    let P : List ℕ → Type 0 = λ l. AreThreeWords l in
    let Q : List ℕ → Type 0 = λ l. IsFound address l in
    subst Q (ap (instruction_text address) (sym it.is) ∙ assembly.shown)
    (three_found address it.word it.next it.last (subst P it.is assembly.are))

-- if no word that is tried serves, the text is that of no instruction
pub none_left : (address : ℕ) (text : List ℕ) → ((number : ℕ) → number < base_count → IsOfOther address text (base_word_at number))
    → (words : List ℕ) → IsAssembly address text words → ⊥
none_left address text others words assembly =
    let found = is_found address text words assembly in
    others found.number found.small found.rest found.begins found.shown

-- A text that begins with an operator is that of an instruction with this operator's word, or it isn't, as the words that
-- the text then says show.
pub of_other : {Words : Type 0} (address : ℕ) (text : List ℕ) (base : ℕ) (rest words : List ℕ) (found : Option Words)
    (items : Words → List ℕ) → text ≡ operator_text (instr_of_word base) ++ rest → words ≡ words_of_text base address rest
    → MatchOption found (instruction_text address words ≢ text) (λ taken. IsAssembly address text (items taken))
    → MatchOption found (IsOfOther address text base) (λ taken. IsAssembly address text (items taken))
of_other address text base rest words None items begins said differs = λ other also shown.
    let same : rest ≡ other = append_cancel_left (operator_text (instr_of_word base)) rest other (sym begins ∙ also) in
    differs (ap (instruction_text address) (said ∙ ap (words_of_text base address) same) ∙ shown)
of_other address text base rest words (Some taken) items begins said is = is

-- what is found is all that there is, since a text has one instruction at most
pub found_one : (address : ℕ) (text words : List ℕ) → IsAssembly address text words → Assembles address text (Some words)
found_one address text words is others = (
  λ same. let equal : words ≡ others = cc in subst (IsAssembly address text) equal is,
  λ also. ap (λ w. Some w)
      (sym is.taken ∙ same_words address is.three also.three is.are also.are (is.shown ∙ sym also.shown) ∙ also.taken),
)

pub found_none : (address : ℕ) (text : List ℕ) → ((number : ℕ) → number < base_count → IsOfOther address text (base_word_at number))
    → Assembles address text None
found_none address text others words = (λ same. cc, λ is. absurd (none_left address text others words is))
