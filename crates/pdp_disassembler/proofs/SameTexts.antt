-- Instructions with the same words have the same text: a word that the instruction doesn't take isn't shown.
use Rattle.std.proofs.Common.{◌≡◌, ℕ, Bool, true, false, [], ◌∷◌, ◌++◌, refl, ap, ◌∙◌}
use Rattle.std.specs.Prelude.{codes, if◌then◌else◌}
use Rattle.pdp_decode.specs.declared.instruction.Specifier.{Specifier}
use Rattle.pdp_decode.specs.declared.instruction.Specifier.TheVariants as specifier
use Rattle.pdp_disassembler.specs.Operands.{takes_word}
use Rattle.pdp_disassembler.specs.Text.{first_text, further, operand_text, operands_text, register_name, second_text}
use Rattle.pdp_disassembler.specs.declared.operands.Operands.{Operands}
use Rattle.pdp_disassembler.specs.declared.operands.Operands.TheVariants.{Single, RegisterFirst, RegisterLast, Double}
use Rattle.pdp_disassembler.proofs.OperandTexts.{own_words}
use Rattle.pdp_disassembler.proofs.ReadTexts.{following}

-- an operand that takes no word shows none
unshown : (address word other : ℕ) (operand : Specifier) → takes_word operand ≡ false
    → operand_text address word operand ≡ operand_text address other operand
unfolding operand_text
unshown address word other (specifier.Autoincrement r) h = rw h refl
unshown address word other (specifier.AutoincrementDeferred r) h = rw h refl
unshown address word other (specifier.Index r) h = cc
unshown address word other (specifier.IndexDeferred r) h = cc
unshown address word other _ h = refl

-- an operand whose own words are the same has the same text
same_operand : (address word other : ℕ) (operand : Specifier) → own_words operand word ≡ own_words operand other
    → operand_text address word operand ≡ operand_text address other operand
unfolding operand_text
same_operand address word other operand same = by_taking (takes_word operand) refl same
  where
    by_taking : (takes : Bool) → takes_word operand ≡ takes
        → (if takes then word ∷ [] else []) ≡ (if takes then other ∷ [] else [])
        → operand_text address word operand ≡ operand_text address other operand
    by_taking true e words = let equal : word ≡ other = cc in ap (λ w. operand_text address w operand) equal
    by_taking false e words = unshown address word other operand e

same_second : (address next last other another : ℕ) (first second : Specifier)
    → own_words first next ++ own_words second (if takes_word first then last else next)
    ≡ own_words first other ++ own_words second (if takes_word first then another else other)
    → (first_text address next first ≡ first_text address other first)
    × (second_text address next last first second ≡ second_text address other another first second)
same_second address next last other another first second same = by_taking (takes_word first) refl same
  where
    by_taking : (takes : Bool) → takes_word first ≡ takes
        → (if takes then next ∷ [] else []) ++ own_words second (if takes then last else next)
        ≡ (if takes then other ∷ [] else []) ++ own_words second (if takes then another else other)
        → (first_text address next first ≡ first_text address other first)
        × ((if takes then operand_text (further address 4) last second else first_text address next second)
        ≡ (if takes then operand_text (further address 4) another second else first_text address other second))
    by_taking true e words =
        let equal : next ≡ other = cc in
        let rest : own_words second last ≡ own_words second another = cc in
        (ap (λ w. first_text address w first) equal, same_operand (further address 4) last another second rest)
    by_taking false e words =
        let none : own_words first next ≡ own_words first other = rw e refl in
        (same_operand (further address 2) next other first none, same_operand (further address 2) next other second words)

pub same_operands : (address word next last other another : ℕ) (operands : Operands)
    → following next last operands ≡ following other another operands
    → operands_text address word next last operands ≡ operands_text address word other another operands
unfolding operands_text
same_operands address word next last other another (Single operand) same =
    ap (λ text. codes " " ++ text) (same_operand (further address 2) next other operand same)
same_operands address word next last other another (RegisterFirst register operand) same =
    ap (λ text. codes " " ++ register_name register ++ codes "," ++ text) (same_operand (further address 2) next other operand same)
same_operands address word next last other another (RegisterLast operand register) same =
    ap (λ text. codes " " ++ text ++ codes "," ++ register_name register) (same_operand (further address 2) next other operand same)
same_operands address word next last other another (Double source destination) same =
    let both = same_second address next last other another source destination same in
    ap (λ text. codes " " ++ text ++ codes "," ++ second_text address next last source destination) both.0
    ∙ ap (λ text. codes " " ++ first_text address other source ++ codes "," ++ text) both.1
same_operands address word next last other another _ same = refl
