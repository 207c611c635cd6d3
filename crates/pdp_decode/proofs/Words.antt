-- If each row's meaning has its word, so has what the table decodes.
use Rattle.std.proofs.Common.{ℕ, ◌≤◌, inl, inr, refl, sym, subst, List, [], ◌∷◌}
use Rattle.pdp_decode.specs.declared.instruction.Instr.{Instr}
use Rattle.pdp_decode.specs.Table.{Row, Section, decoded_by, decoded_in}
use Rattle.pdp_decode.specs.Format.{IsOfWord}
use Rattle.pdp_decode.proofs.Ascending.{choice}

-- one fact and further ones
infixr 20 ◌▹◌
pub ◌▹◌ : {A B : Type 0} → A → B → A × B
a ▹ b = (a, b)

-- the row's meaning has its word
abbrev pub HasWord : Row → Type 0
HasWord r = (word : ℕ) → r.first ≤ word → word ≤ r.last → IsOfWord (r.meaning word) word

-- each row's meaning has its word
abbrev pub HaveWords : List Row → Type 0
HaveWords [] = Unit {0}
HaveWords (r ∷ rows) = HasWord r × HaveWords rows

by_rows : (rows : List Row) → HaveWords rows → (word : ℕ) → IsOfWord (decoded_by rows word) word
by_rows [] h word = inl refl
by_rows (r ∷ rows) (here, rest) word =
    let P : Instr → Type 0 = λ i. IsOfWord i word in
    elim (choice r.first r.last word (r.meaning word) (decoded_by rows word)) [
      | inl w ↦ subst P (sym w.2) (here word w.0 w.1)
      | inr w ↦ subst P (sym w.1) (by_rows rows rest word)
    ]

-- each section's rows have their words
abbrev pub AllHaveWords : List Section → Type 0
AllHaveWords [] = Unit {0}
AllHaveWords (s ∷ sections) = HaveWords s.rows × AllHaveWords sections

pub by_sections : (sections : List Section) → AllHaveWords sections → (word : ℕ) → IsOfWord (decoded_in sections word) word
by_sections [] h word = inl refl
by_sections (s ∷ sections) (here, rest) word =
    let P : Instr → Type 0 = λ i. IsOfWord i word in
    elim (choice s.first s.last word (decoded_by s.rows word) (decoded_in sections word)) [
      | inl w ↦ subst P (sym w.2) (by_rows s.rows here word)
      | inr w ↦ subst P (sym w.1) (by_sections sections rest word)
    ]
