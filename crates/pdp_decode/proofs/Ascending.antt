-- What ascending rows and sections are made of.
use Rattle.std.proofs.Common.{◌≡◌, ℕ, ◌≤◌, ◌<◌, ◌+◌, ◌⊎◌, List, [], ◌∷◌, arith, true}
use Rattle.std.proofs.lemmas.Bool.Decides.{nat_tests}
use Rattle.std.specs.Prelude.{if◌then◌else◌}
use Rattle.pdp_decode.specs.declared.instruction.Instr.{Instr}
use Rattle.pdp_decode.specs.Table.{Row, Section, is_within, is_ascending, are_ascending}

-- a choice by a range
pub choice : (first last word : ℕ) (a b : Instr)
    → ((first ≤ word) × (word ≤ last) × ((if is_within first last word then a else b) ≡ a))
    ⊎ (((word < first) ⊎ (last < word)) × ((if is_within first last word then a else b) ≡ b))
choice first last word a b = grind (arith, nat_tests)

pub row_parts : (next limit : ℕ) (r : Row) (rows : List Row) → is_ascending next limit (r ∷ rows) ≡ true
    → (next ≤ r.first) × (r.first ≤ r.last) × (is_ascending (r.last + 1) limit rows ≡ true)
row_parts next limit r rows h = grind (arith, nat_tests)

pub section_parts : (next limit : ℕ) (s : Section) (sections : List Section) → are_ascending next limit (s ∷ sections) ≡ true
    → (next ≤ s.first) × (is_ascending s.first (s.last + 1) s.rows ≡ true) × (are_ascending (s.last + 1) limit sections ≡ true)
section_parts next limit s sections h = grind (arith, nat_tests)

-- ascending rows end no earlier than they begin
pub span : (next limit : ℕ) (rows : List Row) → is_ascending next limit rows ≡ true → next ≤ limit
span next limit [] h = grind (arith, nat_tests)
span next limit (r ∷ rows) h =
    let a = row_parts next limit r rows h in
    let b : r.last + 1 ≤ limit = span (r.last + 1) limit rows a.2 in
    omega arith
