-- A word of a row of ascending rows has that row's meaning; so too for sections.
use Rattle.std.proofs.Common.{◌≡◌, ℕ, ◌≤◌, ◌<◌, ◌+◌, zero, suc, ◌∙◌, length, List, [], ◌∷◌, arith, true}
use Rattle.std.proofs.lemmas.Bool.Decides.{nat_tests}
use Rattle.std.specs.Prelude.{slice_index_or}
use Rattle.pdp_decode.specs.declared.instruction.Instr.TheVariants.{Reserved}
use Rattle.pdp_decode.specs.Table.{Row, row, Section, section, decoded_by, decoded_in, is_ascending, are_ascending}
use Rattle.pdp_decode.proofs.Ascending.{row_parts, section_parts, span}

-- the row at an index; past the end any row
abbrev pub row_at : List Row → ℕ → Row
row_at rows k = slice_index_or rows k (row 0 0 (λ _. Reserved))

abbrev pub section_at : List Section → ℕ → Section
section_at sections k = slice_index_or sections k (section 0 0 [])

-- a row of an ascending list lies within the list's words
pub row_within : (next limit : ℕ) (rows : List Row) (k : ℕ) → is_ascending next limit rows ≡ true → k < length rows
    → (next ≤ (row_at rows k).first) × ((row_at rows k).last < limit)
row_within next limit [] k h l = absurd (omega arith)
row_within next limit (r ∷ rows) zero h l =
    let a = row_parts next limit r rows h in
    let b : r.last + 1 ≤ limit = span (r.last + 1) limit rows a.2 in
    (a.0, omega arith)
row_within next limit (r ∷ rows) (suc k) h l =
    let a = row_parts next limit r rows h in
    let w = row_within (r.last + 1) limit rows k a.2 (omega arith) in
    let b = w.0 in
    (omega arith, w.1)

pub decoded_by_row : (next limit : ℕ) (rows : List Row) (k word : ℕ) → is_ascending next limit rows ≡ true → k < length rows
    → (row_at rows k).first ≤ word → word ≤ (row_at rows k).last → decoded_by rows word ≡ (row_at rows k).meaning word
decoded_by_row next limit [] k word h l p q = absurd (omega arith)
decoded_by_row next limit (r ∷ rows) zero word h l p q = grind (arith, nat_tests)
decoded_by_row next limit (r ∷ rows) (suc k) word h l p q =
    let a = row_parts next limit r rows h in
    let b : r.last + 1 ≤ (row_at rows k).first = (row_within (r.last + 1) limit rows k a.2 (omega arith)).0 in
    let e : decoded_by (r ∷ rows) word ≡ decoded_by rows word = grind (arith, nat_tests) in
    e ∙ decoded_by_row (r.last + 1) limit rows k word a.2 (omega arith) p q

-- each section of an ascending table is ascending
pub section_ascends : (next limit : ℕ) (sections : List Section) (k : ℕ) → are_ascending next limit sections ≡ true
    → k < length sections
    → is_ascending (section_at sections k).first ((section_at sections k).last + 1) (section_at sections k).rows ≡ true
section_ascends next limit [] k h l = absurd (omega arith)
section_ascends next limit (s ∷ sections) zero h l = (section_parts next limit s sections h).1
section_ascends next limit (s ∷ sections) (suc k) h l =
    section_ascends (s.last + 1) limit sections k (section_parts next limit s sections h).2 (omega arith)

first_of_section : (next limit : ℕ) (sections : List Section) (k : ℕ) → are_ascending next limit sections ≡ true
    → k < length sections → next ≤ (section_at sections k).first
first_of_section next limit [] k h l = absurd (omega arith)
first_of_section next limit (s ∷ sections) zero h l = grind (arith, nat_tests)
first_of_section next limit (s ∷ sections) (suc k) h l =
    let a = section_parts next limit s sections h in
    let b : s.last + 1 ≤ (section_at sections k).first = first_of_section (s.last + 1) limit sections k a.2 (omega arith) in
    let c : s.first ≤ s.last + 1 = span s.first (s.last + 1) s.rows a.1 in
    omega arith

pub decoded_in_section : (next limit : ℕ) (sections : List Section) (k word : ℕ) → are_ascending next limit sections ≡ true
    → k < length sections → (section_at sections k).first ≤ word → word ≤ (section_at sections k).last
    → decoded_in sections word ≡ decoded_by (section_at sections k).rows word
decoded_in_section next limit [] k word h l p q = absurd (omega arith)
decoded_in_section next limit (s ∷ sections) zero word h l p q = grind (arith, nat_tests)
decoded_in_section next limit (s ∷ sections) (suc k) word h l p q =
    let a = section_parts next limit s sections h in
    let b : s.last + 1 ≤ (section_at sections k).first = first_of_section (s.last + 1) limit sections k a.2 (omega arith) in
    let e : decoded_in (s ∷ sections) word ≡ decoded_in sections word = grind (arith, nat_tests) in
    e ∙ decoded_in_section (s.last + 1) limit sections k word a.2 (omega arith) p q
