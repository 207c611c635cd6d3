-- Ascending sections decode as their rows in one list.
use Rattle.std.proofs.Common.{◌≡◌, ℕ, ◌≤◌, ◌<◌, ◌+◌, ◌⊎◌, inl, inr, ◌∙◌, refl, sym, List, [], ◌∷◌, ◌++◌, arith, true}
use Rattle.std.proofs.lemmas.Bool.Decides.{nat_tests}
use Rattle.pdp_decode.specs.declared.instruction.Instr.TheVariants.{Reserved}
use Rattle.pdp_decode.specs.Table.{Row, Section, decoded_by, decoded_in, is_ascending, are_ascending, rows_of}
use Rattle.pdp_decode.proofs.Ascending.{choice, row_parts, section_parts, span}

-- a word outside an ascending list has no row there
skipped : (next limit : ℕ) (rows rest : List Row) (word : ℕ) → is_ascending next limit rows ≡ true
    → (word < next) ⊎ (limit ≤ word) → decoded_by (rows ++ rest) word ≡ decoded_by rest word
skipped next limit [] rest word h o = refl
skipped next limit (r ∷ rows) rest word h o =
    let a = row_parts next limit r rows h in
    let b : r.last + 1 ≤ limit = span (r.last + 1) limit rows a.2 in
    elim (choice r.first r.last word (r.meaning word) (decoded_by (rows ++ rest) word)) [
      | inl w ↦ absurd (let p = w.0 in let q = w.1 in omega arith)
      | inr w ↦ w.1 ∙ skipped (r.last + 1) limit rows rest word a.2
          (elim o [ inl p ↦ inl (omega arith) | inr q ↦ inr q ])
    ]

-- the rows of a list come first; if none takes the word, those after it decide
joined : (rows rest : List Row) (word : ℕ) → decoded_by rest word ≡ Reserved → decoded_by (rows ++ rest) word ≡ decoded_by rows word
joined [] rest word h = h
joined (r ∷ rows) rest word h = let e = joined rows rest word h in grind (arith, nat_tests, e)

below_all : (next limit : ℕ) (sections : List Section) (word : ℕ) → are_ascending next limit sections ≡ true
    → word < next → decoded_by (rows_of sections) word ≡ Reserved
below_all next limit [] word h l = refl
below_all next limit (s ∷ sections) word h l =
    let a = section_parts next limit s sections h in
    let b = span s.first (s.last + 1) s.rows a.1 in
    skipped s.first (s.last + 1) s.rows (rows_of sections) word a.1 (inl (omega arith))
    ∙ below_all (s.last + 1) limit sections word a.2 (omega arith)

pub sections_are_rows : (next limit : ℕ) (sections : List Section) (word : ℕ) → are_ascending next limit sections ≡ true
    → decoded_in sections word ≡ decoded_by (rows_of sections) word
sections_are_rows next limit [] word h = refl
sections_are_rows next limit (s ∷ sections) word h =
    let a = section_parts next limit s sections h in
    elim (choice s.first s.last word (decoded_by s.rows word) (decoded_in sections word)) [
      | inl w ↦ w.2 ∙ sym (joined s.rows (rows_of sections) word (below_all (s.last + 1) limit sections word a.2 (let q = w.1 in omega arith)))
      | inr w ↦ let o = w.0 in
          w.1 ∙ sections_are_rows (s.last + 1) limit sections word a.2
          ∙ sym (skipped s.first (s.last + 1) s.rows (rows_of sections) word a.1 (grind arith))
    ]
