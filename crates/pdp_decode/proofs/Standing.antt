-- A word of a row of the table decodes to that row's meaning.
use Rattle.std.proofs.Common.{◌≡◌, ℕ, ◌≤◌, ◌<◌, ◌+◌, ◌∙◌, arith, length}
use Rattle.pdp_decode.specs.Table.{Row, table, instr_of_word}
use Rattle.pdp_decode.proofs.Rows.{row_at, section_at, row_within, section_ascends, decoded_by_row, decoded_in_section}
use Rattle.pdp_decode.proofs.Sections.{table_ascends}

abbrev pub Stands : Row → Type 0
Stands r = (word : ℕ) → r.first ≤ word → word ≤ r.last → instr_of_word word ≡ r.meaning word

pub row_stands : (s k : ℕ) → s < length table → k < length (section_at table s).rows → Stands (row_at (section_at table s).rows k)
unfolding instr_of_word
row_stands s k l m word p q =
    let a = section_ascends 0o000000 0o200000 table s table_ascends l in
    let w = row_within (section_at table s).first ((section_at table s).last + 1) (section_at table s).rows k a m in
    let b = w.0 in
    let e = w.1 in
    decoded_in_section 0o000000 0o200000 table s word table_ascends l (omega arith) (omega arith)
    ∙ decoded_by_row (section_at table s).first ((section_at table s).last + 1) (section_at table s).rows k word a m p q
