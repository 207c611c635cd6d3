-- The sections of the table ascend, each section's rows within it.
use Rattle.std.proofs.Common.{◌≡◌, ℕ, refl, true}
use Rattle.pdp_decode.specs.Table.{is_ascending, are_ascending, table, control, branches, single_operands, double_operands, register_operands, high_branches, traps, byte_single_operands, high_double_operands, instr_of_word, decoded_by, rows_of}
use Rattle.pdp_decode.proofs.OneTable.{sections_are_rows}

control_ascends : is_ascending 0o000000 0o000400 control ≡ true
unfolding control
control_ascends = refl

branches_ascend : is_ascending 0o000400 0o004000 branches ≡ true
unfolding branches
branches_ascend = refl

single_operands_ascend : is_ascending 0o004000 0o007000 single_operands ≡ true
unfolding single_operands
single_operands_ascend = refl

double_operands_ascend : is_ascending 0o010000 0o070000 double_operands ≡ true
unfolding double_operands
double_operands_ascend = refl

register_operands_ascend : is_ascending 0o070000 0o100000 register_operands ≡ true
unfolding register_operands
register_operands_ascend = refl

high_branches_ascend : is_ascending 0o100000 0o104000 high_branches ≡ true
unfolding high_branches
high_branches_ascend = refl

traps_ascend : is_ascending 0o104000 0o105000 traps ≡ true
unfolding traps
traps_ascend = refl

byte_single_operands_ascend : is_ascending 0o105000 0o106400 byte_single_operands ≡ true
unfolding byte_single_operands
byte_single_operands_ascend = refl

high_double_operands_ascend : is_ascending 0o110000 0o170000 high_double_operands ≡ true
unfolding high_double_operands
high_double_operands_ascend = refl

pub table_ascends : are_ascending 0o000000 0o200000 table ≡ true
table_ascends = simp (
  control_ascends,
  branches_ascend,
  single_operands_ascend,
  double_operands_ascend,
  register_operands_ascend,
  high_branches_ascend,
  traps_ascend,
  byte_single_operands_ascend,
  high_double_operands_ascend,
)

pub decoded_by_table : (word : ℕ) → instr_of_word word ≡ decoded_by (rows_of table) word
unfolding instr_of_word
decoded_by_table word = sections_are_rows 0o000000 0o200000 table word table_ascends
