-- If a row stands in the table, the word of its instruction decodes back.
use Rattle.std.proofs.Common.{◌≡◌, ℕ, ℤ, ◌<◌, ◌+◌, ◌*◌, ◌/◌, ◌%◌, ◌∙◌, ap, arith}
use Rattle.std.specs.Int.{w8}
use Rattle.std.specs.Int.RustNames.{FitsSigned}
use Rattle.pdp_word.specs.declared.codes.Codes.{Codes}
use Rattle.pdp_decode.specs.declared.instruction.Specifier.{Specifier}
use Rattle.pdp_decode.specs.declared.instruction.Instr.{Instr}
use Rattle.pdp_decode.specs.declared.instruction.Instr.TheVariants.{Rts, Mark, Sob}
use Rattle.pdp_decode.specs.Fields.{RegisterFits, operand_in}
use Rattle.pdp_decode.specs.Format.{branch_word, single_operand_word, register_operand_word, double_operand_word, code_bits}
use Rattle.pdp_decode.specs.Table.{row, plain, branch, single_operand, register_operand, double_operand, code_operator, coded_trap, rts, mark, sob, instr_of_word}
use Rattle.pdp_decode.proofs.Standing.{Stands}
use Rattle.pdp_decode.proofs.Formats.{digits_below, operand_in_single, register_in_word, operand_in_register, source_in_double, operand_in_double, offset_below, offset_in_branch, bits_below, codes_in_word}

pub plain_back : (opcode : ℕ) (instr : Instr) → Stands (row opcode opcode (plain instr)) → instr_of_word opcode ≡ instr
plain_back opcode instr stands = stands opcode (omega arith) (omega arith)

pub branch_back : (opcode : ℕ) (instr : ℤ → Instr) → Stands (row (opcode * 0o400) (opcode * 0o400 + 0o377) (branch instr))
    → (o : ℤ) → FitsSigned w8 o → instr_of_word (branch_word opcode o) ≡ instr o
branch_back opcode instr stands o fits =
    let b = offset_below o fits in
    stands (branch_word opcode o) (omega arith) (omega arith) ∙ ap instr (offset_in_branch opcode o fits)

pub single_back : (opcode : ℕ) (instr : Specifier → Instr) → Stands (row (opcode * 0o100) (opcode * 0o100 + 0o77) (single_operand instr))
    → (s : Specifier) → RegisterFits s → instr_of_word (single_operand_word opcode s) ≡ instr s
single_back opcode instr stands s p =
    let b = digits_below s p in
    stands (single_operand_word opcode s) (omega arith) (omega arith) ∙ ap instr (operand_in_single opcode s p)

pub register_back : (opcode : ℕ) (instr : ℕ → Specifier → Instr)
    → Stands (row (opcode * 0o1000) (opcode * 0o1000 + 0o777) (register_operand instr))
    → (r : ℕ) (s : Specifier) → (r < 8) × RegisterFits s → instr_of_word (register_operand_word opcode r s) ≡ instr r s
register_back opcode instr stands r s (l, p) =
    let b = digits_below s p in
    stands (register_operand_word opcode r s) (omega arith) (omega arith)
    ∙ ap (λ n. instr n (operand_in (register_operand_word opcode r s))) (register_in_word opcode r s l p)
    ∙ ap (instr r) (operand_in_register opcode r s p)

pub double_back : (opcode : ℕ) (instr : Specifier → Specifier → Instr)
    → Stands (row (opcode * 0o10000) (opcode * 0o10000 + 0o7777) (double_operand instr))
    → (s d : Specifier) → RegisterFits s × RegisterFits d → instr_of_word (double_operand_word opcode s d) ≡ instr s d
double_back opcode instr stands s d (p, q) =
    let b = digits_below s p in let c = digits_below d q in
    stands (double_operand_word opcode s d) (omega arith) (omega arith)
    ∙ ap (λ x. instr x (operand_in (double_operand_word opcode s d))) (source_in_double opcode s d p q)
    ∙ ap (instr s) (operand_in_double opcode s d q)

pub codes_back : (opcode : ℕ) (instr : Codes → Instr) → Stands (row (opcode * 0o20) (opcode * 0o20 + 0o17) (code_operator instr))
    → (c : Codes) → instr_of_word (opcode * 0o20 + code_bits c) ≡ instr c
codes_back opcode instr stands c =
    let b = bits_below c in
    stands (opcode * 0o20 + code_bits c) (omega arith) (omega arith) ∙ ap instr (codes_in_word opcode c)

pub trap_back : (opcode : ℕ) (instr : ℕ → Instr) → Stands (row (opcode * 0o400) (opcode * 0o400 + 0o377) (coded_trap instr))
    → (c : ℕ) → c < 0o400 → instr_of_word (opcode * 0o400 + c) ≡ instr c
trap_back opcode instr stands c l =
    let e : (opcode * 0o400 + c) % 0o400 ≡ c = omega arith in
    stands (opcode * 0o400 + c) (omega arith) (omega arith) ∙ ap instr e

pub rts_back : Stands (row 0o000200 0o000207 rts) → (r : ℕ) → r < 8 → instr_of_word (0o000200 + r) ≡ Rts r
rts_back stands r l =
    let e : (0o000200 + r) % 8 ≡ r = omega arith in
    stands (0o000200 + r) (omega arith) (omega arith) ∙ ap Rts e

pub mark_back : Stands (row 0o006400 0o006477 mark) → (n : ℕ) → n < 0o100 → instr_of_word (0o006400 + n) ≡ Mark n
mark_back stands n l =
    let e : (0o006400 + n) % 0o100 ≡ n = omega arith in
    stands (0o006400 + n) (omega arith) (omega arith) ∙ ap Mark e

pub sob_back : Stands (row 0o077000 0o077777 sob) → (r n : ℕ) → (r < 8) × (n < 0o100)
    → instr_of_word (0o077000 + r * 0o100 + n) ≡ Sob r n
sob_back stands r n (l, m) =
    let e : (0o077000 + r * 0o100 + n) / 0o100 % 8 ≡ r = omega arith in
    let f : (0o077000 + r * 0o100 + n) % 0o100 ≡ n = omega arith in
    stands (0o077000 + r * 0o100 + n) (omega arith) (omega arith)
    ∙ ap (λ x. Sob x ((0o077000 + r * 0o100 + n) % 0o100)) e
    ∙ ap (Sob r) f
