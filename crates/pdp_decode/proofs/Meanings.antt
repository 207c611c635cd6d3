-- Each row's meaning has its word, section by section.
use Rattle.std.proofs.Common.{◌≡◌, ℕ, ℤ, ◌+◌, ◌*◌, ◌%◌, inr, refl, ◌∙◌, arith}
use Rattle.pdp_word.specs.declared.codes.Codes.{Codes}
use Rattle.pdp_decode.specs.declared.instruction.Specifier.{Specifier}
use Rattle.pdp_decode.specs.declared.instruction.Instr.{Instr}
use Rattle.pdp_decode.specs.declared.instruction.Instr.TheVariants.{Halt, Wait, Rti, Bpt, Iot, Reset, Rtt, Jmp, Jsr, Emt, Trap, ClearCodes, SetCodes, Br, Bne, Beq, Bge, Blt, Bgt, Ble, Bpl, Bmi, Bhi, Blos, Bvc, Bvs, Bcc, Bcs, Mov, Movb, Cmp, Cmpb, Bit, Bitb, Bic, Bicb, Bis, Bisb, Add, Sub, Xor, Mul, Div, Ash, Ashc, Swab, Clr, Clrb, Com, Comb, Inc, Incb, Dec, Decb, Neg, Negb, Adc, Adcb, Sbc, Sbcb, Ror, Rorb, Rol, Rolb, Asr, Asrb, Asl, Aslb, Sxt, Tst, Tstb, Mfpi, Mtpi}
use Rattle.pdp_decode.specs.Fields.{source_in, operand_in, register_in, offset_in, codes_in}
use Rattle.pdp_decode.specs.Format.{IsOfWord, encode, branch_word, single_operand_word, register_operand_word, double_operand_word, code_bits}
use Rattle.pdp_decode.specs.Table.{row, table, plain, branch, single_operand, register_operand, double_operand, code_operator, coded_trap, rts, mark, sob, control, branches, single_operands, double_operands, register_operands, high_branches, traps, byte_single_operands, high_double_operands, instr_of_word}
use Rattle.pdp_decode.proofs.Words.{HasWord, HaveWords, by_sections, ◌▹◌}
use Rattle.pdp_decode.proofs.Formats.{single_of_fields, register_of_fields, double_of_fields, branch_of_fields, word_of_codes}

plain_has_word : (opcode : ℕ) (instr : Instr) → encode instr ≡ opcode → HasWord (row opcode opcode (plain instr))
plain_has_word opcode instr e word p q = inr (omega arith)

branch_has_word : (opcode : ℕ) (instr : ℤ → Instr) → ((o : ℤ) → encode (instr o) ≡ branch_word opcode o)
    → HasWord (row (opcode * 0o400) (opcode * 0o400 + 0o377) (branch instr))
branch_has_word opcode instr e word p q = inr (e (offset_in word) ∙ branch_of_fields opcode word p q)

single_has_word : (opcode : ℕ) (instr : Specifier → Instr) → ((s : Specifier) → encode (instr s) ≡ single_operand_word opcode s)
    → HasWord (row (opcode * 0o100) (opcode * 0o100 + 0o77) (single_operand instr))
single_has_word opcode instr e word p q = inr (e (operand_in word) ∙ single_of_fields opcode word p q)

register_has_word : (opcode : ℕ) (instr : ℕ → Specifier → Instr)
    → ((r : ℕ) (s : Specifier) → encode (instr r s) ≡ register_operand_word opcode r s)
    → HasWord (row (opcode * 0o1000) (opcode * 0o1000 + 0o777) (register_operand instr))
register_has_word opcode instr e word p q = inr (e (register_in word) (operand_in word) ∙ register_of_fields opcode word p q)

double_has_word : (opcode : ℕ) (instr : Specifier → Specifier → Instr)
    → ((s d : Specifier) → encode (instr s d) ≡ double_operand_word opcode s d)
    → HasWord (row (opcode * 0o10000) (opcode * 0o10000 + 0o7777) (double_operand instr))
double_has_word opcode instr e word p q = inr (e (source_in word) (operand_in word) ∙ double_of_fields opcode word p q)

codes_has_word : (opcode : ℕ) (instr : Codes → Instr) → ((c : Codes) → encode (instr c) ≡ opcode * 0o20 + code_bits c)
    → HasWord (row (opcode * 0o20) (opcode * 0o20 + 0o17) (code_operator instr))
codes_has_word opcode instr e word p q = inr (e (codes_in word) ∙ word_of_codes opcode word p q)

trap_has_word : (opcode : ℕ) (instr : ℕ → Instr) → ((c : ℕ) → encode (instr c) ≡ opcode * 0o400 + c)
    → HasWord (row (opcode * 0o400) (opcode * 0o400 + 0o377) (coded_trap instr))
trap_has_word opcode instr e word p q = inr (e (word % 0o400) ∙ omega arith)

rts_has_word : HasWord (row 0o000200 0o000207 rts)
rts_has_word word p q = inr (omega arith)

mark_has_word : HasWord (row 0o006400 0o006477 mark)
mark_has_word word p q = inr (omega arith)

sob_has_word : HasWord (row 0o077000 0o077777 sob)
sob_has_word word p q = inr (omega arith)

control_have_words : HaveWords control
unfolding control
control_have_words =
    plain_has_word 0o000000 Halt refl
    ▹ plain_has_word 0o000001 Wait refl
    ▹ plain_has_word 0o000002 Rti refl
    ▹ plain_has_word 0o000003 Bpt refl
    ▹ plain_has_word 0o000004 Iot refl
    ▹ plain_has_word 0o000005 Reset refl
    ▹ plain_has_word 0o000006 Rtt refl
    ▹ single_has_word 0o0001 Jmp (λ s. refl)
    ▹ rts_has_word
    ▹ codes_has_word 0o00012 ClearCodes (λ c. refl)
    ▹ codes_has_word 0o00013 SetCodes (λ c. refl)
    ▹ single_has_word 0o0003 Swab (λ s. refl)
    ▹ tt

branches_have_words : HaveWords branches
unfolding branches
branches_have_words =
    branch_has_word 0o1 Br (λ o. refl)
    ▹ branch_has_word 0o2 Bne (λ o. refl)
    ▹ branch_has_word 0o3 Beq (λ o. refl)
    ▹ branch_has_word 0o4 Bge (λ o. refl)
    ▹ branch_has_word 0o5 Blt (λ o. refl)
    ▹ branch_has_word 0o6 Bgt (λ o. refl)
    ▹ branch_has_word 0o7 Ble (λ o. refl)
    ▹ tt

single_operands_have_words : HaveWords single_operands
unfolding single_operands
single_operands_have_words =
    register_has_word 0o004 Jsr (λ r s. refl)
    ▹ single_has_word 0o0050 Clr (λ s. refl)
    ▹ single_has_word 0o0051 Com (λ s. refl)
    ▹ single_has_word 0o0052 Inc (λ s. refl)
    ▹ single_has_word 0o0053 Dec (λ s. refl)
    ▹ single_has_word 0o0054 Neg (λ s. refl)
    ▹ single_has_word 0o0055 Adc (λ s. refl)
    ▹ single_has_word 0o0056 Sbc (λ s. refl)
    ▹ single_has_word 0o0057 Tst (λ s. refl)
    ▹ single_has_word 0o0060 Ror (λ s. refl)
    ▹ single_has_word 0o0061 Rol (λ s. refl)
    ▹ single_has_word 0o0062 Asr (λ s. refl)
    ▹ single_has_word 0o0063 Asl (λ s. refl)
    ▹ mark_has_word
    ▹ single_has_word 0o0065 Mfpi (λ s. refl)
    ▹ single_has_word 0o0066 Mtpi (λ s. refl)
    ▹ single_has_word 0o0067 Sxt (λ s. refl)
    ▹ tt

double_operands_have_words : HaveWords double_operands
unfolding double_operands
double_operands_have_words =
    double_has_word 0o01 Mov (λ s d. refl)
    ▹ double_has_word 0o02 Cmp (λ s d. refl)
    ▹ double_has_word 0o03 Bit (λ s d. refl)
    ▹ double_has_word 0o04 Bic (λ s d. refl)
    ▹ double_has_word 0o05 Bis (λ s d. refl)
    ▹ double_has_word 0o06 Add (λ s d. refl)
    ▹ tt

register_operands_have_words : HaveWords register_operands
unfolding register_operands
register_operands_have_words =
    register_has_word 0o070 Mul (λ r s. refl)
    ▹ register_has_word 0o071 Div (λ r s. refl)
    ▹ register_has_word 0o072 Ash (λ r s. refl)
    ▹ register_has_word 0o073 Ashc (λ r s. refl)
    ▹ register_has_word 0o074 Xor (λ r s. refl)
    ▹ sob_has_word
    ▹ tt

high_branches_have_words : HaveWords high_branches
unfolding high_branches
high_branches_have_words =
    branch_has_word 0o200 Bpl (λ o. refl)
    ▹ branch_has_word 0o201 Bmi (λ o. refl)
    ▹ branch_has_word 0o202 Bhi (λ o. refl)
    ▹ branch_has_word 0o203 Blos (λ o. refl)
    ▹ branch_has_word 0o204 Bvc (λ o. refl)
    ▹ branch_has_word 0o205 Bvs (λ o. refl)
    ▹ branch_has_word 0o206 Bcc (λ o. refl)
    ▹ branch_has_word 0o207 Bcs (λ o. refl)
    ▹ tt

traps_have_words : HaveWords traps
unfolding traps
traps_have_words =
    trap_has_word 0o210 Emt (λ c. refl)
    ▹ trap_has_word 0o211 Trap (λ c. refl)
    ▹ tt

byte_single_operands_have_words : HaveWords byte_single_operands
unfolding byte_single_operands
byte_single_operands_have_words =
    single_has_word 0o1050 Clrb (λ s. refl)
    ▹ single_has_word 0o1051 Comb (λ s. refl)
    ▹ single_has_word 0o1052 Incb (λ s. refl)
    ▹ single_has_word 0o1053 Decb (λ s. refl)
    ▹ single_has_word 0o1054 Negb (λ s. refl)
    ▹ single_has_word 0o1055 Adcb (λ s. refl)
    ▹ single_has_word 0o1056 Sbcb (λ s. refl)
    ▹ single_has_word 0o1057 Tstb (λ s. refl)
    ▹ single_has_word 0o1060 Rorb (λ s. refl)
    ▹ single_has_word 0o1061 Rolb (λ s. refl)
    ▹ single_has_word 0o1062 Asrb (λ s. refl)
    ▹ single_has_word 0o1063 Aslb (λ s. refl)
    ▹ tt

high_double_operands_have_words : HaveWords high_double_operands
unfolding high_double_operands
high_double_operands_have_words =
    double_has_word 0o11 Movb (λ s d. refl)
    ▹ double_has_word 0o12 Cmpb (λ s d. refl)
    ▹ double_has_word 0o13 Bitb (λ s d. refl)
    ▹ double_has_word 0o14 Bicb (λ s d. refl)
    ▹ double_has_word 0o15 Bisb (λ s d. refl)
    ▹ double_has_word 0o16 Sub (λ s d. refl)
    ▹ tt

pub decoded_has_word : (word : ℕ) → IsOfWord (instr_of_word word) word
unfolding instr_of_word
decoded_has_word word = by_sections table
    (control_have_words
    ▹ branches_have_words
    ▹ single_operands_have_words
    ▹ double_operands_have_words
    ▹ register_operands_have_words
    ▹ high_branches_have_words
    ▹ traps_have_words
    ▹ byte_single_operands_have_words
    ▹ high_double_operands_have_words ▹ tt) word
