-- Each instruction's word decodes to it.
use Rattle.std.proofs.Common.{◌≡◌, ℕ, ◌<◌, refl, length, lit<}
use Rattle.pdp_decode.specs.declared.instruction.Instr.{Instr}
use Rattle.pdp_decode.specs.declared.instruction.Instr.TheVariants.{Halt, Wait, Rti, Bpt, Iot, Reset, Rtt, Jmp, Rts, Jsr, Mark, Sob, Emt, Trap, ClearCodes, SetCodes, Br, Bne, Beq, Bge, Blt, Bgt, Ble, Bpl, Bmi, Bhi, Blos, Bvc, Bvs, Bcc, Bcs, Mov, Movb, Cmp, Cmpb, Bit, Bitb, Bic, Bicb, Bis, Bisb, Add, Sub, Xor, Mul, Div, Ash, Ashc, Swab, Clr, Clrb, Com, Comb, Inc, Incb, Dec, Decb, Neg, Negb, Adc, Adcb, Sbc, Sbcb, Ror, Rorb, Rol, Rolb, Asr, Asrb, Asl, Aslb, Sxt, Tst, Tstb, Mfpi, Mtpi, Reserved}
use Rattle.pdp_decode.specs.Table.{control, branches, single_operands, double_operands, register_operands, high_branches, traps, byte_single_operands, high_double_operands, instr_of_word}
use Rattle.pdp_decode.specs.Format.{IsEncodable, encode}
use Rattle.pdp_decode.proofs.Rows.{row_at}
use Rattle.pdp_decode.proofs.Standing.{Stands, row_stands}
use Rattle.pdp_decode.proofs.DecodedFormats.{plain_back, branch_back, single_back, register_back, double_back, codes_back, trap_back, rts_back, mark_back, sob_back}

in_control : (k : ℕ) → k < length control → Stands (row_at control k)
in_control k l = row_stands 0 k (lit< tt) l

in_branches : (k : ℕ) → k < length branches → Stands (row_at branches k)
in_branches k l = row_stands 1 k (lit< tt) l

in_single_operands : (k : ℕ) → k < length single_operands → Stands (row_at single_operands k)
in_single_operands k l = row_stands 2 k (lit< tt) l

in_double_operands : (k : ℕ) → k < length double_operands → Stands (row_at double_operands k)
in_double_operands k l = row_stands 3 k (lit< tt) l

in_register_operands : (k : ℕ) → k < length register_operands → Stands (row_at register_operands k)
in_register_operands k l = row_stands 4 k (lit< tt) l

in_high_branches : (k : ℕ) → k < length high_branches → Stands (row_at high_branches k)
in_high_branches k l = row_stands 5 k (lit< tt) l

in_traps : (k : ℕ) → k < length traps → Stands (row_at traps k)
in_traps k l = row_stands 6 k (lit< tt) l

in_byte_single_operands : (k : ℕ) → k < length byte_single_operands → Stands (row_at byte_single_operands k)
in_byte_single_operands k l = row_stands 7 k (lit< tt) l

in_high_double_operands : (k : ℕ) → k < length high_double_operands → Stands (row_at high_double_operands k)
in_high_double_operands k l = row_stands 8 k (lit< tt) l

reserved_back : instr_of_word (encode Reserved) ≡ Reserved
unfolding instr_of_word
reserved_back = refl

pub decoded_encode : (instr : Instr) → IsEncodable instr → instr_of_word (encode instr) ≡ instr
unfolding control branches single_operands double_operands register_operands high_branches traps byte_single_operands high_double_operands
decoded_encode Halt h = plain_back 0o000000 Halt (in_control 0 (lit< tt))
decoded_encode Wait h = plain_back 0o000001 Wait (in_control 1 (lit< tt))
decoded_encode Rti h = plain_back 0o000002 Rti (in_control 2 (lit< tt))
decoded_encode Bpt h = plain_back 0o000003 Bpt (in_control 3 (lit< tt))
decoded_encode Iot h = plain_back 0o000004 Iot (in_control 4 (lit< tt))
decoded_encode Reset h = plain_back 0o000005 Reset (in_control 5 (lit< tt))
decoded_encode Rtt h = plain_back 0o000006 Rtt (in_control 6 (lit< tt))
decoded_encode (Jmp s) h = single_back 0o0001 Jmp (in_control 7 (lit< tt)) s h
decoded_encode (Rts r) h = rts_back (in_control 8 (lit< tt)) r h
decoded_encode (Jsr r s) h = register_back 0o004 Jsr (in_single_operands 0 (lit< tt)) r s h
decoded_encode (Mark n) h = mark_back (in_single_operands 13 (lit< tt)) n h
decoded_encode (Sob r n) h = sob_back (in_register_operands 5 (lit< tt)) r n h
decoded_encode (Emt c) h = trap_back 0o210 Emt (in_traps 0 (lit< tt)) c h
decoded_encode (Trap c) h = trap_back 0o211 Trap (in_traps 1 (lit< tt)) c h
decoded_encode (ClearCodes c) h = codes_back 0o00012 ClearCodes (in_control 9 (lit< tt)) c
decoded_encode (SetCodes c) h = codes_back 0o00013 SetCodes (in_control 10 (lit< tt)) c
decoded_encode (Br o) h = branch_back 0o1 Br (in_branches 0 (lit< tt)) o h
decoded_encode (Bne o) h = branch_back 0o2 Bne (in_branches 1 (lit< tt)) o h
decoded_encode (Beq o) h = branch_back 0o3 Beq (in_branches 2 (lit< tt)) o h
decoded_encode (Bge o) h = branch_back 0o4 Bge (in_branches 3 (lit< tt)) o h
decoded_encode (Blt o) h = branch_back 0o5 Blt (in_branches 4 (lit< tt)) o h
decoded_encode (Bgt o) h = branch_back 0o6 Bgt (in_branches 5 (lit< tt)) o h
decoded_encode (Ble o) h = branch_back 0o7 Ble (in_branches 6 (lit< tt)) o h
decoded_encode (Bpl o) h = branch_back 0o200 Bpl (in_high_branches 0 (lit< tt)) o h
decoded_encode (Bmi o) h = branch_back 0o201 Bmi (in_high_branches 1 (lit< tt)) o h
decoded_encode (Bhi o) h = branch_back 0o202 Bhi (in_high_branches 2 (lit< tt)) o h
decoded_encode (Blos o) h = branch_back 0o203 Blos (in_high_branches 3 (lit< tt)) o h
decoded_encode (Bvc o) h = branch_back 0o204 Bvc (in_high_branches 4 (lit< tt)) o h
decoded_encode (Bvs o) h = branch_back 0o205 Bvs (in_high_branches 5 (lit< tt)) o h
decoded_encode (Bcc o) h = branch_back 0o206 Bcc (in_high_branches 6 (lit< tt)) o h
decoded_encode (Bcs o) h = branch_back 0o207 Bcs (in_high_branches 7 (lit< tt)) o h
decoded_encode (Mov s d) h = double_back 0o01 Mov (in_double_operands 0 (lit< tt)) s d h
decoded_encode (Movb s d) h = double_back 0o11 Movb (in_high_double_operands 0 (lit< tt)) s d h
decoded_encode (Cmp s d) h = double_back 0o02 Cmp (in_double_operands 1 (lit< tt)) s d h
decoded_encode (Cmpb s d) h = double_back 0o12 Cmpb (in_high_double_operands 1 (lit< tt)) s d h
decoded_encode (Bit s d) h = double_back 0o03 Bit (in_double_operands 2 (lit< tt)) s d h
decoded_encode (Bitb s d) h = double_back 0o13 Bitb (in_high_double_operands 2 (lit< tt)) s d h
decoded_encode (Bic s d) h = double_back 0o04 Bic (in_double_operands 3 (lit< tt)) s d h
decoded_encode (Bicb s d) h = double_back 0o14 Bicb (in_high_double_operands 3 (lit< tt)) s d h
decoded_encode (Bis s d) h = double_back 0o05 Bis (in_double_operands 4 (lit< tt)) s d h
decoded_encode (Bisb s d) h = double_back 0o15 Bisb (in_high_double_operands 4 (lit< tt)) s d h
decoded_encode (Add s d) h = double_back 0o06 Add (in_double_operands 5 (lit< tt)) s d h
decoded_encode (Sub s d) h = double_back 0o16 Sub (in_high_double_operands 5 (lit< tt)) s d h
decoded_encode (Xor r s) h = register_back 0o074 Xor (in_register_operands 4 (lit< tt)) r s h
decoded_encode (Mul r s) h = register_back 0o070 Mul (in_register_operands 0 (lit< tt)) r s h
decoded_encode (Div r s) h = register_back 0o071 Div (in_register_operands 1 (lit< tt)) r s h
decoded_encode (Ash r s) h = register_back 0o072 Ash (in_register_operands 2 (lit< tt)) r s h
decoded_encode (Ashc r s) h = register_back 0o073 Ashc (in_register_operands 3 (lit< tt)) r s h
decoded_encode (Swab s) h = single_back 0o0003 Swab (in_control 11 (lit< tt)) s h
decoded_encode (Clr s) h = single_back 0o0050 Clr (in_single_operands 1 (lit< tt)) s h
decoded_encode (Clrb s) h = single_back 0o1050 Clrb (in_byte_single_operands 0 (lit< tt)) s h
decoded_encode (Com s) h = single_back 0o0051 Com (in_single_operands 2 (lit< tt)) s h
decoded_encode (Comb s) h = single_back 0o1051 Comb (in_byte_single_operands 1 (lit< tt)) s h
decoded_encode (Inc s) h = single_back 0o0052 Inc (in_single_operands 3 (lit< tt)) s h
decoded_encode (Incb s) h = single_back 0o1052 Incb (in_byte_single_operands 2 (lit< tt)) s h
decoded_encode (Dec s) h = single_back 0o0053 Dec (in_single_operands 4 (lit< tt)) s h
decoded_encode (Decb s) h = single_back 0o1053 Decb (in_byte_single_operands 3 (lit< tt)) s h
decoded_encode (Neg s) h = single_back 0o0054 Neg (in_single_operands 5 (lit< tt)) s h
decoded_encode (Negb s) h = single_back 0o1054 Negb (in_byte_single_operands 4 (lit< tt)) s h
decoded_encode (Adc s) h = single_back 0o0055 Adc (in_single_operands 6 (lit< tt)) s h
decoded_encode (Adcb s) h = single_back 0o1055 Adcb (in_byte_single_operands 5 (lit< tt)) s h
decoded_encode (Sbc s) h = single_back 0o0056 Sbc (in_single_operands 7 (lit< tt)) s h
decoded_encode (Sbcb s) h = single_back 0o1056 Sbcb (in_byte_single_operands 6 (lit< tt)) s h
decoded_encode (Ror s) h = single_back 0o0060 Ror (in_single_operands 9 (lit< tt)) s h
decoded_encode (Rorb s) h = single_back 0o1060 Rorb (in_byte_single_operands 8 (lit< tt)) s h
decoded_encode (Rol s) h = single_back 0o0061 Rol (in_single_operands 10 (lit< tt)) s h
decoded_encode (Rolb s) h = single_back 0o1061 Rolb (in_byte_single_operands 9 (lit< tt)) s h
decoded_encode (Asr s) h = single_back 0o0062 Asr (in_single_operands 11 (lit< tt)) s h
decoded_encode (Asrb s) h = single_back 0o1062 Asrb (in_byte_single_operands 10 (lit< tt)) s h
decoded_encode (Asl s) h = single_back 0o0063 Asl (in_single_operands 12 (lit< tt)) s h
decoded_encode (Aslb s) h = single_back 0o1063 Aslb (in_byte_single_operands 11 (lit< tt)) s h
decoded_encode (Sxt s) h = single_back 0o0067 Sxt (in_single_operands 16 (lit< tt)) s h
decoded_encode (Tst s) h = single_back 0o0057 Tst (in_single_operands 8 (lit< tt)) s h
decoded_encode (Tstb s) h = single_back 0o1057 Tstb (in_byte_single_operands 7 (lit< tt)) s h
decoded_encode (Mfpi s) h = single_back 0o0065 Mfpi (in_single_operands 14 (lit< tt)) s h
decoded_encode (Mtpi s) h = single_back 0o0066 Mtpi (in_single_operands 15 (lit< tt)) s h
decoded_encode Reserved h = reserved_back
