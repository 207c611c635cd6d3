-- The formats of instruction words, written from the handbook's drawings and not from the table:
-- DEC PDP-11/40 Processor Handbook (1972), Instruction set. Words and opcodes are octal.
use Rattle.std.specs.Prelude.{ℕ, ℤ, ◌≡◌, ◌+◌, ◌*◌, ◌<◌, ◌⊎◌}
use Rattle.std.specs.Int.{w8, cast_unsigned}
use Rattle.std.specs.Int.RustNames.{FitsSigned}
use Rattle.pdp_word.specs.Bits.{bit_of}
use Rattle.pdp_word.specs.declared.codes.Codes.{Codes}
use Rattle.pdp_decode.specs.Fields.{RegisterFits, mode_number, register_number}
use Rattle.pdp_decode.specs.declared.instruction.Specifier.{Specifier}
use Rattle.pdp_decode.specs.declared.instruction.Instr.{Instr}
use Rattle.pdp_decode.specs.declared.instruction.Instr.TheVariants.{Halt, Wait, Rti, Bpt, Iot}
use Rattle.pdp_decode.specs.declared.instruction.Instr.TheVariants.{Reset, Rtt, Jmp, Rts, Jsr, Mark}
use Rattle.pdp_decode.specs.declared.instruction.Instr.TheVariants.{Sob, Emt, Trap, ClearCodes}
use Rattle.pdp_decode.specs.declared.instruction.Instr.TheVariants.{SetCodes, Br, Bne, Beq, Bge}
use Rattle.pdp_decode.specs.declared.instruction.Instr.TheVariants.{Blt, Bgt, Ble, Bpl, Bmi, Bhi}
use Rattle.pdp_decode.specs.declared.instruction.Instr.TheVariants.{Blos, Bvc, Bvs, Bcc, Bcs, Mov}
use Rattle.pdp_decode.specs.declared.instruction.Instr.TheVariants.{Movb, Cmp, Cmpb, Bit, Bitb, Bic}
use Rattle.pdp_decode.specs.declared.instruction.Instr.TheVariants.{Bicb, Bis, Bisb, Add, Sub, Xor}
use Rattle.pdp_decode.specs.declared.instruction.Instr.TheVariants.{Mul, Div, Ash, Ashc, Swab, Clr}
use Rattle.pdp_decode.specs.declared.instruction.Instr.TheVariants.{Clrb, Com, Comb, Inc, Incb, Dec}
use Rattle.pdp_decode.specs.declared.instruction.Instr.TheVariants.{Decb, Neg, Negb, Adc, Adcb, Sbc}
use Rattle.pdp_decode.specs.declared.instruction.Instr.TheVariants.{Sbcb, Ror, Rorb, Rol, Rolb, Asr}
use Rattle.pdp_decode.specs.declared.instruction.Instr.TheVariants.{Asrb, Asl, Aslb, Sxt, Tst, Tstb}
use Rattle.pdp_decode.specs.declared.instruction.Instr.TheVariants.{Mfpi, Mtpi, Reserved}

-- the two octal digits of a specifier
abbrev pub digits_of : Specifier → ℕ
digits_of specifier = mode_number specifier * 8 + register_number specifier

-- a branch: the opcode in the high byte, the offset in two's complement in the low byte
abbrev pub branch_word : ℕ → ℤ → ℕ
branch_word opcode offset = opcode * 0o400 + cast_unsigned w8 offset

-- an instruction with one operand: ooooDD or ooooSS
abbrev pub single_operand_word : ℕ → Specifier → ℕ
single_operand_word opcode operand = opcode * 0o100 + digits_of operand

-- an instruction with a register and an operand: oooRDD or oooRSS
abbrev pub register_operand_word : ℕ → ℕ → Specifier → ℕ
register_operand_word opcode register operand = opcode * 0o1000 + register * 0o100 + digits_of
    operand

-- an instruction with two operands: ooSSDD
abbrev pub double_operand_word : ℕ → Specifier → Specifier → ℕ
double_operand_word opcode source destination =
    opcode * 0o10000 + digits_of source * 0o100 + digits_of destination

-- the condition codes in bits 3 to 0
abbrev pub code_bits : Codes → ℕ
code_bits codes = bit_of codes.n * 8 + bit_of codes.z * 4 + bit_of codes.v * 2 + bit_of codes.c

-- the word of an instruction; of the many reserved words, the last
abbrev pub encode : Instr → ℕ
encode Halt = 0o000000
encode Wait = 0o000001
encode Rti = 0o000002
encode Bpt = 0o000003
encode Iot = 0o000004
encode Reset = 0o000005
encode Rtt = 0o000006
encode (Jmp destination) = single_operand_word 0o0001 destination
encode (Rts register) = 0o000200 + register
encode (Jsr register destination) = register_operand_word 0o004 register destination
encode (Mark words) = 0o006400 + words
encode (Sob register words) = 0o077000 + register * 0o100 + words
encode (Emt code) = 0o104000 + code
encode (Trap code) = 0o104400 + code
encode (ClearCodes codes) = 0o000240 + code_bits codes
encode (SetCodes codes) = 0o000260 + code_bits codes
encode (Br offset) = branch_word 0o1 offset
encode (Bne offset) = branch_word 0o2 offset
encode (Beq offset) = branch_word 0o3 offset
encode (Bge offset) = branch_word 0o4 offset
encode (Blt offset) = branch_word 0o5 offset
encode (Bgt offset) = branch_word 0o6 offset
encode (Ble offset) = branch_word 0o7 offset
encode (Bpl offset) = branch_word 0o200 offset
encode (Bmi offset) = branch_word 0o201 offset
encode (Bhi offset) = branch_word 0o202 offset
encode (Blos offset) = branch_word 0o203 offset
encode (Bvc offset) = branch_word 0o204 offset
encode (Bvs offset) = branch_word 0o205 offset
encode (Bcc offset) = branch_word 0o206 offset
encode (Bcs offset) = branch_word 0o207 offset
encode (Mov source destination) = double_operand_word 0o01 source destination
encode (Movb source destination) = double_operand_word 0o11 source destination
encode (Cmp source destination) = double_operand_word 0o02 source destination
encode (Cmpb source destination) = double_operand_word 0o12 source destination
encode (Bit source destination) = double_operand_word 0o03 source destination
encode (Bitb source destination) = double_operand_word 0o13 source destination
encode (Bic source destination) = double_operand_word 0o04 source destination
encode (Bicb source destination) = double_operand_word 0o14 source destination
encode (Bis source destination) = double_operand_word 0o05 source destination
encode (Bisb source destination) = double_operand_word 0o15 source destination
encode (Add source destination) = double_operand_word 0o06 source destination
encode (Sub source destination) = double_operand_word 0o16 source destination
encode (Xor register destination) = register_operand_word 0o074 register destination
encode (Mul register source) = register_operand_word 0o070 register source
encode (Div register source) = register_operand_word 0o071 register source
encode (Ash register source) = register_operand_word 0o072 register source
encode (Ashc register source) = register_operand_word 0o073 register source
encode (Swab destination) = single_operand_word 0o0003 destination
encode (Clr destination) = single_operand_word 0o0050 destination
encode (Clrb destination) = single_operand_word 0o1050 destination
encode (Com destination) = single_operand_word 0o0051 destination
encode (Comb destination) = single_operand_word 0o1051 destination
encode (Inc destination) = single_operand_word 0o0052 destination
encode (Incb destination) = single_operand_word 0o1052 destination
encode (Dec destination) = single_operand_word 0o0053 destination
encode (Decb destination) = single_operand_word 0o1053 destination
encode (Neg destination) = single_operand_word 0o0054 destination
encode (Negb destination) = single_operand_word 0o1054 destination
encode (Adc destination) = single_operand_word 0o0055 destination
encode (Adcb destination) = single_operand_word 0o1055 destination
encode (Sbc destination) = single_operand_word 0o0056 destination
encode (Sbcb destination) = single_operand_word 0o1056 destination
encode (Ror destination) = single_operand_word 0o0060 destination
encode (Rorb destination) = single_operand_word 0o1060 destination
encode (Rol destination) = single_operand_word 0o0061 destination
encode (Rolb destination) = single_operand_word 0o1061 destination
encode (Asr destination) = single_operand_word 0o0062 destination
encode (Asrb destination) = single_operand_word 0o1062 destination
encode (Asl destination) = single_operand_word 0o0063 destination
encode (Aslb destination) = single_operand_word 0o1063 destination
encode (Sxt destination) = single_operand_word 0o0067 destination
encode (Tst destination) = single_operand_word 0o0057 destination
encode (Tstb destination) = single_operand_word 0o1057 destination
encode (Mfpi source) = single_operand_word 0o0065 source
encode (Mtpi destination) = single_operand_word 0o0066 destination
encode Reserved = 0o177777

-- the instruction has a word: each field fits its bits. A register is below 8, a count of words
-- below 100, a code below 400, and an offset from -200 to 177; without such a field it always fits
abbrev pub IsEncodable : Instr → Type 0
IsEncodable (Jmp destination) = RegisterFits destination
IsEncodable (Rts register) = register < 8
IsEncodable (Jsr register destination) = (register < 8) × RegisterFits destination
IsEncodable (Mark words) = words < 0o100
IsEncodable (Sob register words) = (register < 8) × (words < 0o100)
IsEncodable (Emt code) = code < 0o400
IsEncodable (Trap code) = code < 0o400
IsEncodable (Br offset) = FitsSigned w8 offset
IsEncodable (Bne offset) = FitsSigned w8 offset
IsEncodable (Beq offset) = FitsSigned w8 offset
IsEncodable (Bge offset) = FitsSigned w8 offset
IsEncodable (Blt offset) = FitsSigned w8 offset
IsEncodable (Bgt offset) = FitsSigned w8 offset
IsEncodable (Ble offset) = FitsSigned w8 offset
IsEncodable (Bpl offset) = FitsSigned w8 offset
IsEncodable (Bmi offset) = FitsSigned w8 offset
IsEncodable (Bhi offset) = FitsSigned w8 offset
IsEncodable (Blos offset) = FitsSigned w8 offset
IsEncodable (Bvc offset) = FitsSigned w8 offset
IsEncodable (Bvs offset) = FitsSigned w8 offset
IsEncodable (Bcc offset) = FitsSigned w8 offset
IsEncodable (Bcs offset) = FitsSigned w8 offset
IsEncodable (Mov source destination) = RegisterFits source × RegisterFits destination
IsEncodable (Movb source destination) = RegisterFits source × RegisterFits destination
IsEncodable (Cmp source destination) = RegisterFits source × RegisterFits destination
IsEncodable (Cmpb source destination) = RegisterFits source × RegisterFits destination
IsEncodable (Bit source destination) = RegisterFits source × RegisterFits destination
IsEncodable (Bitb source destination) = RegisterFits source × RegisterFits destination
IsEncodable (Bic source destination) = RegisterFits source × RegisterFits destination
IsEncodable (Bicb source destination) = RegisterFits source × RegisterFits destination
IsEncodable (Bis source destination) = RegisterFits source × RegisterFits destination
IsEncodable (Bisb source destination) = RegisterFits source × RegisterFits destination
IsEncodable (Add source destination) = RegisterFits source × RegisterFits destination
IsEncodable (Sub source destination) = RegisterFits source × RegisterFits destination
IsEncodable (Xor register destination) = (register < 8) × RegisterFits destination
IsEncodable (Mul register source) = (register < 8) × RegisterFits source
IsEncodable (Div register source) = (register < 8) × RegisterFits source
IsEncodable (Ash register source) = (register < 8) × RegisterFits source
IsEncodable (Ashc register source) = (register < 8) × RegisterFits source
IsEncodable (Swab destination) = RegisterFits destination
IsEncodable (Clr destination) = RegisterFits destination
IsEncodable (Clrb destination) = RegisterFits destination
IsEncodable (Com destination) = RegisterFits destination
IsEncodable (Comb destination) = RegisterFits destination
IsEncodable (Inc destination) = RegisterFits destination
IsEncodable (Incb destination) = RegisterFits destination
IsEncodable (Dec destination) = RegisterFits destination
IsEncodable (Decb destination) = RegisterFits destination
IsEncodable (Neg destination) = RegisterFits destination
IsEncodable (Negb destination) = RegisterFits destination
IsEncodable (Adc destination) = RegisterFits destination
IsEncodable (Adcb destination) = RegisterFits destination
IsEncodable (Sbc destination) = RegisterFits destination
IsEncodable (Sbcb destination) = RegisterFits destination
IsEncodable (Ror destination) = RegisterFits destination
IsEncodable (Rorb destination) = RegisterFits destination
IsEncodable (Rol destination) = RegisterFits destination
IsEncodable (Rolb destination) = RegisterFits destination
IsEncodable (Asr destination) = RegisterFits destination
IsEncodable (Asrb destination) = RegisterFits destination
IsEncodable (Asl destination) = RegisterFits destination
IsEncodable (Aslb destination) = RegisterFits destination
IsEncodable (Sxt destination) = RegisterFits destination
IsEncodable (Tst destination) = RegisterFits destination
IsEncodable (Tstb destination) = RegisterFits destination
IsEncodable (Mfpi source) = RegisterFits source
IsEncodable (Mtpi destination) = RegisterFits destination
IsEncodable _ = Unit {0}

-- the instruction is reserved, or this is its word
abbrev pub IsOfWord : Instr → ℕ → Type 0
IsOfWord instr word = (instr ≡ Reserved) ⊎ (encode instr ≡ word)
