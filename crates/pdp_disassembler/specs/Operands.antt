-- The operands of an instruction as its text has them, and how many words they take
-- (DEC PDP-11/40 Processor Handbook (1972), Instruction set and Addressing modes).
use Rattle.std.specs.Prelude.{ℕ, Bool, true, false, ◌+◌, ◌||◌, ◌==◌, not}
use Rattle.std.specs.Prelude.{if◌then◌else◌}
use Rattle.pdp_word.specs.declared.codes.Codes.{Codes}
use Rattle.pdp_decode.specs.declared.instruction.Specifier.{Specifier}
use Rattle.pdp_decode.specs.declared.instruction.Specifier.TheVariants as specifier
use Rattle.pdp_decode.specs.declared.instruction.Instr.{Instr}
use Rattle.pdp_decode.specs.declared.instruction.Instr.TheVariants.{Halt, Wait, Rti, Bpt, Iot}
use Rattle.pdp_decode.specs.declared.instruction.Instr.TheVariants.{Reset, Rtt, Jmp, Rts, Jsr, Mark}
use Rattle.pdp_decode.specs.declared.instruction.Instr.TheVariants.{Sob, Emt, Trap, ClearCodes}
use Rattle.pdp_decode.specs.declared.instruction.Instr.TheVariants.{SetCodes, Br, Bne, Beq, Bge}
use Rattle.pdp_decode.specs.declared.instruction.Instr.TheVariants.{Blt, Bgt, Ble, Bpl, Bmi, Bhi}
use Rattle.pdp_decode.specs.declared.instruction.Instr.TheVariants.{Blos, Bvc, Bvs, Bcc, Bcs, Mov}
use Rattle.pdp_decode.specs.declared.instruction.Instr.TheVariants.{Movb, Cmp, Cmpb, Bit, Bitb, Bic}
use Rattle.pdp_decode.specs.declared.instruction.Instr.TheVariants.{Bicb, Bis, Bisb, Add, Sub, Xor}
use Rattle.pdp_decode.specs.declared.instruction.Instr.TheVariants.{Mul, Div, Ash, Ashc, Swab, Clr}
use Rattle.pdp_decode.specs.declared.instruction.Instr.TheVariants.{Clrb, Com, Comb, Inc, Incb, Dec}
use Rattle.pdp_decode.specs.declared.instruction.Instr.TheVariants.{Decb, Neg, Negb, Adc, Adcb, Sbc}
use Rattle.pdp_decode.specs.declared.instruction.Instr.TheVariants.{Sbcb, Ror, Rorb, Rol, Rolb, Asr}
use Rattle.pdp_decode.specs.declared.instruction.Instr.TheVariants.{Asrb, Asl, Aslb, Sxt, Tst, Tstb}
use Rattle.pdp_decode.specs.declared.instruction.Instr.TheVariants.{Mfpi, Mtpi, Reserved}
use Rattle.pdp_disassembler.specs.declared.operands.Operands.{Operands}
use Rattle.pdp_disassembler.specs.declared.operands.Operands.TheVariants.{Absent, Register, Number}
use Rattle.pdp_disassembler.specs.declared.operands.Operands.TheVariants.{Branch, Loop, Single}
use Rattle.pdp_disassembler.specs.declared.operands.Operands.TheVariants.{RegisterFirst}
use Rattle.pdp_disassembler.specs.declared.operands.Operands.TheVariants.{RegisterLast, Double}
use Rattle.pdp_disassembler.specs.declared.operands.Operands.TheVariants.{Word}

-- no condition code is named
abbrev pub is_of_no_code : Codes → Bool
is_of_no_code flags = not (flags.n || flags.z || flags.v || flags.c)

-- The operands of an instruction. SetCodes of no code is shown by its word, since NOP is the text
-- of ClearCodes of none.
abbrev pub operands_of : Instr → Operands
operands_of Halt = Absent
operands_of Wait = Absent
operands_of Rti = Absent
operands_of Bpt = Absent
operands_of Iot = Absent
operands_of Reset = Absent
operands_of Rtt = Absent
operands_of (Jmp operand) = Single operand
operands_of (Rts register) = Register register
operands_of (Jsr register operand) = RegisterFirst register operand
operands_of (Mark words) = Number words
operands_of (Sob register words) = Loop register words
operands_of (Emt code) = Number code
operands_of (Trap code) = Number code
operands_of (ClearCodes flags) = Absent
operands_of (SetCodes flags) = if is_of_no_code flags then Word else Absent
operands_of (Br offset) = Branch offset
operands_of (Bne offset) = Branch offset
operands_of (Beq offset) = Branch offset
operands_of (Bge offset) = Branch offset
operands_of (Blt offset) = Branch offset
operands_of (Bgt offset) = Branch offset
operands_of (Ble offset) = Branch offset
operands_of (Bpl offset) = Branch offset
operands_of (Bmi offset) = Branch offset
operands_of (Bhi offset) = Branch offset
operands_of (Blos offset) = Branch offset
operands_of (Bvc offset) = Branch offset
operands_of (Bvs offset) = Branch offset
operands_of (Bcc offset) = Branch offset
operands_of (Bcs offset) = Branch offset
operands_of (Mov source destination) = Double source destination
operands_of (Movb source destination) = Double source destination
operands_of (Cmp source destination) = Double source destination
operands_of (Cmpb source destination) = Double source destination
operands_of (Bit source destination) = Double source destination
operands_of (Bitb source destination) = Double source destination
operands_of (Bic source destination) = Double source destination
operands_of (Bicb source destination) = Double source destination
operands_of (Bis source destination) = Double source destination
operands_of (Bisb source destination) = Double source destination
operands_of (Add source destination) = Double source destination
operands_of (Sub source destination) = Double source destination
operands_of (Xor register operand) = RegisterFirst register operand
operands_of (Mul register operand) = RegisterLast operand register
operands_of (Div register operand) = RegisterLast operand register
operands_of (Ash register operand) = RegisterLast operand register
operands_of (Ashc register operand) = RegisterLast operand register
operands_of (Swab operand) = Single operand
operands_of (Clr operand) = Single operand
operands_of (Clrb operand) = Single operand
operands_of (Com operand) = Single operand
operands_of (Comb operand) = Single operand
operands_of (Inc operand) = Single operand
operands_of (Incb operand) = Single operand
operands_of (Dec operand) = Single operand
operands_of (Decb operand) = Single operand
operands_of (Neg operand) = Single operand
operands_of (Negb operand) = Single operand
operands_of (Adc operand) = Single operand
operands_of (Adcb operand) = Single operand
operands_of (Sbc operand) = Single operand
operands_of (Sbcb operand) = Single operand
operands_of (Ror operand) = Single operand
operands_of (Rorb operand) = Single operand
operands_of (Rol operand) = Single operand
operands_of (Rolb operand) = Single operand
operands_of (Asr operand) = Single operand
operands_of (Asrb operand) = Single operand
operands_of (Asl operand) = Single operand
operands_of (Aslb operand) = Single operand
operands_of (Sxt operand) = Single operand
operands_of (Tst operand) = Single operand
operands_of (Tstb operand) = Single operand
operands_of (Mfpi operand) = Single operand
operands_of (Mtpi operand) = Single operand
operands_of Reserved = Word

-- an immediate or absolute operand: autoincrement of PC
abbrev pub is_immediate : Specifier → Bool
is_immediate (specifier.Autoincrement r) = r == 7
is_immediate (specifier.AutoincrementDeferred r) = r == 7
is_immediate other = false

-- an operand has a word of its own: an index, an immediate value or an absolute address
abbrev pub takes_word : Specifier → Bool
takes_word (specifier.Index r) = true
takes_word (specifier.IndexDeferred r) = true
takes_word other = is_immediate other

abbrev pub words_of_operand : Specifier → ℕ
words_of_operand operand = if takes_word operand then 1 else 0

-- how many words of the operands follow the instruction word
abbrev pub words_that_follow : Operands → ℕ
words_that_follow (Single operand) = words_of_operand operand
words_that_follow (RegisterFirst register operand) = words_of_operand operand
words_that_follow (RegisterLast operand register) = words_of_operand operand
words_that_follow (Double source destination) =
    words_of_operand source + words_of_operand destination
words_that_follow _ = 0
