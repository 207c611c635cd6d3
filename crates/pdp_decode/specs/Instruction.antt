-- The mnemonic of an instruction (DEC PDP-11/40 Processor Handbook (1972), Instruction set).
use Rattle.std.specs.Prelude.{ℕ, List, codes}
use Rattle.pdp_decode.specs.declared.instruction.Instr.{Instr}
use Rattle.pdp_decode.specs.declared.instruction.Instr.TheVariants.{Halt, Wait, Rti, Bpt, Iot}
use Rattle.pdp_decode.specs.declared.instruction.Instr.TheVariants.{Reset, Rtt, Jmp, Rts, Jsr, Mark}
use Rattle.pdp_decode.specs.declared.instruction.Instr.TheVariants.{Sob, Emt, Trap, ClearCodes}
use Rattle.pdp_decode.specs.declared.instruction.Instr.TheVariants.{SetCodes, Br, Bne, Beq, Bge}
use Rattle.pdp_decode.specs.declared.instruction.Instr.TheVariants.{Blt, Bgt, Ble, Bpl, Bmi, Bhi}
use Rattle.pdp_decode.specs.declared.instruction.Instr.TheVariants.{Blos, Bvc, Bvs, Bcc, Bcs, Mov}
use Rattle.pdp_decode.specs.declared.instruction.Instr.TheVariants.{Movb, Cmp, Cmpb, Bit, Bitb, Bic}
use Rattle.pdp_decode.specs.declared.instruction.Instr.TheVariants.{Bicb, Bis, Bisb, Add, Sub, Xor}
use Rattle.pdp_decode.specs.declared.instruction.Instr.TheVariants.{Mul, Div, Ash, Ashc, Swab, Clr}
use Rattle.pdp_decode.specs.declared.instruction.Instr.TheVariants.{Clrb, Com, Comb, Inc, Incb, Dec}
use Rattle.pdp_decode.specs.declared.instruction.Instr.TheVariants.{Decb, Neg, Negb, Adc, Adcb, Sbc}
use Rattle.pdp_decode.specs.declared.instruction.Instr.TheVariants.{Sbcb, Ror, Rorb, Rol, Rolb, Asr}
use Rattle.pdp_decode.specs.declared.instruction.Instr.TheVariants.{Asrb, Asl, Aslb, Sxt, Tst, Tstb}
use Rattle.pdp_decode.specs.declared.instruction.Instr.TheVariants.{Mfpi, Mtpi, Reserved}

-- the handbook's mnemonic; CLx and SEx for the condition code operators, which have one only for
-- one code or all
abbrev pub mnemonic : Instr → List ℕ
mnemonic Halt = codes "HALT"
mnemonic Wait = codes "WAIT"
mnemonic Rti = codes "RTI"
mnemonic Bpt = codes "BPT"
mnemonic Iot = codes "IOT"
mnemonic Reset = codes "RESET"
mnemonic Rtt = codes "RTT"
mnemonic (Jmp _) = codes "JMP"
mnemonic (Rts _) = codes "RTS"
mnemonic (Jsr _ _) = codes "JSR"
mnemonic (Mark _) = codes "MARK"
mnemonic (Sob _ _) = codes "SOB"
mnemonic (Emt _) = codes "EMT"
mnemonic (Trap _) = codes "TRAP"
mnemonic (ClearCodes _) = codes "CLx"
mnemonic (SetCodes _) = codes "SEx"
mnemonic (Br _) = codes "BR"
mnemonic (Bne _) = codes "BNE"
mnemonic (Beq _) = codes "BEQ"
mnemonic (Bge _) = codes "BGE"
mnemonic (Blt _) = codes "BLT"
mnemonic (Bgt _) = codes "BGT"
mnemonic (Ble _) = codes "BLE"
mnemonic (Bpl _) = codes "BPL"
mnemonic (Bmi _) = codes "BMI"
mnemonic (Bhi _) = codes "BHI"
mnemonic (Blos _) = codes "BLOS"
mnemonic (Bvc _) = codes "BVC"
mnemonic (Bvs _) = codes "BVS"
mnemonic (Bcc _) = codes "BCC"
mnemonic (Bcs _) = codes "BCS"
mnemonic (Mov _ _) = codes "MOV"
mnemonic (Movb _ _) = codes "MOVB"
mnemonic (Cmp _ _) = codes "CMP"
mnemonic (Cmpb _ _) = codes "CMPB"
mnemonic (Bit _ _) = codes "BIT"
mnemonic (Bitb _ _) = codes "BITB"
mnemonic (Bic _ _) = codes "BIC"
mnemonic (Bicb _ _) = codes "BICB"
mnemonic (Bis _ _) = codes "BIS"
mnemonic (Bisb _ _) = codes "BISB"
mnemonic (Add _ _) = codes "ADD"
mnemonic (Sub _ _) = codes "SUB"
mnemonic (Xor _ _) = codes "XOR"
mnemonic (Mul _ _) = codes "MUL"
mnemonic (Div _ _) = codes "DIV"
mnemonic (Ash _ _) = codes "ASH"
mnemonic (Ashc _ _) = codes "ASHC"
mnemonic (Swab _) = codes "SWAB"
mnemonic (Clr _) = codes "CLR"
mnemonic (Clrb _) = codes "CLRB"
mnemonic (Com _) = codes "COM"
mnemonic (Comb _) = codes "COMB"
mnemonic (Inc _) = codes "INC"
mnemonic (Incb _) = codes "INCB"
mnemonic (Dec _) = codes "DEC"
mnemonic (Decb _) = codes "DECB"
mnemonic (Neg _) = codes "NEG"
mnemonic (Negb _) = codes "NEGB"
mnemonic (Adc _) = codes "ADC"
mnemonic (Adcb _) = codes "ADCB"
mnemonic (Sbc _) = codes "SBC"
mnemonic (Sbcb _) = codes "SBCB"
mnemonic (Ror _) = codes "ROR"
mnemonic (Rorb _) = codes "RORB"
mnemonic (Rol _) = codes "ROL"
mnemonic (Rolb _) = codes "ROLB"
mnemonic (Asr _) = codes "ASR"
mnemonic (Asrb _) = codes "ASRB"
mnemonic (Asl _) = codes "ASL"
mnemonic (Aslb _) = codes "ASLB"
mnemonic (Sxt _) = codes "SXT"
mnemonic (Tst _) = codes "TST"
mnemonic (Tstb _) = codes "TSTB"
mnemonic (Mfpi _) = codes "MFPI"
mnemonic (Mtpi _) = codes "MTPI"
mnemonic Reserved = codes "Reserved"
