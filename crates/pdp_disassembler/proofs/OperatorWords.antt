-- What an operator is the text of: its word, with zeros in its fields. So a text has one reading.
use Rattle.std.proofs.Common.{ℕ, Bool, true, false, Option, Some, None, List, [], ◌∷◌, cond, drop}
use Rattle.std.specs.Prelude.{◌==◌, not, codes, if◌then◌else◌}
use Rattle.pdp_decode.specs.Table.{instr_of_word}
use Rattle.pdp_disassembler.specs.Operands.{operands_of}
use Rattle.pdp_disassembler.specs.Reading.{beyond, front, words_read_as}

-- two texts are the same
abbrev pub same : List ℕ → List ℕ → Bool
same [] [] = true
same [] (other ∷ others) = false
same (byte ∷ bytes) [] = false
same (byte ∷ bytes) (other ∷ others) = cond (byte == other) (same bytes others) false

-- the texts of the condition code operators, with their words
abbrev pub operator_words : List (List ℕ × ℕ)
operator_words =
    (codes "NOP", 0o000240)
    ∷ (codes "CLC", 0o000241)
    ∷ (codes "CLV", 0o000242)
    ∷ (codes "CLV CLC", 0o000243)
    ∷ (codes "CLZ", 0o000244)
    ∷ (codes "CLZ CLC", 0o000245)
    ∷ (codes "CLZ CLV", 0o000246)
    ∷ (codes "CLZ CLV CLC", 0o000247)
    ∷ (codes "CLN", 0o000250)
    ∷ (codes "CLN CLC", 0o000251)
    ∷ (codes "CLN CLV", 0o000252)
    ∷ (codes "CLN CLV CLC", 0o000253)
    ∷ (codes "CLN CLZ", 0o000254)
    ∷ (codes "CLN CLZ CLC", 0o000255)
    ∷ (codes "CLN CLZ CLV", 0o000256)
    ∷ (codes "CCC", 0o000257)
    ∷ (codes "SEC", 0o000261)
    ∷ (codes "SEV", 0o000262)
    ∷ (codes "SEV SEC", 0o000263)
    ∷ (codes "SEZ", 0o000264)
    ∷ (codes "SEZ SEC", 0o000265)
    ∷ (codes "SEZ SEV", 0o000266)
    ∷ (codes "SEZ SEV SEC", 0o000267)
    ∷ (codes "SEN", 0o000270)
    ∷ (codes "SEN SEC", 0o000271)
    ∷ (codes "SEN SEV", 0o000272)
    ∷ (codes "SEN SEV SEC", 0o000273)
    ∷ (codes "SEN SEZ", 0o000274)
    ∷ (codes "SEN SEZ SEC", 0o000275)
    ∷ (codes "SEN SEZ SEV", 0o000276)
    ∷ (codes "SCC", 0o000277)
    ∷ []

-- the mnemonics; of the reserved words one below 200000 that is a multiple of 100
abbrev pub mnemonic_words : List (List ℕ × ℕ)
mnemonic_words =
    (codes "HALT", 0o000000)
    ∷ (codes "WAIT", 0o000001)
    ∷ (codes "RTI", 0o000002)
    ∷ (codes "BPT", 0o000003)
    ∷ (codes "IOT", 0o000004)
    ∷ (codes "RESET", 0o000005)
    ∷ (codes "RTT", 0o000006)
    ∷ (codes "JMP", 0o000100)
    ∷ (codes "SWAB", 0o000300)
    ∷ (codes "CLR", 0o005000)
    ∷ (codes "CLRB", 0o105000)
    ∷ (codes "COM", 0o005100)
    ∷ (codes "COMB", 0o105100)
    ∷ (codes "INC", 0o005200)
    ∷ (codes "INCB", 0o105200)
    ∷ (codes "DEC", 0o005300)
    ∷ (codes "DECB", 0o105300)
    ∷ (codes "NEG", 0o005400)
    ∷ (codes "NEGB", 0o105400)
    ∷ (codes "ADC", 0o005500)
    ∷ (codes "ADCB", 0o105500)
    ∷ (codes "SBC", 0o005600)
    ∷ (codes "SBCB", 0o105600)
    ∷ (codes "TST", 0o005700)
    ∷ (codes "TSTB", 0o105700)
    ∷ (codes "ROR", 0o006000)
    ∷ (codes "RORB", 0o106000)
    ∷ (codes "ROL", 0o006100)
    ∷ (codes "ROLB", 0o106100)
    ∷ (codes "ASR", 0o006200)
    ∷ (codes "ASRB", 0o106200)
    ∷ (codes "ASL", 0o006300)
    ∷ (codes "ASLB", 0o106300)
    ∷ (codes "MFPI", 0o006500)
    ∷ (codes "MTPI", 0o006600)
    ∷ (codes "SXT", 0o006700)
    ∷ (codes "RTS", 0o000200)
    ∷ (codes "MOV", 0o010000)
    ∷ (codes "MOVB", 0o110000)
    ∷ (codes "CMP", 0o020000)
    ∷ (codes "CMPB", 0o120000)
    ∷ (codes "BIT", 0o030000)
    ∷ (codes "BITB", 0o130000)
    ∷ (codes "BIC", 0o040000)
    ∷ (codes "BICB", 0o140000)
    ∷ (codes "BIS", 0o050000)
    ∷ (codes "BISB", 0o150000)
    ∷ (codes "ADD", 0o060000)
    ∷ (codes "SUB", 0o160000)
    ∷ (codes "JSR", 0o004000)
    ∷ (codes "XOR", 0o074000)
    ∷ (codes "MUL", 0o070000)
    ∷ (codes "DIV", 0o071000)
    ∷ (codes "ASH", 0o072000)
    ∷ (codes "ASHC", 0o073000)
    ∷ (codes "BR", 0o000400)
    ∷ (codes "BNE", 0o001000)
    ∷ (codes "BEQ", 0o001400)
    ∷ (codes "BGE", 0o002000)
    ∷ (codes "BLT", 0o002400)
    ∷ (codes "BGT", 0o003000)
    ∷ (codes "BLE", 0o003400)
    ∷ (codes "BPL", 0o100000)
    ∷ (codes "BMI", 0o100400)
    ∷ (codes "BHI", 0o101000)
    ∷ (codes "BLOS", 0o101400)
    ∷ (codes "BVC", 0o102000)
    ∷ (codes "BVS", 0o102400)
    ∷ (codes "BCC", 0o103000)
    ∷ (codes "BCS", 0o103400)
    ∷ (codes "MARK", 0o006400)
    ∷ (codes "EMT", 0o104000)
    ∷ (codes "TRAP", 0o104400)
    ∷ (codes "SOB", 0o077000)
    ∷ (codes ".WORD", 0o177700)
    ∷ []

abbrev pub word_of : List (List ℕ × ℕ) → List ℕ → Option ℕ
word_of [] text = None
word_of (row ∷ rows) text = if same text row.0 then Some row.1 else word_of rows text

abbrev pub is_letter : ℕ → Bool
is_letter byte = not (byte == 32)

abbrev pub or_zero : Option ℕ → ℕ
or_zero None = 0
or_zero (Some word) = word

abbrev pub or_of_mnemonic : Option ℕ → List ℕ → ℕ
or_of_mnemonic (Some word) text = word
or_of_mnemonic None text = or_zero (word_of mnemonic_words (front is_letter text))

-- the word, with zeros in its fields, of the instruction of a text
abbrev pub base_said : List ℕ → ℕ
base_said text = or_of_mnemonic (word_of operator_words text) text

-- the words of the instruction of a text
abbrev pub words_said : ℕ → List ℕ → List ℕ
words_said address text =
    words_read_as (operands_of (instr_of_word (base_said text))) (base_said text) address
    (drop 1 (beyond is_letter text))
