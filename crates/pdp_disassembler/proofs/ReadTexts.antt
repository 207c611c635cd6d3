-- The text of each instruction is read back.
use Rattle.std.proofs.Common.{◌≡◌, ℕ, ℤ, ◌+◌, ◌*◌, ◌<◌, inl, inr, lit<, take, drop, Bool, true, false, List, [], ◌∷◌, ◌++◌, length, refl, sym, subst, ◌∙◌, arith}
use Rattle.std.specs.Prelude.{codes, if◌then◌else◌}
use Rattle.std.specs.Int.{w8, cast_unsigned}
use Rattle.std.specs.Int.RustNames.{FitsSigned}
use Rattle.std.proofs.lemmas.List.{append-nil}
use Rattle.pdp_decode.specs.Fields.{RegisterFits}
use Rattle.pdp_decode.specs.Format.{IsEncodable, IsOfWord, digits_of, encode}
use Rattle.pdp_decode.specs.Table.{instr_of_word, control, branches, single_operands, double_operands, register_operands, high_branches, traps, byte_single_operands, high_double_operands}
use Rattle.pdp_decode.proofs.Meanings.{decoded_has_word}
use Rattle.pdp_decode.proofs.FittingFields.{decoded_fits}
use Rattle.pdp_decode.specs.declared.instruction.Specifier.{Specifier}
use Rattle.pdp_decode.specs.declared.instruction.Specifier.TheVariants as specifier
use Rattle.pdp_decode.specs.declared.instruction.Instr.{Instr}
use Rattle.pdp_decode.specs.declared.instruction.Instr.TheVariants.{Halt, Wait, Rti, Bpt, Iot, Reset, Rtt, Jmp, Rts, Jsr, Mark, Sob, Emt, Trap, ClearCodes, SetCodes, Br, Bne, Beq, Bge, Blt, Bgt, Ble, Bpl, Bmi, Bhi, Blos, Bvc, Bvs, Bcc, Bcs, Mov, Movb, Cmp, Cmpb, Bit, Bitb, Bic, Bicb, Bis, Bisb, Add, Sub, Xor, Mul, Div, Ash, Ashc, Swab, Clr, Clrb, Com, Comb, Inc, Incb, Dec, Decb, Neg, Negb, Adc, Adcb, Sbc, Sbcb, Ror, Rorb, Rol, Rolb, Asr, Asrb, Asl, Aslb, Sxt, Tst, Tstb, Mfpi, Mtpi, Reserved}
use Rattle.pdp_disassembler.specs.Assembly.{base_word_at, base_count}
use Rattle.pdp_disassembler.specs.Operands.{operands_of, takes_word, words_that_follow}
use Rattle.pdp_disassembler.specs.Reading.{words_read_as}
use Rattle.pdp_disassembler.specs.TextLaw.{AreThreeWords}
use Rattle.pdp_disassembler.specs.Text.{branch_target, further, instruction_text, octal_text, words_taken, operand_text, operands_text, operator_text, register_name, second_text}
use Rattle.pdp_disassembler.specs.declared.operands.Operands.{Operands}
use Rattle.pdp_disassembler.specs.declared.operands.Operands.TheVariants.{Absent, Branch, Single, RegisterFirst, RegisterLast, Double}
use Rattle.pdp_disassembler.proofs.OperandTexts.{operand_says, own_words}
use Rattle.pdp_disassembler.proofs.OperatorWords.{words_said}
use Rattle.pdp_disassembler.proofs.ReadForms.{alone_back, branching_back, directive_back, double_back, looping_back, numbered_back, register_back, register_first_back, register_last_back, register_says, second_says, single_back}

-- the words that follow the instruction word, of the two that come next
abbrev pub following : ℕ → ℕ → Operands → List ℕ
following next last (Single operand) = own_words operand next
following next last (RegisterFirst register operand) = own_words operand next
following next last (RegisterLast operand register) = own_words operand next
following next last (Double source destination) =
    own_words source next ++ own_words destination (if takes_word source then last else next)
following next last _ = []

-- An operator and what follows it say these words. Of the words that are tried this is so of one that has the same operator,
-- and of the one that the text names.
pub record IsRead (address : ℕ) (operator operands words : List ℕ) : Type 0 where
  pub number : ℕ
  pub small : number < base_count
  pub shown : operator_text (instr_of_word (base_word_at number)) ≡ operator
  pub read : words_read_as (operands_of (instr_of_word (base_word_at number))) (base_word_at number) address (drop 1 operands) ≡ words
  pub said : words_said address (operator ++ operands) ≡ words

-- the specifier in a word that has zeros in its fields
abbrev zeros : Specifier
zeros = specifier.Register 0

module _ (address word next last : ℕ) (fits : word < 0o200000) (next_fits : next < 0o200000) (last_fits : last < 0o200000) where
  abbrev TextReads : Instr → Type 0
  TextReads instr =
      IsRead address (operator_text instr) (operands_text address word next last (operands_of instr))
      (word ∷ following next last (operands_of instr))

  -- a reserved word, which is its own text's
  pub reserved_reads : TextReads Reserved
  unfolding operator_text operands_text instr_of_word control branches single_operands double_operands register_operands high_branches traps byte_single_operands high_double_operands
  reserved_reads = let r = directive_back 0o177700 address word fits in record { number = 0o2377; small = lit< tt; shown = refl; read = r; said = r }

  abbrev own : ℕ
  own = further address 2

  alone : (base : ℕ) → base ≡ word → (text : List ℕ) → words_read_as Absent base address text ≡ word ∷ []
  alone base e text = alone_back base address word e text

  branch : (base : ℕ) (offset : ℤ) → FitsSigned w8 offset → base + cast_unsigned w8 offset ≡ word
      → (other : ℤ) → words_read_as (Branch other) base address (octal_text (branch_target address offset)) ≡ word ∷ []
  branch base offset in_range e other = branching_back base address offset other word in_range e fits

  one : (base : ℕ) (operand : Specifier) → RegisterFits operand → base + digits_of operand ≡ word
      → words_read_as (Single zeros) base address (operand_text own next operand) ≡ word ∷ own_words operand next
  one base operand is e =
      single_back base address zeros (operand_text own next operand) (digits_of operand) (own_words operand next) word
      (operand_says own next next_fits operand is) e fits

  two : (base : ℕ) (source destination : Specifier) → RegisterFits source → RegisterFits destination
      → base + digits_of source * 0o100 + digits_of destination ≡ word
      → words_read_as (Double zeros zeros) base address
      (operand_text own next source ++ codes "," ++ second_text address next last source destination)
      ≡ word ∷ (own_words source next ++ own_words destination (if takes_word source then last else next))
  two base source destination s d e =
      double_back base address (operand_text own next source) (second_text address next last source destination)
      (digits_of source) (own_words source next) (operand_says own next next_fits source s)
      (digits_of destination) (own_words destination (if takes_word source then last else next))
      (second_says address next last source destination d next_fits last_fits) word fits zeros zeros (omega arith)

  first : (base register : ℕ) (operand : Specifier) → register < 8 → RegisterFits operand
      → base + register * 0o100 + digits_of operand ≡ word
      → words_read_as (RegisterFirst 0 zeros) base address (register_name register ++ codes "," ++ operand_text own next operand)
      ≡ word ∷ own_words operand next
  first base register operand l is e =
      register_first_back base address (register_name register) (operand_text own next operand) register []
      (register_says own register l) (digits_of operand) (own_words operand next) (operand_says own next next_fits operand is)
      word fits 0 zeros (omega arith)

  -- a register after an operand; its address plays no part
  second : (base register : ℕ) (operand : Specifier) → register < 8 → RegisterFits operand
      → base + register * 0o100 + digits_of operand ≡ word
      → words_read_as (RegisterLast zeros 0) base address (operand_text own next operand ++ codes "," ++ register_name register)
      ≡ word ∷ own_words operand next
  second base register operand l is e =
      let P : List ℕ → Type 0 = λ words. words_read_as (RegisterLast zeros 0) base address
      (operand_text own next operand ++ codes "," ++ register_name register) ≡ word ∷ words in
      subst P (append-nil (own_words operand next))
      (register_last_back base address (operand_text own next operand) (register_name register)
      (digits_of operand) (own_words operand next) (operand_says own next next_fits operand is)
      register [] (register_says (further address (2 + 2 * length (own_words operand next))) register l)
      word fits zeros 0 (omega arith))

  clearing : (n z v c : Bool) → encode (ClearCodes (record { n = n; z = z; v = v; c = c })) ≡ word
      → TextReads (ClearCodes (record { n = n; z = z; v = v; c = c }))
  unfolding operator_text operands_text instr_of_word control branches single_operands double_operands register_operands high_branches traps byte_single_operands high_double_operands
  clearing false false false false e = record { number = 0o240; small = lit< tt; shown = refl; read = alone 0o000240 e _; said = alone 0o000240 e _ }
  clearing false false false true e = record { number = 0o241; small = lit< tt; shown = refl; read = alone 0o000241 e _; said = alone 0o000241 e _ }
  clearing false false true false e = record { number = 0o242; small = lit< tt; shown = refl; read = alone 0o000242 e _; said = alone 0o000242 e _ }
  clearing false false true true e = record { number = 0o243; small = lit< tt; shown = refl; read = alone 0o000243 e _; said = alone 0o000243 e _ }
  clearing false true false false e = record { number = 0o244; small = lit< tt; shown = refl; read = alone 0o000244 e _; said = alone 0o000244 e _ }
  clearing false true false true e = record { number = 0o245; small = lit< tt; shown = refl; read = alone 0o000245 e _; said = alone 0o000245 e _ }
  clearing false true true false e = record { number = 0o246; small = lit< tt; shown = refl; read = alone 0o000246 e _; said = alone 0o000246 e _ }
  clearing false true true true e = record { number = 0o247; small = lit< tt; shown = refl; read = alone 0o000247 e _; said = alone 0o000247 e _ }
  clearing true false false false e = record { number = 0o250; small = lit< tt; shown = refl; read = alone 0o000250 e _; said = alone 0o000250 e _ }
  clearing true false false true e = record { number = 0o251; small = lit< tt; shown = refl; read = alone 0o000251 e _; said = alone 0o000251 e _ }
  clearing true false true false e = record { number = 0o252; small = lit< tt; shown = refl; read = alone 0o000252 e _; said = alone 0o000252 e _ }
  clearing true false true true e = record { number = 0o253; small = lit< tt; shown = refl; read = alone 0o000253 e _; said = alone 0o000253 e _ }
  clearing true true false false e = record { number = 0o254; small = lit< tt; shown = refl; read = alone 0o000254 e _; said = alone 0o000254 e _ }
  clearing true true false true e = record { number = 0o255; small = lit< tt; shown = refl; read = alone 0o000255 e _; said = alone 0o000255 e _ }
  clearing true true true false e = record { number = 0o256; small = lit< tt; shown = refl; read = alone 0o000256 e _; said = alone 0o000256 e _ }
  clearing true true true true e = record { number = 0o257; small = lit< tt; shown = refl; read = alone 0o000257 e _; said = alone 0o000257 e _ }

  -- the operators that set codes; of no code it is a directive, whose word is the instruction's own
  setting : (n z v c : Bool) → encode (SetCodes (record { n = n; z = z; v = v; c = c })) ≡ word
      → TextReads (SetCodes (record { n = n; z = z; v = v; c = c }))
  unfolding operator_text operands_text instr_of_word control branches single_operands double_operands register_operands high_branches traps byte_single_operands high_double_operands
  setting false false false false e = let r = directive_back 0o177700 address word fits in record { number = 0o2377; small = lit< tt; shown = refl; read = r; said = r }
  setting false false false true e = record { number = 0o261; small = lit< tt; shown = refl; read = alone 0o000261 e _; said = alone 0o000261 e _ }
  setting false false true false e = record { number = 0o262; small = lit< tt; shown = refl; read = alone 0o000262 e _; said = alone 0o000262 e _ }
  setting false false true true e = record { number = 0o263; small = lit< tt; shown = refl; read = alone 0o000263 e _; said = alone 0o000263 e _ }
  setting false true false false e = record { number = 0o264; small = lit< tt; shown = refl; read = alone 0o000264 e _; said = alone 0o000264 e _ }
  setting false true false true e = record { number = 0o265; small = lit< tt; shown = refl; read = alone 0o000265 e _; said = alone 0o000265 e _ }
  setting false true true false e = record { number = 0o266; small = lit< tt; shown = refl; read = alone 0o000266 e _; said = alone 0o000266 e _ }
  setting false true true true e = record { number = 0o267; small = lit< tt; shown = refl; read = alone 0o000267 e _; said = alone 0o000267 e _ }
  setting true false false false e = record { number = 0o270; small = lit< tt; shown = refl; read = alone 0o000270 e _; said = alone 0o000270 e _ }
  setting true false false true e = record { number = 0o271; small = lit< tt; shown = refl; read = alone 0o000271 e _; said = alone 0o000271 e _ }
  setting true false true false e = record { number = 0o272; small = lit< tt; shown = refl; read = alone 0o000272 e _; said = alone 0o000272 e _ }
  setting true false true true e = record { number = 0o273; small = lit< tt; shown = refl; read = alone 0o000273 e _; said = alone 0o000273 e _ }
  setting true true false false e = record { number = 0o274; small = lit< tt; shown = refl; read = alone 0o000274 e _; said = alone 0o000274 e _ }
  setting true true false true e = record { number = 0o275; small = lit< tt; shown = refl; read = alone 0o000275 e _; said = alone 0o000275 e _ }
  setting true true true false e = record { number = 0o276; small = lit< tt; shown = refl; read = alone 0o000276 e _; said = alone 0o000276 e _ }
  setting true true true true e = record { number = 0o277; small = lit< tt; shown = refl; read = alone 0o000277 e _; said = alone 0o000277 e _ }

  pub text_reads : (instr : Instr) → IsEncodable instr → encode instr ≡ word → TextReads instr
  unfolding operator_text operands_text instr_of_word control branches single_operands double_operands register_operands high_branches traps byte_single_operands high_double_operands
  text_reads Halt h e = record { number = 0; small = lit< tt; shown = refl; read = alone 0 e _; said = alone 0 e _ }
  text_reads Wait h e = record { number = 1; small = lit< tt; shown = refl; read = alone 1 e _; said = alone 1 e _ }
  text_reads Rti h e = record { number = 2; small = lit< tt; shown = refl; read = alone 2 e _; said = alone 2 e _ }
  text_reads Bpt h e = record { number = 3; small = lit< tt; shown = refl; read = alone 3 e _; said = alone 3 e _ }
  text_reads Iot h e = record { number = 4; small = lit< tt; shown = refl; read = alone 4 e _; said = alone 4 e _ }
  text_reads Reset h e = record { number = 5; small = lit< tt; shown = refl; read = alone 5 e _; said = alone 5 e _ }
  text_reads Rtt h e = record { number = 6; small = lit< tt; shown = refl; read = alone 6 e _; said = alone 6 e _ }
  text_reads (Jmp operand) h e = let r = one 0o000100 operand h e in record { number = 0o401; small = lit< tt; shown = refl; read = r; said = r }
  text_reads (Rts register) h e = let r = register_back 0o000200 address register 0 word h e fits in record { number = 0o200; small = lit< tt; shown = refl; read = r; said = r }
  text_reads (Jsr register operand) h e = let r = first 0o004000 register operand h.0 h.1 e in record { number = 0o440; small = lit< tt; shown = refl; read = r; said = r }
  text_reads (Mark number) h e = let r = numbered_back 0o006400 address number word e fits in record { number = 0o464; small = lit< tt; shown = refl; read = r; said = r }
  text_reads (Sob register words) h e = let r = looping_back 0o077000 address register words 0 0 word h.0 h.1 (omega arith) fits in record { number = 0o1370; small = lit< tt; shown = refl; read = r; said = r }
  text_reads (Emt number) h e = let r = numbered_back 0o104000 address number word e fits in record { number = 0o1440; small = lit< tt; shown = refl; read = r; said = r }
  text_reads (Trap number) h e = let r = numbered_back 0o104400 address number word e fits in record { number = 0o1444; small = lit< tt; shown = refl; read = r; said = r }
  text_reads (ClearCodes flags) h e = clearing flags.n flags.z flags.v flags.c e
  text_reads (SetCodes flags) h e = setting flags.n flags.z flags.v flags.c e
  text_reads (Br offset) h e = let r = branch 0o000400 offset h e _ in record { number = 0o404; small = lit< tt; shown = refl; read = r; said = r }
  text_reads (Bne offset) h e = let r = branch 0o001000 offset h e _ in record { number = 0o410; small = lit< tt; shown = refl; read = r; said = r }
  text_reads (Beq offset) h e = let r = branch 0o001400 offset h e _ in record { number = 0o414; small = lit< tt; shown = refl; read = r; said = r }
  text_reads (Bge offset) h e = let r = branch 0o002000 offset h e _ in record { number = 0o420; small = lit< tt; shown = refl; read = r; said = r }
  text_reads (Blt offset) h e = let r = branch 0o002400 offset h e _ in record { number = 0o424; small = lit< tt; shown = refl; read = r; said = r }
  text_reads (Bgt offset) h e = let r = branch 0o003000 offset h e _ in record { number = 0o430; small = lit< tt; shown = refl; read = r; said = r }
  text_reads (Ble offset) h e = let r = branch 0o003400 offset h e _ in record { number = 0o434; small = lit< tt; shown = refl; read = r; said = r }
  text_reads (Bpl offset) h e = let r = branch 0o100000 offset h e _ in record { number = 0o1400; small = lit< tt; shown = refl; read = r; said = r }
  text_reads (Bmi offset) h e = let r = branch 0o100400 offset h e _ in record { number = 0o1404; small = lit< tt; shown = refl; read = r; said = r }
  text_reads (Bhi offset) h e = let r = branch 0o101000 offset h e _ in record { number = 0o1410; small = lit< tt; shown = refl; read = r; said = r }
  text_reads (Blos offset) h e = let r = branch 0o101400 offset h e _ in record { number = 0o1414; small = lit< tt; shown = refl; read = r; said = r }
  text_reads (Bvc offset) h e = let r = branch 0o102000 offset h e _ in record { number = 0o1420; small = lit< tt; shown = refl; read = r; said = r }
  text_reads (Bvs offset) h e = let r = branch 0o102400 offset h e _ in record { number = 0o1424; small = lit< tt; shown = refl; read = r; said = r }
  text_reads (Bcc offset) h e = let r = branch 0o103000 offset h e _ in record { number = 0o1430; small = lit< tt; shown = refl; read = r; said = r }
  text_reads (Bcs offset) h e = let r = branch 0o103400 offset h e _ in record { number = 0o1434; small = lit< tt; shown = refl; read = r; said = r }
  text_reads (Mov source destination) h e = let r = two 0o010000 source destination h.0 h.1 e in record { number = 0o500; small = lit< tt; shown = refl; read = r; said = r }
  text_reads (Movb source destination) h e = let r = two 0o110000 source destination h.0 h.1 e in record { number = 0o1500; small = lit< tt; shown = refl; read = r; said = r }
  text_reads (Cmp source destination) h e = let r = two 0o020000 source destination h.0 h.1 e in record { number = 0o600; small = lit< tt; shown = refl; read = r; said = r }
  text_reads (Cmpb source destination) h e = let r = two 0o120000 source destination h.0 h.1 e in record { number = 0o1600; small = lit< tt; shown = refl; read = r; said = r }
  text_reads (Bit source destination) h e = let r = two 0o030000 source destination h.0 h.1 e in record { number = 0o700; small = lit< tt; shown = refl; read = r; said = r }
  text_reads (Bitb source destination) h e = let r = two 0o130000 source destination h.0 h.1 e in record { number = 0o1700; small = lit< tt; shown = refl; read = r; said = r }
  text_reads (Bic source destination) h e = let r = two 0o040000 source destination h.0 h.1 e in record { number = 0o1000; small = lit< tt; shown = refl; read = r; said = r }
  text_reads (Bicb source destination) h e = let r = two 0o140000 source destination h.0 h.1 e in record { number = 0o2000; small = lit< tt; shown = refl; read = r; said = r }
  text_reads (Bis source destination) h e = let r = two 0o050000 source destination h.0 h.1 e in record { number = 0o1100; small = lit< tt; shown = refl; read = r; said = r }
  text_reads (Bisb source destination) h e = let r = two 0o150000 source destination h.0 h.1 e in record { number = 0o2100; small = lit< tt; shown = refl; read = r; said = r }
  text_reads (Add source destination) h e = let r = two 0o060000 source destination h.0 h.1 e in record { number = 0o1200; small = lit< tt; shown = refl; read = r; said = r }
  text_reads (Sub source destination) h e = let r = two 0o160000 source destination h.0 h.1 e in record { number = 0o2200; small = lit< tt; shown = refl; read = r; said = r }
  text_reads (Xor register operand) h e = let r = first 0o074000 register operand h.0 h.1 e in record { number = 0o1340; small = lit< tt; shown = refl; read = r; said = r }
  text_reads (Mul register operand) h e = let r = second 0o070000 register operand h.0 h.1 e in record { number = 0o1300; small = lit< tt; shown = refl; read = r; said = r }
  text_reads (Div register operand) h e = let r = second 0o071000 register operand h.0 h.1 e in record { number = 0o1310; small = lit< tt; shown = refl; read = r; said = r }
  text_reads (Ash register operand) h e = let r = second 0o072000 register operand h.0 h.1 e in record { number = 0o1320; small = lit< tt; shown = refl; read = r; said = r }
  text_reads (Ashc register operand) h e = let r = second 0o073000 register operand h.0 h.1 e in record { number = 0o1330; small = lit< tt; shown = refl; read = r; said = r }
  text_reads (Swab operand) h e = let r = one 0o000300 operand h e in record { number = 0o403; small = lit< tt; shown = refl; read = r; said = r }
  text_reads (Clr operand) h e = let r = one 0o005000 operand h e in record { number = 0o450; small = lit< tt; shown = refl; read = r; said = r }
  text_reads (Clrb operand) h e = let r = one 0o105000 operand h e in record { number = 0o1450; small = lit< tt; shown = refl; read = r; said = r }
  text_reads (Com operand) h e = let r = one 0o005100 operand h e in record { number = 0o451; small = lit< tt; shown = refl; read = r; said = r }
  text_reads (Comb operand) h e = let r = one 0o105100 operand h e in record { number = 0o1451; small = lit< tt; shown = refl; read = r; said = r }
  text_reads (Inc operand) h e = let r = one 0o005200 operand h e in record { number = 0o452; small = lit< tt; shown = refl; read = r; said = r }
  text_reads (Incb operand) h e = let r = one 0o105200 operand h e in record { number = 0o1452; small = lit< tt; shown = refl; read = r; said = r }
  text_reads (Dec operand) h e = let r = one 0o005300 operand h e in record { number = 0o453; small = lit< tt; shown = refl; read = r; said = r }
  text_reads (Decb operand) h e = let r = one 0o105300 operand h e in record { number = 0o1453; small = lit< tt; shown = refl; read = r; said = r }
  text_reads (Neg operand) h e = let r = one 0o005400 operand h e in record { number = 0o454; small = lit< tt; shown = refl; read = r; said = r }
  text_reads (Negb operand) h e = let r = one 0o105400 operand h e in record { number = 0o1454; small = lit< tt; shown = refl; read = r; said = r }
  text_reads (Adc operand) h e = let r = one 0o005500 operand h e in record { number = 0o455; small = lit< tt; shown = refl; read = r; said = r }
  text_reads (Adcb operand) h e = let r = one 0o105500 operand h e in record { number = 0o1455; small = lit< tt; shown = refl; read = r; said = r }
  text_reads (Sbc operand) h e = let r = one 0o005600 operand h e in record { number = 0o456; small = lit< tt; shown = refl; read = r; said = r }
  text_reads (Sbcb operand) h e = let r = one 0o105600 operand h e in record { number = 0o1456; small = lit< tt; shown = refl; read = r; said = r }
  text_reads (Ror operand) h e = let r = one 0o006000 operand h e in record { number = 0o460; small = lit< tt; shown = refl; read = r; said = r }
  text_reads (Rorb operand) h e = let r = one 0o106000 operand h e in record { number = 0o1460; small = lit< tt; shown = refl; read = r; said = r }
  text_reads (Rol operand) h e = let r = one 0o006100 operand h e in record { number = 0o461; small = lit< tt; shown = refl; read = r; said = r }
  text_reads (Rolb operand) h e = let r = one 0o106100 operand h e in record { number = 0o1461; small = lit< tt; shown = refl; read = r; said = r }
  text_reads (Asr operand) h e = let r = one 0o006200 operand h e in record { number = 0o462; small = lit< tt; shown = refl; read = r; said = r }
  text_reads (Asrb operand) h e = let r = one 0o106200 operand h e in record { number = 0o1462; small = lit< tt; shown = refl; read = r; said = r }
  text_reads (Asl operand) h e = let r = one 0o006300 operand h e in record { number = 0o463; small = lit< tt; shown = refl; read = r; said = r }
  text_reads (Aslb operand) h e = let r = one 0o106300 operand h e in record { number = 0o1463; small = lit< tt; shown = refl; read = r; said = r }
  text_reads (Sxt operand) h e = let r = one 0o006700 operand h e in record { number = 0o467; small = lit< tt; shown = refl; read = r; said = r }
  text_reads (Tst operand) h e = let r = one 0o005700 operand h e in record { number = 0o457; small = lit< tt; shown = refl; read = r; said = r }
  text_reads (Tstb operand) h e = let r = one 0o105700 operand h e in record { number = 0o1457; small = lit< tt; shown = refl; read = r; said = r }
  text_reads (Mfpi operand) h e = let r = one 0o006500 operand h e in record { number = 0o465; small = lit< tt; shown = refl; read = r; said = r }
  text_reads (Mtpi operand) h e = let r = one 0o006600 operand h e in record { number = 0o466; small = lit< tt; shown = refl; read = r; said = r }
  text_reads Reserved h e = reserved_reads

by_one : (word next last : ℕ) (takes : Bool)
    → take (1 + (if takes then 1 else 0)) (word ∷ next ∷ last ∷ []) ≡ word ∷ (if takes then next ∷ [] else [])
by_one word next last true = refl
by_one word next last false = refl

by_two : (word next last : ℕ) (first second : Bool)
    → take (1 + ((if first then 1 else 0) + (if second then 1 else 0))) (word ∷ next ∷ last ∷ [])
    ≡ word ∷ ((if first then next ∷ [] else []) ++ (if second then (if first then last else next) ∷ [] else []))
by_two word next last true true = refl
by_two word next last true false = refl
by_two word next last false true = refl
by_two word next last false false = refl

-- the words that an instruction takes
pub taken_words : (word next last : ℕ) (operands : Operands)
    → take (1 + words_that_follow operands) (word ∷ next ∷ last ∷ []) ≡ word ∷ following next last operands
taken_words word next last (Single operand) = by_one word next last (takes_word operand)
taken_words word next last (RegisterFirst register operand) = by_one word next last (takes_word operand)
taken_words word next last (RegisterLast operand register) = by_one word next last (takes_word operand)
taken_words word next last (Double source destination) = by_two word next last (takes_word source) (takes_word destination)
taken_words word next last _ = refl

-- the text of an instruction says its word and those that follow
whole_reads : (address word next last : ℕ) → word < 0o200000 → next < 0o200000 → last < 0o200000
    → (instr : Instr) → IsEncodable instr → IsOfWord instr word
    → IsRead address (operator_text instr) (operands_text address word next last (operands_of instr))
    (word ∷ following next last (operands_of instr))
whole_reads address word next last fits next_fits last_fits instr h (inl reserved) =
    let P : Instr → Type 0 = λ i.
    IsRead address (operator_text i) (operands_text address word next last (operands_of i)) (word ∷ following next last (operands_of i)) in
    subst P (sym reserved) (reserved_reads address word next last fits next_fits last_fits)
whole_reads address word next last fits next_fits last_fits instr h (inr e) =
    text_reads address word next last fits next_fits last_fits instr h e

pub three_read : (address word next last : ℕ) → AreThreeWords (word ∷ next ∷ last ∷ [])
    → IsRead address (operator_text (instr_of_word word)) (operands_text address word next last (operands_of (instr_of_word word)))
    (word ∷ following next last (operands_of (instr_of_word word)))
three_read address word next last are =
    whole_reads address word next last (are.fit 0 0 (lit< tt)) (are.fit 1 0 (lit< tt)) (are.fit 2 0 (lit< tt))
    (instr_of_word word) (decoded_fits word) (decoded_has_word word)

three_said : (address word next last : ℕ) → AreThreeWords (word ∷ next ∷ last ∷ [])
    → words_said address (instruction_text address (word ∷ next ∷ last ∷ [])) ≡ words_taken (word ∷ next ∷ last ∷ [])
unfolding instruction_text
three_said address word next last are =
    let read = three_read address word next last are in
    read.said ∙ sym (taken_words word next last (operands_of (instr_of_word word)))

-- the text of an instruction is read back as the words that it takes
pub instruction_reads : (address : ℕ) (words : List ℕ) → AreThreeWords words
    → words_said address (instruction_text address words) ≡ words_taken words
instruction_reads address [] are = let e = are.three in absurd (omega arith)
instruction_reads address (word ∷ []) are = let e = are.three in absurd (omega arith)
instruction_reads address (word ∷ next ∷ []) are = let e = are.three in absurd (omega arith)
instruction_reads address (word ∷ next ∷ last ∷ []) are = three_said address word next last are
instruction_reads address (word ∷ next ∷ last ∷ other ∷ others) are = let e = are.three in absurd (omega arith)
