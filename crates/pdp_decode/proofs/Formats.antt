-- The fields of a word that was made by a format, and the word that a format makes of its fields.
use Rattle.std.proofs.Common.{◌≡◌, ℕ, zero, suc, ℤ, Bool, true, false, ◌≤◌, ◌<◌, ◌+◌, ◌*◌, ◌/◌, ◌%◌, arith, refl, ap, ◌∙◌}
use Rattle.std.specs.Prelude.{◌==◌}
use Rattle.std.specs.Int.{w8, cast_unsigned, cast_signed}
use Rattle.std.specs.Int.RustNames.{FitsSigned}
use Rattle.std.proofs.lemmas.Int.{ints, to_z-of_z, of_z-to_z}
use Rattle.std.proofs.lemmas.Bool.Decides.{nat_tests}
use Rattle.pdp_word.specs.Bits.{bit_of}
use Rattle.pdp_word.specs.declared.codes.Codes.{Codes}
use Rattle.pdp_decode.specs.declared.instruction.Specifier.{Specifier}
use Rattle.pdp_decode.specs.declared.instruction.Specifier.TheVariants as specifier
use Rattle.pdp_decode.specs.Fields.{RegisterFits, mode_number, register_number, specifier_of, source_in, operand_in, register_in, offset_in, codes_in}
use Rattle.pdp_decode.specs.Format.{branch_word, double_operand_word, register_operand_word, single_operand_word, code_bits, digits_of}

-- the specifier of a word whose low six bits are its digits
mode_below : (s : Specifier) → mode_number s < 8
mode_below (specifier.Register r) = omega arith
mode_below (specifier.Deferred r) = omega arith
mode_below (specifier.Autoincrement r) = omega arith
mode_below (specifier.AutoincrementDeferred r) = omega arith
mode_below (specifier.Autodecrement r) = omega arith
mode_below (specifier.AutodecrementDeferred r) = omega arith
mode_below (specifier.Index r) = omega arith
mode_below (specifier.IndexDeferred r) = omega arith

specifier_back : (s : Specifier) → specifier_of (mode_number s) (register_number s) ≡ s
specifier_back (specifier.Register r) = refl
specifier_back (specifier.Deferred r) = refl
specifier_back (specifier.Autoincrement r) = refl
specifier_back (specifier.AutoincrementDeferred r) = refl
specifier_back (specifier.Autodecrement r) = refl
specifier_back (specifier.AutodecrementDeferred r) = refl
specifier_back (specifier.Index r) = refl
specifier_back (specifier.IndexDeferred r) = refl

operand_of : (rest : ℕ) (s : Specifier) → RegisterFits s → operand_in (rest * 0o100 + digits_of s) ≡ s
operand_of rest s p =
    let b = mode_below s in
    let m : (rest * 0o100 + digits_of s) / 8 % 8 ≡ mode_number s = omega arith in
    let r : (rest * 0o100 + digits_of s) % 8 ≡ register_number s = omega arith in
    ap (λ mode. specifier_of mode ((rest * 0o100 + digits_of s) % 8)) m
    ∙ ap (specifier_of (mode_number s)) r
    ∙ specifier_back s

-- the digits of the specifier of a mode and a register
specified : (mode register : ℕ) → mode < 8 → digits_of (specifier_of mode register) ≡ mode * 8 + register
specified zero register l = refl
specified (suc zero) register l = refl
specified (suc (suc zero)) register l = refl
specified (suc (suc (suc zero))) register l = refl
specified (suc (suc (suc (suc zero)))) register l = refl
specified (suc (suc (suc (suc (suc zero))))) register l = refl
specified (suc (suc (suc (suc (suc (suc zero)))))) register l = refl
specified (suc (suc (suc (suc (suc (suc (suc zero))))))) register l = refl
specified (suc (suc (suc (suc (suc (suc (suc (suc n)))))))) register l = absurd (omega arith)

digits_in : (word : ℕ) → digits_of (operand_in word) ≡ word % 0o100
digits_in word =
    let e = specified (word / 8 % 8) (word % 8) (omega arith) in
    omega arith

pub digits_below : (s : Specifier) → RegisterFits s → digits_of s < 0o100
digits_below s p = let b = mode_below s in omega arith

pub operand_in_single : (opcode : ℕ) (s : Specifier) → RegisterFits s → operand_in (single_operand_word opcode s) ≡ s
operand_in_single opcode s p = operand_of opcode s p

pub single_of_fields : (opcode word : ℕ) → opcode * 0o100 ≤ word → word ≤ opcode * 0o100 + 0o77
    → single_operand_word opcode (operand_in word) ≡ word
single_of_fields opcode word p q = let e = digits_in word in omega arith

pub register_in_word : (opcode register : ℕ) (s : Specifier) → register < 8 → RegisterFits s
    → register_in (register_operand_word opcode register s) ≡ register
register_in_word opcode register s l p = let b = digits_below s p in omega arith

pub operand_in_register : (opcode register : ℕ) (s : Specifier) → RegisterFits s → operand_in (register_operand_word opcode register s) ≡ s
operand_in_register opcode register s p =
    let e : register_operand_word opcode register s ≡ (opcode * 8 + register) * 0o100 + digits_of s = omega arith in
    ap operand_in e ∙ operand_of (opcode * 8 + register) s p

pub register_of_fields : (opcode word : ℕ) → opcode * 0o1000 ≤ word → word ≤ opcode * 0o1000 + 0o777
    → register_operand_word opcode (register_in word) (operand_in word) ≡ word
register_of_fields opcode word p q = let e = digits_in word in omega arith

pub source_in_double : (opcode : ℕ) (s d : Specifier) → RegisterFits s → RegisterFits d → source_in (double_operand_word opcode s d) ≡ s
source_in_double opcode s d p q =
    let b = digits_below d q in
    let e : double_operand_word opcode s d / 0o100 ≡ opcode * 0o100 + digits_of s = omega arith in
    ap operand_in e ∙ operand_of opcode s p

pub operand_in_double : (opcode : ℕ) (s d : Specifier) → RegisterFits d → operand_in (double_operand_word opcode s d) ≡ d
operand_in_double opcode s d q =
    let e : double_operand_word opcode s d ≡ (opcode * 0o100 + digits_of s) * 0o100 + digits_of d = omega arith in
    ap operand_in e ∙ operand_of (opcode * 0o100 + digits_of s) d q

pub double_of_fields : (opcode word : ℕ) → opcode * 0o10000 ≤ word → word ≤ opcode * 0o10000 + 0o7777
    → double_operand_word opcode (source_in word) (operand_in word) ≡ word
double_of_fields opcode word p q =
    let e = digits_in word in
    let f = digits_in (word / 0o100) in
    omega arith

pub offset_below : (offset : ℤ) → FitsSigned w8 offset → cast_unsigned w8 offset < 0o400
offset_below offset fits = omega (arith, ints)

pub offset_in_branch : (opcode : ℕ) (offset : ℤ) → FitsSigned w8 offset → offset_in (branch_word opcode offset) ≡ offset
offset_in_branch opcode offset fits =
    let b = offset_below offset fits in
    let e : branch_word opcode offset % 0o400 ≡ cast_unsigned w8 offset = omega arith in
    ap (cast_signed w8) e ∙ to_z-of_z w8 offset fits

pub branch_of_fields : (opcode word : ℕ) → opcode * 0o400 ≤ word → word ≤ opcode * 0o400 + 0o377
    → branch_word opcode (offset_in word) ≡ word
branch_of_fields opcode word p q =
    let e : cast_unsigned w8 (offset_in word) ≡ word % 0o400 = of_z-to_z w8 (word % 0o400) (omega arith) in
    omega arith

bit_below : (b : Bool) → bit_of b < 2
bit_below true = omega arith
bit_below false = omega arith

code_of_bit : (b : Bool) → (bit_of b == 1) ≡ b
code_of_bit true = refl
code_of_bit false = refl

bit_of_code : (bit : ℕ) → bit < 2 → bit_of (bit == 1) ≡ bit
bit_of_code bit l = grind (arith, nat_tests)

pub bits_below : (codes : Codes) → code_bits codes < 0o20
bits_below codes =
    let n = bit_below codes.n in let z = bit_below codes.z in let v = bit_below codes.v in let c = bit_below codes.c in
    omega arith

-- in a word whose bits 3 to 0 are those of the codes
pub codes_in_word : (rest : ℕ) (codes : Codes) → codes_in (rest * 0o20 + code_bits codes) ≡ codes
codes_in_word rest codes =
    let ln = bit_below codes.n in let lz = bit_below codes.z in let lv = bit_below codes.v in let lc = bit_below codes.c in
    let n : (rest * 0o20 + code_bits codes) / 8 % 2 ≡ bit_of codes.n = omega arith in
    let z : (rest * 0o20 + code_bits codes) / 4 % 2 ≡ bit_of codes.z = omega arith in
    let v : (rest * 0o20 + code_bits codes) / 2 % 2 ≡ bit_of codes.v = omega arith in
    let c : (rest * 0o20 + code_bits codes) % 2 ≡ bit_of codes.c = omega arith in
    let is : ℕ → Bool = λ bit. bit == 1 in
    let en = ap is n ∙ code_of_bit codes.n in
    let ez = ap is z ∙ code_of_bit codes.z in
    let ev = ap is v ∙ code_of_bit codes.v in
    let ec = ap is c ∙ code_of_bit codes.c in
    λ i. record { n = en i; z = ez i; v = ev i; c = ec i }

pub word_of_codes : (rest word : ℕ) → rest * 0o20 ≤ word → word ≤ rest * 0o20 + 0o17
    → rest * 0o20 + code_bits (codes_in word) ≡ word
word_of_codes rest word p q =
    let n : bit_of (word / 8 % 2 == 1) ≡ word / 8 % 2 = bit_of_code (word / 8 % 2) (omega arith) in
    let z : bit_of (word / 4 % 2 == 1) ≡ word / 4 % 2 = bit_of_code (word / 4 % 2) (omega arith) in
    let v : bit_of (word / 2 % 2 == 1) ≡ word / 2 % 2 = bit_of_code (word / 2 % 2) (omega arith) in
    let c : bit_of (word % 2 == 1) ≡ word % 2 = bit_of_code (word % 2) (omega arith) in
    omega arith
