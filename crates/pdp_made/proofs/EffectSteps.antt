-- What the effects of operations are made of.
use Rattle.std.proofs.Common.{◌≡◌, ◌∙◌, ℕ, ◌+◌, ◌-◌, ◌*◌, ◌/◌, ◌%◌, ◌-ℤ◌, ◌==◌, ◌&&◌, not, Bool, true, false, bit_and, bit_or, bit_xor, nat_le, nat_lt, refl, ap, ap₂, sym, arith, if◌then◌else◌}
use Rattle.std.proofs.lemmas.Nat.{and_mod, and_shr, or_mod, or_shr, xor_mod, xor_shr}
use Rattle.pdp_word.specs.Bits.{bit_of}
use Rattle.pdp_word.specs.Size.{half, is_negative, span}
use Rattle.pdp_word.specs.declared.size.Size.{Size}
use Rattle.pdp_word.specs.declared.size.Size.TheVariants.{Word, Byte}
use Rattle.pdp_alu.specs.Arithmetic.{add_effect, cmp_effect, sub_effect}
use Rattle.pdp_alu.specs.Bytes.{swab_effect, sxt_effect}
use Rattle.pdp_alu.specs.Effect.{effect, mov_effect, tst_effect}
use Rattle.pdp_alu.specs.Logic.{bic_effect, bis_effect, bit_effect, xor_effect}
use Rattle.pdp_alu.specs.Operand.{all_ones, most_negative, most_positive, overflows, signed_at}
use Rattle.pdp_alu.specs.Shifts.{asl_effect, asr_effect, rol_effect, ror_effect, moved_left, moved_right}
use Rattle.pdp_alu.specs.SingleOperand.{adc_effect, clr_effect, com_effect, dec_effect, inc_effect, neg_effect, sbc_effect}
use Rattle.pdp_alu.specs.declared.effect.Effect.{Effect}
use Rattle.pdp_action.specs.Operation.{combination_effect, comparison_effect, modification_effect, replacement_effect}
use Rattle.pdp_action.specs.declared.operation.Combination.{Combination}
use Rattle.pdp_action.specs.declared.operation.Combination.TheVariants as combination
use Rattle.pdp_action.specs.declared.operation.Comparison.{Comparison}
use Rattle.pdp_action.specs.declared.operation.Comparison.TheVariants as comparison
use Rattle.pdp_action.specs.declared.operation.Modification.{Modification}
use Rattle.pdp_action.specs.declared.operation.Modification.TheVariants as modification
use Rattle.pdp_action.specs.declared.operation.Replacement.{Replacement}
use Rattle.pdp_action.specs.declared.operation.Replacement.TheVariants as replacement
use Rattle.pdp_made.specs.Cells.{Half, Low, High, byte_in, Data, Negative, Zero, Overflow, Carry, EachSame, flag_in}
use Rattle.pdp_made.specs.EffectRows.{EffectCells, both_halves, clears_overflow, combination_cells, comparison_cells, complement_halves, exchanged_halves, going_down, going_up, keeps_carry, mov_cells, modification_cells, cells_of_operands, replacement_cells, sets_codes, sets_signs, source_halves, straight, tst_cells, value_halves, value_made, with_carry}
use Rattle.pdp_made.specs.ReferenceRows.{Halves, cut_to}
use Rattle.pdp_made.proofs.Frames.{CodesTell}
use Rattle.pdp_made.proofs.Halves.{HalvesTell, cut_tells, whole_tells}

-- numbers below a size have no high half as bytes
no_high : (a b : ℕ) → a % 256 / 256 ≡ b % 256 / 256
no_high a b = omega arith

-- Sums, differences and shifts: the low half of a value is made of the low half of its operand.
low_com : (size : Size) (a b : ℕ) → a % 256 ≡ b % 256 → (all_ones size - (a % span size)) % span size % 256 ≡ (all_ones size - (b % span size)) % span size % 256
low_com Word a b same = omega (arith, same)
low_com Byte a b same = omega (arith, same)

low_inc : (size : Size) (a b : ℕ) → a % 256 ≡ b % 256 → ((a % span size) + 1) % span size % 256 ≡ ((b % span size) + 1) % span size % 256
low_inc Word a b same = omega (arith, same)
low_inc Byte a b same = omega (arith, same)

low_dec : (size : Size) (a b : ℕ) → a % 256 ≡ b % 256 → (span size + (a % span size) - 1) % span size % 256 ≡ (span size + (b % span size) - 1) % span size % 256
low_dec Word a b same = omega (arith, same)
low_dec Byte a b same = omega (arith, same)

low_neg : (size : Size) (a b : ℕ) → a % 256 ≡ b % 256 → ((span size - (a % span size)) % span size) % span size % 256 ≡ ((span size - (b % span size)) % span size) % span size % 256
low_neg Word a b same = omega (arith, same)
low_neg Byte a b same = omega (arith, same)

low_adc : (size : Size) (c : Bool) (a b : ℕ) → a % 256 ≡ b % 256 → ((a % span size) + bit_of c) % span size % 256 ≡ ((b % span size) + bit_of c) % span size % 256
low_adc Word true a b same = omega (arith, same)
low_adc Word false a b same = omega (arith, same)
low_adc Byte true a b same = omega (arith, same)
low_adc Byte false a b same = omega (arith, same)

low_sbc : (size : Size) (c : Bool) (a b : ℕ) → a % 256 ≡ b % 256 → (span size + (a % span size) - bit_of c) % span size % 256 ≡ (span size + (b % span size) - bit_of c) % span size % 256
low_sbc Word true a b same = omega (arith, same)
low_sbc Word false a b same = omega (arith, same)
low_sbc Byte true a b same = omega (arith, same)
low_sbc Byte false a b same = omega (arith, same)

low_left : (size : Size) (c : Bool) (a b : ℕ) → a % 256 ≡ b % 256 → (2 * (a % span size) + bit_of c) % span size % 256 ≡ (2 * (b % span size) + bit_of c) % span size % 256
low_left Word true a b same = omega (arith, same)
low_left Word false a b same = omega (arith, same)
low_left Byte true a b same = omega (arith, same)
low_left Byte false a b same = omega (arith, same)

high_com : (a b : ℕ) → a / 256 ≡ b / 256 → (65535 - a % 65536) % 65536 / 256 ≡ (65535 - b % 65536) % 65536 / 256
high_com a b same = omega (arith, same)

low_sum : (a b x y : ℕ) → a % 256 ≡ b % 256 → x % 256 ≡ y % 256 → (a + x) % 65536 % 256 ≡ (b + y) % 65536 % 256
low_sum a b x y one other = omega (arith, one, other)

low_difference : (size : Size) (a b x y : ℕ) → a % 256 ≡ b % 256 → x % 256 ≡ y % 256
    → (span size + a % span size - x % span size) % span size % 256 ≡ (span size + b % span size - y % span size) % span size % 256
low_difference Word a b x y one other = omega (arith, one, other)
low_difference Byte a b x y one other = omega (arith, one, other)

low_swapped : (a b : ℕ) → a / 256 ≡ b / 256 → (a % 256 * 256 + a / 256) % 256 ≡ (b % 256 * 256 + b / 256) % 256
low_swapped a b same = omega (arith, same)

-- a shift to the right: the high half is made of the high half, and of the bit that comes in
high_right : (top : Bool) (a b : ℕ) → a / 256 ≡ b / 256
    → ((if top then 32768 else 0) + a % 65536 / 2) % 65536 / 256 ≡ ((if top then 32768 else 0) + b % 65536 / 2) % 65536 / 256
high_right true a b same = omega (arith, same)
high_right false a b same = omega (arith, same)

-- whether the top bit is set is told by the high half
top_if : (a b : ℕ) (one other : Bool) → nat_le 32768 (a % 65536) ≡ one → nat_le 32768 (b % 65536) ≡ other → a / 256 ≡ b / 256 → one ≡ other
top_if a b true true is was same = refl
top_if a b true false is was same = grind (arith, is, was, same)
top_if a b false true is was same = grind (arith, is, was, same)
top_if a b false false is was same = refl

top_same : (a b : ℕ) → a / 256 ≡ b / 256 → nat_le 32768 (a % 65536) ≡ nat_le 32768 (b % 65536)
top_same a b same = top_if a b _ _ refl refl same

module _ (d e : Data) where
  abbrev pub EffectTells : EffectCells → Effect → Effect → Type 0
  EffectTells cells x y = HalvesTell d e cells.value x.value y.value × CodesTell d e cells.codes x.codes y.codes

  -- an operand that is cut to its size
  module _ (size : Size) (from : Halves) (a b : ℕ) where
    operand_same : HalvesTell d e from a b → EachSame d e (cells_of_operands size from) → a % span size ≡ b % span size
    operand_same tells all = whole_tells d e (cut_to size from) _ _ (cut_tells d e size from a b tells) all

  -- a value whose bits stay in their halves
  module _ (from : Halves) (m n : ℕ) where
    straight_value : (size : Size) → HalvesTell d e (cut_to size from) (m % span size) (n % span size) → HalvesTell d e (value_made size straight from) (m % span size) (n % span size)
    straight_value Word tells half all = tells half all
    straight_value Byte tells Low all = tells Low all
    straight_value Byte tells High all = no_high m n

    up_value : (size : Size) → (EachSame d e (from Low) → m % span size % 256 ≡ n % span size % 256) → (EachSame d e (cells_of_operands size from) → m % span size ≡ n % span size)
        → HalvesTell d e (value_made size going_up from) (m % span size) (n % span size)
    up_value Word low same Low all = low all
    up_value Word low same High all = ap (byte_in High) (same all)
    up_value Byte low same Low all = low all
    up_value Byte low same High all = no_high m n

    down_value : (size : Size) → (EachSame d e (cut_to size from High) → m % span size / 256 ≡ n % span size / 256) → (EachSame d e (cells_of_operands size from) → m % span size ≡ n % span size)
        → HalvesTell d e (value_made size going_down from) (m % span size) (n % span size)
    down_value Word high same Low all = ap (byte_in Low) (same all)
    down_value Word high same High all = high all
    down_value Byte high same Low all = ap (byte_in Low) (same all)
    down_value Byte high same High all = no_high m n

    -- N and Z of such a value, V and C as they are
    module _ (size : Size) (tells : HalvesTell d e (cut_to size from) (m % span size) (n % span size)) where
      value_same : EachSame d e (cells_of_operands size from) → m % span size ≡ n % span size
      value_same all = whole_tells d e (cut_to size from) _ _ tells all

      signs_tell : (v c : Bool) → EffectTells (sets_signs size straight from) (effect size m v c) (effect size n v c)
      signs_tell v c = (straight_value size tells, codes)
        where
          codes : CodesTell d e (sets_signs size straight from).codes (effect size m v c).codes (effect size n v c).codes
          codes Negative all = ap (is_negative size) (value_same all)
          codes Zero all = ap (λ w. w == 0) (value_same all)
          codes Overflow all = refl
          codes Carry all = refl

      overflow_tells : EffectTells (clears_overflow size straight from) (effect size m false d.bus.codes.c) (effect size n false e.bus.codes.c)
      overflow_tells = (straight_value size tells, codes)
        where
          codes : CodesTell d e (clears_overflow size straight from).codes (effect size m false d.bus.codes.c).codes (effect size n false e.bus.codes.c).codes
          codes Negative all = ap (is_negative size) (value_same all)
          codes Zero all = ap (λ w. w == 0) (value_same all)
          codes Overflow all = refl
          codes Carry all = all.0

  source_tells : HalvesTell d e source_halves d.source e.source
  source_tells half all = all.0

  pub value_tells : HalvesTell d e value_halves d.value e.value
  value_tells half all = all.0

  -- MOV, TST
  pub mov_tells : (size : Size) → EffectTells (mov_cells size) (mov_effect size d.source d.bus.codes) (mov_effect size e.source e.bus.codes)
  unfolding mov_effect
  mov_tells size = overflow_tells source_halves d.source e.source size (cut_tells d e size source_halves d.source e.source source_tells)

  pub tst_tells : (size : Size) → EffectTells (tst_cells size) (tst_effect size d.value) (tst_effect size e.value)
  unfolding tst_effect
  tst_tells size = signs_tell value_halves d.value e.value size (cut_tells d e size value_halves d.value e.value value_tells) false false

  -- BIT, BIS, XOR: bit by bit
  bits_and : HalvesTell d e both_halves (bit_and d.value d.source) (bit_and e.value e.source)
  bits_and Low all = and_mod d.value d.source 8 ∙ ap₂ (λ v s. bit_and v s) all.1.0 all.0 ∙ sym (and_mod e.value e.source 8)
  bits_and High all = and_shr d.value d.source 8 ∙ ap₂ (λ v s. bit_and v s) all.1.0 all.0 ∙ sym (and_shr e.value e.source 8)

  bits_or : HalvesTell d e both_halves (bit_or d.value d.source) (bit_or e.value e.source)
  bits_or Low all = or_mod d.value d.source 8 ∙ ap₂ (λ v s. bit_or v s) all.1.0 all.0 ∙ sym (or_mod e.value e.source 8)
  bits_or High all = or_shr d.value d.source 8 ∙ ap₂ (λ v s. bit_or v s) all.1.0 all.0 ∙ sym (or_shr e.value e.source 8)

  bits_xor : HalvesTell d e both_halves (bit_xor d.value d.source) (bit_xor e.value e.source)
  bits_xor Low all = xor_mod d.value d.source 8 ∙ ap₂ (λ v s. bit_xor v s) all.1.0 all.0 ∙ sym (xor_mod e.value e.source 8)
  bits_xor High all = xor_shr d.value d.source 8 ∙ ap₂ (λ v s. bit_xor v s) all.1.0 all.0 ∙ sym (xor_shr e.value e.source 8)

  source_whole : (half : Half) → EachSame d e (complement_halves half) → d.source ≡ e.source
  source_whole half all = whole_tells d e source_halves d.source e.source source_tells (all.0, (all.1.0, tt))

  pub bits_clear : HalvesTell d e complement_halves (bit_and d.value (65535 - d.source)) (bit_and e.value (65535 - e.source))
  bits_clear Low all = and_mod d.value (65535 - d.source) 8 ∙ ap₂ (λ v s. bit_and v ((65535 - s) % 256)) all.1.1.0 (source_whole Low all) ∙ sym (and_mod e.value (65535 - e.source) 8)
  bits_clear High all = and_shr d.value (65535 - d.source) 8 ∙ ap₂ (λ v s. bit_and v ((65535 - s) / 256)) all.1.1.0 (source_whole High all) ∙ sym (and_shr e.value (65535 - e.source) 8)

  -- All codes are made of the operands; or C is kept
  all_codes : (size : Size) (way : Halves → Halves) (from : Halves) (x y : Effect) → HalvesTell d e (value_made size way from) x.value y.value
      → (EachSame d e (cells_of_operands size from) → x.codes ≡ y.codes) → EffectTells (sets_codes size way from) x y
  all_codes size way from x y value same = (value, codes)
    where
      codes : CodesTell d e (sets_codes size way from).codes x.codes y.codes
      codes Negative all = ap (flag_in Negative) (same all)
      codes Zero all = ap (flag_in Zero) (same all)
      codes Overflow all = ap (flag_in Overflow) (same all)
      codes Carry all = ap (flag_in Carry) (same all)

  carry_kept : (size : Size) (way : Halves → Halves) (from : Halves) (m n : ℕ) (v w : Bool) → HalvesTell d e (value_made size way from) (m % span size) (n % span size)
      → (EachSame d e (cells_of_operands size from) → m % span size ≡ n % span size) → (EachSame d e (cells_of_operands size from) → v ≡ w)
      → EffectTells (keeps_carry size way from) (effect size m v d.bus.codes.c) (effect size n w e.bus.codes.c)
  carry_kept size way from m n v w value same overflow = (value, codes)
    where
      codes : CodesTell d e (keeps_carry size way from).codes (effect size m v d.bus.codes.c).codes (effect size n w e.bus.codes.c).codes
      codes Negative all = ap (is_negative size) (same all)
      codes Zero all = ap (λ number. number == 0) (same all)
      codes Overflow all = overflow all
      codes Carry all = all.0

  -- CMP, and ADD and SUB
  of_source : (size : Size) → EachSame d e (cells_of_operands size both_halves) → d.source % span size ≡ e.source % span size
  of_source size all = operand_same size both_halves d.source e.source (λ half same. same.0) all

  of_value : (size : Size) → EachSame d e (cells_of_operands size both_halves) → d.value % span size ≡ e.value % span size
  of_value size all = operand_same size both_halves d.value e.value (λ half same. same.1.0) all

  abbrev cut_difference : Size → ℕ → ℕ → Effect
  cut_difference size from less = effect size (span size + from - less) (overflows size (signed_at size from -ℤ signed_at size less)) (nat_lt from less)

  cmp_tells : (size : Size) → EffectTells (comparison_cells (comparison.Cmp size)) (cmp_effect size d.source d.value) (cmp_effect size e.source e.value)
  unfolding cmp_effect
  cmp_tells size = all_codes size going_up both_halves (cut_difference size (d.source % span size) (d.value % span size)) (cut_difference size (e.source % span size) (e.value % span size))
      (up_value both_halves _ _ size (λ all. low_difference size d.source e.source d.value e.value all.0 all.1.0) (λ all. ap₂ (λ s v. (cut_difference size s v).value) (of_source size all) (of_value size all)))
      (λ all. ap₂ (λ s v. (cut_difference size s v).codes) (of_source size all) (of_value size all))

  sub_tells : EffectTells (combination_cells combination.Sub) (sub_effect d.source d.value) (sub_effect e.source e.value)
  unfolding sub_effect
  sub_tells = all_codes Word going_up both_halves (cut_difference Word (d.value % 65536) (d.source % 65536)) (cut_difference Word (e.value % 65536) (e.source % 65536))
      (up_value both_halves _ _ Word (λ all. low_difference Word d.value e.value d.source e.source all.1.0 all.0) (λ all. ap₂ (λ v s. (cut_difference Word v s).value) (of_value Word all) (of_source Word all)))
      (λ all. ap₂ (λ v s. (cut_difference Word v s).codes) (of_value Word all) (of_source Word all))

  whole_source : EachSame d e (cells_of_operands Word both_halves) → d.source ≡ e.source
  whole_source all = whole_tells d e both_halves d.source e.source (λ half same. same.0) all

  whole_value : EachSame d e (cells_of_operands Word both_halves) → d.value ≡ e.value
  whole_value all = whole_tells d e both_halves d.value e.value (λ half same. same.1.0) all

  add_tells : EffectTells (combination_cells combination.Add) (add_effect d.source d.value) (add_effect e.source e.value)
  unfolding add_effect
  add_tells = all_codes Word going_up both_halves (add_effect d.source d.value) (add_effect e.source e.value)
      (up_value both_halves (d.value + d.source) (e.value + e.source) Word (λ all. low_sum d.value e.value d.source e.source all.1.0 all.0)
      (λ all. ap₂ (λ v s. (v + s) % 65536) (whole_value all) (whole_source all)))
      (λ all. ap₂ (λ s v. (add_effect s v).codes) (whole_source all) (whole_value all))

  pub comparison_tells : (c : Comparison) → EffectTells (comparison_cells c) (comparison_effect c d.source d.value d.bus.codes) (comparison_effect c e.source e.value e.bus.codes)
  unfolding bit_effect
  comparison_tells (comparison.Cmp size) = cmp_tells size
  comparison_tells (comparison.Bit size) = overflow_tells both_halves (bit_and d.value d.source) (bit_and e.value e.source) size (cut_tells d e size both_halves _ _ bits_and)

  pub combination_tells : (c : Combination) → EffectTells (combination_cells c) (combination_effect c d.source d.value d.bus.codes) (combination_effect c e.source e.value e.bus.codes)
  unfolding bic_effect bis_effect xor_effect
  combination_tells (combination.Bic size) = overflow_tells complement_halves (bit_and d.value (65535 - d.source)) (bit_and e.value (65535 - e.source)) size (cut_tells d e size complement_halves _ _ bits_clear)
  combination_tells (combination.Bis size) = overflow_tells both_halves (bit_or d.value d.source) (bit_or e.value e.source) size (cut_tells d e size both_halves _ _ bits_or)
  combination_tells combination.Add = add_tells
  combination_tells combination.Sub = sub_tells
  combination_tells combination.Xor = overflow_tells both_halves (bit_xor d.value d.source) (bit_xor e.value e.source) Word (cut_tells d e Word both_halves _ _ bits_xor)

  -- The operations of one operand
  old_same : (size : Size) → EachSame d e (cells_of_operands size value_halves) → d.value % span size ≡ e.value % span size
  old_same size all = operand_same size value_halves d.value e.value value_tells all

  old_too : (size : Size) → EachSame d e (cells_of_operands size (with_carry value_halves)) → d.value % span size ≡ e.value % span size
  old_too size all = operand_same size (with_carry value_halves) d.value e.value (λ half same. same.0) all

  carry_same : (size : Size) → EachSame d e (cells_of_operands size (with_carry value_halves)) → d.bus.codes.c ≡ e.bus.codes.c
  carry_same Word all = all.1.0
  carry_same Byte all = all.1.0

  com_value : (size : Size) → HalvesTell d e (cut_to size value_halves) ((all_ones size - d.value % span size) % span size) ((all_ones size - e.value % span size) % span size)
  com_value Word Low all = low_com Word d.value e.value all.0
  com_value Word High all = high_com d.value e.value all.0
  com_value Byte Low all = low_com Byte d.value e.value all.0
  com_value Byte High all = no_high _ _

  com_tells : (size : Size) → EffectTells (modification_cells (modification.Com size)) (com_effect size d.value) (com_effect size e.value)
  unfolding com_effect
  com_tells size = signs_tell value_halves (all_ones size - d.value % span size) (all_ones size - e.value % span size) size (com_value size) false true

  inc_tells : (size : Size) → EffectTells (modification_cells (modification.Inc size)) (inc_effect size d.value d.bus.codes) (inc_effect size e.value e.bus.codes)
  unfolding inc_effect
  inc_tells size = carry_kept size going_up value_halves (d.value % span size + 1) (e.value % span size + 1) _ _
      (up_value value_halves _ _ size (λ all. low_inc size d.value e.value all.0) (λ all. ap (λ old. (old + 1) % span size) (old_same size all)))
      (λ all. ap (λ old. (old + 1) % span size) (old_same size all)) (λ all. ap (λ old. old == most_positive size) (old_same size all))

  dec_tells : (size : Size) → EffectTells (modification_cells (modification.Dec size)) (dec_effect size d.value d.bus.codes) (dec_effect size e.value e.bus.codes)
  unfolding dec_effect
  dec_tells size = carry_kept size going_up value_halves (span size + d.value % span size - 1) (span size + e.value % span size - 1) _ _
      (up_value value_halves _ _ size (λ all. low_dec size d.value e.value all.0) (λ all. ap (λ old. (span size + old - 1) % span size) (old_same size all)))
      (λ all. ap (λ old. (span size + old - 1) % span size) (old_same size all)) (λ all. ap (λ old. old == most_negative size) (old_same size all))

  abbrev cut_negative : Size → ℕ → Effect
  cut_negative size old = effect size ((span size - old) % span size) ((span size - old) % span size == most_negative size) (not ((span size - old) % span size == 0))

  neg_tells : (size : Size) → EffectTells (modification_cells (modification.Neg size)) (neg_effect size d.value) (neg_effect size e.value)
  unfolding neg_effect
  neg_tells size = all_codes size going_up value_halves (cut_negative size (d.value % span size)) (cut_negative size (e.value % span size))
      (up_value value_halves _ _ size (λ all. low_neg size d.value e.value all.0) (λ all. ap (λ old. (cut_negative size old).value) (old_same size all)))
      (λ all. ap (λ old. (cut_negative size old).codes) (old_same size all))

  abbrev with_carry_added : Size → ℕ → Bool → Effect
  with_carry_added size old c = effect size (old + bit_of c) (c && old == most_positive size) (c && old == all_ones size)

  adc_tells : (size : Size) → EffectTells (modification_cells (modification.Adc size)) (adc_effect size d.value d.bus.codes) (adc_effect size e.value e.bus.codes)
  unfolding adc_effect
  adc_tells size = all_codes size going_up (with_carry value_halves) (with_carry_added size (d.value % span size) d.bus.codes.c) (with_carry_added size (e.value % span size) e.bus.codes.c)
      (up_value (with_carry value_halves) _ _ size
      (λ all. ap (λ c. (d.value % span size + bit_of c) % span size % 256) all.1.0 ∙ low_adc size e.bus.codes.c d.value e.value all.0)
      (λ all. ap₂ (λ old c. (with_carry_added size old c).value) (old_too size all) (carry_same size all)))
      (λ all. ap₂ (λ old c. (with_carry_added size old c).codes) (old_too size all) (carry_same size all))

  abbrev with_carry_taken : Size → ℕ → Bool → Effect
  with_carry_taken size old c = effect size (span size + old - bit_of c) (c && old == most_negative size) (c && old == 0)

  sbc_tells : (size : Size) → EffectTells (modification_cells (modification.Sbc size)) (sbc_effect size d.value d.bus.codes) (sbc_effect size e.value e.bus.codes)
  unfolding sbc_effect
  sbc_tells size = all_codes size going_up (with_carry value_halves) (with_carry_taken size (d.value % span size) d.bus.codes.c) (with_carry_taken size (e.value % span size) e.bus.codes.c)
      (up_value (with_carry value_halves) _ _ size
      (λ all. ap (λ c. (span size + d.value % span size - bit_of c) % span size % 256) all.1.0 ∙ low_sbc size e.bus.codes.c d.value e.value all.0)
      (λ all. ap₂ (λ old c. (with_carry_taken size old c).value) (old_too size all) (carry_same size all)))
      (λ all. ap₂ (λ old c. (with_carry_taken size old c).codes) (old_too size all) (carry_same size all))

  rol_tells : (size : Size) → EffectTells (modification_cells (modification.Rol size)) (rol_effect size d.value d.bus.codes) (rol_effect size e.value e.bus.codes)
  unfolding rol_effect
  rol_tells size = all_codes size going_up (with_carry value_halves) (moved_left size (d.value % span size) d.bus.codes.c) (moved_left size (e.value % span size) e.bus.codes.c)
      (up_value (with_carry value_halves) _ _ size
      (λ all. ap (λ c. (2 * (d.value % span size) + bit_of c) % span size % 256) all.1.0 ∙ low_left size e.bus.codes.c d.value e.value all.0)
      (λ all. ap₂ (λ old c. (moved_left size old c).value) (old_too size all) (carry_same size all)))
      (λ all. ap₂ (λ old c. (moved_left size old c).codes) (old_too size all) (carry_same size all))

  asl_tells : (size : Size) → EffectTells (modification_cells (modification.Asl size)) (asl_effect size d.value) (asl_effect size e.value)
  unfolding asl_effect
  asl_tells size = all_codes size going_up value_halves (moved_left size (d.value % span size) false) (moved_left size (e.value % span size) false)
      (up_value value_halves _ _ size (λ all. low_left size false d.value e.value all.0) (λ all. ap (λ old. (moved_left size old false).value) (old_same size all)))
      (λ all. ap (λ old. (moved_left size old false).codes) (old_same size all))

  ror_high : (size : Size) → EachSame d e (cut_to size (with_carry value_halves) High)
      → ((if d.bus.codes.c then half size else 0) + d.value % span size / 2) % span size / 256 ≡ ((if e.bus.codes.c then half size else 0) + e.value % span size / 2) % span size / 256
  ror_high Word all = ap (λ c. ((if c then 32768 else 0) + d.value % 65536 / 2) % 65536 / 256) all.1.0 ∙ high_right e.bus.codes.c d.value e.value all.0
  ror_high Byte all = no_high _ _

  ror_tells : (size : Size) → EffectTells (modification_cells (modification.Ror size)) (ror_effect size d.value d.bus.codes) (ror_effect size e.value e.bus.codes)
  unfolding ror_effect
  ror_tells size = all_codes size going_down (with_carry value_halves) (moved_right size (d.value % span size) d.bus.codes.c) (moved_right size (e.value % span size) e.bus.codes.c)
      (down_value (with_carry value_halves) _ _ size (ror_high size) (λ all. ap₂ (λ old c. (moved_right size old c).value) (old_too size all) (carry_same size all)))
      (λ all. ap₂ (λ old c. (moved_right size old c).codes) (old_too size all) (carry_same size all))

  asr_high : (size : Size) → EachSame d e (cut_to size value_halves High)
      → ((if is_negative size (d.value % span size) then half size else 0) + d.value % span size / 2) % span size / 256 ≡ ((if is_negative size (e.value % span size) then half size else 0) + e.value % span size / 2) % span size / 256
  asr_high Word all = ap (λ c. ((if c then 32768 else 0) + d.value % 65536 / 2) % 65536 / 256) (top_same d.value e.value all.0) ∙ high_right (is_negative Word (e.value % 65536)) d.value e.value all.0
  asr_high Byte all = no_high _ _

  asr_tells : (size : Size) → EffectTells (modification_cells (modification.Asr size)) (asr_effect size d.value) (asr_effect size e.value)
  unfolding asr_effect
  asr_tells size = all_codes size going_down value_halves (moved_right size (d.value % span size) (is_negative size (d.value % span size))) (moved_right size (e.value % span size) (is_negative size (e.value % span size)))
      (down_value value_halves _ _ size (asr_high size) (λ all. ap (λ old. (moved_right size old (is_negative size old)).value) (old_same size all)))
      (λ all. ap (λ old. (moved_right size old (is_negative size old)).codes) (old_same size all))

  swab_value : HalvesTell d e (exchanged_halves value_halves) (d.value % 256 * 256 + d.value / 256) (e.value % 256 * 256 + e.value / 256)
  swab_value Low all = low_swapped d.value e.value all.0
  swab_value High all = ap (λ w. (w % 256 * 256 + w / 256) / 256) (whole_tells d e value_halves d.value e.value value_tells all)

  swab_tells : EffectTells (modification_cells modification.Swab) (swab_effect d.value) (swab_effect e.value)
  unfolding swab_effect
  swab_tells = (swab_value, codes)
    where
      codes : CodesTell d e (modification_cells modification.Swab).codes (swab_effect d.value).codes (swab_effect e.value).codes
      codes Negative all = ap (is_negative Byte) (low_swapped d.value e.value all.0)
      codes Zero all = ap (λ low. low == 0) (low_swapped d.value e.value all.0)
      codes Overflow all = refl
      codes Carry all = refl

  pub modification_tells : (m : Modification) → EffectTells (modification_cells m) (modification_effect m d.value d.bus.codes) (modification_effect m e.value e.bus.codes)
  modification_tells (modification.Com size) = com_tells size
  modification_tells (modification.Inc size) = inc_tells size
  modification_tells (modification.Dec size) = dec_tells size
  modification_tells (modification.Neg size) = neg_tells size
  modification_tells (modification.Adc size) = adc_tells size
  modification_tells (modification.Sbc size) = sbc_tells size
  modification_tells (modification.Ror size) = ror_tells size
  modification_tells (modification.Rol size) = rol_tells size
  modification_tells (modification.Asr size) = asr_tells size
  modification_tells (modification.Asl size) = asl_tells size
  modification_tells modification.Swab = swab_tells

  clr_tells : (size : Size) → EffectTells (replacement_cells (replacement.Clr size)) (clr_effect size) (clr_effect size)
  unfolding clr_effect
  clr_tells size = (λ half all. refl, λ code all. refl)

  sxt_tells : EffectTells (replacement_cells replacement.Sxt) (sxt_effect d.bus.codes) (sxt_effect e.bus.codes)
  unfolding sxt_effect
  sxt_tells = (λ half all. ap (λ n. byte_in half (if n then 65535 else 0)) all.0, codes)
    where
      codes : CodesTell d e (replacement_cells replacement.Sxt).codes (sxt_effect d.bus.codes).codes (sxt_effect e.bus.codes).codes
      codes Negative all = all.0
      codes Zero all = ap (λ n. not n) all.0
      codes Overflow all = refl
      codes Carry all = all.0

  pub replacement_tells : (r : Replacement) → EffectTells (replacement_cells r) (replacement_effect r d.bus.codes) (replacement_effect r e.bus.codes)
  replacement_tells (replacement.Clr size) = clr_tells size
  replacement_tells replacement.Sxt = sxt_tells
