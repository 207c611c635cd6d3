-- The rows of MUL, DIV, ASH and ASHC, and of RTI and RTT, are sound.
use Rattle.std.proofs.Common.{◌≡◌, ◌∙◌, ℕ, ◌-◌, ◌%◌, ◌==◌, Bool, true, false, List, [], ◌∷◌, length, slice_index, slice_set, nat_lt, Some, refl, ap, ap₂, sym, arith, get_or-set_same, get_or-set_other, if◌then◌else◌}
use Rattle.std.proofs.lemmas.Bool.{eqb-true, eqb-false, ltb-true, ltb-false}
use Rattle.std.proofs.lemmas.List.{set_past}
use Rattle.std.specs.Fn.{iterate}
use Rattle.pdp_word.specs.declared.codes.Codes.{Codes}
use Rattle.pdp_word.specs.declared.size.Size.TheVariants.{Word}
use Rattle.pdp_alu.specs.ArithmeticShifts.{ash_effect, ashc_effect, shifted_left, shifted_right, shifting_from}
use Rattle.pdp_alu.specs.Division.{div_effect}
use Rattle.pdp_alu.specs.Effect.{effect}
use Rattle.pdp_alu.specs.Long.{high_word, join_words, long_effect, low_word}
use Rattle.pdp_alu.specs.Multiplication.{mul_effect}
use Rattle.pdp_alu.specs.declared.effect.Effect.{Effect}
use Rattle.pdp_alu.specs.declared.long.LongEffect.{LongEffect}
use Rattle.pdp_alu.specs.declared.quotient.Div.{Div}
use Rattle.pdp_alu.specs.declared.quotient.Div.TheVariants.{Done, Kept}
use Rattle.pdp_store.specs.CycleLogs.{KeptCycles}
use Rattle.pdp_io_page.specs.Handbook.Reset.{io_page_reset}
use Rattle.pdp_io_page.specs.Handbook.Status.{status_codes, status_of_word}
use Rattle.pdp_io_page.specs.declared.status.Status.{Status}
use Rattle.pdp_operand.specs.Handbook.Operand.{mode_now, named_register_id}
use Rattle.pdp_operand.specs.Handbook.Processor.{register_of, with_register}
use Rattle.pdp_operand.specs.Phases.Phase.{State, inner_of, with_inner}
use Rattle.pdp_operand.specs.declared.processor.Processor.{Processor}
use Rattle.pdp_operand.specs.declared.processor.RegisterId.{RegisterId}
use Rattle.pdp_operand.specs.declared.processor.RegisterId.TheVariants.{R0, R1, R2, R3, R4, R5, KernelStack, ProgramCounter, UserStack}
use Rattle.pdp_instruction.specs.Handbook.Control.{is_user, reset}
use Rattle.pdp_instruction.specs.Handbook.Extended.{codes_of, divide, long_in, multiply, named_pair, pair_with_words, shift, shift_pair, with_quotient}
use Rattle.pdp_instruction.specs.Handbook.ReturnFromTrap.{keep_counter, return_from_trap, returned_status, returned_to_user}
use Rattle.pdp_instruction.specs.declared.pair.Pair.{Pair}
use Rattle.pdp_made.specs.Cells.{byte_in, Data, DataCell, CoreByte, DriveByte, RegisterByte, CodeNow, Buffer, ValueByte, SourceByte, ResultByte, StatusByte, CodeDue, CodeSaved, TapeByte, EachSame, Low, SameShape, data_of, flag_in, processor_with, with_data}
use Rattle.pdp_made.specs.EffectRows.{value_halves}
use Rattle.pdp_made.specs.InstructionRows.{divide_row, due_changed, multiply_row, pair_cells, pair_changed, return_from_trap_row, shift_cells, shift_pair_cells, shift_pair_row, shift_row, with_operand_cells}
use Rattle.pdp_made.specs.OperandRows.{keeps_data}
use Rattle.pdp_made.specs.PhaseRows.{IsSoundRow, CellsTell, of_itself}
use Rattle.pdp_made.specs.ReferenceRows.{halves_of, of_each, register_changed, whole_of}
use Rattle.pdp_made.proofs.EffectSteps.{value_tells}
use Rattle.pdp_made.proofs.Frames.{codes_are, itself_tells, sound_by}
use Rattle.pdp_made.proofs.Halves.{codes_tell, each_back, each_front, each_tells, whole_tells}
use Rattle.pdp_made.proofs.Registers.{WordsTell, register_set, register_tells, size_after}

-- A register that is set to the word that it has
same_if : (xs ys : List ℕ) (k n : ℕ) (top within : Bool) → (n == k) ≡ top → nat_lt k (length ys) ≡ within → ((j : ℕ) → slice_index ys j ≡ slice_index xs j)
    → slice_index (slice_set ys k (slice_index xs k)) n ≡ slice_index xs n
same_if xs ys k n true true top within same = rw (eqb-true n k top) (get_or-set_same ys k (slice_index xs k) 0 (ltb-true k (length ys) within))
same_if xs ys k n true false top within same = rw (set_past ys k (slice_index xs k) (ltb-false k (length ys) within)) (same n)
same_if xs ys k n false within top is same = get_or-set_other ys k n (slice_index xs k) 0 (eqb-false n k top) ∙ same n

word_same : (xs ys : List ℕ) (k : ℕ) → ((j : ℕ) → slice_index ys j ≡ slice_index xs j) → (n : ℕ) → slice_index (slice_set ys k (slice_index xs k)) n ≡ slice_index xs n
word_same xs ys k same n = same_if xs ys k n (n == k) (nat_lt k (length ys)) refl refl same

register_same : (p q : Processor) (id : RegisterId) → ((j : ℕ) → slice_index q.words j ≡ slice_index p.words j) → (n : ℕ)
    → slice_index (with_register q id (register_of p id)).words n ≡ slice_index p.words n
unfolding with_register register_of
register_same p q ProgramCounter same n = same n
register_same p q R0 same n = word_same p.words q.words 0 same n
register_same p q R1 same n = word_same p.words q.words 1 same n
register_same p q R2 same n = word_same p.words q.words 2 same n
register_same p q R3 same n = word_same p.words q.words 3 same n
register_same p q R4 same n = word_same p.words q.words 4 same n
register_same p q R5 same n = word_same p.words q.words 5 same n
register_same p q KernelStack same n = word_same p.words q.words 6 same n
register_same p q UserStack same n = word_same p.words q.words 7 same n

-- quotient and remainder, or the registers as they were
first_word : Div → Processor → Pair → ℕ
first_word (Done quotient remainder codes) p pair = quotient
first_word (Kept codes) p pair = register_of p pair.high

second_word : Div → Processor → Pair → ℕ
second_word (Done quotient remainder codes) p pair = remainder
second_word (Kept codes) p pair = register_of p pair.low

quotient_words : (div : Div) (p : Processor) (pair : Pair) (n : ℕ) → slice_index (pair_with_words p pair (first_word div p pair) (second_word div p pair)).words n ≡ slice_index (with_quotient p pair div).words n
unfolding first_word second_word
quotient_words (Done quotient remainder codes) p pair n = refl
quotient_words (Kept codes) p pair n =
    register_same p (with_register p pair.high (register_of p pair.high)) pair.low (register_same p p pair.high (λ j. refl)) n

-- Registers of a pair, and the codes
module _ (d e : Data) (pair : Pair) (from : List DataCell) where
  abbrev made : DataCell → List DataCell
  made c = pair_changed pair from c

  due_is : (x y : Codes) → (EachSame d e from → x ≡ y) → (ws vs : List ℕ) → WordsTell d e made ws vs
      → CellsTell made d e (record d { words = ws; due = Some x }) (record e { words = vs; due = Some y })
  due_is x y codes ws vs tells (CoreByte k half) all = all.0
  due_is x y codes ws vs tells (DriveByte n k half) all = all.0
  due_is x y codes ws vs tells (RegisterByte n half) all = tells n half all
  due_is x y codes ws vs tells (CodeNow code) all = all.0
  due_is x y codes ws vs tells (Buffer buffer) all = all.0
  due_is x y codes ws vs tells (ValueByte half) all = all.0
  due_is x y codes ws vs tells (SourceByte half) all = all.0
  due_is x y codes ws vs tells (ResultByte half) all = all.0
  due_is x y codes ws vs tells (StatusByte half) all = all.0
  due_is x y codes ws vs tells (CodeDue code) all = ap (flag_in code) (codes all)
  due_is x y codes ws vs tells (CodeSaved code) all = all.0
  due_is x y codes ws vs tells (TapeByte k) all = all.0

  pair_set : (p q : Processor) (first second one other : ℕ) → length q.words ≡ length p.words → WordsTell d e of_itself q.words p.words
      → (EachSame d e from → first ≡ one) → (EachSame d e from → second ≡ other)
      → WordsTell d e made (pair_with_words q pair first second).words (pair_with_words p pair one other).words
  pair_set p q first second one other size kept same last =
      register_set d e (of_each from) (register_changed pair.high (of_each from) (due_changed from)) other second (each_tells d e from second other last)
      (with_register p pair.high one) (with_register q pair.high first) pair.low (size_after p q pair.high one first size)
      (register_set d e (of_each from) (due_changed from) one first (each_tells d e from first one same) p q pair.high size kept)

-- the other registers, in the words of the data
module _ (saved : Codes) (s : State) (d : Data) (shape : SameShape d (data_of saved s)) where
  abbrev e : Data
  e = data_of saved s

  abbrev there : Processor
  there = processor_with d.words s.world.processor

  abbrev here : Processor
  here = s.world.processor

  register_is : (id : RegisterId) → EachSame d e (whole_of (halves_of id)) → register_of there id ≡ register_of here id
  register_is id all = whole_tells d e (halves_of id) (register_of there id) (register_of here id) (register_tells d e s.world.processor id) all

  value_is : EachSame d e (whole_of value_halves) → d.value ≡ s.latch.value
  value_is all = whole_tells d e value_halves d.value s.latch.value (value_tells d e) all

  -- a register and the operand, and a pair and the operand
  with_value : (id : RegisterId) → EachSame d e (with_operand_cells (halves_of id)) → register_of there id ≡ register_of here id
  with_value id all = register_is id (each_front d e (whole_of (halves_of id)) (whole_of value_halves) all)

  value_with : (id : RegisterId) → EachSame d e (with_operand_cells (halves_of id)) → d.value ≡ s.latch.value
  value_with id all = value_is (each_back d e (whole_of (halves_of id)) (whole_of value_halves) all)

  module _ (pair : Pair) where
    pair_high : EachSame d e (pair_cells pair) → register_of there pair.high ≡ register_of here pair.high
    pair_high all = register_is pair.high (each_front d e (whole_of (halves_of pair.high)) (with_operand_cells (halves_of pair.low)) all)

    pair_low : EachSame d e (pair_cells pair) → register_of there pair.low ≡ register_of here pair.low
    pair_low all = with_value pair.low (each_back d e (whole_of (halves_of pair.high)) (with_operand_cells (halves_of pair.low)) all)

    pair_value : EachSame d e (pair_cells pair) → d.value ≡ s.latch.value
    pair_value all = value_with pair.low (each_back d e (whole_of (halves_of pair.high)) (with_operand_cells (halves_of pair.low)) all)

    long_same : EachSame d e (pair_cells pair) → long_in there pair ≡ long_in here pair
    long_same all = ap₂ (λ high low. join_words high low) (pair_high all) (pair_low all)

    -- the division
    div_same : EachSame d e (pair_cells pair) → div_effect (long_in there pair) d.value ≡ div_effect (long_in here pair) s.latch.value
    div_same all = ap₂ (λ long value. div_effect long value) (long_same all) (pair_value all)

    first_same : EachSame d e (pair_cells pair) → first_word (div_effect (long_in there pair) d.value) there pair ≡ first_word (div_effect (long_in here pair) s.latch.value) here pair
    unfolding first_word
    first_same all = first_of_both (div_effect (long_in there pair) d.value) (div_effect (long_in here pair) s.latch.value) (div_same all) (pair_high all)
      where
        kept_or : Div → ℕ → ℕ
        kept_or (Done quotient remainder codes) word = quotient
        kept_or (Kept codes) word = word

        is_kept_or : (div : Div) (p : Processor) → first_word div p pair ≡ kept_or div (register_of p pair.high)
        is_kept_or (Done quotient remainder codes) p = refl
        is_kept_or (Kept codes) p = refl

        first_of_both : (x y : Div) → x ≡ y → register_of there pair.high ≡ register_of here pair.high → first_word x there pair ≡ first_word y here pair
        first_of_both x y same word = is_kept_or x there ∙ ap₂ (λ div kept. kept_or div kept) same word ∙ sym (is_kept_or y here)

    second_same : EachSame d e (pair_cells pair) → second_word (div_effect (long_in there pair) d.value) there pair ≡ second_word (div_effect (long_in here pair) s.latch.value) here pair
    unfolding second_word
    second_same all = second_of_both (div_effect (long_in there pair) d.value) (div_effect (long_in here pair) s.latch.value) (div_same all) (pair_low all)
      where
        kept_or : Div → ℕ → ℕ
        kept_or (Done quotient remainder codes) word = remainder
        kept_or (Kept codes) word = word

        is_kept_or : (div : Div) (p : Processor) → second_word div p pair ≡ kept_or div (register_of p pair.low)
        is_kept_or (Done quotient remainder codes) p = refl
        is_kept_or (Kept codes) p = refl

        second_of_both : (x y : Div) → x ≡ y → register_of there pair.low ≡ register_of here pair.low → second_word x there pair ≡ second_word y here pair
        second_of_both x y same word = is_kept_or x there ∙ ap₂ (λ div kept. kept_or div kept) same word ∙ sym (is_kept_or y here)

    quotient_tells : WordsTell d e (λ c. pair_changed pair (pair_cells pair) c) (with_quotient there pair (div_effect (long_in there pair) d.value)).words (with_quotient here pair (div_effect (long_in here pair) s.latch.value)).words
    quotient_tells n half all =
        sym (ap (byte_in half) (quotient_words (div_effect (long_in there pair) d.value) there pair n))
        ∙ pair_set d e pair (pair_cells pair) here there _ _ _ _ shape.words_size (λ n half all. all.0) first_same second_same n half all
        ∙ ap (byte_in half) (quotient_words (div_effect (long_in here pair) s.latch.value) here pair n)

pub multiplies : (r : ℕ) → IsSoundRow (multiply_row r)
unfolding multiply
multiplies r = sound_by _ (λ saved s d log shape.
    let id : RegisterId = named_register_id (inner_of s) r in
    let pair : Pair = named_pair (inner_of s) r in
    let from : List DataCell = with_operand_cells (halves_of id) in
    due_is d (data_of saved s) pair from _ _ (λ all. ap₂ (λ word value. (mul_effect word value).codes) (with_value saved s d shape id all) (value_with saved s d shape id all)) _ _
    (pair_set d (data_of saved s) pair from s.world.processor (processor_with d.words s.world.processor) _ _ _ _ shape.words_size (λ n half all. all.0)
    (λ all. ap₂ (λ word value. high_word (mul_effect word value).value) (with_value saved s d shape id all) (value_with saved s d shape id all))
    (λ all. ap₂ (λ word value. low_word (mul_effect word value).value) (with_value saved s d shape id all) (value_with saved s d shape id all))))

pub divides : (r : ℕ) → IsSoundRow (divide_row r)
unfolding divide
divides r = sound_by _ (λ saved s d log shape.
    let pair : Pair = named_pair (inner_of s) r in
    due_is d (data_of saved s) pair (pair_cells pair) _ _ (λ all. ap codes_of (div_same saved s d shape pair all)) _ _ (quotient_tells saved s d shape pair))

-- ASH and ASHC: the count is in the low half of the operand
abbrev shifted_with : ℕ → ℕ → ℕ → Effect
shifted_with sign word count =
    let shifting = (if nat_lt count 32 then iterate (shifted_left sign) count (shifting_from word) else iterate (shifted_right sign) (64 - count) (shifting_from word)) in
    effect Word shifting.number shifting.sign_changed shifting.out

ash_is : (word source : ℕ) → ash_effect word source ≡ shifted_with 32768 word (source % 64)
unfolding ash_effect
ash_is word source = refl

count_same : (a b : ℕ) → a % 256 ≡ b % 256 → a % 64 ≡ b % 64
count_same a b same = omega (arith, same)

ash_same : (a b x y : ℕ) → a ≡ b → x % 256 ≡ y % 256 → ash_effect a x ≡ ash_effect b y
ash_same a b x y word source = ash_is a x ∙ ap₂ (λ w count. shifted_with 32768 w count) word (count_same x y source) ∙ sym (ash_is b y)

abbrev long_shifted_with : ℕ → ℕ → LongEffect
long_shifted_with long count =
    let shifting = (if nat_lt count 32 then iterate (shifted_left 2147483648) count (shifting_from long) else iterate (shifted_right 2147483648) (64 - count) (shifting_from long)) in
    long_effect shifting.number shifting.sign_changed shifting.out

ashc_is : (long source : ℕ) → ashc_effect long source ≡ long_shifted_with long (source % 64)
unfolding ashc_effect
ashc_is long source = refl

ashc_same : (a b x y : ℕ) → a ≡ b → x % 256 ≡ y % 256 → ashc_effect a x ≡ ashc_effect b y
ashc_same a b x y long source = ashc_is a x ∙ ap₂ (λ number count. long_shifted_with number count) long (count_same x y source) ∙ sym (ashc_is b y)

pub shifts_pair : (r : ℕ) → IsSoundRow (shift_pair_row r)
unfolding shift_pair
shifts_pair r = sound_by _ (λ saved s d log shape.
    let pair : Pair = named_pair (inner_of s) r in
    let from : List DataCell = shift_pair_cells pair in
    let high : (EachSame d (data_of saved s) from → EachSame d (data_of saved s) (whole_of (halves_of pair.high))) =
    λ all. each_front d (data_of saved s) (whole_of (halves_of pair.high)) (shift_cells pair.low) all in
    let low : (EachSame d (data_of saved s) from → EachSame d (data_of saved s) (shift_cells pair.low)) =
    λ all. each_back d (data_of saved s) (whole_of (halves_of pair.high)) (shift_cells pair.low) all in
    let same : (EachSame d (data_of saved s) from → ashc_effect (long_in (processor_with d.words s.world.processor) pair) d.value ≡ ashc_effect (long_in s.world.processor pair) s.latch.value) =
    λ all. ashc_same _ _ d.value s.latch.value
    (ap₂ (λ first second. join_words first second) (register_is saved s d shape pair.high (high all))
    (register_is saved s d shape pair.low (each_front d (data_of saved s) (whole_of (halves_of pair.low)) (ValueByte Low ∷ []) (low all))))
    (each_back d (data_of saved s) (whole_of (halves_of pair.low)) (ValueByte Low ∷ []) (low all)).0 in
    due_is d (data_of saved s) pair from _ _ (λ all. ap (λ effect. effect.codes) (same all)) _ _
    (pair_set d (data_of saved s) pair from s.world.processor (processor_with d.words s.world.processor) _ _ _ _ shape.words_size (λ n half all. all.0)
    (λ all. ap (λ effect. high_word effect.value) (same all)) (λ all. ap (λ effect. low_word effect.value) (same all))))

module _ (d e : Data) (id : RegisterId) (from : List DataCell) where
  abbrev one_made : DataCell → List DataCell
  one_made c = register_changed id (of_each from) (due_changed from) c

  due_of_one : (x y : Codes) → (EachSame d e from → x ≡ y) → (ws vs : List ℕ) → WordsTell d e one_made ws vs
      → CellsTell one_made d e (record d { words = ws; due = Some x }) (record e { words = vs; due = Some y })
  due_of_one x y codes ws vs tells (CoreByte k half) all = all.0
  due_of_one x y codes ws vs tells (DriveByte n k half) all = all.0
  due_of_one x y codes ws vs tells (RegisterByte n half) all = tells n half all
  due_of_one x y codes ws vs tells (CodeNow code) all = all.0
  due_of_one x y codes ws vs tells (Buffer buffer) all = all.0
  due_of_one x y codes ws vs tells (ValueByte half) all = all.0
  due_of_one x y codes ws vs tells (SourceByte half) all = all.0
  due_of_one x y codes ws vs tells (ResultByte half) all = all.0
  due_of_one x y codes ws vs tells (StatusByte half) all = all.0
  due_of_one x y codes ws vs tells (CodeDue code) all = ap (flag_in code) (codes all)
  due_of_one x y codes ws vs tells (CodeSaved code) all = all.0
  due_of_one x y codes ws vs tells (TapeByte k) all = all.0

pub shifts : (r : ℕ) → IsSoundRow (shift_row r)
unfolding shift
shifts r = sound_by _ (λ saved s d log shape.
    let id : RegisterId = named_register_id (inner_of s) r in
    let from : List DataCell = shift_cells id in
    let same : (EachSame d (data_of saved s) from → ash_effect (register_of (processor_with d.words s.world.processor) id) d.value ≡ ash_effect (register_of s.world.processor id) s.latch.value) =
    λ all. ash_same _ _ d.value s.latch.value (register_is saved s d shape id (each_front d (data_of saved s) (whole_of (halves_of id)) (ValueByte Low ∷ []) all))
    (each_back d (data_of saved s) (whole_of (halves_of id)) (ValueByte Low ∷ []) all).0 in
    due_of_one d (data_of saved s) id from _ _ (λ all. ap (λ effect. effect.codes) (same all)) _ _
    (register_set d (data_of saved s) (of_each from) (due_changed from) _ _ (each_tells d (data_of saved s) from _ _ (λ all. ap (λ effect. effect.value) (same all)))
    s.world.processor (processor_with d.words s.world.processor) id shape.words_size (λ n half all. all.0)))

-- RTI and RTT: the codes are those of the popped word
returned_if : (user : Bool) (word : ℕ) (old : Status) → (if user then returned_to_user old (status_of_word word) else status_of_word word).codes ≡ status_codes word
unfolding status_of_word
returned_if true word old = refl
returned_if false word old = refl

returned_codes : (word : ℕ) (old : Status) → (returned_status word old).codes ≡ status_codes word
unfolding returned_status
returned_codes word old = returned_if (is_user old.mode) word old

pub keeps_counter : IsSoundRow (keeps_data keep_counter)
unfolding keep_counter
keeps_counter = sound_by _ (λ saved s d log shape. itself_tells d (data_of saved s))

pub returns_from_trap : IsSoundRow return_from_trap_row
unfolding return_from_trap with_register
returns_from_trap = sound_by _ (λ saved s d log shape. codes_are d (data_of saved s) (λ code. ValueByte Low ∷ [])
    (returned_status d.value (record s.world.bus.io_page.status { codes = d.bus.codes })).codes (returned_status s.latch.value s.world.bus.io_page.status).codes
    (λ code all. ap (flag_in code) (returned_codes d.value (record s.world.bus.io_page.status { codes = d.bus.codes })) ∙ codes_tell code d.value s.latch.value all.0
    ∙ sym (ap (flag_in code) (returned_codes s.latch.value s.world.bus.io_page.status))))

-- RESET leaves the buffers
reset_if : (user : Bool) (saved : Codes) (s : State) (d : Data) (log : KeptCycles)
    → CellsTell of_itself d (data_of saved s)
    (data_of d.saved (with_inner (with_data d log s).world.bus (if user then inner_of (with_data d log s) else record (inner_of (with_data d log s)) { io_page = io_page_reset (inner_of (with_data d log s)).io_page })))
    (data_of saved (with_inner s.world.bus (if user then inner_of s else record (inner_of s) { io_page = io_page_reset (inner_of s).io_page })))
unfolding io_page_reset
reset_if true saved s d log = itself_tells d (data_of saved s)
reset_if false saved s d log = itself_tells d (data_of saved s)

pub resets : IsSoundRow (keeps_data reset)
unfolding reset
resets = sound_by _ (λ saved s d log shape. reset_if (is_user (mode_now (inner_of s))) saved s d log)
