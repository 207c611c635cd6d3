-- Words whose halves are the same: what is done to both.
use Rattle.std.proofs.Common.{◌≡◌, ℕ, ◌+◌, ◌-◌, ◌*◌, ◌/◌, ◌%◌, ◌<◌, ◌==◌, Bool, true, false, List, [], ◌∷◌, ◌++◌, refl, ap, sym, ◌∙◌, ◌≤◌, arith, nat_lt, if◌then◌else◌}
use Rattle.pdp_word.specs.Size.{span}
use Rattle.pdp_word.specs.Word.{less, sign_extended}
use Rattle.pdp_word.specs.declared.size.Size.{Size}
use Rattle.pdp_word.specs.declared.size.Size.TheVariants.{Word, Byte}
use Rattle.pdp_word.specs.declared.codes.Codes.{Codes}
use Rattle.pdp_kt11.specs.Handbook.Mode.{mode_bits}
use Rattle.pdp_word.specs.Bits.{bit_of}
use Rattle.pdp_io_page.specs.Handbook.Status.{priority_bits, status_codes, status_word}
use Rattle.pdp_io_page.specs.declared.priority.Priority.{Priority}
use Rattle.pdp_io_page.specs.declared.priority.Priority.TheVariants.{Level0, Level1, Level2, Level3, Level4, Level5, Level6, Level7}
use Rattle.pdp_io_page.specs.declared.status.Status.{Status}
use Rattle.pdp_made.specs.Cells.{Half, Low, High, byte_in, Data, DataCell, EachSame, ConditionCode, Negative, Zero, Overflow, Carry, flag_in}
use Rattle.pdp_made.specs.EffectRows.{going_up}
use Rattle.pdp_made.specs.ReferenceRows.{Halves, cut_to, each_code, halves_of_codes, of_each, with_low_byte, with_high_byte, extended_byte, whole_of}

-- two words with the same halves are the same
from_halves : (a b : ℕ) → a % 256 ≡ b % 256 → a / 256 ≡ b / 256 → a ≡ b
from_halves a b low high = omega (arith, low, high)

-- each half of a word is the same in both if what it is made of is
abbrev pub HalvesTell : Data → Data → Halves → ℕ → ℕ → Type 0
HalvesTell d e from a b = (half : Half) → EachSame d e (from half) → byte_in half a ≡ byte_in half b

pub each_front : (d e : Data) (xs ys : List DataCell) → EachSame d e (xs ++ ys) → EachSame d e xs
each_front d e [] ys all = tt
each_front d e (x ∷ xs) ys all = (all.0, each_front d e xs ys all.1)

pub each_back : (d e : Data) (xs ys : List DataCell) → EachSame d e (xs ++ ys) → EachSame d e ys
each_back d e [] ys all = all
each_back d e (x ∷ xs) ys all = each_back d e xs ys all.1

pub whole_tells : (d e : Data) (from : Halves) (a b : ℕ) → HalvesTell d e from a b → EachSame d e (whole_of from) → a ≡ b
whole_tells d e from a b tells all =
    from_halves a b (tells Low (each_front d e (from Low) (from High) all)) (tells High (each_back d e (from Low) (from High) all))

-- words that are the same whenever all these cells are
pub each_tells : (d e : Data) (cells : List DataCell) (a b : ℕ) → (EachSame d e cells → a ≡ b) → HalvesTell d e (of_each cells) a b
each_tells d e cells a b same half all = ap (byte_in half) (same all)

low_of_cut : (a b : ℕ) → a % 256 ≡ b % 256 → a % 65536 % 256 ≡ b % 65536 % 256
low_of_cut a b same = omega (arith, same)

high_of_cut : (a b : ℕ) → a / 256 ≡ b / 256 → a % 65536 / 256 ≡ b % 65536 / 256
high_of_cut a b same = omega (arith, same)

no_high : (a b : ℕ) → a % 256 / 256 ≡ b % 256 / 256
no_high a b = omega arith

pub cut_tells : (d e : Data) (size : Size) (from : Halves) (a b : ℕ) → HalvesTell d e from a b
    → HalvesTell d e (cut_to size from) (a % span size) (b % span size)
cut_tells d e Word from a b tells Low all = low_of_cut a b (tells Low all)
cut_tells d e Word from a b tells High all = high_of_cut a b (tells High all)
cut_tells d e Byte from a b tells Low all = ap (λ w. w % 256) (tells Low all)
cut_tells d e Byte from a b tells High all = no_high a b

-- a byte in a word
low_put : (x y a b : ℕ) → a % 256 ≡ b % 256 → (x - x % 256 + a) % 256 ≡ (y - y % 256 + b) % 256
low_put x y a b same = omega (arith, same)

above_put : (x y a b : ℕ) → x / 256 ≡ y / 256 → a / 256 ≡ b / 256 → (x - x % 256 + a) / 256 ≡ (y - y % 256 + b) / 256
above_put x y a b old new = omega (arith, old, new)

pub low_byte_tells : (d e : Data) (old from : Halves) (x y a b : ℕ) → HalvesTell d e old x y → HalvesTell d e from a b
    → HalvesTell d e (with_low_byte old from) (x - x % 256 + a) (y - y % 256 + b)
low_byte_tells d e old from x y a b was tells Low all = low_put x y a b (tells Low all)
low_byte_tells d e old from x y a b was tells High all =
    above_put x y a b (was High (each_front d e (old High) (from High) all)) (tells High (each_back d e (old High) (from High) all))

below_put : (x y a b : ℕ) → x % 256 ≡ y % 256 → (a * 256 + x % 256) % 256 ≡ (b * 256 + y % 256) % 256
below_put x y a b same = omega (arith, same)

high_put : (x y a b : ℕ) → a ≡ b → (a * 256 + x % 256) / 256 ≡ (b * 256 + y % 256) / 256
high_put x y a b same = omega (arith, same)

pub high_byte_tells : (d e : Data) (old from : Halves) (x y a b : ℕ) → HalvesTell d e old x y → HalvesTell d e from a b
    → HalvesTell d e (with_high_byte old from) (a * 256 + x % 256) (b * 256 + y % 256)
high_byte_tells d e old from x y a b was tells Low all = below_put x y a b (was Low all)
high_byte_tells d e old from x y a b was tells High all = high_put x y a b (whole_tells d e from a b tells all)

low_extended_if : (a b : ℕ) (small other : Bool) → a % 256 ≡ b % 256
    → (if small then a else a + 65280) % 256 ≡ (if other then b else b + 65280) % 256
low_extended_if a b true true same = same
low_extended_if a b true false same = omega (arith, same)
low_extended_if a b false true same = omega (arith, same)
low_extended_if a b false false same = omega (arith, same)

pub extended_tells : (d e : Data) (from : Halves) (a b : ℕ) → HalvesTell d e from a b
    → HalvesTell d e (extended_byte from) (sign_extended a) (sign_extended b)
extended_tells d e from a b tells Low all = low_extended_if a b (nat_lt a 128) (nat_lt b 128) (tells Low all)
extended_tells d e from a b tells High all = ap (λ w. byte_in High (sign_extended w)) (whole_tells d e from a b tells all)

-- a step up and down
low_advanced : (a b by : ℕ) → a % 256 ≡ b % 256 → (a + by) % 65536 % 256 ≡ (b + by) % 65536 % 256
low_advanced a b by same = omega (arith, same)

pub advanced_tells : (d e : Data) (from : Halves) (a b by : ℕ) → HalvesTell d e from a b
    → HalvesTell d e (going_up from) ((a + by) % 65536) ((b + by) % 65536)
advanced_tells d e from a b by tells Low all = low_advanced a b by (tells Low all)
advanced_tells d e from a b by tells High all = ap (λ w. (w + by) % 65536 / 256) (whole_tells d e from a b tells all)

-- the lower half of a difference below a number of a few units
low_retreated_if : (a b by : ℕ) (under other : Bool) → nat_lt a by ≡ under → nat_lt b by ≡ other → by < 257 → a % 256 ≡ b % 256
    → (if under then a + 65536 - by else a - by) % 256 ≡ (if other then b + 65536 - by else b - by) % 256
low_retreated_if a b by true true is was small same = grind (arith, is, was, small, same)
low_retreated_if a b by true false is was small same = grind (arith, is, was, small, same)
low_retreated_if a b by false true is was small same = grind (arith, is, was, small, same)
low_retreated_if a b by false false is was small same = grind (arith, is, was, small, same)

pub retreated_tells : (d e : Data) (from : Halves) (a b by : ℕ) → by < 257 → HalvesTell d e from a b
    → HalvesTell d e (going_up from) (less a by) (less b by)
retreated_tells d e from a b by small tells Low all = low_retreated_if a b by (nat_lt a by) (nat_lt b by) refl refl small (tells Low all)
retreated_tells d e from a b by small tells High all = ap (λ w. less w by / 256) (whole_tells d e from a b tells all)

-- the codes are in the lower half
pub codes_tell : (code : ConditionCode) (a b : ℕ) → a % 256 ≡ b % 256 → flag_in code (status_codes a) ≡ flag_in code (status_codes b)
codes_tell Negative a b same = ap (λ bit. bit == 1) (bit_of_low a b same)
  where
    bit_of_low : (a b : ℕ) → a % 256 ≡ b % 256 → a / 8 % 2 ≡ b / 8 % 2
    bit_of_low a b same = omega (arith, same)
codes_tell Zero a b same = ap (λ bit. bit == 1) (bit_of_low a b same)
  where
    bit_of_low : (a b : ℕ) → a % 256 ≡ b % 256 → a / 4 % 2 ≡ b / 4 % 2
    bit_of_low a b same = omega (arith, same)
codes_tell Overflow a b same = ap (λ bit. bit == 1) (bit_of_low a b same)
  where
    bit_of_low : (a b : ℕ) → a % 256 ≡ b % 256 → a / 2 % 2 ≡ b / 2 % 2
    bit_of_low a b same = omega (arith, same)
codes_tell Carry a b same = ap (λ bit. bit == 1) (bit_of_low a b same)
  where
    bit_of_low : (a b : ℕ) → a % 256 ≡ b % 256 → a / 1 % 2 ≡ b / 1 % 2
    bit_of_low a b same = omega (arith, same)

-- the codes of the program status word are in its lower half alone
bit_small : (b : Bool) → bit_of b ≤ 1
bit_small true = omega arith
bit_small false = omega arith

priority_small : (p : Priority) → priority_bits p ≤ 7
priority_small Level0 = omega arith
priority_small Level1 = omega arith
priority_small Level2 = omega arith
priority_small Level3 = omega arith
priority_small Level4 = omega arith
priority_small Level5 = omega arith
priority_small Level6 = omega arith
priority_small Level7 = omega arith

high_of_sum : (m p q t n z v c : ℕ) → q ≤ 7 → t ≤ 1 → n ≤ 1 → z ≤ 1 → v ≤ 1 → c ≤ 1
    → (m * 16384 + p * 4096 + q * 32 + t * 16 + n * 8 + z * 4 + v * 2 + c) / 256 ≡ m * 64 + p * 16
high_of_sum m p q t n z v c level trace negative zero overflow carry = omega (arith, level, trace, negative, zero, overflow, carry)

high_of_status : (s : Status) → status_word s / 256 ≡ mode_bits s.mode * 64 + mode_bits s.previous * 16
high_of_status s = high_of_sum (mode_bits s.mode) (mode_bits s.previous) (priority_bits s.priority) (bit_of s.trace_bit) (bit_of s.codes.n) (bit_of s.codes.z) (bit_of s.codes.v) (bit_of s.codes.c)
    (priority_small s.priority) (bit_small s.trace_bit) (bit_small s.codes.n) (bit_small s.codes.z) (bit_small s.codes.v) (bit_small s.codes.c)

pub status_tells : (d e : Data) (cell : ConditionCode → DataCell) (s : Status) (x y : Codes) → (EachSame d e (each_code cell) → x ≡ y)
    → HalvesTell d e (halves_of_codes cell) (status_word (record s { codes = x })) (status_word (record s { codes = y }))
status_tells d e cell s x y same Low all = ap (λ codes. status_word (record s { codes = codes }) % 256) (same all)
status_tells d e cell s x y same High all = high_of_status (record s { codes = x }) ∙ sym (high_of_status (record s { codes = y }))

-- codes that are the same one by one
pub codes_same : (x y : Codes) → x.n ≡ y.n → x.z ≡ y.z → x.v ≡ y.v → x.c ≡ y.c → x ≡ y
codes_same x y n z v c = λ i. record { n = n i; z = z i; v = v i; c = c i }
