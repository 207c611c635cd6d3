-- How RKCS tells the end of a function.
use Rattle.std.proofs.Common.{◌≡◌, ◌≢◌, ℕ, ◌+◌, ◌*◌, ◌/◌, ◌%◌, ◌<◌, ◌≤◌, ◌||◌, ◌↔◌, Bool, true, false, Option, Some, None, refl, ◌∙◌, ap, arith}
use Rattle.pdp_word.specs.Bits.{bit_of, field}
use Rattle.pdp_rk11.specs.Handbook.Completion.{rk_completed}
use Rattle.pdp_rk11.specs.Laws.{CompletionsSetReady, ErrorsAreTold, HardErrorsAreTold}
use Rattle.pdp_rk11.specs.Handbook.Rk.{code_of, control_word, failure_bit, failure_bits, has_failed}
use Rattle.pdp_rk11.specs.declared.failure.Failure.{Failure}
use Rattle.pdp_rk11.specs.declared.failure.Failure.TheVariants.{NoDrive, NoCylinder, NoSector, NoMemory, WriteLocked, Overrun}
use Rattle.pdp_rk11.specs.declared.function.Function.{Function}
use Rattle.pdp_rk11.specs.declared.function.Function.TheVariants.{ControlReset, Write, Read, WriteCheck, Seek, ReadCheck, DriveReset, WriteLock}
use Rattle.pdp_rk11.specs.declared.rk.Rk.{Rk}
use Rattle.pdp_rk11.proofs.Readiness.{completed_ready_enable}

one_bit : (flag : Bool) → bit_of flag < 2
one_bit true = omega arith
one_bit false = omega arith

three_bits : (f : Function) → code_of f < 8
three_bits ControlReset = omega arith
three_bits Write = omega arith
three_bits Read = omega arith
three_bits WriteCheck = omega arith
three_bits Seek = omega arith
three_bits ReadCheck = omega arith
three_bits DriveReset = omega arith
three_bits WriteLock = omega arith

no_low_bits : (failure : Failure) → 0o40 ≤ failure_bit failure
no_low_bits NoSector = omega arith
no_low_bits NoCylinder = omega arith
no_low_bits NoDrive = omega arith
no_low_bits NoMemory = omega arith
no_low_bits WriteLocked = omega arith
no_low_bits Overrun = omega arith

-- the word by its bits: error, hard error, search complete, no increment, ready, enable, address and function
abbrev word_of : ℕ → ℕ → ℕ → ℕ → ℕ → ℕ → ℕ → ℕ → ℕ
word_of e h s n r i a f =
    e * 0o100000 + h * 0o40000 + s * 0o20000 + n * 0o4000 + (r * 0o200 + i * 0o100) + a * 0o20 + f * 2

record Fits (e h s n r i a f : ℕ) : Type 0 where
  error : e < 2
  hard : h < 2
  search_complete : s < 2
  no_increment : n < 2
  ready : r < 2
  enable : i < 2
  address : a < 4
  function : f < 8

bit_15 : (e h s n r i a f : ℕ) → Fits e h s n r i a f → word_of e h s n r i a f / 0o100000 % 2 ≡ e
bit_15 e h s n r i a f fits = omega arith

bit_14 : (e h s n r i a f : ℕ) → Fits e h s n r i a f → word_of e h s n r i a f / 0o40000 % 2 ≡ h
bit_14 e h s n r i a f fits = omega arith

bit_7 : (e h s n r i a f : ℕ) → Fits e h s n r i a f → word_of e h s n r i a f / 0o200 % 2 ≡ r
bit_7 e h s n r i a f fits = omega arith

module _ (rk : Rk) where
  fits_of : Fits (bit_of (has_failed rk.failure || rk.write_check)) (bit_of (has_failed rk.failure)) (bit_of rk.search_complete)
      (bit_of rk.no_increment) (bit_of rk.ready_enable.ready) (bit_of rk.ready_enable.enable) (field 16 2 rk.address) (code_of rk.function)
  fits_of = record {
    error = one_bit _;
    hard = one_bit _;
    search_complete = one_bit _;
    no_increment = one_bit _;
    ready = one_bit _;
    enable = one_bit _;
    address = omega arith;
    function = three_bits _;
  }

  error_of : field 15 1 (control_word rk) ≡ bit_of (has_failed rk.failure || rk.write_check)
  error_of = bit_15 _ _ _ _ _ _ _ _ fits_of

  hard_error_of : field 14 1 (control_word rk) ≡ bit_of (has_failed rk.failure)
  hard_error_of = bit_14 _ _ _ _ _ _ _ _ fits_of

  ready_of : field 7 1 (control_word rk) ≡ bit_of rk.ready_enable.ready
  ready_of = bit_7 _ _ _ _ _ _ _ _ fits_of

told : (failure : Option Failure) (check : Bool)
    → (bit_of (has_failed failure || check) ≡ 1) ↔ (failure_bits failure + bit_of check ≢ 0)
told (Some failure) check = (λ one zero. omega (arith, no_low_bits failure, zero), λ some. refl)
told None true = (λ one zero. omega arith, λ some. refl)
told None false = (λ one zero. omega arith, λ some. absurd (some refl))

hard_told : (failure : Option Failure) (check : Bool)
    → (bit_of (has_failed failure) ≡ 1) ↔ ((failure_bits failure + bit_of check) / 2 ≢ 0)
hard_told (Some failure) check = (λ one zero. omega (arith, no_low_bits failure, zero), λ some. refl)
hard_told None true = (λ one zero. omega arith, λ some. absurd (some refl))
hard_told None false = (λ one zero. omega arith, λ some. absurd (some refl))

pub errors_are_told : ErrorsAreTold
errors_are_told drives rk = rw (error_of rk) (told rk.failure rk.write_check)

pub hard_errors_are_told : HardErrorsAreTold
hard_errors_are_told drives rk = rw (hard_error_of rk) (hard_told rk.failure rk.write_check)

pub completions_set_ready : CompletionsSetReady
completions_set_ready turn drives w busy =
    ready_of (rk_completed turn w).rk ∙ ap (λ c. bit_of c.ready) (completed_ready_enable turn w busy)
