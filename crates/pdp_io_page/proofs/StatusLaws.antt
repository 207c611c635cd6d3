-- The program status word, written and read back, part by part.
use Rattle.std.proofs.Common.{◌≡◌, ℕ, zero, suc, ◌+◌, ◌*◌, ◌/◌, ◌%◌, ◌==◌, ◌<◌, Bool, true, false, refl, ap, ◌∙◌, arith}
use Rattle.pdp_kt11.specs.Handbook.Mode.{mode_bits, mode_of}
use Rattle.pdp_kt11.specs.declared.mode.Mode.{Mode}
use Rattle.pdp_kt11.specs.declared.mode.Mode.TheVariants.{Kernel, Bad1, Bad2, User}
use Rattle.pdp_word.specs.Bits.{bit_of}
use Rattle.pdp_io_page.specs.Laws.{status_part, writable_part}
use Rattle.pdp_io_page.specs.Handbook.Register.{after_write, value_in}
use Rattle.pdp_io_page.specs.Handbook.Status.{priority_bits, priority_of, status_of_word, status_word, status_written}
use Rattle.pdp_io_page.specs.declared.io_page.IoPage.{IoPage}
use Rattle.pdp_io_page.specs.declared.priority.Priority.{Priority}
use Rattle.pdp_io_page.specs.declared.priority.Priority.TheVariants.{Level0, Level1, Level2, Level3, Level4, Level5, Level6, Level7}
use Rattle.pdp_io_page.specs.declared.register.Register.TheVariants.{ProgramStatus}
use Rattle.pdp_io_page.specs.declared.status.Status.{Status}

bits_of_mode : (n : ℕ) → n < 4 → mode_bits (mode_of n) ≡ n
unfolding mode_of
bits_of_mode zero small = refl
bits_of_mode (suc zero) small = refl
bits_of_mode (suc (suc zero)) small = refl
bits_of_mode (suc (suc (suc zero))) small = refl
bits_of_mode (suc (suc (suc (suc n)))) small = absurd (omega arith)

bits_of_priority : (n : ℕ) → n < 8 → priority_bits (priority_of n) ≡ n
unfolding priority_of
bits_of_priority zero small = refl
bits_of_priority (suc zero) small = refl
bits_of_priority (suc (suc zero)) small = refl
bits_of_priority (suc (suc (suc zero))) small = refl
bits_of_priority (suc (suc (suc (suc zero)))) small = refl
bits_of_priority (suc (suc (suc (suc (suc zero))))) small = refl
bits_of_priority (suc (suc (suc (suc (suc (suc zero)))))) small = refl
bits_of_priority (suc (suc (suc (suc (suc (suc (suc zero))))))) small = refl
bits_of_priority (suc (suc (suc (suc (suc (suc (suc (suc n)))))))) small = absurd (omega arith)

bit_of_flag : (n : ℕ) → n < 2 → bit_of (n == 1) ≡ n
bit_of_flag zero small = refl
bit_of_flag (suc zero) small = refl
bit_of_flag (suc (suc n)) small = absurd (omega arith)

parts : (word mode previous priority n z v c t : ℕ) → word < 0o200000
    → mode ≡ word / 0o40000 % 4 → previous ≡ word / 0o10000 % 4 → priority ≡ word / 0o40 % 8
    → n ≡ word / 8 % 2 → z ≡ word / 4 % 2 → v ≡ word / 2 % 2 → c ≡ word / 1 % 2
    → mode * 0o40000 + previous * 0o10000 + priority * 0o40 + t * 0o20 + n * 8 + z * 4 + v * 2 + c
    ≡ writable_part word + t * 0o20
parts word mode previous priority n z v c t fits mode_is previous_is priority_is n_is z_is v_is c_is = omega arith

pub written_status : (s : Status) (word : ℕ) → word < 0o200000
    → status_word (status_written word s) ≡ writable_part word + bit_of s.trace_bit * 0o20
unfolding status_written status_of_word
written_status s word fits =
    parts word _ _ _ _ _ _ _ (bit_of s.trace_bit) fits
    (bits_of_mode (word / 0o40000 % 4) (omega arith)) (bits_of_mode (word / 0o10000 % 4) (omega arith))
    (bits_of_priority (word / 0o40 % 8) (omega arith)) (bit_of_flag (word / 8 % 2) (omega arith))
    (bit_of_flag (word / 4 % 2) (omega arith)) (bit_of_flag (word / 2 % 2) (omega arith)) (bit_of_flag (word / 1 % 2) (omega arith))

pub whole_status : (word : ℕ) → word < 0o200000 → status_word (status_of_word word) ≡ status_part word
unfolding status_of_word
whole_status word fits =
    let t : bit_of (word / 0o20 % 2 == 1) ≡ word / 0o20 % 2 = bit_of_flag (word / 0o20 % 2) (omega arith) in
    let all : status_word (status_of_word word) ≡ writable_part word + bit_of (word / 0o20 % 2 == 1) * 0o20 =
    parts word _ _ _ _ _ _ _ (bit_of (word / 0o20 % 2 == 1)) fits
    (bits_of_mode (word / 0o40000 % 4) (omega arith)) (bits_of_mode (word / 0o10000 % 4) (omega arith))
    (bits_of_priority (word / 0o40 % 8) (omega arith)) (bit_of_flag (word / 8 % 2) (omega arith))
    (bit_of_flag (word / 4 % 2) (omega arith)) (bit_of_flag (word / 2 % 2) (omega arith)) (bit_of_flag (word / 1 % 2) (omega arith))
    in
    all ∙ omega arith

pub written_register : (b : IoPage) (word turn drives : ℕ) → word < 0o200000
    → value_in ProgramStatus drives (after_write ProgramStatus word turn b) ≡ writable_part word + bit_of b.status.trace_bit * 0o20
unfolding value_in after_write
written_register b word turn drives fits = written_status b.status word fits

-- each part from its bits
mode_back : (mode : Mode) → mode_of (mode_bits mode) ≡ mode
unfolding mode_of
mode_back Kernel = refl
mode_back Bad1 = refl
mode_back Bad2 = refl
mode_back User = refl

priority_back : (priority : Priority) → priority_of (priority_bits priority) ≡ priority
unfolding priority_of
priority_back Level0 = refl
priority_back Level1 = refl
priority_back Level2 = refl
priority_back Level3 = refl
priority_back Level4 = refl
priority_back Level5 = refl
priority_back Level6 = refl
priority_back Level7 = refl

flag_back : (flag : Bool) → (bit_of flag == 1) ≡ flag
flag_back true = refl
flag_back false = refl

mode_small : (mode : Mode) → mode_bits mode < 4
mode_small Kernel = omega arith
mode_small Bad1 = omega arith
mode_small Bad2 = omega arith
mode_small User = omega arith

priority_small : (priority : Priority) → priority_bits priority < 8
priority_small Level0 = omega arith
priority_small Level1 = omega arith
priority_small Level2 = omega arith
priority_small Level3 = omega arith
priority_small Level4 = omega arith
priority_small Level5 = omega arith
priority_small Level6 = omega arith
priority_small Level7 = omega arith

flag_small : (flag : Bool) → bit_of flag < 2
flag_small true = omega arith
flag_small false = omega arith

-- the fields of the word that parts make
fields : (mode previous priority t n z v c word : ℕ) → mode < 4 → previous < 4 → priority < 8 → t < 2 → n < 2 → z < 2 → v < 2 → c < 2
    → word ≡ mode * 0o40000 + previous * 0o10000 + priority * 0o40 + t * 0o20 + n * 8 + z * 4 + v * 2 + c
    → (word / 0o40000 % 4 ≡ mode) × (word / 0o10000 % 4 ≡ previous) × (word / 0o40 % 8 ≡ priority) × (word / 0o20 % 2 ≡ t)
    × (word / 8 % 2 ≡ n) × (word / 4 % 2 ≡ z) × (word / 2 % 2 ≡ v) × (word / 1 % 2 ≡ c)
fields mode previous priority t n z v c word mode_fits previous_fits priority_fits t_fits n_fits z_fits v_fits c_fits is =
    (omega arith, omega arith, omega arith, omega arith, omega arith, omega arith, omega arith, omega arith)

pub status_back : (s : Status) → status_of_word (status_word s) ≡ s
unfolding status_of_word
status_back s = λ i. record {
  mode = (ap mode_of part.0 ∙ mode_back s.mode) i;
  previous = (ap mode_of part.1 ∙ mode_back s.previous) i;
  priority = (ap priority_of part.2 ∙ priority_back s.priority) i;
  trace_bit = (ap (λ b. b == 1) part.3 ∙ flag_back s.trace_bit) i;
  codes = record {
    n = (ap (λ b. b == 1) part.4 ∙ flag_back s.codes.n) i;
    z = (ap (λ b. b == 1) part.5 ∙ flag_back s.codes.z) i;
    v = (ap (λ b. b == 1) part.6 ∙ flag_back s.codes.v) i;
    c = (ap (λ b. b == 1) part.7 ∙ flag_back s.codes.c) i;
  };
} where
  part : (status_word s / 0o40000 % 4 ≡ mode_bits s.mode) × (status_word s / 0o10000 % 4 ≡ mode_bits s.previous)
      × (status_word s / 0o40 % 8 ≡ priority_bits s.priority) × (status_word s / 0o20 % 2 ≡ bit_of s.trace_bit)
      × (status_word s / 8 % 2 ≡ bit_of s.codes.n) × (status_word s / 4 % 2 ≡ bit_of s.codes.z)
      × (status_word s / 2 % 2 ≡ bit_of s.codes.v) × (status_word s / 1 % 2 ≡ bit_of s.codes.c)
  part =
      fields (mode_bits s.mode) (mode_bits s.previous) (priority_bits s.priority) (bit_of s.trace_bit) (bit_of s.codes.n) (bit_of s.codes.z) (bit_of s.codes.v) (bit_of s.codes.c) (status_word s)
      (mode_small s.mode) (mode_small s.previous) (priority_small s.priority) (flag_small s.trace_bit) (flag_small s.codes.n) (flag_small s.codes.z) (flag_small s.codes.v) (flag_small s.codes.c) refl

pub written_back : (s : Status) → status_written (status_word s) s ≡ s
unfolding status_written
written_back s = ap (λ (back : Status). record back { trace_bit = s.trace_bit }) (status_back s)
