-- The program status word: DEC PDP-11/40 Processor Handbook (1972), Processor status word.
use Rattle.std.specs.Prelude.{ℕ, ◌+◌, ◌*◌, ◌==◌, Bool, nat_lt, if◌then◌else◌}
use Rattle.pdp_kt11.specs.Handbook.Mode.{mode_bits, mode_of}
use Rattle.pdp_word.specs.Bits.{bit_of, field}
use Rattle.pdp_word.specs.Mask.{is_set}
use Rattle.pdp_io_page.specs.Handbook.Bits.{ps_c, ps_mode, ps_n, ps_previous, ps_priority, ps_trace}
use Rattle.pdp_io_page.specs.Handbook.Bits.{ps_v}
use Rattle.pdp_io_page.specs.Handbook.Bits.{ps_z}
use Rattle.pdp_word.specs.declared.codes.Codes.{Codes}
use Rattle.pdp_io_page.specs.declared.priority.Priority.{Priority}
use Rattle.pdp_io_page.specs.declared.priority.Priority.TheVariants.{Level0, Level1, Level2, Level3}
use Rattle.pdp_io_page.specs.declared.priority.Priority.TheVariants.{Level4, Level5, Level6, Level7}
use Rattle.pdp_io_page.specs.declared.status.Status.{Status}

-- the three bits of a priority
abbrev pub priority_bits : Priority → ℕ
priority_bits Level0 = 0
priority_bits Level1 = 1
priority_bits Level2 = 2
priority_bits Level3 = 3
priority_bits Level4 = 4
priority_bits Level5 = 5
priority_bits Level6 = 6
priority_bits Level7 = 7

-- whether the first level is above the second
abbrev pub is_above : Priority → Priority → Bool
is_above level other = nat_lt (priority_bits other) (priority_bits level)

-- the program status word: 15-14 mode [2.3], 13-12 previous mode [2.4], 11-8 zero [2.12], 7-5
-- priority [2.5], 4 T [2.6], 3 N, 2 Z, 1 V, 0 C [2.7]
abbrev pub status_word : Status → ℕ
status_word s =
    mode_bits s.mode * ps_mode + mode_bits s.previous * ps_previous + priority_bits s.priority *
    ps_priority
    + bit_of s.trace_bit * ps_trace + bit_of s.codes.n * ps_n + bit_of s.codes.z * ps_z + bit_of
    s.codes.v * ps_v
    + bit_of s.codes.c

-- the priority of three bits
unfoldable pub priority_of : ℕ → Priority
priority_of bits =
    if bits == 0 then Level0
    else if bits == 1 then Level1
    else if bits == 2 then Level2
    else if bits == 3 then Level3
    else if bits == 4 then Level4
    else if bits == 5 then Level5
    else if bits == 6 then Level6
    else Level7

-- the codes in bits 3 to 0
abbrev pub status_codes : ℕ → Codes
status_codes word = record {
  n = is_set ps_n word;
  z = is_set ps_z word;
  v = is_set ps_v word;
  c =
      is_set ps_c word;
}

-- the program status that a whole word says: bits 11-8 count for nothing [2.9] [4.58]
unfoldable pub status_of_word : ℕ → Status
status_of_word word = record {
  mode = mode_of (field 14 2 word);
  previous = mode_of (field 12 2 word);
  priority = priority_of (field 5 3 word);
  trace_bit = is_set ps_trace word;
  codes = status_codes word;
}

-- the program status after its word was written: T can't be written [2.9] [6.52]
unfoldable pub status_written : ℕ → Status → Status
status_written word s = record (status_of_word word) { trace_bit = s.trace_bit }
