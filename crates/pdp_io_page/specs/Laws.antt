-- What the law of the program status word says: each name is the law's sentence (DEC PDP-11/40
-- Processor Handbook (1972), Processor status word). Below: uses of registers, one after another.
use Rattle.std.specs.Prelude.{◌≡◌, ℕ, ◌+◌, ◌*◌, ◌/◌, ◌%◌, ◌<◌, List, [], ◌∷◌}
use Rattle.pdp_word.specs.Bits.{bit_of}
use Rattle.pdp_io_page.specs.Handbook.Bits.{ps_trace}
use Rattle.pdp_io_page.specs.Handbook.Register.{after_read, after_write, value_in}
use Rattle.pdp_io_page.specs.Handbook.Status.{status_of_word, status_word, status_written}
use Rattle.pdp_io_page.specs.declared.io_page.IoPage.{IoPage}
use Rattle.pdp_io_page.specs.declared.register.Register.{Register}
use Rattle.pdp_io_page.specs.declared.register.Register.TheVariants.{ProgramStatus}
use Rattle.pdp_io_page.specs.declared.status.Status.{Status}

-- bits 15-12, 7-5 and 3-0 of a word: those of the program status word that can be written
abbrev pub writable_part : ℕ → ℕ
writable_part word = word / 0o10000 * 0o10000 + word % 0o400 / 0o40 * 0o40 + word % 0o20

-- bits 15-12 and 7-0 of a word: those that the program status word has
abbrev pub status_part : ℕ → ℕ
status_part word = word / 0o10000 * 0o10000 + word % 0o400

-- the program status that a whole word says has that word, without bits 11-8
abbrev pub WholeStatusReadsBack : Type 0
WholeStatusReadsBack = (word : ℕ) → word < 0o200000 → status_word (status_of_word word)
    ≡ status_part word

-- the word of a program status says it: modes, priority, T and codes
abbrev pub StatusIsItsWord : Type 0
StatusIsItsWord = (s : Status) → status_of_word (status_word s) ≡ s

-- the program status word reads back what was written to it, without bits 11-8 and with T as it was
abbrev pub WrittenStatusReadsBack : Type 0
WrittenStatusReadsBack = (s : Status) (word : ℕ) → word < 0o200000
    → status_word (status_written word s) ≡ writable_part word + bit_of s.trace_bit * ps_trace

-- the same through its register
abbrev pub WrittenRegisterReadsBack : Type 0
WrittenRegisterReadsBack = (b : IoPage) (word turn drives : ℕ) → word < 0o200000
    → value_in ProgramStatus drives (after_write ProgramStatus word turn b)
    ≡ writable_part word + bit_of b.status.trace_bit * ps_trace

-- what was read from the program status word changes nothing when it is written
abbrev pub ReadStatusWritesBack : Type 0
ReadStatusWritesBack = (s : Status) → status_written (status_word s) s ≡ s

-- a register that is read, or written with a word in a turn
pub data RegisterUse : Type 0 where
  Reading : Register → RegisterUse
  Writing : Register → ℕ → ℕ → RegisterUse

abbrev pub io_page_after_use : RegisterUse → IoPage → IoPage
io_page_after_use (Reading register) b = after_read register b
io_page_after_use (Writing register word turn) b = after_write register word turn b

-- the I/O page after registers were used, in their order
abbrev pub io_page_after_uses : List RegisterUse → IoPage → IoPage
io_page_after_uses [] b = b
io_page_after_uses (use_of ∷ uses) b = io_page_after_uses uses (io_page_after_use use_of b)
