-- The effects of SWAB and SXT (DEC PDP-11/40 Processor Handbook (1972), Instruction set).
use Rattle.std.specs.Prelude.{ℕ, ◌==◌, false, not, if◌then◌else◌}
use Rattle.pdp_word.specs.declared.codes.Codes.{Codes}
use Rattle.pdp_word.specs.declared.size.Size.TheVariants.{Byte}
use Rattle.pdp_word.specs.Size.{is_negative}
use Rattle.pdp_word.specs.Word.{join, low_byte, high_byte}
use Rattle.pdp_alu.specs.declared.effect.Effect.{Effect}

-- SWAB: the bytes of the word exchanged; N and Z are of the low byte of the result, V and C are
-- cleared [4.21]
unfoldable pub swab_effect : ℕ → Effect
swab_effect word =
    let swapped = join (low_byte word) (high_byte word) in
    record {
      value = swapped;
      codes = record {
        n = is_negative Byte (low_byte swapped);
        z = low_byte swapped == 0;
        v = false;
        c = false;
      };
    }

-- SXT: N in every bit; Z if N is clear, N and C are kept, V is cleared [4.22]
unfoldable pub sxt_effect : Codes → Effect
sxt_effect codes =
    record {
      value = if codes.n then 0o177777 else 0;
      codes = record { n = codes.n; z = not codes.n; v = false; c = codes.c };
    }
