-- The words of which a line is the text [P].
use Rattle.std.specs.Prelude.{◌≡◌, ◌≢◌, ◌↔◌, ℕ, ◌-◌, ◌*◌, nat_lt, if◌then◌else◌}
use Rattle.std.specs.Prelude.{List, ◌++◌, Option, Some}
use Rattle.pdp_decode.specs.Table.{instr_of_word}
use Rattle.pdp_disassembler.specs.Reading.{words_of_text}
use Rattle.pdp_disassembler.specs.Text.{instruction_text, operator_text, words_taken}
use Rattle.pdp_disassembler.specs.TextLaw.{AreThreeWords}

-- an instruction takes these words and no others, and this is its text at this address
pub record IsAssembly (address : ℕ) (text : List ℕ) (words : List ℕ) : Type 0 where
  pub three : List ℕ
  pub are : AreThreeWords three
  pub taken : words_taken three ≡ words
  pub shown : instruction_text address three ≡ text

-- what assembling a text gives: the words of the instruction that has this text at this address, or
-- nothing if there is none
abbrev pub Assembles : ℕ → List ℕ → Option (List ℕ) → Type 0
Assembles address text found =
    (words : List ℕ) → (found ≡ Some words) ↔ IsAssembly address text words

-- How many words are tried. Each instruction has its word among them, with zeros in its fields:
-- the words below 400, for those without fields, and the multiples of 100.
abbrev pub base_count : ℕ
base_count = 0o2400

abbrev pub base_word_at : ℕ → ℕ
base_word_at number = if nat_lt number 0o400 then number else (number - 0o400) * 0o100

-- the text isn't that of an instruction whose word is `base` except for its fields
abbrev pub IsOfOther : ℕ → List ℕ → ℕ → Type 0
IsOfOther address text base =
    (rest : List ℕ) → text ≡ operator_text (instr_of_word base) ++ rest
    → instruction_text address (words_of_text base address rest) ≢ text
