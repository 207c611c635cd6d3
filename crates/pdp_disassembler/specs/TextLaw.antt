-- What the text of an instruction says of its words [P].
use Rattle.std.specs.Prelude.{◌≡◌, ◌↔◌, ℕ, ◌<◌, List, length}
use Rattle.std.specs.List.{All}
use Rattle.pdp_disassembler.specs.Text.{instruction_text, words_taken}

-- a word of 16 bits, and the two that follow it
pub record AreThreeWords (words : List ℕ) : Type 0 where
  pub three : length words ≡ 3
  pub fit : All (λ word. word < 0o200000) words

-- Two instructions at one address have one text exactly if they have the same words, as many as
-- each takes. So the text can be assembled back, and shows no word that the instruction doesn't
-- take.
abbrev pub TextsAreOfWords : Type 0
TextsAreOfWords =
    (address : ℕ) (words others : List ℕ) → AreThreeWords words → AreThreeWords others
    → (instruction_text address words ≡ instruction_text address others)
    ↔ (words_taken words ≡ words_taken others)
