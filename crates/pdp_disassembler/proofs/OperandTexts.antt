-- The text of an operand says which operand it is.
use Rattle.std.proofs.Common.{◌≡◌, ℕ, zero, suc, ◌+◌, ◌<◌, true, false, List, [], ◌∷◌, ◌++◌, length, refl, sym, ap, subst, ◌∙◌, arith, append_assoc}
use Rattle.std.specs.Prelude.{◌==◌, ◌&&◌, not, codes, if◌then◌else◌}
use Rattle.std.specs.List.{list_all}
use Rattle.std.proofs.lemmas.Bool.{and_parts, and_from}
use Rattle.std.proofs.lemmas.Bool.Decides.{nat_tests}
use Rattle.std.proofs.lemmas.List.{append-nil}
use Rattle.std.proofs.lemmas.List.Folds.{list_all-append}
use Rattle.pdp_word.specs.Number.{is_digit}
use Rattle.pdp_decode.specs.Fields.{RegisterFits, specifier_of}
use Rattle.pdp_decode.specs.Format.{digits_of}
use Rattle.pdp_decode.specs.declared.instruction.Specifier.{Specifier}
use Rattle.pdp_decode.specs.declared.instruction.Specifier.TheVariants as specifier
use Rattle.pdp_disassembler.specs.Operands.{takes_word}
use Rattle.pdp_disassembler.specs.Text.{octal_text, operand_text, register_name, relative_target}
use Rattle.pdp_disassembler.specs.Reading.{form_read, is_mark, is_no_comma, number_form, operand_read, word_back}
use Rattle.pdp_disassembler.proofs.Cutting.{stops, front-append, beyond-append}
use Rattle.pdp_disassembler.proofs.OctalTexts.{octal_is}

-- a text is read as this operand, and has no comma
pub record SaysOperand (address : ℕ) (text : List ℕ) (code : ℕ) (words : List ℕ) : Type 0 where
  pub read : operand_read address text ≡ (code, words)
  pub plain : list_all is_no_comma text ≡ true

digit_is_no_mark : (first digit : ℕ) → first ≡ 48 + digit → digit < 8 → not (is_mark first) ≡ true
digit_is_no_mark first digit e l = grind (arith, nat_tests)

digit_is_no_comma : (byte : ℕ) → is_digit 8 byte ≡ true → is_no_comma byte ≡ true
digit_is_no_comma byte h = grind (arith, nat_tests)

digits_are_plain : (bytes : List ℕ) → list_all (is_digit 8) bytes ≡ true → list_all is_no_comma bytes ≡ true
digits_are_plain [] h = refl
digits_are_plain (byte ∷ bytes) h =
    let parts = and_parts (is_digit 8 byte) (list_all (is_digit 8) bytes) h in
    and_from _ _ (digit_is_no_comma byte parts.0) (digits_are_plain bytes parts.1)

some_digit : (first : ℕ) (others : List ℕ) → (length (first ∷ others) == 0) ≡ false
some_digit first others = grind (arith, nat_tests)

abbrev SaysNumber : ℕ → List ℕ → List ℕ → List ℕ → ℕ → Type 0
SaysNumber address text mark ending value =
    SaysOperand address text (number_form address mark ending value).0 (number_form address mark ending value).1

module _ (address value : ℕ) (fits : value < 0o200000) where
  number_says : (mark ending : List ℕ) → list_all is_mark mark ≡ true → list_all is_no_comma mark ≡ true
      → stops (is_digit 8) ending ≡ true → list_all is_no_comma ending ≡ true
      → SaysNumber address (mark ++ (octal_text value ++ ending)) mark ending value
  unfolding operand_read
  number_says mark ending marks plain_mark stop plain_ending =
      let o = octal_is value fits in
      let all : list_all (is_digit 8) (octal_text value) ≡ true = rw o.shown o.all in
      let no_mark : stops is_mark (octal_text value ++ ending) ≡ true =
      rw o.shown (digit_is_no_mark o.first o.digit o.shows o.small) in
      let marked = front-append is_mark mark (octal_text value ++ ending) marks no_mark in
      let unmarked = beyond-append is_mark mark (octal_text value ++ ending) marks no_mark in
      let digits = front-append (is_digit 8) (octal_text value) ending all stop in
      let ends = beyond-append (is_digit 8) (octal_text value) ending all stop in
      let some = some_digit o.first o.others in
      let formed : form_read address mark (octal_text value) ending ≡ number_form address mark ending value =
      rw (o.shown, o.value, some) refl in
      let plain_number : list_all is_no_comma (octal_text value ++ ending) ≡ true =
      rw list_all-append (and_from _ _ (digits_are_plain (octal_text value) all) plain_ending) in
      record {
        read = rw (marked, unmarked, digits, ends) formed;
        plain = rw list_all-append (and_from _ _ plain_mark plain_number);
      }

  -- a number with marks alone
  bare_says : (mark : List ℕ) → list_all is_mark mark ≡ true → list_all is_no_comma mark ≡ true
      → SaysNumber address (mark ++ octal_text value) mark [] value
  bare_says mark marks plain_mark =
      let P : List ℕ → Type 0 = λ text. SaysNumber address (mark ++ text) mark [] value in
      subst P (append-nil (octal_text value)) (number_says mark [] marks plain_mark refl refl)

  -- an index, and the name of a register
  index_says : (mark : List ℕ) (first second : ℕ) → list_all is_mark mark ≡ true → list_all is_no_comma mark ≡ true
      → list_all is_no_comma (first ∷ second ∷ []) ≡ true
      → SaysNumber address (mark ++ (octal_text value ++ codes "(" ++ (first ∷ second ∷ []) ++ codes ")"))
      mark (40 ∷ first ∷ second ∷ 41 ∷ []) value
  index_says mark first second marks plain_mark plain_name =
      let name : List ℕ = first ∷ second ∷ [] in
      let P : List ℕ → Type 0 = λ text. SaysNumber address (mark ++ text) mark (40 ∷ first ∷ second ∷ 41 ∷ []) value in
      let grouped : octal_text value ++ codes "(" ++ name ++ codes ")" ≡ octal_text value ++ (40 ∷ first ∷ second ∷ 41 ∷ []) =
      ap (λ text. text ++ codes ")") (append_assoc (octal_text value) (codes "(") name)
      ∙ append_assoc (octal_text value) (codes "(" ++ name) (codes ")") in
      let parts = and_parts (is_no_comma first) (is_no_comma second && true) plain_name in
      let plain_ending : list_all is_no_comma (40 ∷ first ∷ second ∷ 41 ∷ []) ≡ true =
      and_from _ _ parts.0 (and_from _ _ (and_parts (is_no_comma second) true parts.1).0 refl) in
      subst P (sym grouped) (number_says mark (40 ∷ first ∷ second ∷ 41 ∷ []) marks plain_mark refl plain_ending)

relative_back : (address word : ℕ) → word < 0o200000 → word_back address (relative_target address word) ≡ word
relative_back address word fits = omega arith

relative_fits : (address word : ℕ) → relative_target address word < 0o200000
relative_fits address word = omega arith

-- a number below eight, case by case
pub below_eight : (P : ℕ → Type 0) → P 0 → P 1 → P 2 → P 3 → P 4 → P 5 → P 6 → P 7 → (n : ℕ) → n < 8 → P n
below_eight P a b c d e f g h zero l = a
below_eight P a b c d e f g h (suc zero) l = b
below_eight P a b c d e f g h (suc (suc zero)) l = c
below_eight P a b c d e f g h (suc (suc (suc zero))) l = d
below_eight P a b c d e f g h (suc (suc (suc (suc zero)))) l = e
below_eight P a b c d e f g h (suc (suc (suc (suc (suc zero))))) l = f
below_eight P a b c d e f g h (suc (suc (suc (suc (suc (suc zero)))))) l = g
below_eight P a b c d e f g h (suc (suc (suc (suc (suc (suc (suc zero))))))) l = h
below_eight P a b c d e f g h (suc (suc (suc (suc (suc (suc (suc (suc n)))))))) l = absurd (omega arith)

-- an operand's word, if it has one
abbrev pub own_words : Specifier → ℕ → List ℕ
own_words operand word = if takes_word operand then word ∷ [] else []

abbrev Says : ℕ → ℕ → Specifier → Type 0
Says address word operand =
    SaysOperand address (operand_text address word operand) (digits_of operand) (own_words operand word)

module _ (address word : ℕ) (fits : word < 0o200000) where
  abbrev At : ℕ → ℕ → Type 0
  At mode reg = Says address word (specifier_of mode reg)

  mode_0 : (reg : ℕ) → reg < 8 → At 0 reg
  unfolding operand_text register_name operand_read
  mode_0 = below_eight (At 0)
      (record { read = refl; plain = refl })
      (record { read = refl; plain = refl })
      (record { read = refl; plain = refl })
      (record { read = refl; plain = refl })
      (record { read = refl; plain = refl })
      (record { read = refl; plain = refl })
      (record { read = refl; plain = refl })
      (record { read = refl; plain = refl })

  mode_1 : (reg : ℕ) → reg < 8 → At 1 reg
  unfolding operand_text register_name operand_read
  mode_1 = below_eight (At 1)
      (record { read = refl; plain = refl })
      (record { read = refl; plain = refl })
      (record { read = refl; plain = refl })
      (record { read = refl; plain = refl })
      (record { read = refl; plain = refl })
      (record { read = refl; plain = refl })
      (record { read = refl; plain = refl })
      (record { read = refl; plain = refl })

  mode_2 : (reg : ℕ) → reg < 8 → At 2 reg
  unfolding operand_text register_name operand_read
  mode_2 = below_eight (At 2)
      (record { read = refl; plain = refl })
      (record { read = refl; plain = refl })
      (record { read = refl; plain = refl })
      (record { read = refl; plain = refl })
      (record { read = refl; plain = refl })
      (record { read = refl; plain = refl })
      (record { read = refl; plain = refl })
      (bare_says address word fits (codes "#") refl refl)

  mode_3 : (reg : ℕ) → reg < 8 → At 3 reg
  unfolding operand_text register_name operand_read
  mode_3 = below_eight (At 3)
      (record { read = refl; plain = refl })
      (record { read = refl; plain = refl })
      (record { read = refl; plain = refl })
      (record { read = refl; plain = refl })
      (record { read = refl; plain = refl })
      (record { read = refl; plain = refl })
      (record { read = refl; plain = refl })
      (bare_says address word fits (codes "@#") refl refl)

  mode_4 : (reg : ℕ) → reg < 8 → At 4 reg
  unfolding operand_text register_name operand_read
  mode_4 = below_eight (At 4)
      (record { read = refl; plain = refl })
      (record { read = refl; plain = refl })
      (record { read = refl; plain = refl })
      (record { read = refl; plain = refl })
      (record { read = refl; plain = refl })
      (record { read = refl; plain = refl })
      (record { read = refl; plain = refl })
      (record { read = refl; plain = refl })

  mode_5 : (reg : ℕ) → reg < 8 → At 5 reg
  unfolding operand_text register_name operand_read
  mode_5 = below_eight (At 5)
      (record { read = refl; plain = refl })
      (record { read = refl; plain = refl })
      (record { read = refl; plain = refl })
      (record { read = refl; plain = refl })
      (record { read = refl; plain = refl })
      (record { read = refl; plain = refl })
      (record { read = refl; plain = refl })
      (record { read = refl; plain = refl })

  mode_6 : (reg : ℕ) → reg < 8 → At 6 reg
  unfolding operand_text register_name operand_read
  mode_6 = below_eight (At 6)
      (index_says address word fits [] 82 48 refl refl refl)
      (index_says address word fits [] 82 49 refl refl refl)
      (index_says address word fits [] 82 50 refl refl refl)
      (index_says address word fits [] 82 51 refl refl refl)
      (index_says address word fits [] 82 52 refl refl refl)
      (index_says address word fits [] 82 53 refl refl refl)
      (index_says address word fits [] 83 80 refl refl refl)
      (let P : ℕ → Type 0 = λ back. SaysOperand address ([] ++ octal_text (relative_target address word)) 0o67 (back ∷ []) in
      subst P (relative_back address word fits) (bare_says address (relative_target address word) (relative_fits address word) [] refl refl))

  mode_7 : (reg : ℕ) → reg < 8 → At 7 reg
  unfolding operand_text register_name operand_read
  mode_7 = below_eight (At 7)
      (index_says address word fits (codes "@") 82 48 refl refl refl)
      (index_says address word fits (codes "@") 82 49 refl refl refl)
      (index_says address word fits (codes "@") 82 50 refl refl refl)
      (index_says address word fits (codes "@") 82 51 refl refl refl)
      (index_says address word fits (codes "@") 82 52 refl refl refl)
      (index_says address word fits (codes "@") 82 53 refl refl refl)
      (index_says address word fits (codes "@") 83 80 refl refl refl)
      (let P : ℕ → Type 0 = λ back. SaysOperand address (codes "@" ++ octal_text (relative_target address word)) 0o77 (back ∷ []) in
      subst P (relative_back address word fits) (bare_says address (relative_target address word) (relative_fits address word) (codes "@") refl refl))

  pub operand_says : (operand : Specifier) → RegisterFits operand → Says address word operand
  operand_says (specifier.Register r) is = mode_0 r is
  operand_says (specifier.Deferred r) is = mode_1 r is
  operand_says (specifier.Autoincrement r) is = mode_2 r is
  operand_says (specifier.AutoincrementDeferred r) is = mode_3 r is
  operand_says (specifier.Autodecrement r) is = mode_4 r is
  operand_says (specifier.AutodecrementDeferred r) is = mode_5 r is
  operand_says (specifier.Index r) is = mode_6 r is
  operand_says (specifier.IndexDeferred r) is = mode_7 r is
