-- The words of a text, from its front.
use Rattle.std.proofs.Common.{◌≡◌, ℕ, ◌+◌, ◌<◌, Bool, true, false, cond, not, ltb, List, [], ◌∷◌, length, take, drop, IfSome, refl, sym, ap, ◌∙◌, arith, one-add}
use Rattle.std.specs.List.{slice_split, onto_first, filter, position_or_len, slice_get}
use Rattle.std.proofs.lemmas.List.Splits.{slice_split-cons_yes}
use Rattle.std.proofs.lemmas.Bool.{lt-ltb}
use Rattle.std.proofs.lemmas.List.Sums.{prefix_len-le-length}
use Rattle.pdp_session.specs.Grammar.Words.{is_blank, words_of_line}

-- a blank in front changes nothing
pub words_of-blank : (byte : ℕ) (bytes : List ℕ) → is_blank byte ≡ true → words_of_line (byte ∷ bytes) ≡ words_of_line bytes
unfolding words_of_line
words_of-blank byte bytes blank = ap (filter (λ word. ltb 0 (length word))) (slice_split-cons_yes is_blank byte bytes blank)

abbrev end : List ℕ → ℕ
end text = position_or_len is_blank text

-- the pieces after the first
abbrev later : List ℕ → List (List ℕ)
later [] = []
later (byte ∷ bytes) = slice_split is_blank bytes

first_piece_at : (byte : ℕ) (bytes : List ℕ) (blank : Bool) → slice_split is_blank bytes ≡ take (end bytes) bytes ∷ later (drop (end bytes) bytes)
    → cond blank ([] ∷ slice_split is_blank bytes) (onto_first byte (slice_split is_blank bytes))
    ≡ take (cond (not blank) (1 + end bytes) 0) (byte ∷ bytes) ∷ later (drop (cond (not blank) (1 + end bytes) 0) (byte ∷ bytes))
first_piece_at byte bytes true e = refl
first_piece_at byte bytes false e = rw (one-add (end bytes), e) refl

first_piece : (text : List ℕ) → slice_split is_blank text ≡ take (end text) text ∷ later (drop (end text) text)
first_piece [] = refl
first_piece (byte ∷ bytes) = first_piece_at byte bytes (is_blank byte) (first_piece bytes)

later_words_at : (byte : ℕ) (bytes : List ℕ) (blank : Bool) → is_blank byte ≡ blank
    → words_of_line (drop (end bytes) bytes) ≡ filter (λ word. ltb 0 (length word)) (later (drop (end bytes) bytes))
    → words_of_line (drop (cond (not blank) (1 + end bytes) 0) (byte ∷ bytes)) ≡ filter (λ word. ltb 0 (length word)) (later (drop (cond (not blank) (1 + end bytes) 0) (byte ∷ bytes)))
unfolding words_of_line
later_words_at byte bytes true is e = words_of-blank byte bytes is
later_words_at byte bytes false is e = rw (one-add (end bytes)) e

later_words : (text : List ℕ) → words_of_line (drop (end text) text) ≡ filter (λ word. ltb 0 (length word)) (later (drop (end text) text))
unfolding words_of_line
later_words [] = refl
later_words (byte ∷ bytes) = later_words_at byte bytes (is_blank byte) refl (later_words bytes)

has_bytes : (text : List ℕ) → IfSome (slice_get text 0) (λ byte. is_blank byte ≡ false) → 0 < length text → ltb 0 (length (take (end text) text)) ≡ true
has_bytes [] first some = absurd (omega arith)
has_bytes (byte ∷ bytes) first some = rw (first, one-add (end bytes)) (lt-ltb 0 _ (omega arith))

-- a text that begins with a word is that word, and then the words of the rest
pub words_of-first : (text : List ℕ) → IfSome (slice_get text 0) (λ byte. is_blank byte ≡ false) → 0 < length text
    → words_of_line text ≡ take (position_or_len is_blank text) text ∷ words_of_line (drop (position_or_len is_blank text) text)
unfolding words_of_line
words_of-first text first some =
    ap (filter (λ word. ltb 0 (length word))) (first_piece text) ∙ rw (has_bytes text first some) (ap (λ words. take (end text) text ∷ words) (sym (later_words text)))

-- such a text's first word has a byte
pub first_word_has_bytes : (text : List ℕ) → IfSome (slice_get text 0) (λ byte. is_blank byte ≡ false) → 0 < length text → 0 < position_or_len is_blank text
first_word_has_bytes [] first some = absurd (omega arith)
first_word_has_bytes (byte ∷ bytes) first some = rw (first, one-add (end bytes)) (omega arith)

pub words_of-nil : (text : List ℕ) → length text ≡ 0 → words_of_line text ≡ []
unfolding words_of_line
words_of-nil [] empty = refl
words_of-nil (byte ∷ bytes) empty = absurd (omega arith)

pub ruleset words = (words_of-blank, words_of-first, words_of-nil, prefix_len-le-length)
