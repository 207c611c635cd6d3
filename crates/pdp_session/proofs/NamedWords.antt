-- Names and words as they are written one after another.
use Rattle.std.proofs.Common.{◌≡◌, ℕ, zero, suc, ◌+◌, ◌<◌, List, [], ◌∷◌, ◌++◌, length, take, get_or, slice_get, Some, sym, ap, ◌∙◌, append_assoc, append-nil, add-one, arith}
use Rattle.pdp_session.specs.Reply.{named_word_text, named_word_texts}

named_word_texts_suc : (names : List (List ℕ)) (words name : List ℕ) (i : ℕ) → slice_get names i ≡ Some name → i < length words
    → named_word_texts (take (suc i) names) (take (suc i) words) ≡ named_word_texts (take i names) (take i words) ++ named_word_text name (get_or words i 0)
named_word_texts_suc [] words name i is below = absurd (cc)
named_word_texts_suc (n ∷ names) [] name i is below = absurd (omega arith)
named_word_texts_suc (n ∷ names) (w ∷ ws) name zero is below =
    let same : n ≡ name = cc in
    rw same (append-nil (named_word_text name w))
named_word_texts_suc (n ∷ names) (w ∷ ws) name (suc i) is below =
    ap (λ texts. named_word_text n w ++ texts) (named_word_texts_suc names ws name i is (omega arith))
    ∙ sym (append_assoc (named_word_text n w) (named_word_texts (take i names) (take i ws)) (named_word_text name (get_or ws i 0)))

-- a text with the names and words up to one, and then with that one
pub one_more_named_word : (names : List (List ℕ)) (words name text front : List ℕ) (i : ℕ) → slice_get names i ≡ Some name → i < length words
    → text ≡ front ++ named_word_texts (take i names) (take i words)
    → text ++ named_word_text name (get_or words i 0) ≡ front ++ named_word_texts (take (i + 1) names) (take (i + 1) words)
one_more_named_word names words name text front i is below before =
    ap (λ all. all ++ named_word_text name (get_or words i 0)) before
    ∙ append_assoc front (named_word_texts (take i names) (take i words)) (named_word_text name (get_or words i 0))
    ∙ rw add-one (ap (λ texts. front ++ texts) (sym (named_word_texts_suc names words name i is below)))
