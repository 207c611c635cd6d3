-- Words as they are written one after another, and in a line after a name.
use Rattle.std.proofs.Common.{◌≡◌, ℕ, zero, suc, ◌+◌, ◌<◌, ◌≤◌, List, [], ◌∷◌, ◌++◌, length, take, drop, get_or, codes, Result, Ok, Err, refl, sym, ap, ◌∙◌, append_assoc, append-nil, add-one, subst, arith}
use Rattle.std.proofs.lemmas.List.{take_all}
use Rattle.pdp_session.specs.Reply.{word_text, word_texts, words_line}
use Rattle.pdp_session.specs.Streams.{DrainData}
use Rattle.pdp_session.specs.Inside.Sends.{Sent, Cut, Sends}
use Rattle.pdp_session.proofs.Pieces.{sent_then, cut_first, cut_last, cut_later}

word_texts_suc : (words : List ℕ) (i : ℕ) → i < length words
    → word_texts (take (suc i) words) ≡ word_texts (take i words) ++ word_text (get_or words i 0)
word_texts_suc [] i below = absurd (omega arith)
word_texts_suc (w ∷ ws) zero below = append-nil (word_text w)
word_texts_suc (w ∷ ws) (suc i) below =
    ap (λ texts. word_text w ++ texts) (word_texts_suc ws i (omega arith))
    ∙ sym (append_assoc (word_text w) (word_texts (take i ws)) (word_text (get_or ws i 0)))

-- a text with the words up to one, and then with that one
pub one_more_word : (words text front : List ℕ) (i : ℕ) → i < length words → text ≡ front ++ word_texts (take i words)
    → text ++ word_text (get_or words i 0) ≡ front ++ word_texts (take (i + 1) words)
one_more_word words text front i below before =
    ap (λ all. all ++ word_text (get_or words i 0)) before
    ∙ append_assoc front (word_texts (take i words)) (word_text (get_or words i 0))
    ∙ rw add-one (ap (λ texts. front ++ texts) (sym (word_texts_suc words i below)))

-- the words up to one, that one, and the others
word_texts_split : (words : List ℕ) (i : ℕ) → i < length words
    → word_texts words ≡ word_texts (take i words) ++ (word_text (get_or words i 0) ++ word_texts (drop (suc i) words))
word_texts_split [] i below = absurd (omega arith)
word_texts_split (w ∷ ws) zero below = refl
word_texts_split (w ∷ ws) (suc i) below =
    ap (λ texts. word_text w ++ texts) (word_texts_split ws i (omega arith))
    ∙ sym (append_assoc (word_text w) (word_texts (take i ws)) (word_text (get_or ws i 0) ++ word_texts (drop (suc i) ws)))

-- the name and i words were written
abbrev pub AreWordsTo : List ℕ → List ℕ → ℕ → DrainData → DrainData → Type 0
AreWordsTo name words i output output_after = Sent (name ++ word_texts (take i words)) output output_after

-- the writer failed in the name
pub words_cut_at_name : (name words : List ℕ) (output output_after : DrainData)
    → Cut name output output_after → Cut (words_line name words) output output_after
unfolding words_line
words_cut_at_name name words output output_after cut =
    cut_first (name ++ word_texts words) (codes "\n") output output_after
    (cut_first (name) (word_texts words) output output_after cut)

-- or in a word
pub words_cut_at_word : (name words : List ℕ) (i : ℕ) (output between output_after : DrainData) → i < length words
    → AreWordsTo name words i output between → Cut (word_text (get_or words i 0)) between output_after → Cut (words_line name words) output output_after
unfolding words_line
words_cut_at_word name words i output between output_after below before cut =
    let front = name ++ word_texts (take i words) in
    let text = word_text (get_or words i 0) in
    let others = word_texts (drop (suc i) words) in
    let whole : name ++ word_texts words ++ codes "\n" ≡ front ++ (text ++ (others ++ codes "\n")) =
    ap (λ texts. name ++ texts ++ codes "\n") (word_texts_split words i below)
    ∙ ap (λ texts. texts ++ codes "\n") (sym (append_assoc (name) (word_texts (take i words)) (text ++ others)))
    ∙ append_assoc front (text ++ others) (codes "\n")
    ∙ ap (λ texts. front ++ texts) (append_assoc text others (codes "\n")) in
    subst (λ all. Cut all output output_after) (sym whole)
    (cut_later front text (others ++ codes "\n") output between output_after before cut)

-- or one more word was written
pub words_goes_on : (name words : List ℕ) (i : ℕ) (output between output_after : DrainData) → i < length words
    → AreWordsTo name words i output between → Sent (word_text (get_or words i 0)) between output_after → AreWordsTo name words (i + 1) output output_after
words_goes_on name words i output between output_after below before word =
    let front = name ++ word_texts (take i words) in
    let text = word_text (get_or words i 0) in
    let whole : front ++ text ≡ name ++ word_texts (take (i + 1) words) =
    append_assoc (name) (word_texts (take i words)) text
    ∙ rw add-one (ap (λ texts. name ++ texts) (sym (word_texts_suc words i below))) in
    subst (λ all. Sent all output output_after) whole (sent_then front text output between output_after before word)

-- after all words the line ends, or the writer fails there
pub words_ends : {T E : Type 0} (name words : List ℕ) (i : ℕ) (output between output_after : DrainData) (result : Result T E) → length words ≤ i
    → AreWordsTo name words i output between → Sends (codes "\n") between output_after result → Sends (words_line name words) output output_after result
unfolding words_line
words_ends name words i output between output_after (Ok x) all before sent =
    let front : Sent (name ++ word_texts words) output between = rw (take_all i words all) at before in
    sent_then (name ++ word_texts words) (codes "\n") output between output_after front sent
words_ends name words i output between output_after (Err e) all before sent =
    let front : Sent (name ++ word_texts words) output between = rw (take_all i words all) at before in
    cut_last (name ++ word_texts words) (codes "\n") output between output_after front sent
