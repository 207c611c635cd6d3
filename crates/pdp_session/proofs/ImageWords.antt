-- What byteorder reads from an image is the image's words.
use Rattle.std.proofs.Common.{◌≡◌, ℕ, suc, ◌+◌, ◌*◌, ◌/◌, ◌%◌, false, List, [], ◌∷◌, ◌++◌, length, take, drop, Ok, refl, ap, ◌∙◌, arith, eq-eqb}
use Rattle.std.proofs.lemmas.List.{take_all, take-append-le}
use Rattle.byteorder.specs.Endian.{IsRead, little_number}
use Rattle.pdp_script.specs.Refusal.{question_answer}
use Rattle.pdp_session.specs.Image.{image_read, image_words}

words_are_read : (bytes words : List ℕ) → length bytes ≡ 2 * length words → IsRead little_number 2 bytes words → words ≡ image_words bytes
unfolding image_words
words_are_read [] [] same read = refl
words_are_read [] (w ∷ ws) same read = absurd (omega arith)
words_are_read (low ∷ []) [] same read = absurd (omega arith)
words_are_read (low ∷ []) (w ∷ ws) same read = absurd (omega arith)
words_are_read (low ∷ high ∷ bytes) [] same read = absurd (omega arith)
words_are_read (low ∷ high ∷ bytes) (w ∷ ws) same read =
    let first : w ≡ low + 256 * high = read 0 (omega arith) ∙ omega arith in
    let later : (k : ℕ) → 2 * suc k ≡ suc (suc (2 * k)) = λ k. omega arith in
    let others : ws ≡ image_words bytes = words_are_read bytes ws (omega arith)
    (λ k less. read (suc k) (omega arith) ∙ ap (λ n. little_number 2 (drop n (low ∷ high ∷ bytes))) (later k)) in
    ap (λ word. word ∷ ws) first ∙ ap (λ words. (low + 256 * high) ∷ words) others

-- the words that were read into a vector of as many
pub image_is_read : (bytes words items : List ℕ) (count : ℕ) → length bytes % 2 ≡ 0 → count ≡ length bytes / 2 → length items ≡ count → length words ≡ length items
    → IsRead little_number 2 bytes words → Ok (take count (words ++ drop (length words) items)) ≡ question_answer (image_read bytes) false
unfolding image_read
image_is_read bytes words items count even half all same read =
    let whole : take count (words ++ drop (length words) items) ≡ words =
    take-append-le count words (drop (length words) items) (omega arith) ∙ take_all count words (omega arith) in
    let of_bytes : length bytes ≡ 2 * length words = omega arith in
    rw (eq-eqb (length bytes % 2) 0 even) (ap Ok (whole ∙ words_are_read bytes words of_bytes read))
