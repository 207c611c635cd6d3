-- Bytes as they are written one after another.
use Rattle.std.proofs.Common.{◌≡◌, ℕ, zero, suc, ◌+◌, ◌<◌, List, [], ◌∷◌, ◌++◌, length, take, drop, get_or, codes, Result, Ok, Err, refl, sym, ap, ◌∙◌, append_assoc, append-nil, take-append-drop, add-one, subst, arith}
use Rattle.pdp_session.specs.Reply.{byte_text, byte_texts, bytes_head, bytes_line}
use Rattle.pdp_session.specs.Streams.{DrainData}
use Rattle.pdp_session.specs.Inside.Sends.{Sent, Cut, Sends}
use Rattle.pdp_session.proofs.Pieces.{sent_then, cut_first, cut_last, cut_later}

pub no_byte_texts : [] ≡ byte_texts []
unfolding byte_texts
no_byte_texts = refl

byte_texts_suc : (bytes : List ℕ) (i : ℕ) → i < length bytes
    → byte_texts (take (suc i) bytes) ≡ byte_texts (take i bytes) ++ byte_text (get_or bytes i 0)
unfolding byte_texts
byte_texts_suc [] i below = absurd (omega arith)
byte_texts_suc (b ∷ bs) zero below = append-nil (byte_text b)
byte_texts_suc (b ∷ bs) (suc i) below =
    ap (λ texts. byte_text b ++ texts) (byte_texts_suc bs i (omega arith))
    ∙ sym (append_assoc (byte_text b) (byte_texts (take i bs)) (byte_text (get_or bs i 0)))

pub one_more_text : (bytes text : List ℕ) (i : ℕ) → i < length bytes → text ≡ byte_texts (take i bytes)
    → text ++ byte_text (get_or bytes i 0) ≡ byte_texts (take (i + 1) bytes)
one_more_text bytes text i below before =
    ap (λ front. front ++ byte_text (get_or bytes i 0)) before ∙ rw add-one (sym (byte_texts_suc bytes i below))

byte_texts-append : (xs ys : List ℕ) → byte_texts (xs ++ ys) ≡ byte_texts xs ++ byte_texts ys
unfolding byte_texts
byte_texts-append [] ys = refl
byte_texts-append (x ∷ xs) ys =
    ap (λ texts. byte_text x ++ texts) (byte_texts-append xs ys) ∙ sym (append_assoc (byte_text x) (byte_texts xs) (byte_texts ys))

-- the bytes before the rest, some of the rest, and the others
pub bytes_parted : (bytes front rest others : List ℕ) (n : ℕ) → bytes ≡ front ++ rest → others ≡ drop n rest → bytes ≡ front ++ (take n rest ++ others)
bytes_parted bytes front rest others n split left =
    split ∙ ap (λ back. front ++ back) (sym (take-append-drop n rest) ∙ ap (λ back. take n rest ++ back) (sym left))

-- the name, the count and the bytes of this front were written
abbrev pub IsShownTo : List ℕ → List ℕ → List ℕ → DrainData → DrainData → Type 0
IsShownTo name bytes front output output_after = Sent (bytes_head name (length bytes) ++ byte_texts front) output output_after

pub shown_head : (name bytes : List ℕ) (output output_after : DrainData)
    → Sent (bytes_head name (length bytes)) output output_after → IsShownTo name bytes [] output output_after
unfolding byte_texts
shown_head name bytes output output_after head = subst (λ all. Sent all output output_after) (sym (append-nil (bytes_head name (length bytes)))) head

-- the writer failed before the bytes
pub bytes_cut_at_head : (name bytes : List ℕ) (output output_after : DrainData)
    → Cut (bytes_head name (length bytes)) output output_after → Cut (bytes_line name bytes) output output_after
unfolding bytes_line
bytes_cut_at_head name bytes output output_after cut =
    cut_first (bytes_head name (length bytes) ++ byte_texts bytes) (codes "\n") output output_after
    (cut_first (bytes_head name (length bytes)) (byte_texts bytes) output output_after cut)

-- or in some of them
pub bytes_cut_within : (name bytes front some others : List ℕ) (output between output_after : DrainData) → bytes ≡ front ++ (some ++ others)
    → IsShownTo name bytes front output between → Cut (byte_texts some) between output_after → Cut (bytes_line name bytes) output output_after
unfolding bytes_line
bytes_cut_within name bytes front some others output between output_after split before cut =
    let head = bytes_head name (length bytes) in
    let texts : byte_texts bytes ≡ byte_texts front ++ (byte_texts some ++ byte_texts others) =
    ap byte_texts split ∙ byte_texts-append front (some ++ others) ∙ ap (λ back. byte_texts front ++ back) (byte_texts-append some others) in
    let whole : (head ++ byte_texts bytes) ++ codes "\n" ≡ (head ++ byte_texts front) ++ (byte_texts some ++ (byte_texts others ++ codes "\n")) =
    ap (λ all. (head ++ all) ++ codes "\n") texts
    ∙ ap (λ all. all ++ codes "\n") (sym (append_assoc head (byte_texts front) (byte_texts some ++ byte_texts others)))
    ∙ append_assoc (head ++ byte_texts front) (byte_texts some ++ byte_texts others) (codes "\n")
    ∙ ap (λ all. (head ++ byte_texts front) ++ all) (append_assoc (byte_texts some) (byte_texts others) (codes "\n")) in
    subst (λ all. Cut all output output_after) (sym whole)
    (cut_later (head ++ byte_texts front) (byte_texts some) (byte_texts others ++ codes "\n") output between output_after before cut)

-- or they were written
pub bytes_go_on : (name bytes front some : List ℕ) (output between output_after : DrainData)
    → IsShownTo name bytes front output between → Sent (byte_texts some) between output_after → IsShownTo name bytes (front ++ some) output output_after
bytes_go_on name bytes front some output between output_after before more =
    let head = bytes_head name (length bytes) in
    let whole : (head ++ byte_texts front) ++ byte_texts some ≡ head ++ byte_texts (front ++ some) =
    append_assoc head (byte_texts front) (byte_texts some) ∙ ap (λ texts. head ++ texts) (sym (byte_texts-append front some)) in
    subst (λ all. Sent all output output_after) whole (sent_then (head ++ byte_texts front) (byte_texts some) output between output_after before more)

-- after all bytes the line ends, or the writer fails there
pub bytes_end : {T E : Type 0} (name bytes front rest : List ℕ) (output between output_after : DrainData) (result : Result T E)
    → bytes ≡ front ++ rest → length rest ≡ 0 → IsShownTo name bytes front output between → Sends (codes "\n") between output_after result
    → Sends (bytes_line name bytes) output output_after result
unfolding bytes_line
bytes_end name bytes front (b ∷ bs) output between output_after result split none before sent = absurd (omega arith)
bytes_end name bytes front [] output between output_after result split none before sent =
    let all : bytes ≡ front = split ∙ append-nil front in
    by_result result (subst (λ shown. IsShownTo name bytes shown output between) (sym all) before) sent
  where
    by_result : {T E : Type 0} (r : Result T E) → IsShownTo name bytes bytes output between → Sends (codes "\n") between output_after r → Sends (bytes_line name bytes) output output_after r
    by_result (Ok x) shown sent =
        sent_then (bytes_head name (length bytes) ++ byte_texts bytes) (codes "\n") output between output_after shown sent
    by_result (Err e) shown sent =
        cut_last (bytes_head name (length bytes) ++ byte_texts bytes) (codes "\n") output between output_after shown sent
