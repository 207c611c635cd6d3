-- Lists of words as they are filled.
use Rattle.std.proofs.Common.{◌≡◌, ℕ, suc, zero, ◌+◌, ◌<◌, ◌≤◌, List, [], ◌∷◌, ◌++◌, Bool, length, take, drop, get_or, refl, sym, ◌∙◌, ap, replicate, slice_set, add-one, None, Option, Some, is_some, true, Result, Ok, Err, IsOk, false}
use Rattle.std.proofs.Math.Seq.{take-suc}
use Rattle.std.proofs.lemmas.List.{length-map, get_or-map, length-drop, get_or-drop}
use Rattle.std.specs.Prelude.{slice_index}
use Rattle.std.proofs.Common.{arith}
use Rattle.pdp_cpu.specs.KeptTexts.{without_turns}
use Rattle.pdp_cpu.specs.declared.kept_text.KeptByte.{KeptByte}

-- one more word of an image over a list
filled : (image words : List ℕ) (i : ℕ) → i < length image → length image ≤ length words
    → slice_set (take i image ++ drop i words) i (get_or image i 0) ≡ take (suc i) image ++ drop (suc i) words
filled [] words i below within = absurd (omega arith)
filled (x ∷ image) [] i below within = absurd (omega arith)
filled (x ∷ image) (w ∷ words) zero below within = refl
filled (x ∷ image) (w ∷ words) (suc i) below within = ap (λ xs. x ∷ xs) (filled image words i (omega arith) (omega arith))

pub filled_one_more : (image words : List ℕ) (i : ℕ) → i < length image → length image ≤ length words
    → slice_set (take i image ++ drop i words) i (get_or image i 0) ≡ take (i + 1) image ++ drop (i + 1) words
filled_one_more image words i below within = rw add-one (filled image words i below within)

-- a word without a stamp gets none
pub blank_stays : {X : Type 0} (n i : ℕ) (x : X) → slice_set (replicate n x) i x ≡ replicate n x
blank_stays zero i x = refl
blank_stays (suc n) zero x = refl
blank_stays (suc n) (suc i) x = ap (λ xs. x ∷ xs) (blank_stays n i x)

-- one more word of a range
pub words_one_more : (words : List ℕ) (first i : ℕ) → first + i < length words
    → take i (drop first words) ++ slice_index words (first + i) ∷ [] ≡ take (i + 1) (drop first words)
words_one_more words first i below =
    let within : i < length (drop first words) = rw length-drop (omega arith) in
    sym (rw add-one (take-suc (drop first words) i 0 within) ∙ ap (λ word. take i (drop first words) ++ word ∷ []) (get_or-drop first words i 0))

-- one more byte of a text without its turns
pub bytes_one_more : (kept : List KeptByte) (i : ℕ) (d : KeptByte) → i < length kept
    → take i (without_turns kept) ++ (get_or kept i d).byte ∷ [] ≡ take (i + 1) (without_turns kept)
bytes_one_more kept i d below =
    sym (rw add-one (take-suc (without_turns kept) i 0 (rw length-map below)
    ∙ ap (λ byte. take i (without_turns kept) ++ byte ∷ []) (get_or-map (λ b. b.byte) kept i d 0 below)))

-- nothing that isn't there was found
pub not_there : {X : Type 0} {Y : Type 0} (found : Option X) → found ≡ None → is_some found ≡ true → Y
not_there None none there = absurd cc
not_there (Some x) none there = absurd cc

-- and what was found isn't missing
pub is_there : {Y : Type 0} (found : Bool) → found ≡ true → found ≡ false → Y
is_there true there missing = absurd cc
is_there false there missing = absurd cc

-- no success is a refusal
pub ok_is_no_err : {T E Y : Type 0} (r : Result T E) (e : E) → r ≡ Err e → IsOk r → Y
ok_is_no_err (Ok value) e is ok = absurd cc
ok_is_no_err (Err refused) e is ok = absurd cc
