-- One byte more that is kept, and the bytes at the end that go.
use Rattle.std.proofs.Common.{◌≡◌, ℕ, zero, suc, ◌+◌, ◌<◌, ◌≤◌, ◌-◌, List, [], ◌∷◌, ◌++◌, Bool, true, false, length, take, drop, get_or, nat_le, refl, sym, ◌∙◌, ap, slice_set, add-one, arith, min}
use Rattle.std.proofs.Math.Seq.{take-suc}
use Rattle.std.proofs.lemmas.Bool.{leb-false, leb-true}
use Rattle.std.proofs.lemmas.List.{length-map, length-take, length-take-le, take-map, take-take, take_all}
use Rattle.pdp_cpu.specs.declared.kept_text.KeptByte.{KeptByte}
use Rattle.pdp_cpu.specs.KeptTexts.{kept_before, kept_first, kept_over, without_turns}

over : {X : Type 0} (xs : List X) (k : ℕ) (x : X) → k < length xs → slice_set xs k x ≡ take k xs ++ x ∷ drop (suc k) xs
over [] k x below = absurd (omega arith)
over (y ∷ xs) zero x below = refl
over (y ∷ xs) (suc k) x below = ap (λ zs. y ∷ zs) (over xs k x (omega (arith, below)))

pub over_one : {X : Type 0} (xs : List X) (k : ℕ) (x : X) → k < length xs → slice_set xs k x ≡ take k xs ++ x ∷ drop (k + 1) xs
over_one xs k x below = rw add-one (over xs k x below)

after : {X : Type 0} (xs : List X) (k : ℕ) (x : X) → k ≤ length xs → length xs ≤ k → xs ++ x ∷ [] ≡ take k xs ++ x ∷ drop (suc k) xs
after [] zero x within past = refl
after [] (suc k) x within past = absurd (omega arith)
after (y ∷ xs) zero x within past = absurd (omega arith)
after (y ∷ xs) (suc k) x within past = ap (λ zs. y ∷ zs) (after xs k x (omega (arith, within)) (omega (arith, past)))

pub after_all : {X : Type 0} (xs : List X) (k : ℕ) (x : X) → k ≤ length xs → length xs ≤ k → xs ++ x ∷ [] ≡ take k xs ++ x ∷ drop (k + 1) xs
after_all xs k x within past = rw add-one (after xs k x within past)

-- a byte at the end that came out in time, and one that came out too late
first_of : (turn : ℕ) (b : KeptByte) (xs ys : List KeptByte) → xs ≡ ys → kept_first turn b xs ≡ kept_first turn b ys
first_of turn b xs ys is = ap (kept_first turn b) is

late : (turn : ℕ) (b : KeptByte) (xs : List KeptByte) → nat_le turn b.turn ≡ true → kept_before turn (xs ++ b ∷ []) ≡ kept_before turn xs
late turn b [] is = rw is refl
late turn b (x ∷ xs) is = ap (kept_first turn x) (late turn b xs is)

on_some : (turn : ℕ) (x b : KeptByte) (xs : List KeptByte) → kept_first turn x (xs ++ b ∷ []) ≡ x ∷ xs ++ b ∷ []
on_some turn x b [] = refl
on_some turn x b (y ∷ xs) = refl

early : (turn : ℕ) (b : KeptByte) (xs : List KeptByte) → nat_le turn b.turn ≡ false → kept_before turn (xs ++ b ∷ []) ≡ xs ++ b ∷ []
early turn b [] is = rw is refl
early turn b (x ∷ xs) is = ap (kept_first turn x) (early turn b xs is) ∙ on_some turn x b xs

last_of : (bytes : List KeptByte) (count k : ℕ) (d : KeptByte) → count ≡ suc k → count ≤ length bytes → take count bytes ≡ take k bytes ++ get_or bytes k d ∷ []
last_of bytes count k d is within = ap (λ n. take n bytes) is ∙ take-suc bytes k d (omega (arith, is, within))

pub late_goes : (bytes : List KeptByte) (count turn : ℕ) (d : KeptByte) → 0 < count → count ≤ length bytes
    → nat_le turn (get_or bytes (count - 1) d).turn ≡ true
    → kept_before turn (take (count - 1) bytes) ≡ kept_before turn (take count bytes)
late_goes bytes count turn d some within is =
    sym (ap (kept_before turn) (last_of bytes count (count - 1) d (omega (arith, some)) within)
    ∙ late turn (get_or bytes (count - 1) d) (take (count - 1) bytes) is)

pub early_stays : (bytes : List KeptByte) (count turn : ℕ) (d : KeptByte) → 0 < count → count ≤ length bytes
    → nat_le turn (get_or bytes (count - 1) d).turn ≡ false
    → take count bytes ≡ kept_before turn (take count bytes)
early_stays bytes count turn d some within is =
    let last = last_of bytes count (count - 1) d (omega (arith, some)) within in
    last ∙ sym (ap (kept_before turn) last ∙ early turn (get_or bytes (count - 1) d) (take (count - 1) bytes) is)

-- the text that is shown is of the bytes that are kept
pub text_within : (bytes : List KeptByte) (n : ℕ) → length (without_turns (take n bytes)) ≤ length bytes
text_within bytes n = rw length-map (omega (arith, length-take n bytes))

-- the text that is shown
pub count_is : (bytes : List KeptByte) (n : ℕ) → n ≤ length bytes → n ≡ length (without_turns (take n bytes))
count_is bytes zero within = refl
count_is [] (suc n) within = absurd (omega arith)
count_is (b ∷ bytes) (suc n) within = ap suc (count_is bytes n (omega (arith, within)))

pub shown_is : (bytes : List KeptByte) (n : ℕ) → n ≤ length bytes → take n bytes ≡ take (length (without_turns (take n bytes))) bytes
shown_is bytes n within = ap (λ k. take k bytes) (count_is bytes n within)

-- one byte more
pub kept_one : (turn n byte : ℕ) (bytes : List KeptByte) → n ≤ length bytes
    → take n bytes ++ record { byte = byte; turn = turn } ∷ drop (n + 1) bytes ≡ kept_over turn (byte ∷ []) (length (without_turns (take n bytes))) bytes
kept_one turn n byte bytes within =
    ap (λ k. take k bytes ++ record { byte = byte; turn = turn } ∷ drop (k + 1) bytes) (count_is bytes n within)

text_next : (bytes : List KeptByte) (n : ℕ) (b : KeptByte) (rest : List KeptByte) → n ≤ length bytes
    → without_turns (take (suc n) (take n bytes ++ b ∷ rest)) ≡ without_turns (take n bytes) ++ b.byte ∷ []
text_next bytes zero b rest within = refl
text_next [] (suc n) b rest within = absurd (omega arith)
text_next (c ∷ bytes) (suc n) b rest within = ap (λ xs. c.byte ∷ xs) (text_next bytes n b rest (omega (arith, within)))

pub text_and_one : (bytes : List KeptByte) (n : ℕ) (b : KeptByte) (rest : List KeptByte) → n ≤ length bytes
    → without_turns (take (n + 1) (take n bytes ++ b ∷ rest)) ≡ without_turns (take n bytes) ++ b.byte ∷ []
text_and_one bytes n b rest within = rw add-one (text_next bytes n b rest within)

-- what stays of the text
pub length_before : (turn : ℕ) (bytes : List KeptByte) (kept : ℕ) → kept ≤ length bytes → take kept bytes ≡ kept_before turn bytes
    → length (take kept bytes) ≡ kept
length_before turn bytes kept within is = length-take-le kept bytes within

pub text_before : (bytes : List KeptByte) (shown kept : ℕ) → shown ≤ length bytes → kept ≤ length bytes
    → without_turns (take (min shown kept) (take kept bytes)) ≡ take (length (take kept bytes)) (without_turns (take shown bytes))
text_before bytes shown kept within inside =
    ap without_turns (take-take (min shown kept) kept bytes (omega arith))
    ∙ shorter (nat_le kept shown) refl
    ∙ ap (λ k. take k (without_turns (take shown bytes))) (sym (length-take-le kept bytes inside))
  where
    shorter : (holds : Bool) → nat_le kept shown ≡ holds → without_turns (take (min shown kept) bytes) ≡ take kept (without_turns (take shown bytes))
    shorter true is =
        let least : min shown kept ≡ kept = omega (arith, leb-true kept shown is) in
        ap (λ k. without_turns (take k bytes)) least
        ∙ ap without_turns (sym (take-take kept shown bytes (leb-true kept shown is)))
        ∙ sym (take-map (λ b. b.byte) kept (take shown bytes))
    shorter false is =
        let below : shown < kept = leb-false kept shown is in
        let least : min shown kept ≡ shown = omega (arith, below) in
        let short : length (without_turns (take shown bytes)) ≤ kept = omega (arith, below, sym (count_is bytes shown within)) in
        ap (λ k. without_turns (take k bytes)) least ∙ sym (take_all kept (without_turns (take shown bytes)) short)
