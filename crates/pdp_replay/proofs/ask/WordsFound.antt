-- The words that fit a pattern, as they are found one after another.
use Rattle.std.proofs.Common.{◌≡◌, ◌∙◌, ℕ, zero, suc, ◌+◌, ◌-◌, ◌<◌, ◌≤◌, List, [], ◌∷◌, ◌++◌, Bool, true, false, cond, ap, append-nil, arith, length, length-append, ltb, refl, sym, take}
use Rattle.std.specs.List.{filter, range_with_len}
use Rattle.std.proofs.lemmas.Bool.{le-ltb, lt-ltb}
use Rattle.std.proofs.lemmas.List.{take-append-le, take_all}
use Rattle.std.proofs.lemmas.List.Elements.{filter-append}
use Rattle.pdp_replay.specs.Ask.WordsFound.{first_found, fits_pattern_at, numbers_fitting, words_found}
use Rattle.pdp_replay.specs.declared.ask.find_words.WordPattern.{WordPattern}

-- numbers one after another, in two parts
numbers_on : (a n k : ℕ) → range_with_len a (n + k) ≡ range_with_len a n ++ range_with_len (a + n) k
numbers_on a zero k =
    let none : 0 + k ≡ k = omega arith in
    let here : a ≡ a + 0 = omega arith in
    ap (range_with_len a) none ∙ ap (λ b. range_with_len b k) here
numbers_on a (suc n) k =
    let more : suc n + k ≡ suc (n + k) = omega arith in
    let on : a + 1 + n ≡ a + suc n = omega arith in
    ap (range_with_len a) more
    ∙ ap (λ xs. a ∷ xs) (numbers_on (a + 1) n k ∙ ap (λ b. range_with_len (a + 1) n ++ range_with_len b k) on)

-- the words of a range are those of its two parts
met_on : (pattern : WordPattern) (words : List ℕ) (first n k : ℕ)
    → numbers_fitting pattern words first (n + k) ≡ numbers_fitting pattern words first n ++ numbers_fitting pattern words (first + n) k
unfolding numbers_fitting
met_on pattern words first n k =
    ap (filter (fits_pattern_at pattern words)) (numbers_on first n k)
    ∙ filter-append (fits_pattern_at pattern words) (range_with_len first n) (range_with_len (first + n) k)

-- one word
met_here : (pattern : WordPattern) (words : List ℕ) (number : ℕ)
    → numbers_fitting pattern words number 1 ≡ cond (fits_pattern_at pattern words number) (number ∷ []) []
unfolding numbers_fitting
met_here pattern words number = refl

pub none_met : (pattern : WordPattern) (words : List ℕ) (first : ℕ) → numbers_fitting pattern words first 0 ≡ []
unfolding numbers_fitting
none_met pattern words first = refl

-- one word more, which fits or doesn't
met_more : (pattern : WordPattern) (words : List ℕ) (first n : ℕ) → fits_pattern_at pattern words (first + n) ≡ true
    → numbers_fitting pattern words first (n + 1) ≡ numbers_fitting pattern words first n ++ (first + n) ∷ []
met_more pattern words first n met =
    met_on pattern words first n 1
    ∙ ap (λ xs. numbers_fitting pattern words first n ++ xs) (met_here pattern words (first + n) ∙ ap (λ is. cond is ((first + n) ∷ []) []) met)

unmet_more : (pattern : WordPattern) (words : List ℕ) (first n : ℕ) → fits_pattern_at pattern words (first + n) ≡ false
    → numbers_fitting pattern words first (n + 1) ≡ numbers_fitting pattern words first n
unmet_more pattern words first n unmet =
    met_on pattern words first n 1
    ∙ ap (λ xs. numbers_fitting pattern words first n ++ xs) (met_here pattern words (first + n) ∙ ap (λ is. cond is ((first + n) ∷ []) []) unmet)
    ∙ append-nil (numbers_fitting pattern words first n)

-- all are found, and all are listed
all_listed : (listed numbers all : List ℕ) → listed ≡ numbers → numbers ≡ all → length numbers ≤ 256
    → record { numbers = listed; more = false } ≡ first_found all
all_listed listed numbers all same is few =
    let first : take 256 numbers ≡ numbers = take_all 256 numbers few in
    let more : ltb 256 (length numbers) ≡ false = le-ltb 256 (length numbers) few in
    rw (same, sym is, first, more) refl

-- as many are found as are listed, and one more
more_listed : (listed numbers rest : List ℕ) (number : ℕ) → listed ≡ numbers → length numbers ≡ 256
    → record { numbers = listed; more = true } ≡ first_found ((numbers ++ number ∷ []) ++ rest)
more_listed listed numbers rest number same full =
    let longer : length (numbers ++ number ∷ []) ≡ length numbers + 1 = length-append numbers (number ∷ []) in
    let all : length ((numbers ++ number ∷ []) ++ rest) ≡ length (numbers ++ number ∷ []) + length rest = length-append (numbers ++ number ∷ []) rest in
    let first : take 256 ((numbers ++ number ∷ []) ++ rest) ≡ numbers =
    take-append-le 256 (numbers ++ number ∷ []) rest (omega (arith, longer, full))
    ∙ take-append-le 256 numbers (number ∷ []) (omega (arith, full))
    ∙ take_all 256 numbers (omega (arith, full)) in
    let more : ltb 256 (length ((numbers ++ number ∷ []) ++ rest)) ≡ true = lt-ltb 256 _ (omega (arith, all, longer, full)) in
    rw (same, first, more) refl

-- the search came to the end
pub found_all : (pattern : WordPattern) (words listed numbers : List ℕ) (first last : ℕ) → listed ≡ numbers
    → numbers ≡ numbers_fitting pattern words first (last + 1 - first) → length numbers ≤ 256
    → record { numbers = listed; more = false } ≡ words_found pattern first last words
unfolding words_found
found_all pattern words listed numbers first last same is few =
    all_listed listed numbers (numbers_fitting pattern words first (last + 1 - first)) same is few

-- the search came to one word more than are listed
pub found_more : (pattern : WordPattern) (words listed numbers : List ℕ) (first last n : ℕ) (is_next : Bool) → listed ≡ numbers
    → n < last + 1 - first → numbers ≡ numbers_fitting pattern words first n → 256 ≤ length numbers → length numbers ≤ 256
    → is_next ≡ fits_pattern_at pattern words (first + n) → is_next ≡ true
    → record { numbers = listed; more = true } ≡ words_found pattern first last words
unfolding words_found
found_more pattern words listed numbers first last n is_next same below is full few next met =
    let k : ℕ = last + 1 - first - (n + 1) in
    let rest : List ℕ = numbers_fitting pattern words (first + (n + 1)) k in
    let end : n + 1 + k ≡ last + 1 - first = omega (arith, below) in
    more_listed listed numbers rest (first + n) same (omega (arith, full, few))
    ∙ ap first_found
    (ap (λ xs. (xs ++ (first + n) ∷ []) ++ rest) is
    ∙ ap (λ xs. xs ++ rest) (sym (met_more pattern words first n (sym next ∙ met)))
    ∙ sym (met_on pattern words first (n + 1) k)
    ∙ ap (numbers_fitting pattern words first) end)

-- with one word more, which fits or doesn't
pub with_met : (pattern : WordPattern) (words before after : List ℕ) (first n : ℕ) (is_next : Bool) → before ≡ numbers_fitting pattern words first n
    → after ≡ before ++ (first + n) ∷ [] → is_next ≡ fits_pattern_at pattern words (first + n) → is_next ≡ true
    → after ≡ numbers_fitting pattern words first (n + 1)
with_met pattern words before after first n is_next is added next met =
    added ∙ ap (λ xs. xs ++ (first + n) ∷ []) is ∙ sym (met_more pattern words first n (sym next ∙ met))

pub without_unmet : (pattern : WordPattern) (words before after : List ℕ) (first n : ℕ) (is_next : Bool) → before ≡ numbers_fitting pattern words first n
    → after ≡ before → is_next ≡ fits_pattern_at pattern words (first + n) → is_next ≡ false
    → after ≡ numbers_fitting pattern words first (n + 1)
without_unmet pattern words before after first n is_next is same next unmet =
    same ∙ is ∙ sym (unmet_more pattern words first n (sym next ∙ unmet))
