-- What turns have, listed turn by turn.
use Rattle.std.proofs.Common.{⊎_elim, min, suc, take, zero, ◌≡◌, ◌∙◌, ℕ, ◌+◌, ◌-◌, ◌<◌, ◌≤◌, ◌++◌, ◌∷◌, [], List, Option, None, Some, length, length-append, option_map, option_to_list, slice_get, get_or, add-one, ap, append-nil, arith, false, is_some, refl, sym}
use Rattle.std.proofs.Math.Seq.{get_or-append_seam}
use Rattle.std.proofs.lemmas.Bool.{cases_lt}
use Rattle.std.proofs.lemmas.List.{length-take, take-append-le, take_all}
use Rattle.std.proofs.lemmas.Option.{slice_get-get_or, slice_get_past}
use Rattle.pdp_replay.specs.Ask.Listed.{in_turns, list_end}
use Rattle.pdp_replay.specs.Ask.Searches.{EndsAfter, HoldsNowhere, turn_reached}

pub listed_none : {A : Type 0} (had : ℕ → Option A) (first n : ℕ) → n ≡ 0 → in_turns had first n ≡ []
unfolding in_turns
listed_none had first n none = rw none refl

pub listed_next : {A : Type 0} (had : ℕ → Option A) (first n : ℕ) → in_turns had first (n + 1) ≡ in_turns had first n ++ option_to_list (had (first + n))
unfolding in_turns
listed_next had first n = rw add-one refl

-- with one turn more
pub listed_further : {A : Type 0} (had : ℕ → Option A) (first turn next : ℕ) (item : Option A) (xs ys : List A) → first ≤ turn → next ≡ turn + 1
    → item ≡ had turn → xs ≡ in_turns had first (turn - first) → ys ≡ xs ++ option_to_list item → ys ≡ in_turns had first (next - first)
listed_further had first turn next item xs ys least is one listed more =
    let n : ℕ = turn - first in
    let here : turn ≡ first + n = omega (arith, least) in
    let now : n + 1 ≡ next - first = omega (arith, least, is) in
    more
    ∙ ap (λ zs. zs ++ option_to_list item) listed
    ∙ ap (λ w. in_turns had first n ++ option_to_list w) (one ∙ ap had here)
    ∙ sym (listed_next had first n)
    ∙ ap (in_turns had first) now

nothing : {A : Type 0} (item : Option A) → is_some item ≡ false → option_to_list item ≡ []
nothing None is = refl
nothing (Some item) is = absurd (cc is)

-- turns that have nothing add nothing
skipped : {A : Type 0} (had : ℕ → Option A) (first n k : ℕ) → HoldsNowhere (λ t. is_some (had t)) (first + n) (first + n + k)
    → in_turns had first (n + k) ≡ in_turns had first n
skipped had first n zero none = ap (in_turns had first) (omega arith)
skipped {A} had first n (suc k) none =
    let same : n + suc k ≡ n + k + 1 = omega arith in
    let item : Option A = had (first + (n + k)) in
    let xs : List A = in_turns had first (n + k) in
    let last : option_to_list item ≡ [] = nothing item (none (first + (n + k)) (omega arith) (omega arith)) in
    ap (in_turns had first) same
    ∙ listed_next had first (n + k)
    ∙ ap (λ ys. xs ++ ys) last
    ∙ append-nil xs
    ∙ skipped had first n k (λ turn least below. none turn least (omega (arith, below)))

pub skipped_to : {A : Type 0} (had : ℕ → Option A) (first turn now : ℕ) (xs : List A) → first ≤ turn → turn ≤ now
    → HoldsNowhere (λ t. is_some (had t)) turn now → xs ≡ in_turns had first (turn - first) → xs ≡ in_turns had first (now - first)
skipped_to had first turn now xs least order none is =
    let n : ℕ = turn - first in
    let k : ℕ = now - turn in
    let from : first + n ≡ turn = omega (arith, least) in
    let to : first + n + k ≡ now = omega (arith, least, order) in
    let all : n + k ≡ now - first = omega (arith, least, order) in
    is ∙ sym (skipped had first n k (λ t low high. none t (omega (arith, low, from)) (omega (arith, high, to))))
    ∙ ap (in_turns had first) all

-- more turns only add
listed_begin : {A : Type 0} (had : ℕ → Option A) (first n k : ℕ) (xs : List A) → length xs ≡ 256 → xs ≡ in_turns had first n
    → take 256 (in_turns had first (n + k)) ≡ xs
listed_begin had first n zero xs size is =
    let same : n + 0 ≡ n = omega arith in
    ap (λ m. take 256 (in_turns had first m)) same ∙ ap (take 256) (sym is) ∙ take_all 256 xs (omega (arith, size))
listed_begin {A} had first n (suc k) xs size is =
    let ws : List A = in_turns had first (n + k) in
    let before : take 256 ws ≡ xs = listed_begin had first n k xs size is in
    let long : min 256 (length ws) ≡ 256 = sym (length-take 256 ws) ∙ ap length before ∙ size in
    let same : n + suc k ≡ n + k + 1 = omega arith in
    ap (λ m. take 256 (in_turns had first m)) same
    ∙ ap (take 256) (listed_next had first (n + k))
    ∙ take-append-le 256 ws (option_to_list (had (first + (n + k)))) (omega (arith, long))
    ∙ before

-- what the turns have to where a list ended are the first items of all
pub all_listed : {A : Type 0} (had : ℕ → Option A) (first reached to : ℕ) (xs : List A) → first ≤ reached → reached ≤ to
    → (reached < to → 256 ≤ length xs) → length xs ≤ 256 → xs ≡ in_turns had first (reached - first)
    → xs ≡ take 256 (in_turns had first (to - first))
all_listed had first reached to xs least order ends most is =
    ⊎_elim
    (λ early.
    let long = ends early in
    let size : length xs ≡ 256 = omega (arith, long, most) in
    let end : to - first ≡ reached - first + (to - reached) = omega (arith, least, order) in
    sym (ap (λ m. take 256 (in_turns had first m)) end ∙ listed_begin had first (reached - first) (to - reached) xs size is))
    (λ late.
    let end : to - first ≡ reached - first = omega (arith, late, order) in
    sym (ap (λ m. take 256 (in_turns had first m)) end ∙ ap (take 256) (sym is) ∙ take_all 256 xs most))
    (cases_lt reached to)

length_with : {A : Type 0} (xs : List A) (item : A) → length (xs ++ item ∷ []) ≡ length xs + 1
length_with xs item = simp length-append

length_without : {A : Type 0} (xs : List A) → length (xs ++ []) ≡ length xs
length_without xs = simp length-append (omega arith)

last_of : {A : Type 0} (xs : List A) (item : A) (n : ℕ) → n ≡ length xs → slice_get (xs ++ item ∷ []) n ≡ Some item
last_of xs item n is =
    let more = length_with xs item in
    slice_get-get_or (xs ++ item ∷ []) n item (omega (arith, more, is))
    ∙ ap (λ i. Some (get_or (xs ++ item ∷ []) i item)) is
    ∙ ap (λ w. Some w) (get_or-append_seam xs item [] item)

-- once the last item that may be listed is added, the list ends after its turn
pub end_of_full : {A : Type 0} (turn_of : A → ℕ) (xs ys : List A) (item : Option A) (now to : ℕ) → ys ≡ xs ++ option_to_list item
    → length xs < 256 → EndsAfter now (option_map turn_of item) → length ys ≡ 256 → now ≡ list_end turn_of ys to
end_of_full turn_of xs ys None now to is short end full =
    let none = ap length is ∙ length_without xs in absurd (omega (arith, none, short, full))
end_of_full turn_of xs ys (Some item) now to is short end full =
    let more = ap length is ∙ length_with xs item in
    let last : 255 ≡ length xs = omega (arith, more, full) in
    end ∙ sym (ap (λ ws. list_end turn_of ws to) is ∙ ap (λ w. turn_reached (option_map turn_of w) to) (last_of xs item 255 last))

-- a list that has less ends at the turn before which it looks
end_of_short : {A : Type 0} (turn_of : A → ℕ) (xs : List A) (now to : ℕ) → length xs < 256 → now ≡ to → now ≡ list_end turn_of xs to
end_of_short turn_of xs now to short is =
    is ∙ sym (ap (λ w. turn_reached (option_map turn_of w) to) (slice_get_past xs 255 (omega (arith, short))))

-- a list that ended because it has all that it may, or because it came to the turn before which it looks
pub end_of_list : {A : Type 0} (turn_of : A → ℕ) (xs : List A) (now to : ℕ) → (now < to → 256 ≤ length xs) → now ≤ to → length xs ≤ 256
    → (length xs ≡ 256 → now ≡ list_end turn_of xs to) → now ≡ list_end turn_of xs to
end_of_list turn_of xs now to early within most full =
    ⊎_elim
    (λ fewer.
    ⊎_elim
    (λ before. let long = early before in absurd (omega (arith, long, fewer)))
    (λ late. end_of_short turn_of xs now to fewer (omega (arith, late, within)))
    (cases_lt now to))
    (λ all. full (omega (arith, all, most)))
    (cases_lt (length xs) 256)
