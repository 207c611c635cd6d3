-- States among others, and the first and the last of them for a turn.
use Rattle.std.proofs.Common.{◌≡◌, ◌∙◌, ◌+◌, ◌*◌, ◌/◌, ◌<◌, ◌≤◌, ◌++◌, ◌⊎◌, ⊎_elim, inl, inr, ℕ, zero, suc, List, [], ◌∷◌, ◌-◌, Bool, true, false, if◌then◌else◌, nat_le, Option, Some, None, ap, arith, drop, get_or, length, map, min, refl, slice_get, slice_set, subst, sym, take}
use Rattle.std.specs.List.{All, filter, remove}
use Rattle.std.proofs.lemmas.Bool.{cases_lt, le-leb, lt-leb}
use Rattle.std.proofs.lemmas.List.{get_or-take, length-take}
use Rattle.std.proofs.lemmas.List.Elements.{All-append, All-push, All-take}
use Rattle.std.proofs.lemmas.Option.{get_or_from_slice_get, slice_get_within}
use Rattle.std.proofs.Math.Nat.{lt-div-mul-add, mul-le-mul_right}
use Rattle.pdp_checkpoint.specs.declared.checkpoint.Checkpoint.{Checkpoint}
use Rattle.pdp_checkpoint.specs.Formers.{FormerData, IsAbove, IsClosest, IsFirstFrom, IsFormerAfter, IsFormerIn, IsLastBy, IsLeastFrom, IsLeft, IsStateIn, with_states}
use Rattle.pdp_checkpoint.specs.Ladder.{AreCheckpoints, LadderData}
use Rattle.pdp_checkpoint.proofs.Checkpoints.{turn_at}
use Rattle.pdp_checkpoint.proofs.Closest.{still_closest}

-- an item is there in its place
pub get_at : {X : Type 0} (xs : List X) (k : ℕ) (d : X) → k < length xs → slice_get xs k ≡ Some (get_or xs k d)
get_at [] k d inside = absurd (omega arith)
get_at (x ∷ xs) zero d inside = refl
get_at (x ∷ xs) (suc k) d inside = get_at xs k d (omega arith)

get_on : {X : Type 0} (xs ys : List X) (k : ℕ) (c : X) → slice_get xs k ≡ Some c → slice_get (xs ++ ys) k ≡ Some c
get_on [] ys k c is = absurd (cc is)
get_on (x ∷ xs) ys zero c is = is
get_on (x ∷ xs) ys (suc k) c is = get_on xs ys k c is

get_past : {X : Type 0} (xs ys : List X) (k : ℕ) (c : X) → slice_get ys k ≡ Some c → slice_get (xs ++ ys) (length xs + k) ≡ Some c
get_past [] ys k c is = let same : 0 + k ≡ k = omega arith in ap (slice_get ys) same ∙ is
get_past (x ∷ xs) ys k c is =
    let next : suc (length xs) + k ≡ suc (length xs + k) = omega arith in
    ap (slice_get (x ∷ (xs ++ ys))) next ∙ get_past xs ys k c is

get_dropped : {X : Type 0} (n : ℕ) (xs : List X) (k : ℕ) (c : X) → slice_get (drop n xs) k ≡ Some c → slice_get xs (n + k) ≡ Some c
get_dropped zero xs k c is = let same : 0 + k ≡ k = omega arith in ap (slice_get xs) same ∙ is
get_dropped (suc n) [] k c is = absurd (cc is)
get_dropped (suc n) (x ∷ xs) k c is =
    let next : suc n + k ≡ suc (n + k) = omega arith in
    ap (slice_get (x ∷ xs)) next ∙ get_dropped n xs k c is

pub each_in : (xs : List Checkpoint) → All (IsStateIn xs) xs
each_in xs k d inside = record { place = k; state = get_at xs k d inside }

pub in_first : (xs ys : List Checkpoint) (c : Checkpoint) → IsStateIn xs c → IsStateIn (xs ++ ys) c
in_first xs ys c there = record { place = there.place; state = get_on xs ys there.place c there.state }

pub in_second : (xs ys : List Checkpoint) (c : Checkpoint) → IsStateIn ys c → IsStateIn (xs ++ ys) c
in_second xs ys c there = record { place = _; state = get_past xs ys there.place c there.state }

pub in_whole : (n : ℕ) (xs : List Checkpoint) (c : Checkpoint) → IsStateIn (drop n xs) c → IsStateIn xs c
in_whole n xs c there = record { place = _; state = get_dropped n xs there.place c there.state }

pub place_past : (n : ℕ) (xs : List Checkpoint) (c : Checkpoint) (there : IsStateIn (drop n xs) c) → n ≤ (in_whole n xs c there).place
unfolding in_whole
place_past n xs c there = let past : n ≤ n + there.place = omega arith in past

pub former_first : (xs ys : List FormerData) (f : FormerData) → IsFormerIn xs f → IsFormerIn (xs ++ ys) f
former_first xs ys f there = record { place = there.place; former = get_on xs ys there.place f there.former }

pub each_former_in : (xs : List FormerData) → All (IsFormerIn xs) xs
each_former_in xs k d inside = record { place = k; former = get_at xs k d inside }

-- some of these former runs: with or without the first, the first of those, and that or none
after_first : (xs : List FormerData) → All (IsFormerIn xs) (remove xs 0)
after_first [] k d inside = absurd (omega (arith, inside))
after_first (x ∷ xs) k d inside = record { place = suc k; former = get_at xs k d inside }

rest_in : (formers rest : List FormerData) → (rest ≡ remove formers 0) ⊎ (rest ≡ formers) → All (IsFormerIn formers) rest
rest_in formers rest begun =
    ⊎_elim
    (λ (fewer : rest ≡ remove formers 0). subst (All (IsFormerIn formers)) (sym fewer) (after_first formers))
    (λ (same : rest ≡ formers). subst (All (IsFormerIn formers)) (sym same) (each_former_in formers))
    begun

pub one_left : (formers rest one left : List FormerData) → (rest ≡ remove formers 0) ⊎ (rest ≡ formers) → one ≡ take 1 rest → (left ≡ []) ⊎ (left ≡ one)
    → All (IsFormerIn formers) left
one_left formers rest one left begun first is =
    ⊎_elim
    (λ (none : left ≡ []). subst (All (IsFormerIn formers)) (sym none) (λ k d inside. absurd (omega (arith, inside))))
    (λ (same : left ≡ one). subst (All (IsFormerIn formers)) (sym (same ∙ first)) (All-take (IsFormerIn formers) 1 rest (rest_in formers rest begun)))
    is

pub one_at_most : (rest one left : List FormerData) → one ≡ take 1 rest → (left ≡ []) ⊎ (left ≡ one) → length left ≤ 1
one_at_most rest one left first is =
    ⊎_elim
    (λ (none : left ≡ []). let size = ap length none in omega (arith, size))
    (λ (same : left ≡ one). let size = ap length (same ∙ first) ∙ length-take 1 rest in omega (arith, size))
    is

-- one more state, for the last by a turn
pub later_last : (states : List Checkpoint) (turn : ℕ) (last : Option Checkpoint) (c : Checkpoint) → turn < c.turn → IsLastBy states turn last
    → IsLastBy (states ++ c ∷ []) turn last
later_last states turn None c above is = All-push (λ d. turn < d.turn) states c is above
later_last states turn (Some last) c above is = still_closest states turn last c is (λ low. absurd (omega (arith, low, above)))

pub first_last : (states : List Checkpoint) (turn : ℕ) (c : Checkpoint) → c.turn ≤ turn → All (λ d. turn < d.turn) states → IsClosest (states ++ c ∷ []) turn c
first_last states turn c low above = record {
  place = length states + 0;
  state = get_past states (c ∷ []) 0 c refl;
  below = low;
  greatest = All-push (λ d. d.turn ≤ turn → d.turn ≤ c.turn) states c
      (λ k d inside under. let over = above k d inside in absurd (omega (arith, over, under)))
      (λ under. omega arith);
}

-- and for the first from a turn on
pub earlier_first : (states : List Checkpoint) (turn : ℕ) (first : Option ℕ) (c : Checkpoint) → c.turn < turn → IsFirstFrom states turn first
    → IsFirstFrom (states ++ c ∷ []) turn first
earlier_first states turn None c low is = All-push (λ d. d.turn < turn) states c is low
earlier_first states turn (Some first) c low is = record {
  state = is.state;
  there = in_first states (c ∷ []) is.state is.there;
  is = is.is;
  from = is.from;
  least = All-push (λ d. turn ≤ d.turn → first ≤ d.turn) states c is.least (λ high. absurd (omega (arith, high, low)));
}

last_in : (states : List Checkpoint) (c : Checkpoint) → IsStateIn (states ++ c ∷ []) c
last_in states c = in_second states (c ∷ []) c (record { place = 0; state = refl })

pub first_first : (states : List Checkpoint) (turn other : ℕ) (c : Checkpoint) → c.turn ≡ other → turn ≤ other → All (λ d. d.turn < turn) states
    → IsLeastFrom (states ++ c ∷ []) turn other
first_first states turn other c same high below = record {
  state = c;
  there = last_in states c;
  is = same;
  from = high;
  least = All-push (λ d. turn ≤ d.turn → other ≤ d.turn) states c
      (λ k d inside over. let under = below k d inside in absurd (omega (arith, over, under)))
      (λ over. omega (arith, same));
}

pub least_first : (states : List Checkpoint) (turn least other : ℕ) (c : Checkpoint) → c.turn ≡ other → turn ≤ other → IsLeastFrom states turn least
    → IsLeastFrom (states ++ c ∷ []) turn (min least other)
least_first states turn least other c same high is =
    ⊎_elim
    (λ (closer : other < least). let m : min least other ≡ other = omega (arith, closer) in rw m (record {
      state = c;
      there = last_in states c;
      is = same;
      from = high;
      least = All-push (λ d. turn ≤ d.turn → other ≤ d.turn) states c
          (λ k d inside over. let low = is.least k d inside over in omega (arith, low, closer))
          (λ over. omega (arith, same));
    }))
    (λ (farther : least ≤ other). let m : min least other ≡ least = omega (arith, farther) in rw m (record {
      state = is.state;
      there = in_first states (c ∷ []) is.state is.there;
      is = is.is;
      from = is.from;
      least = All-push (λ d. turn ≤ d.turn → least ≤ d.turn) states c is.least (λ over. omega (arith, same, farther));
    }))
    (cases_lt other least)

-- a state of turn above this one, or none, is added to those that are
pub above_added : (turn : ℕ) (states late now : List Checkpoint) (c : Checkpoint) → All (IsAbove turn states) late → IsAbove turn states c
    → (now ≡ late ++ c ∷ []) ⊎ (now ≡ late) → All (IsAbove turn states) now
above_added turn states late now c all is added =
    ⊎_elim
    (λ (more : now ≡ late ++ c ∷ []). subst (All (IsAbove turn states)) (sym more) (All-push (IsAbove turn states) late c all is))
    (λ (same : now ≡ late). subst (All (IsAbove turn states)) (sym same) all)
    added

pub formers_added : (former : FormerData) (formers kept now : List FormerData) → All (IsFormerIn formers) kept
    → (now ≡ kept ++ former ∷ []) ⊎ (now ≡ kept) → All (IsLeft former formers) now
formers_added former formers kept now all added =
    ⊎_elim
    (λ (more : now ≡ kept ++ former ∷ []). subst (All (IsLeft former formers)) (sym more) (All-push (IsLeft former formers) kept former others (inl refl)))
    (λ (same : now ≡ kept). subst (All (IsLeft former formers)) (sym same) others)
    added
  where
    others : All (IsLeft former formers) kept
    others k d inside = inr (all k d inside)

-- the states that are left when those from a place on have been looked at
pub was_there : (p : Checkpoint → Bool) (all now : List Checkpoint) (place : ℕ) (c : Checkpoint) → 0 < place → place ≤ length all
    → now ≡ take place all ++ filter p (drop place all) → c ≡ get_or now (place - 1) c → c ≡ get_or all (place - 1) c
was_there p all now place c some within is there =
    there ∙ ap (λ xs. get_or xs (place - 1) c) is
    ∙ get_or_first (take place all) (filter p (drop place all)) (place - 1) c (omega (arith, some, within, length-take place all))
    ∙ get_or-take place all (place - 1) c (omega (arith, some))
  where
    get_or_first : (xs ys : List Checkpoint) (k : ℕ) (d : Checkpoint) → k < length xs → get_or (xs ++ ys) k d ≡ get_or xs k d
    get_or_first [] ys k d inside = absurd (omega arith)
    get_or_first (x ∷ xs) ys zero d inside = refl
    get_or_first (x ∷ xs) ys (suc k) d inside = get_or_first xs ys k d (omega arith)

pub near_stays : (p : Checkpoint → Bool) (all : List Checkpoint) (k : ℕ) (d : Checkpoint) → k < length all → p (get_or all k d) ≡ true
    → take (k + 1) all ++ filter p (drop (k + 1) all) ≡ take k all ++ filter p (drop k all)
near_stays p [] k d inside is = absurd (omega arith)
near_stays p (x ∷ xs) zero d inside is = rw is refl
near_stays p (x ∷ xs) (suc k) d inside is =
    let more : suc k + 1 ≡ suc (k + 1) = omega arith in
    rw more (ap (λ ys. x ∷ ys) (near_stays p xs k d (omega arith) is))

pub near_goes : (p : Checkpoint → Bool) (all : List Checkpoint) (k : ℕ) (d : Checkpoint) → k < length all → p (get_or all k d) ≡ false
    → remove (take (k + 1) all ++ filter p (drop (k + 1) all)) k ≡ take k all ++ filter p (drop k all)
near_goes p [] k d inside is = absurd (omega arith)
near_goes p (x ∷ xs) zero d inside is = rw is refl
near_goes p (x ∷ xs) (suc k) d inside is =
    let more : suc k + 1 ≡ suc (k + 1) = omega arith in
    rw more (ap (λ ys. x ∷ ys) (near_goes p xs k d (omega arith) is))

-- so it is for the state before a place
pub near_left : (turn : ℕ) (all now : List Checkpoint) (place : ℕ) (c : Checkpoint) → 0 < place → place ≤ length all → c ≡ get_or all (place - 1) c → turn < c.turn
    → now ≡ take place all ++ filter (λ d. nat_le d.turn turn) (drop place all)
    → remove now (place - 1) ≡ take (place - 1) all ++ filter (λ d. nat_le d.turn turn) (drop (place - 1) all)
near_left turn all now place c some within there late is =
    let next : place ≡ place - 1 + 1 = omega (arith, some) in
    let no : nat_le (get_or all (place - 1) c).turn turn ≡ false = rw (← there) (lt-leb c.turn turn late) in
    ap (λ xs. remove xs (place - 1)) (is ∙ ap (λ n. take n all ++ filter (λ d. nat_le d.turn turn) (drop n all)) next)
    ∙ near_goes (λ d. nat_le d.turn turn) all (place - 1) c (omega (arith, some, within)) no

pub near_kept : (turn : ℕ) (all now : List Checkpoint) (place : ℕ) (c : Checkpoint) → 0 < place → place ≤ length all → c ≡ get_or all (place - 1) c → c.turn ≤ turn
    → now ≡ take place all ++ filter (λ d. nat_le d.turn turn) (drop place all)
    → now ≡ take (place - 1) all ++ filter (λ d. nat_le d.turn turn) (drop (place - 1) all)
near_kept turn all now place c some within there low is =
    let next : place ≡ place - 1 + 1 = omega (arith, some) in
    let yes : nat_le (get_or all (place - 1) c).turn turn ≡ true = rw (← there) (le-leb c.turn turn low) in
    is ∙ ap (λ n. take n all ++ filter (λ d. nat_le d.turn turn) (drop n all)) next
    ∙ near_stays (λ d. nat_le d.turn turn) all (place - 1) c (omega (arith, some, within)) yes

pub there_at : (all : List Checkpoint) (place : ℕ) (c : Checkpoint) → 0 < place → place ≤ length all → c ≡ get_or all (place - 1) c → IsStateIn all c
there_at all place c some within is = record {
  place = place - 1;
  state = get_at all (place - 1) c (omega (arith, some, within)) ∙ ap Some (sym is);
}

pub either : {X : Type 0} (b : Bool) (x y z : X) → z ≡ (if b then x else y) → (z ≡ x) ⊎ (z ≡ y)
either true x y z is = inl is
either false x y z is = inr is

-- what was read of a place in two ways
pub same_read : {X : Type 0} (xs : List X) (k : ℕ) (c d : X) → k < length xs → c ≡ get_or xs k c → d ≡ get_or xs k d → c ≡ d
same_read xs k c d inside is other = is ∙ any xs k c d inside ∙ sym other
  where
    any : {X : Type 0} (xs : List X) (k : ℕ) (c d : X) → k < length xs → get_or xs k c ≡ get_or xs k d
    any [] k c d inside = absurd (omega arith)
    any (x ∷ xs) zero c d inside = refl
    any (x ∷ xs) (suc k) c d inside = any xs k c d (omega arith)

pub changed_more : {X : Type 0} (f : X → X) (place : ℕ) (read : X) (xs : List X) → place < length xs → read ≡ get_or (map f (take place xs) ++ drop place xs) place read
    → slice_set (map f (take place xs) ++ drop place xs) place (f read) ≡ map f (take (place + 1) xs) ++ drop (place + 1) xs
changed_more f place read [] below is = absurd (omega arith)
changed_more f zero read (x ∷ xs) below is = ap (λ y. f y ∷ xs) is
changed_more f (suc place) read (x ∷ xs) below is =
    let more : suc place + 1 ≡ suc (place + 1) = omega arith in
    rw more (ap (λ ys. f x ∷ ys) (changed_more f place read xs (omega arith) is))

-- the checkpoints after those of turns up to this one are of turns above it
pub late_above : (l : LadderData) (turn : ℕ) (c : Checkpoint) → AreCheckpoints l → IsStateIn (drop (turn / l.stride + 1) l.kept) c → IsAbove turn l.kept c
late_above l turn c checkpoints there =
    let n = turn / l.stride + 1 in
    let whole = in_whole n l.kept c there in
    let is : get_or l.kept whole.place c ≡ c = get_or_from_slice_get l.kept whole.place c c whole.state in
    let at : c.turn ≡ whole.place * l.stride = ap (λ (d : Checkpoint). d.turn) (sym is) ∙ turn_at l whole.place c checkpoints (slice_get_within l.kept whole.place c whole.state) in
    let far : n * l.stride ≤ whole.place * l.stride = mul-le-mul_right l.stride (place_past n l.kept c there) in
    let high : turn < turn / l.stride * l.stride + l.stride = lt-div-mul-add checkpoints.positive in
    record { there = whole; late = omega (arith, at, far, high) }

-- the states that are split off make a former run of states above the turn
pub is_set_aside : (l : LadderData) (turn : ℕ) (kept near : List Checkpoint) (formers now : List FormerData) (former : FormerData) → AreCheckpoints l
    → All (IsStateIn (drop (turn / l.stride + 1) l.kept)) kept → All (IsAbove turn l.near) near
    → All (IsLeft (with_states (kept ++ near) former) formers) now → All (IsFormerAfter turn (l.kept ++ l.near) formers (Some former)) now
is_set_aside l turn kept near formers now former checkpoints late_kept late_near left k g inside =
    ⊎_elim
    (λ (new : get_or now k g ≡ with_states (kept ++ near) former).
    inl (record {
      is = new ∙ ap (λ (f : FormerData). with_states f.states former) (sym new);
      late = subst (λ (f : FormerData). All (IsAbove turn (l.kept ++ l.near)) f.states) (sym new) all;
    }))
    (λ (old : IsFormerIn formers (get_or now k g)). inr old)
    (left k g inside)
  where
    first : All (IsAbove turn (l.kept ++ l.near)) kept
    first i d within =
        let above = late_above l turn _ checkpoints (late_kept i d within) in
        record { there = in_first l.kept l.near _ above.there; late = above.late }

    second : All (IsAbove turn (l.kept ++ l.near)) near
    second i d within =
        let above = late_near i d within in
        record { there = in_second l.kept l.near _ above.there; late = above.late }

    all : All (IsAbove turn (l.kept ++ l.near)) (kept ++ near)
    all = All-append (IsAbove turn (l.kept ++ l.near)) kept near first second
