-- First touches: what a trace adds to them, and what is dropped of them.
use Rattle.std.proofs.Common.{◌≡◌, ℕ, zero, suc, ◌+◌, ◌<◌, List, [], ◌∷◌, ◌++◌, refl, ap, ◌∙◌, map, take, drop, length, get_or, slice_set, arith}
use Rattle.pdp_store.specs.FirstTouches.{FirstTouches, first_touches_after, no_first_touches, word_touched}
use Rattle.pdp_store.specs.TracedAccess.{TracedAccess}
use Rattle.pdp_store.specs.declared.part.Part.{Part}
use Rattle.pdp_store.specs.declared.part.Part.TheVariants.{Core, Drive}

-- one more page has been looked at
pub forgotten_more : {X : Type 0} (f : X → X) (page : ℕ) (read : X) (xs : List X) → page < length xs → read ≡ get_or (map f (take page xs) ++ drop page xs) page read
    → slice_set (map f (take page xs) ++ drop page xs) page (f read) ≡ map f (take (page + 1) xs) ++ drop (page + 1) xs
forgotten_more f page read [] below is = absurd (omega arith)
forgotten_more f zero read (x ∷ xs) below is = ap (λ y. f y ∷ xs) is
forgotten_more f (suc page) read (x ∷ xs) below is =
    let e : suc page + 1 ≡ suc (page + 1) = omega arith in
    rw e (ap (λ ys. f x ∷ ys) (forgotten_more f page read xs (omega arith) is))

-- a trace after another
pub first_touches_after-append : (xs ys : List TracedAccess) (f : FirstTouches) → first_touches_after (xs ++ ys) f ≡ first_touches_after ys (first_touches_after xs f)
unfolding first_touches_after
first_touches_after-append [] ys f = refl
first_touches_after-append (x ∷ xs) ys f = first_touches_after-append xs ys (word_touched x.part x.word x.turn f)

-- if none are kept, none are put
none_touched : (part : Part) (word turn : ℕ) → word_touched part word turn no_first_touches ≡ no_first_touches
none_touched Core word turn = refl
none_touched (Drive number) word turn = refl

pub no_first_touches_after : (xs : List TracedAccess) → first_touches_after xs no_first_touches ≡ no_first_touches
unfolding first_touches_after
no_first_touches_after [] = refl
no_first_touches_after (x ∷ xs) = ap (first_touches_after xs) (none_touched x.part x.word x.turn) ∙ no_first_touches_after xs
