-- The state that is closest to a turn, of those looked at so far.
use Rattle.std.proofs.Common.{◌≡◌, ◌∙◌, ◌+◌, ◌<◌, ◌≤◌, ◌++◌, ℕ, zero, suc, List, [], ◌∷◌, Some, ap, append_assoc, arith, get_or, length, refl, slice_get, sym, take}
use Rattle.std.proofs.lemmas.List.{take_more}
use Rattle.std.proofs.lemmas.List.Elements.{All-push}
use Rattle.pdp_checkpoint.specs.declared.checkpoint.Checkpoint.{Checkpoint}
use Rattle.pdp_checkpoint.specs.Formers.{IsClosest}

found_still : (states : List Checkpoint) (place : ℕ) (c d : Checkpoint) → slice_get states place ≡ Some c → slice_get (states ++ d ∷ []) place ≡ Some c
found_still [] place c d is = absurd (cc is)
found_still (x ∷ states) zero c d is = is
found_still (x ∷ states) (suc place) c d is = found_still states place c d is

found_last : (states : List Checkpoint) (d : Checkpoint) → slice_get (states ++ d ∷ []) (length states) ≡ Some d
found_last [] d = refl
found_last (x ∷ states) d = found_last states d

-- each state that may be taken for this turn is of a turn up to that one
abbrev NoneAbove : ℕ → ℕ → Checkpoint → Type 0
NoneAbove turn most d = d.turn ≤ turn → d.turn ≤ most

-- one state more, which is not closer
pub still_closest : (states : List Checkpoint) (turn : ℕ) (c d : Checkpoint) → IsClosest states turn c → (d.turn ≤ turn → d.turn ≤ c.turn)
    → IsClosest (states ++ d ∷ []) turn c
still_closest states turn c d is farther = record {
  place = is.place;
  state = found_still states is.place c d is.state;
  below = is.below;
  greatest = All-push (NoneAbove turn c.turn) states d is.greatest farther;
}

-- one that is closer
pub now_closest : (states : List Checkpoint) (turn : ℕ) (c d : Checkpoint) → IsClosest states turn c → c.turn < d.turn → d.turn ≤ turn
    → IsClosest (states ++ d ∷ []) turn d
now_closest states turn c d is closer below = record {
  place = length states;
  state = found_last states d;
  below = below;
  greatest = All-push (NoneAbove turn d.turn) states d
      (λ k e inside low. let most = is.greatest k e inside low in omega (arith, most, closer))
      (λ low. omega arith);
}

-- the states looked at, with the next one
pub looked_at_more : (kept near : List Checkpoint) (k : ℕ) (d : Checkpoint) → k < length near → d ≡ get_or near k d
    → kept ++ take (k + 1) near ≡ kept ++ take k near ++ d ∷ []
looked_at_more kept near k d inside is =
    ap (λ xs. kept ++ xs) (take_more near k d inside ∙ ap (λ x. take k near ++ x ∷ []) (sym is))
    ∙ sym (append_assoc kept (take k near) (d ∷ []))
