-- The first touch of a page is the least turn that touches it.
use Rattle.std.proofs.Common.{◌≡◌, ℕ, zero, suc, ◌/◌, ◌<◌, ◌==◌, ◌&&◌, ◌||◌, if◌then◌else◌, Bool, true, false, List, [], ◌∷◌, arith, nat_lt, ltb-true, ltb-false, refl, subst}
use Rattle.std.proofs.lemmas.Bool.{eqb-true}
use Rattle.pdp_store.specs.Parts.{is_same_part}
use Rattle.pdp_store.specs.TracedAccess.{Avoids, TracedAccess}
use Rattle.pdp_store.specs.declared.part.Part.{Part}
use Rattle.pdp_replay.specs.Run.FirstTouches.{FirstTouchesAreFirst, IsFirstTouch, earlier_touch, first_touch, meets, trace_of_turn}
use Rattle.pdp_replay.specs.Past.{Past}
use Rattle.pdp_replay.proofs.run.RunFirstTouches.{is_part}
use Rattle.pdp_replay.proofs.run.Untouched.{avoids_unmet}

-- a page that a trace meets isn't avoided
met_here : (part : Part) (page : ℕ) (x : TracedAccess) (same inside rest : Bool) → is_same_part x.part part ≡ same → (x.word / 256 == page) ≡ inside
    → ((same && inside) || rest) ≡ true → (x.part ≡ part → x.word / 256 ≡ page → ⊥) → (rest ≡ true → ⊥) → ⊥
met_here part page x true true rest is at met here later = here (is_part part x.part is) (eqb-true (x.word / 256) page at)
met_here part page x true false rest is at met here later = later met
met_here part page x false inside rest is at met here later = later met

met_not_avoided : (part : Part) (page : ℕ) (xs : List TracedAccess) → meets part page xs ≡ true → Avoids part page xs → ⊥
met_not_avoided part page [] met avoids = absurd (cc)
met_not_avoided part page (x ∷ xs) met avoids =
    met_here part page x (is_same_part x.part part) (x.word / 256 == page) (meets part page xs) refl refl met avoids.0
    (λ later. met_not_avoided part page xs later avoids.1)

next_first : (p : Past) (part : Part) (page n first : ℕ) (touches : Bool) → meets part page (trace_of_turn p n) ≡ touches
    → IsFirstTouch p part page n first → IsFirstTouch p part page (suc n) (earlier_touch first n touches)
next_first p part page n first touches met so = by (nat_lt first n) refl touches met where
  same : nat_lt first n ≡ false → first ≡ n
  same is = let within = so.within in omega (arith, within, ltb-false first n is)

  none_yet : nat_lt first n ≡ false → (t : ℕ) → t < n → Avoids part page (trace_of_turn p t)
  none_yet is t below = so.none_before t (let at = same is in omega (arith, at, below))

  none_so_far : nat_lt first n ≡ false → meets part page (trace_of_turn p n) ≡ false → (t : ℕ) → t < suc n → (b : Bool) → nat_lt t n ≡ b
      → Avoids part page (trace_of_turn p t)
  none_so_far is unmet t below true less = none_yet is t (ltb-true t n less)
  none_so_far is unmet t below false more =
      let last : n ≡ t = omega (arith, below, ltb-false t n more) in
      subst (λ k. Avoids part page (trace_of_turn p k)) last (avoids_unmet part page (trace_of_turn p n) unmet)

  by : (less : Bool) → nat_lt first n ≡ less → (touches : Bool) → meets part page (trace_of_turn p n) ≡ touches
      → IsFirstTouch p part page (suc n) (if less then first else if touches then n else suc n)
  by true is touches met = record {
    within = omega (arith, ltb-true first n is);
    none_before = so.none_before;
    touches = λ below. so.touches (ltb-true first n is);
  }
  by false is true met = record {
    within = omega arith;
    none_before = none_yet is;
    touches = λ below avoids. met_not_avoided part page (trace_of_turn p n) met avoids;
  }
  by false is false met = record {
    within = omega arith;
    none_before = λ t below. none_so_far is met t below (nat_lt t n) refl;
    touches = λ below. absurd (omega (arith, below));
  }

pub first_is_least : FirstTouchesAreFirst
unfolding first_touch
first_is_least p part page zero = record {
  within = omega arith;
  none_before = λ t below. absurd (omega (arith, below));
  touches = λ below. absurd (omega (arith, below));
}
first_is_least p part page (suc n) = next_first p part page n (first_touch p part page n) _ refl (first_is_least p part page n)
