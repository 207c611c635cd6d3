-- What is found among events, one after the other.
use Rattle.std.proofs.Common.{◌≡◌, ◌∙◌, ℕ, zero, suc, ◌+◌, ◌<◌, ◌||◌, Bool, true, false, List, [], ◌∷◌, Option, Some, None, length, take, get_or, if◌then◌else◌, refl, ap, add-one, arith}
use Rattle.pdp_unibus.specs.declared.event.Event.{Event}
use Rattle.pdp_unibus.specs.declared.event.Event.TheVariants as event
use Rattle.pdp_turn_moves.specs.Beginnings.{any_where, ends_function, ends_reading, found_in, found_with, is_key, last_where, later_or, sets_switches}
use Rattle.pdp_turn_moves.specs.declared.found_events.FoundEvents.{FoundEvents}

first_or : (here : Bool) → later_or here None ≡ (if here then Some 0 else None)
first_or true = refl
first_or false = refl

later_if : (here there : Bool) (i : ℕ) (last : Option ℕ) → later_or here (if there then Some i else last) ≡ (if there then Some (suc i) else later_or here last)
later_if here true i last = refl
later_if here false i last = refl

last_next : (holds : Event → Bool) (es : List Event) (i : ℕ) (d : Event) → i < length es
    → last_where holds (take (suc i) es) ≡ (if holds (get_or es i d) then Some i else last_where holds (take i es))
last_next holds [] i d below = absurd (omega arith)
last_next holds (e ∷ es) zero d below = first_or (holds e)
last_next holds (e ∷ es) (suc i) d below =
    ap (later_or (holds e)) (last_next holds es i d (omega arith))
    ∙ later_if (holds e) (holds (get_or es i d)) i (last_where holds (take i es))

first_any : (here : Bool) → (here || false) ≡ (if here then true else false)
first_any true = refl
first_any false = refl

any_if : (here there any : Bool) → (here || (if there then true else any)) ≡ (if there then true else (here || any))
any_if true true any = refl
any_if true false any = refl
any_if false true any = refl
any_if false false any = refl

any_next : (holds : Event → Bool) (es : List Event) (i : ℕ) (d : Event) → i < length es
    → any_where holds (take (suc i) es) ≡ (if holds (get_or es i d) then true else any_where holds (take i es))
any_next holds [] i d below = absurd (omega arith)
any_next holds (e ∷ es) zero d below = first_any (holds e)
any_next holds (e ∷ es) (suc i) d below =
    ap (λ any. holds e || any) (any_next holds es i d (omega arith))
    ∙ any_if (holds e) (holds (get_or es i d)) (any_where holds (take i es))

-- what is found with an event more, part by part
found_is : (e : Event) (i : ℕ) (before after : FoundEvents)
    → after.key ≡ (if is_key e then Some i else before.key)
    → after.switches ≡ (if sets_switches e then Some i else before.switches)
    → after.reader_done ≡ (if ends_reading e then true else before.reader_done)
    → after.disk_done ≡ (if ends_function e then true else before.disk_done)
    → after ≡ found_with e i before
found_is (event.Key key) i before after k s r d = λ j. record { key = k j; switches = s j; reader_done = r j; disk_done = d j }
found_is _ i before after k s r d = λ j. record { key = k j; switches = s j; reader_done = r j; disk_done = d j }

found_next : (es : List Event) (i : ℕ) (d : Event) → i < length es
    → found_in (take (suc i) es) ≡ found_with (get_or es i d) i (found_in (take i es))
found_next es i d below = found_is (get_or es i d) i (found_in (take i es)) (found_in (take (suc i) es))
    (last_next is_key es i d below) (last_next sets_switches es i d below)
    (any_next ends_reading es i d below) (any_next ends_function es i d below)

pub found_more : (es : List Event) (i : ℕ) (d : Event) → i < length es
    → found_in (take (i + 1) es) ≡ found_with (get_or es i d) i (found_in (take i es))
found_more es i d below = rw add-one (found_next es i d below)
