-- An operation ends at most once in the beginning of a turn, by an event or because it is due: nothing begins one there.
use Rattle.std.proofs.Common.{◌≡◌, ◌∙◌, ℕ, suc, ◌||◌, ◌++◌, Bool, true, false, List, [], ◌∷◌, flat_map, refl, sym, ap, ap₂, append-nil, true≢false}
use Rattle.pdp_device.specs.Operation.{is_due, is_under_way}
use Rattle.pdp_device.specs.declared.operation.Operation.{Operation}
use Rattle.pdp_unibus.specs.Handbook.Beginning.{Progress, after_event, after_events}
use Rattle.pdp_unibus.specs.Handbook.BusWorld.{BusWorld}
use Rattle.pdp_unibus.specs.declared.event.Event.{Event}
use Rattle.pdp_made.specs.Cells.{DataCell}
use Rattle.pdp_made_run.specs.BeginningRows.{made_by_event, made_by_events, made_if}
use Rattle.pdp_made_run.specs.Origins.{Held, OfEvent, Origin, back_through, still_held}
use Rattle.pdp_turn_moves.specs.Beginnings.{any_where}

-- origins that were held, all of them cells of a kind
abbrev pub AllHeld : (DataCell → Type 0) → List Origin → Type 0
AllHeld Mine [] = Unit {0}
AllHeld Mine (Held c ∷ xs) = Mine c × AllHeld Mine xs
AllHeld Mine (OfEvent t n ∷ xs) = ⊥

-- a step that leaves cells of the kind leaves such origins
pub stays : (Mine : DataCell → Type 0) (made : DataCell → List Origin) → ((c : DataCell) → Mine c → made c ≡ still_held c)
    → (xs : List Origin) → AllHeld Mine xs → flat_map (back_through made) xs ≡ xs
stays Mine made leaves [] all = refl
stays Mine made leaves (Held c ∷ xs) all = ap₂ ◌++◌ (leaves c all.0) (stays Mine made leaves xs all.1)
stays Mine made leaves (OfEvent t n ∷ xs) all = absurd all

-- back from a cell that was held
pub one_back : (made : DataCell → List Origin) (c : DataCell) → flat_map (back_through made) (still_held c) ≡ made c
one_back made c = append-nil (made c)

-- what may be made, and what is not
pub made_none : (due : Bool) (made : DataCell → List Origin) (c : DataCell) → made c ≡ still_held c → made_if due made c ≡ still_held c
made_none true made c none = none
made_none false made c none = refl

pub held_if : (Mine : DataCell → Type 0) (due : Bool) (made : DataCell → List Origin) (c : DataCell) → Mine c → AllHeld Mine (made c) → AllHeld Mine (made_if due made c)
held_if Mine true made c mine all = all
held_if Mine false made c mine all = (mine, tt)

module _ (X : Type 0) (part : BusWorld → X) (made : X → DataCell → List Origin) (operation : X → Operation) (Mine : DataCell → Type 0) (ends : Event → Bool)
    (others : (e : Event) → ends e ≡ false → (own : Origin) (b : BusWorld) (c : DataCell) → Mine c → made_by_event e own b c ≡ still_held c)
    (done : (e : Event) → ends e ≡ true → (own : Origin) (b : BusWorld) (c : DataCell) → Mine c → made_by_event e own b c ≡ made (part b) c)
    (kept : (e : Event) → ends e ≡ false → (p : Progress) → part (after_event e p).bus ≡ part p.bus)
    (ended : (e : Event) → ends e ≡ true → (p : Progress) → is_under_way (operation (part (after_event e p).bus)) ≡ false)
    (idle : (x : X) → is_under_way (operation x) ≡ false → (c : DataCell) → Mine c → made x c ≡ still_held c)
    (closed : (x : X) (c : DataCell) → Mine c → AllHeld Mine (made x c)) where
  -- one event before others
  one_event : (e : Event) (own : Origin) (p : Progress) (c : DataCell) (any : Bool) (tail : List Origin) → Mine c
      → tail ≡ made_if any (made (part (after_event e p).bus)) c → (here : Bool) → ends e ≡ here
      → flat_map (back_through (made_by_event e own p.bus)) tail ≡ made_if (here || any) (made (part p.bus)) c
  one_event e own p c any tail mine is true ends_here =
      ap (flat_map (back_through (made_by_event e own p.bus))) (is ∙ made_none any (made (part (after_event e p).bus)) c (idle (part (after_event e p).bus) (ended e ends_here p) c mine))
      ∙ one_back (made_by_event e own p.bus) c
      ∙ done e ends_here own p.bus c mine
  one_event e own p c any tail mine is false goes_on =
      ap (flat_map (back_through (made_by_event e own p.bus))) (is ∙ ap (λ x. made_if any (made x) c) (kept e goes_on p))
      ∙ stays Mine (made_by_event e own p.bus) (others e goes_on own p.bus) (made_if any (made (part p.bus)) c) (held_if Mine any (made (part p.bus)) c mine (closed (part p.bus) c mine))

  -- all events: the first that ends the operation makes something, and no other
  pub by_events : (es : List Event) (own : ℕ → Origin) (p : Progress) (c : DataCell) → Mine c
      → made_by_events es own p c ≡ made_if (any_where ends es) (made (part p.bus)) c
  unfolding made_by_events
  by_events [] own p c mine = refl
  by_events (e ∷ es) own p c mine =
      one_event e (own 0) p c (any_where ends es) (made_by_events es (λ n. own (suc n)) (after_event e p) c) mine
      (by_events es (λ n. own (suc n)) (after_event e p) c mine) (ends e) refl

  -- if none ends it, it stays
  kept_by : (e : Event) (es : List Event) (p : Progress) (after : BusWorld) → (any_where ends es ≡ false → part after ≡ part (after_event e p).bus)
      → (here : Bool) → ends e ≡ here → (here || any_where ends es) ≡ false → part after ≡ part p.bus
  kept_by e es p after rest true is none = absurd (true≢false none)
  kept_by e es p after rest false is none = rest none ∙ kept e is p

  pub all_kept : (es : List Event) (p : Progress) → any_where ends es ≡ false → part (after_events es p).bus ≡ part p.bus
  all_kept [] p none = refl
  all_kept (e ∷ es) p none = kept_by e es p (after_events es (after_event e p)).bus (all_kept es (after_event e p)) (ends e) refl none

  -- if one ends it, nothing is under way after them
  ended_by : (e : Event) (es : List Event) (p : Progress) → (any_where ends es ≡ true → is_under_way (operation (part (after_events es (after_event e p)).bus)) ≡ false)
      → (here any : Bool) → ends e ≡ here → any_where ends es ≡ any → (here || any) ≡ true
      → is_under_way (operation (part (after_events es (after_event e p)).bus)) ≡ false
  ended_by e es p rest true true is later any = rest later
  ended_by e es p rest false true is later any = rest later
  ended_by e es p rest true false is later any = ap (λ x. is_under_way (operation x)) (all_kept es (after_event e p) later) ∙ ended e is p
  ended_by e es p rest false false is later any = absurd (true≢false (sym any))

  pub all_ended : (es : List Event) (p : Progress) → any_where ends es ≡ true → is_under_way (operation (part (after_events es p).bus)) ≡ false
  all_ended [] p any = absurd (true≢false (sym any))
  all_ended (e ∷ es) p any = ended_by e es p (all_ended es (after_event e p)) (ends e) (any_where ends es) refl refl any

  -- back from the operation's own end, if it is due after the events
  module _ (es : List Event) (own : ℕ → Origin) (p : Progress) (t : ℕ) (x : X) (c : DataCell) (mine : Mine c) (same : x ≡ part (after_events es p).bus) where
    through_by : (any : Bool) → any_where ends es ≡ any
        → flat_map (back_through (made_by_events es own p)) (made_if (is_due t (operation x)) (made x) c)
        ≡ made_if (any || is_due t (operation (part p.bus))) (made (part p.bus)) c
    through_by true is =
        let none = idle x (ap (λ y. is_under_way (operation y)) same ∙ all_ended es p is) c mine in
        ap (flat_map (back_through (made_by_events es own p))) (made_none (is_due t (operation x)) (made x) c none)
        ∙ one_back (made_by_events es own p) c
        ∙ by_events es own p c mine
        ∙ ap (λ any. made_if any (made (part p.bus)) c) is
    through_by false is =
        let due = is_due t (operation (part p.bus)) in
        ap (λ y. flat_map (back_through (made_by_events es own p)) (made_if (is_due t (operation y)) (made y) c)) (same ∙ all_kept es p is)
        ∙ stays Mine (made_by_events es own p) (λ d kind. by_events es own p d kind ∙ ap (λ any. made_if any (made (part p.bus)) d) is)
        (made_if due (made (part p.bus)) c) (held_if Mine due (made (part p.bus)) c mine (closed (part p.bus) c mine))

    pub through : flat_map (back_through (made_by_events es own p)) (made_if (is_due t (operation x)) (made x) c)
        ≡ made_if (any_where ends es || is_due t (operation (part p.bus))) (made (part p.bus)) c
    through = through_by (any_where ends es) refl
