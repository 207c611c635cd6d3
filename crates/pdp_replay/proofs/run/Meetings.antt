-- Two runs that meet stay equal.
use Rattle.std.proofs.Common.{◌≡◌, ◌∙◌, ◌&&◌, ℕ, zero, suc, ◌+◌, ◌<◌, ◌≤◌, Bool, true, false, List, [], ◌∷◌, ◌++◌, Option, Some, None, All, refl, sym, ap, ap₂, subst, length, drop, replicate, slice_set, if◌then◌else◌, arith, nat_lt, ltb-true, ltb-false}
use Rattle.pdp_store.specs.FirstTouches.{FirstTouches, first_touches_after}
use Rattle.pdp_store.specs.TracedAccess.{TracedAccess, is_core, stamp_of}
use Rattle.pdp_store.specs.declared.Stamp.{Stamp}
use Rattle.pdp_store.proofs.FirstTouches.{first_touches_after-append}
use Rattle.pdp_unibus.specs.Touched.{IsOfTurn}
use Rattle.pdp_operand.specs.Phases.World.{World}
use Rattle.pdp_cpu.proofs.TurnLaws.{turn_touches}
use Rattle.pdp_cpu.specs.Handbook.Turn.{one_turn, printed_in, punched_in, turn_trace}
use Rattle.pdp_script.specs.Entries.{events_at}
use Rattle.pdp_replay.specs.Past.{Past}
use Rattle.pdp_replay.specs.Past.Setup.{core_size}
use Rattle.pdp_replay.specs.Run.FirstTouches.{first_touches_at, trace_of_turn, untouched_all}
use Rattle.pdp_replay.specs.Run.States.{first_world, punched_at, state_at, text_at, trace_at}
use Rattle.pdp_replay.specs.Run.Meetings.{EqualStaysEqual, FirstTouchesAreTaken, MeetAgain, MeetAt, TouchesNoMoreAgain, world_over}
use Rattle.pdp_replay.proofs.ask.LastWrites.{stamps_keep_size}
use Rattle.pdp_replay.proofs.run.GrowingTexts.{grow_alike}
use Rattle.pdp_replay.proofs.run.KeptTexts.{printed_of, punched_keeps, punched_of, text_keeps}
use Rattle.pdp_store.specs.Overlays.{AreBefore, drives_over, first_touches_over, stamps_over, touch_over, touches_over}
use Rattle.pdp_store.specs.Stamps.{stamps_after_access, stamps_after_trace}
use Rattle.pdp_store.proofs.OverlayLaws.{AllFrom, over_after, over_early, touches_late}
use Rattle.pdp_cpu.proofs.Carried.{stamps_disturb_nothing}
use Rattle.pdp_cpu.specs.Handbook.MachineState.{world_with_stamps}

-- the trace of a turn is of that turn
of_turn : (n words : ℕ) (xs : List TracedAccess) (c : ℕ) → c ≤ n → All (IsOfTurn n words) xs → AllFrom c xs
of_turn n words [] c le all = tt
of_turn n words (x ∷ xs) c le all =
    let is = (all zero x (omega arith)).turn_is in
    (omega (arith, is, le), of_turn n words xs c le (λ k d below. all (suc k) d (omega (arith, below))))

pub turn_from : (p : Past) (n c : ℕ) → c ≤ n → AllFrom c (trace_of_turn p n)
turn_from p n c le =
    of_turn n (length (state_at p n).bus.core) _ c le (turn_touches n (events_at p.script.entries n) (state_at p n))

-- the stamps of the next state
stamps_next : (p : Past) (n : ℕ) → (state_at p (suc n)).bus.stamps ≡ stamps_after_trace (trace_of_turn p n) (state_at p n).bus.stamps
unfolding state_at
stamps_next p n =
    let w = state_at p n in
    ap (λ v. v.bus.stamps) (stamps_disturb_nothing n (events_at p.script.entries n) w w.bus.stamps).world_is

-- stamps before turn n are of turns before it
early_weaker : (n : ℕ) (stamps : List (Option Stamp)) → AreBefore n stamps → AreBefore (suc n) stamps
early_weaker n [] early = tt
early_weaker n (None ∷ xs) early = (tt, early_weaker n xs early.1)
early_weaker n (Some stamp ∷ xs) early = (omega (arith, early.0), early_weaker n xs early.1)

early_set : (n : ℕ) (stamps : List (Option Stamp)) (k : ℕ) (stamp : Stamp) → stamp.turn < n → AreBefore n stamps → AreBefore n (slice_set stamps k (Some stamp))
early_set n [] k stamp low early = tt
early_set n (x ∷ xs) zero stamp low early = (low, early.1)
early_set n (x ∷ xs) (suc k) stamp low early = (early.0, early_set n xs k stamp low early.1)

early_put : (n : ℕ) (x : TracedAccess) (stamps : List (Option Stamp)) → x.turn < n → AreBefore n stamps → AreBefore n (stamps_after_access x stamps)
early_put n x stamps low early = by (x.writes && is_core x.part) where
  by : (w : Bool) → AreBefore n (if w then slice_set stamps x.word (Some (stamp_of x)) else stamps)
  by true = early_set n stamps x.word (stamp_of x) low early
  by false = early

early_after : (n words : ℕ) (xs : List TracedAccess) (stamps : List (Option Stamp)) → All (IsOfTurn n words) xs → AreBefore (suc n) stamps → AreBefore (suc n) (stamps_after_trace xs stamps)
unfolding stamps_after_trace
early_after n words [] stamps all early = early
early_after n words (x ∷ xs) stamps all early =
    let is = (all zero x (omega arith)).turn_is in
    early_after n words xs (stamps_after_access x stamps) (λ k d below. all (suc k) d (omega (arith, below))) (early_put (suc n) x stamps (omega (arith, is)) early)

none_early : (n size : ℕ) → AreBefore n (replicate size None)
none_early n zero = tt
none_early n (suc size) = (tt, none_early n size)

pub stamps_are_early : (p : Past) (n : ℕ) → AreBefore n (state_at p n).bus.stamps
unfolding state_at first_world
stamps_are_early p zero = none_early zero (core_size p.setup)
stamps_are_early p (suc n) =
    subst (AreBefore (suc n)) (sym (stamps_next p n))
    (early_after n _ (trace_of_turn p n) _ (turn_touches n (events_at p.script.entries n) (state_at p n))
    (early_weaker n (state_at p n).bus.stamps (stamps_are_early p n)))

-- one turn of both
pub record OneMore (c n : ℕ) (p q : Past) : Type 0 where
  pub world_is : state_at p (suc n) ≡ world_over c (state_at p c) (state_at q (suc n))
  pub trace : trace_of_turn p n ≡ trace_of_turn q n
  pub printed : printed_in n (events_at p.script.entries n) (state_at p n) ≡ printed_in n (events_at q.script.entries n) (state_at q n)
  pub punched : punched_in n (events_at p.script.entries n) (state_at p n) ≡ punched_in n (events_at q.script.entries n) (state_at q n)

one_more : (c n : ℕ) (p q : Past) → c ≤ n → events_at p.script.entries n ≡ events_at q.script.entries n
    → state_at p n ≡ world_over c (state_at p c) (state_at q n) → OneMore c n p q
unfolding state_at
one_more c n p q le events is =
    let es = events_at q.script.entries n in
    let w = state_at q n in
    let under = (state_at p c).bus.stamps in
    let so = stamps_disturb_nothing n es w (stamps_over c under w.bus.stamps) in
    let left = sym (over_after c under w.bus.stamps (trace_of_turn q n) (turn_from q n c le)) in
    record {
      world_is = ap₂ (one_turn n) events is ∙ so.world_is
          ∙ ap (world_with_stamps (one_turn n es w)) (left ∙ ap (stamps_over c under) (sym (stamps_next q n)));
      trace = ap₂ (turn_trace n) events is ∙ so.trace;
      printed = ap₂ (printed_in n) events is ∙ so.printed;
      punched = ap₂ (punched_in n) events is ∙ so.punched;
    }

first : (c : ℕ) (p q : Past) → MeetAt c p q → state_at p c ≡ world_over c (state_at p c) (state_at q c)
first c p q meet =
    meet.world_is
    ∙ ap (world_with_stamps (state_at q c)) (sym (over_early c (state_at p c).bus.stamps (state_at q c).bus.stamps meet.size (stamps_are_early q c)))

pub worlds_meet : (c d : ℕ) (p q : Past) → MeetAt c p q → state_at p (d + c) ≡ world_over c (state_at p c) (state_at q (d + c))
worlds_meet c zero p q meet = let e : zero + c ≡ c = omega arith in rw e (first c p q meet)
worlds_meet c (suc d) p q meet =
    let e : suc d + c ≡ suc (d + c) = omega arith in rw e
    (one_more c (d + c) p q (omega arith) (meet.events (d + c) (omega arith)) (worlds_meet c d p q meet)).world_is

pub turns_meet : (c d : ℕ) (p q : Past) → MeetAt c p q → OneMore c (d + c) p q
turns_meet c d p q meet = one_more c (d + c) p q (omega arith) (meet.events (d + c) (omega arith)) (worlds_meet c d p q meet)

-- what comes out
pub texts_meet : (c d : ℕ) (p q : Past) → MeetAt c p q
    → text_at p (d + c) ≡ text_at p c ++ drop (length (text_at q c)) (text_at q (d + c))
texts_meet c d p q meet =
    grow_alike (text_at p) (text_at q) (printed_of p) (printed_of q) (text_keeps p).grows (text_keeps q).grows c (λ k. (turns_meet c k p q meet).printed) d

pub punched_meet : (c d : ℕ) (p q : Past) → MeetAt c p q
    → punched_at p (d + c) ≡ punched_at p c ++ drop (length (punched_at q c)) (punched_at q (d + c))
punched_meet c d p q meet =
    grow_alike (punched_at p) (punched_at q) (punched_of p) (punched_of q) (punched_keeps p).grows (punched_keeps q).grows c (λ k. (turns_meet c k p q meet).punched) d

pub equal_stays_equal : EqualStaysEqual
equal_stays_equal p q c d meet = record {
  world_is = worlds_meet c d p q meet;
  trace = (turns_meet c d p q meet).trace;
  text = texts_meet c d p q meet;
  punched = punched_meet c d p q meet;
}

touches_next : (p : Past) (n : ℕ) → first_touches_at p (suc n) ≡ first_touches_after (trace_of_turn p n) (first_touches_at p n)
unfolding trace_at
touches_next p n = first_touches_after-append (trace_at p n) (trace_of_turn p n) (untouched_all p.setup)

pub first_touches_are_taken : FirstTouchesAreTaken
first_touches_are_taken p q c zero meet same = let e : zero + c ≡ c = omega arith in rw e (sym same)
first_touches_are_taken p q c (suc d) meet same =
    let xs = trace_of_turn q (d + c) in
    let under = first_touches_at p c in
    let e : suc d + c ≡ suc (d + c) = omega arith in rw e (
    touches_next p (d + c)
    ∙ ap₂ first_touches_after (turns_meet c d p q meet).trace (first_touches_are_taken p q c d meet same)
    ∙ sym (touches_late c under (first_touches_at q (d + c)) xs (turn_from q (d + c) c (omega arith)))
    ∙ ap (first_touches_over c under) (sym (touches_next q (d + c))))

-- they meet again at each later turn
pub meet_again : MeetAgain
meet_again p q c d meet =
    let so = worlds_meet c d p q meet in
    record {
      world_is = so ∙ ap (world_with_stamps (state_at q (d + c))) (sym (ap (λ (w : World). w.bus.stamps) so));
      size = stamps_keep_size p (d + c) ∙ sym (stamps_keep_size p c) ∙ meet.size ∙ stamps_keep_size q c ∙ sym (stamps_keep_size q (d + c));
      events = λ t le. meet.events t (omega (arith, le));
    }

one_again : (c n a x : ℕ) → c ≤ n → touch_over n (touch_over c a x) x ≡ touch_over c a x
one_again c n a x le = by (nat_lt a c) refl where
  by : (b : Bool) → nat_lt a c ≡ b → touch_over n (if b then a else x) x ≡ (if b then a else x)
  by true is = at (nat_lt a n) refl where
    at : (y : Bool) → nat_lt a n ≡ y → (if y then a else x) ≡ a
    at true also = refl
    at false also = let low : a < c = ltb-true a c is in let high : n ≤ a = ltb-false a n also in absurd (omega (arith, low, high, le))
  by false is = at (nat_lt x n) where
    at : (y : Bool) → (if y then x else x) ≡ x
    at true = refl
    at false = refl

pages_again : (c n : ℕ) (a x : List ℕ) → c ≤ n → touches_over n (touches_over c a x) x ≡ touches_over c a x
pages_again c n [] x le = refl
pages_again c n (y ∷ a) [] le = refl
pages_again c n (y ∷ a) (z ∷ x) le = ap₂ (λ v vs. v ∷ vs) (one_again c n y z le) (pages_again c n a x le)

drives_again : (c n : ℕ) (a x : List (List ℕ)) → c ≤ n → drives_over n (drives_over c a x) x ≡ drives_over c a x
drives_again c n [] x le = refl
drives_again c n (y ∷ a) [] le = refl
drives_again c n (y ∷ a) (z ∷ x) le = ap₂ (λ v vs. v ∷ vs) (pages_again c n y z le) (drives_again c n a x le)

all_again : (c n : ℕ) (a x : FirstTouches) → c ≤ n → first_touches_over n (first_touches_over c a x) x ≡ first_touches_over c a x
all_again c n a x le = λ i. record { core = pages_again c n a.core x.core le i; drives = drives_again c n a.drives x.drives le i }

pub no_more_again : TouchesNoMoreAgain
no_more_again p q c d meet none =
    let so = first_touches_are_taken p q c d meet none in
    let x = first_touches_at q (d + c) in
    ap (λ t. first_touches_over (d + c) t x) so ∙ all_again c (d + c) (first_touches_at p c) x (omega arith) ∙ sym so
