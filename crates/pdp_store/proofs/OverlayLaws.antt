-- Overlays, access by access; and two overlays as one.
use Rattle.std.proofs.Common.{◌≡◌, ◌∙◌, ◌&&◌, ℕ, zero, suc, ◌<◌, ◌≤◌, Bool, true, false, List, [], ◌∷◌, Option, Some, None, refl, ap, ap₂, length, min, nat_le, nat_lt, ltb-true, slice_index_or, slice_set, if◌then◌else◌, arith}
use Rattle.std.proofs.lemmas.Bool.{leb-false, leb-true}
use Rattle.pdp_store.specs.FirstTouches.{FirstTouches, first_touches_after, touch_page, word_touched}
use Rattle.pdp_store.specs.TracedAccess.{TracedAccess, is_core, stamp_of}
use Rattle.pdp_store.specs.declared.Stamp.{Stamp}
use Rattle.pdp_store.specs.declared.part.Part.{Part}
use Rattle.pdp_store.specs.declared.part.Part.TheVariants as parts
use Rattle.pdp_store.specs.Stamps.{stamps_after_access, stamps_after_trace}
use Rattle.pdp_store.specs.Overlays.{AreBefore, IsBefore, OverlaysAreFlat, drives_over, first_touches_over, stamp_over, stamps_over, touch_over, touches_over}

-- all accesses are in this turn or later
abbrev pub AllFrom : ℕ → List TracedAccess → Type 0
AllFrom c [] = Unit {0}
AllFrom c (x ∷ xs) = (c ≤ x.turn) × AllFrom c xs

late_stamp : (c : ℕ) (under : Option Stamp) (stamp : Stamp) → c ≤ stamp.turn → stamp_over c under (Some stamp) ≡ Some stamp
late_stamp c under stamp late = by (nat_le c stamp.turn) refl where
  by : (b : Bool) → nat_le c stamp.turn ≡ b → (if b then Some stamp else under) ≡ Some stamp
  by true is = refl
  by false is = let less = leb-false c stamp.turn is in absurd (omega (arith, less, late))

over_set : (c : ℕ) (a b : List (Option Stamp)) (k : ℕ) (stamp : Stamp) → c ≤ stamp.turn
    → stamps_over c a (slice_set b k (Some stamp)) ≡ slice_set (stamps_over c a b) k (Some stamp)
over_set c [] b k stamp late = refl
over_set c (x ∷ a) [] k stamp late = refl
over_set c (x ∷ a) (y ∷ b) zero stamp late = ap (λ z. z ∷ stamps_over c a b) (late_stamp c x stamp late)
over_set c (x ∷ a) (y ∷ b) (suc k) stamp late = ap (λ zs. stamp_over c x y ∷ zs) (over_set c a b k stamp late)

over_put : (c : ℕ) (a b : List (Option Stamp)) (x : TracedAccess) → c ≤ x.turn
    → stamps_over c a (stamps_after_access x b) ≡ stamps_after_access x (stamps_over c a b)
over_put c a b x late = by (x.writes && is_core x.part) where
  by : (w : Bool) → stamps_over c a (if w then slice_set b x.word (Some (stamp_of x)) else b)
      ≡ (if w then slice_set (stamps_over c a b) x.word (Some (stamp_of x)) else stamps_over c a b)
  by true = over_set c a b x.word (stamp_of x) late
  by false = refl

-- a trace of late accesses leaves in the overlay what it leaves over it
pub over_after : (c : ℕ) (a b : List (Option Stamp)) (xs : List TracedAccess) → AllFrom c xs
    → stamps_over c a (stamps_after_trace xs b) ≡ stamps_after_trace xs (stamps_over c a b)
unfolding stamps_after_trace
over_after c a b [] late = refl
over_after c a b (x ∷ xs) late = over_after c a (stamps_after_access x b) xs late.1 ∙ ap (stamps_after_trace xs) (over_put c a b x late.0)

-- stamps before the turn have no effect
pub early_stamp : (c : ℕ) (under stamp : Option Stamp) → IsBefore c stamp → stamp_over c under stamp ≡ under
early_stamp c under None early = refl
early_stamp c under (Some stamp) early = by (nat_le c stamp.turn) refl where
  by : (b : Bool) → nat_le c stamp.turn ≡ b → (if b then Some stamp else under) ≡ under
  by true is = let more = leb-true c stamp.turn is in absurd (omega (arith, more, early))
  by false is = refl

pub over_early : (c : ℕ) (a b : List (Option Stamp)) → length a ≡ length b → AreBefore c b → stamps_over c a b ≡ a
over_early c [] b size early = refl
over_early c (x ∷ a) [] size early = absurd (omega (arith, size))
over_early c (x ∷ a) (y ∷ b) size early = ap₂ (λ z zs. z ∷ zs) (early_stamp c x y early.0) (over_early c a b (omega (arith, size)) early.1)

-- first touches
one_late : (c u f t : ℕ) → c ≤ t → touch_over c u (min f t) ≡ min (touch_over c u f) t
one_late c u f t late = by (nat_lt u c) refl where
  by : (b : Bool) → nat_lt u c ≡ b → (if b then u else min f t) ≡ min (if b then u else f) t
  by true is = let low : u < c = ltb-true u c is in omega (arith, low, late)
  by false is = refl

page_late : (c : ℕ) (a b : List ℕ) (k t : ℕ) → c ≤ t → touches_over c a (touch_page b k t) ≡ touch_page (touches_over c a b) k t
page_late c [] b k t late = refl
page_late c (x ∷ a) [] k t late = refl
page_late c (x ∷ a) (y ∷ b) zero t late = ap (λ z. z ∷ touches_over c a b) (one_late c x y t late)
page_late c (x ∷ a) (y ∷ b) (suc k) t late = ap (λ zs. touch_over c x y ∷ zs) (page_late c a b k t late)

abbrev touch_drive : List (List ℕ) → ℕ → ℕ → ℕ → List (List ℕ)
touch_drive ds d k t = slice_set ds d (touch_page (slice_index_or ds d []) k t)

drive_late : (c : ℕ) (a b : List (List ℕ)) (d k t : ℕ) → c ≤ t → drives_over c a (touch_drive b d k t) ≡ touch_drive (drives_over c a b) d k t
drive_late c [] b d k t late = refl
drive_late c (x ∷ a) [] d k t late = refl
drive_late c (x ∷ a) (y ∷ b) zero k t late = ap (λ z. z ∷ drives_over c a b) (page_late c x y k t late)
drive_late c (x ∷ a) (y ∷ b) (suc d) k t late = ap (λ zs. touches_over c x y ∷ zs) (drive_late c a b d k t late)

word_late : (c : ℕ) (a b : FirstTouches) (part : Part) (word t : ℕ) → c ≤ t
    → first_touches_over c a (word_touched part word t b) ≡ word_touched part word t (first_touches_over c a b)
word_late c a b parts.Core word t late = ap (λ zs. record (first_touches_over c a b) { core = zs }) (page_late c a.core b.core _ t late)
word_late c a b (parts.Drive d) word t late = ap (λ zs. record (first_touches_over c a b) { drives = zs }) (drive_late c a.drives b.drives d _ t late)

pub touches_late : (c : ℕ) (a b : FirstTouches) (xs : List TracedAccess) → AllFrom c xs
    → first_touches_over c a (first_touches_after xs b) ≡ first_touches_after xs (first_touches_over c a b)
unfolding first_touches_after
touches_late c a b [] late = refl
touches_late c a b (x ∷ xs) late =
    touches_late c a (word_touched x.part x.word x.turn b) xs late.1
    ∙ ap (first_touches_after xs) (word_late c a b x.part x.word x.turn late.0)

-- two overlays
one_hidden : (c e : ℕ) (a b s : Option Stamp) → c ≤ e → IsBefore e b → stamp_over e a (stamp_over c b s) ≡ stamp_over e a s
one_hidden c e a b None le before = early_stamp e a b before
one_hidden c e a b (Some stamp) le before = by (nat_le c stamp.turn) refl where
  by : (x : Bool) → nat_le c stamp.turn ≡ x → stamp_over e a (if x then Some stamp else b) ≡ stamp_over e a (Some stamp)
  by true is = refl
  by false is = by_later (nat_le e stamp.turn) refl where
    by_later : (y : Bool) → nat_le e stamp.turn ≡ y → stamp_over e a b ≡ (if y then Some stamp else a)
    by_later true also = let less = leb-false c stamp.turn is in let more = leb-true e stamp.turn also in absurd (omega (arith, less, more, le))
    by_later false also = early_stamp e a b before

hidden : (c e : ℕ) (a b s : List (Option Stamp)) → length b ≡ length s → c ≤ e → AreBefore e b
    → stamps_over e a (stamps_over c b s) ≡ stamps_over e a s
hidden c e [] b s size le before = refl
hidden c e (x ∷ a) [] [] size le before = refl
hidden c e (x ∷ a) [] (z ∷ s) size le before = absurd (omega (arith, size))
hidden c e (x ∷ a) (y ∷ b) [] size le before = absurd (omega (arith, size))
hidden c e (x ∷ a) (y ∷ b) (z ∷ s) size le before =
    ap₂ (λ v vs. v ∷ vs) (one_hidden c e x y z le before.0) (hidden c e a b s (omega (arith, size)) le before.1)

one_below : (c e : ℕ) (a b s : Option Stamp) → e ≤ c → stamp_over e a (stamp_over c b s) ≡ stamp_over c (stamp_over e a b) s
one_below c e a b None le = refl
one_below c e a b (Some stamp) le = by (nat_le c stamp.turn) refl where
  by : (x : Bool) → nat_le c stamp.turn ≡ x → stamp_over e a (if x then Some stamp else b) ≡ (if x then Some stamp else stamp_over e a b)
  by true is = by_later (nat_le e stamp.turn) refl where
    by_later : (y : Bool) → nat_le e stamp.turn ≡ y → (if y then Some stamp else a) ≡ Some stamp
    by_later true also = refl
    by_later false also = let more = leb-true c stamp.turn is in let less = leb-false e stamp.turn also in absurd (omega (arith, more, less, le))
  by false is = refl

below : (c e : ℕ) (a b s : List (Option Stamp)) → e ≤ c → stamps_over e a (stamps_over c b s) ≡ stamps_over c (stamps_over e a b) s
below c e [] b s le = refl
below c e (x ∷ a) [] s le = refl
below c e (x ∷ a) (y ∷ b) [] le = refl
below c e (x ∷ a) (y ∷ b) (z ∷ s) le = ap₂ (λ v vs. v ∷ vs) (one_below c e x y z le) (below c e a b s le)

pub overlays_are_flat : OverlaysAreFlat
overlays_are_flat c e a b stamps size = (λ le before. hidden c e a b stamps size le before, λ le. below c e a b stamps le)
