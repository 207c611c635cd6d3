-- First touches, as a trace leaves them: in any order, once or twice; and what is left of them when
-- late ones are dropped.
use Rattle.std.proofs.Common.{◌≡◌, ◌∙◌, ℕ, zero, suc, ◌/◌, ◌<◌, ◌≤◌, Bool, true, false, List, [], ◌∷◌, ◌++◌, ap, refl, sym, map, min, nat_lt, ltb-true, ltb-false, slice_index_or, slice_set, if◌then◌else◌, arith}
use Rattle.pdp_store.specs.TracedAccess.{TracedAccess}
use Rattle.pdp_store.specs.declared.part.Part.{Part}
use Rattle.pdp_store.specs.declared.part.Part.TheVariants as parts
use Rattle.pdp_store.proofs.FirstTouches.{first_touches_after-append}
use Rattle.pdp_store.specs.FirstTouches.{FirstTouches, all_first_touches_before, first_before, first_touches_after, first_touches_before, never, touch_page, word_touched}

-- pages of one list
page_commutes : (xs : List ℕ) (p t q u : ℕ) → touch_page (touch_page xs p t) q u ≡ touch_page (touch_page xs q u) p t
page_commutes [] p t q u = refl
page_commutes (x ∷ xs) zero t zero u = let e : min (min x t) u ≡ min (min x u) t = omega arith in ap (λ y. y ∷ xs) e
page_commutes (x ∷ xs) zero t (suc q) u = refl
page_commutes (x ∷ xs) (suc p) t zero u = refl
page_commutes (x ∷ xs) (suc p) t (suc q) u = ap (λ ys. x ∷ ys) (page_commutes xs p t q u)

page_again : (xs : List ℕ) (p t : ℕ) → touch_page (touch_page xs p t) p t ≡ touch_page xs p t
page_again [] p t = refl
page_again (x ∷ xs) zero t = let e : min (min x t) t ≡ min x t = omega arith in ap (λ y. y ∷ xs) e
page_again (x ∷ xs) (suc p) t = ap (λ ys. x ∷ ys) (page_again xs p t)

-- pages of drives
abbrev touch_drive : List (List ℕ) → ℕ → ℕ → ℕ → List (List ℕ)
touch_drive ds d p t = slice_set ds d (touch_page (slice_index_or ds d []) p t)

drive_commutes : (ds : List (List ℕ)) (d p t e q u : ℕ) → touch_drive (touch_drive ds d p t) e q u ≡ touch_drive (touch_drive ds e q u) d p t
drive_commutes [] d p t e q u = refl
drive_commutes (x ∷ ds) zero p t zero q u = ap (λ y. y ∷ ds) (page_commutes x p t q u)
drive_commutes (x ∷ ds) zero p t (suc e) q u = refl
drive_commutes (x ∷ ds) (suc d) p t zero q u = refl
drive_commutes (x ∷ ds) (suc d) p t (suc e) q u = ap (λ ys. x ∷ ys) (drive_commutes ds d p t e q u)

drive_again : (ds : List (List ℕ)) (d p t : ℕ) → touch_drive (touch_drive ds d p t) d p t ≡ touch_drive ds d p t
drive_again [] d p t = refl
drive_again (x ∷ ds) zero p t = ap (λ y. y ∷ ds) (page_again x p t)
drive_again (x ∷ ds) (suc d) p t = ap (λ ys. x ∷ ys) (drive_again ds d p t)

-- one touch, and another
touch_commutes : (part other : Part) (w t v u : ℕ) (f : FirstTouches) → word_touched other v u (word_touched part w t f) ≡ word_touched part w t (word_touched other v u f)
touch_commutes parts.Core parts.Core w t v u f = ap (λ xs. record f { core = xs }) (page_commutes f.core (w / 256) t (v / 256) u)
touch_commutes parts.Core (parts.Drive e) w t v u f = refl
touch_commutes (parts.Drive d) parts.Core w t v u f = refl
touch_commutes (parts.Drive d) (parts.Drive e) w t v u f = ap (λ xs. record f { drives = xs }) (drive_commutes f.drives d (w / 256) t e (v / 256) u)

touch_again : (part : Part) (w t : ℕ) (f : FirstTouches) → word_touched part w t (word_touched part w t f) ≡ word_touched part w t f
touch_again parts.Core w t f = ap (λ xs. record f { core = xs }) (page_again f.core (w / 256) t)
touch_again (parts.Drive d) w t f = ap (λ xs. record f { drives = xs }) (drive_again f.drives d (w / 256) t)

past_one : (part : Part) (w t : ℕ) (xs : List TracedAccess) (f : FirstTouches) → first_touches_after xs (word_touched part w t f) ≡ word_touched part w t (first_touches_after xs f)
unfolding first_touches_after
past_one part w t [] f = refl
past_one part w t (x ∷ xs) f =
    ap (first_touches_after xs) (touch_commutes part x.part w t x.word x.turn f) ∙ past_one part w t xs (word_touched x.part x.word x.turn f)

past_all : (xs ys : List TracedAccess) (f : FirstTouches) → first_touches_after xs (first_touches_after ys f) ≡ first_touches_after ys (first_touches_after xs f)
unfolding first_touches_after
past_all xs [] f = refl
past_all xs (y ∷ ys) f = past_all xs ys (word_touched y.part y.word y.turn f) ∙ ap (first_touches_after ys) (past_one y.part y.word y.turn xs f)

all_again : (xs : List TracedAccess) (f : FirstTouches) → first_touches_after xs (first_touches_after xs f) ≡ first_touches_after xs f
unfolding first_touches_after
all_again [] f = refl
all_again (x ∷ xs) f =
    ap (first_touches_after xs) (sym (past_one x.part x.word x.turn xs (word_touched x.part x.word x.turn f)))
    ∙ ap (λ g. first_touches_after xs (first_touches_after xs g)) (touch_again x.part x.word x.turn f)
    ∙ all_again xs (word_touched x.part x.word x.turn f)

-- a trace that stands in another adds nothing to what the other left
pub absorbed : (xs ys zs : List TracedAccess) (f : FirstTouches) → first_touches_after ys (first_touches_after ((xs ++ ys) ++ zs) f) ≡ first_touches_after ((xs ++ ys) ++ zs) f
absorbed xs ys zs f =
    let g = first_touches_after xs f in
    let whole : first_touches_after ((xs ++ ys) ++ zs) f ≡ first_touches_after zs (first_touches_after ys g)
    = first_touches_after-append (xs ++ ys) zs f ∙ ap (first_touches_after zs) (first_touches_after-append xs ys f) in
    ap (first_touches_after ys) whole ∙ past_all ys zs (first_touches_after ys g) ∙ ap (first_touches_after zs) (all_again ys g) ∙ sym whole

-- late touches are dropped, whether they were there or not
before_late : (k t x : ℕ) → k ≤ t → first_before k (min x t) ≡ first_before k x
before_late k t x late = by (nat_lt x k) refl (nat_lt (min x t) k) refl where
  by : (a : Bool) → nat_lt x k ≡ a → (b : Bool) → nat_lt (min x t) k ≡ b → (if b then min x t else never) ≡ (if a then x else never)
  by true is true also = omega (arith, ltb-true x k is, late)
  by true is false also = absurd (omega (arith, ltb-true x k is, ltb-false (min x t) k also))
  by false is true also = absurd (omega (arith, ltb-false x k is, ltb-true (min x t) k also, late))
  by false is false also = refl

before_early : (k t x : ℕ) → t < k → t ≤ never → first_before k (min x t) ≡ min (first_before k x) t
before_early k t x early small = by (nat_lt x k) refl (nat_lt (min x t) k) refl where
  by : (a : Bool) → nat_lt x k ≡ a → (b : Bool) → nat_lt (min x t) k ≡ b → (if b then min x t else never) ≡ min (if a then x else never) t
  by true is true also = refl
  by true is false also = absurd (omega (arith, early, ltb-false (min x t) k also))
  by false is true also = omega (arith, ltb-false x k is, early, small)
  by false is false also = absurd (omega (arith, early, ltb-false (min x t) k also))

page_late : (k t : ℕ) (xs : List ℕ) (p : ℕ) → k ≤ t → first_touches_before k (touch_page xs p t) ≡ first_touches_before k xs
page_late k t [] p late = refl
page_late k t (x ∷ xs) zero late = ap (λ y. y ∷ first_touches_before k xs) (before_late k t x late)
page_late k t (x ∷ xs) (suc p) late = ap (λ ys. first_before k x ∷ ys) (page_late k t xs p late)

page_early : (k t : ℕ) (xs : List ℕ) (p : ℕ) → t < k → t ≤ never → first_touches_before k (touch_page xs p t) ≡ touch_page (first_touches_before k xs) p t
page_early k t [] p early small = refl
page_early k t (x ∷ xs) zero early small = ap (λ y. y ∷ first_touches_before k xs) (before_early k t x early small)
page_early k t (x ∷ xs) (suc p) early small = ap (λ ys. first_before k x ∷ ys) (page_early k t xs p early small)

drive_late : (k t : ℕ) (ds : List (List ℕ)) (d p : ℕ) → k ≤ t → map (first_touches_before k) (touch_drive ds d p t) ≡ map (first_touches_before k) ds
drive_late k t [] d p late = refl
drive_late k t (x ∷ ds) zero p late = ap (λ y. y ∷ map (first_touches_before k) ds) (page_late k t x p late)
drive_late k t (x ∷ ds) (suc d) p late = ap (λ ys. first_touches_before k x ∷ ys) (drive_late k t ds d p late)

drive_early : (k t : ℕ) (ds : List (List ℕ)) (d p : ℕ) → t < k → t ≤ never → map (first_touches_before k) (touch_drive ds d p t) ≡ touch_drive (map (first_touches_before k) ds) d p t
drive_early k t [] d p early small = refl
drive_early k t (x ∷ ds) zero p early small = ap (λ y. y ∷ map (first_touches_before k) ds) (page_early k t x p early small)
drive_early k t (x ∷ ds) (suc d) p early small = ap (λ ys. first_touches_before k x ∷ ys) (drive_early k t ds d p early small)

touch_late : (k : ℕ) (part : Part) (w t : ℕ) (f : FirstTouches) → k ≤ t → all_first_touches_before k (word_touched part w t f) ≡ all_first_touches_before k f
touch_late k parts.Core w t f late = ap (λ xs. record { core = xs; drives = map (first_touches_before k) f.drives }) (page_late k t f.core (w / 256) late)
touch_late k (parts.Drive d) w t f late = ap (λ xs. record { core = first_touches_before k f.core; drives = xs }) (drive_late k t f.drives d (w / 256) late)

touch_early : (k : ℕ) (part : Part) (w t : ℕ) (f : FirstTouches) → t < k → t ≤ never → all_first_touches_before k (word_touched part w t f) ≡ word_touched part w t (all_first_touches_before k f)
touch_early k parts.Core w t f early small = ap (λ xs. record { core = xs; drives = map (first_touches_before k) f.drives }) (page_early k t f.core (w / 256) early small)
touch_early k (parts.Drive d) w t f early small = ap (λ xs. record { core = first_touches_before k f.core; drives = xs }) (drive_early k t f.drives d (w / 256) early small)

-- all touches of a trace are in this turn
abbrev pub AllIn : ℕ → List TracedAccess → Type 0
AllIn t [] = Unit {0}
AllIn t (x ∷ xs) = (x.turn ≡ t) × AllIn t xs

pub late_dropped : (k t : ℕ) (xs : List TracedAccess) (f : FirstTouches) → k ≤ t → AllIn t xs → all_first_touches_before k (first_touches_after xs f) ≡ all_first_touches_before k f
unfolding first_touches_after
late_dropped k t [] f late all = refl
late_dropped k t (x ∷ xs) f late all =
    late_dropped k t xs (word_touched x.part x.word x.turn f) late all.1
    ∙ touch_late k x.part x.word x.turn f (omega (arith, late, all.0))

pub early_kept : (k t : ℕ) (xs : List TracedAccess) (f : FirstTouches) → t < k → t ≤ never → AllIn t xs → all_first_touches_before k (first_touches_after xs f) ≡ first_touches_after xs (all_first_touches_before k f)
unfolding first_touches_after
early_kept k t [] f early small all = refl
early_kept k t (x ∷ xs) f early small all =
    early_kept k t xs (word_touched x.part x.word x.turn f) early small all.1
    ∙ ap (first_touches_after xs) (touch_early k x.part x.word x.turn f (omega (arith, early, all.0)) (omega (arith, small, all.0)))
