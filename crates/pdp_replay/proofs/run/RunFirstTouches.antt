-- The first touches that the turns of a run leave: run again they add nothing; late ones can be
-- dropped; and of each page they are the first touch of the run.
use Rattle.std.proofs.Common.{◌≡◌, ◌≢◌, ◌∙◌, ℕ, zero, suc, ◌+◌, ◌-◌, ◌/◌, ◌<◌, ◌≤◌, ◌==◌, ◌&&◌, ◌||◌, Bool, true, false, Some, None, List, [], ◌∷◌, ◌++◌, All, ap, ap₂, refl, sym, subst, length, map, max, min, nat_lt, ltb-true, ltb-false, slice_index_or, slice_set, if◌then◌else◌, replicate, arith, append_assoc, append-nil, length-set, get_or-set_same, get_or-set_other}
use Rattle.std.proofs.lemmas.Bool.{eqb-true, eqb-false}
use Rattle.pdp_store.specs.Parts.{is_same_part}
use Rattle.pdp_store.specs.TracedAccess.{TracedAccess}
use Rattle.pdp_store.specs.declared.part.Part.{Part}
use Rattle.pdp_store.specs.declared.part.Part.TheVariants as parts
use Rattle.pdp_unibus.specs.Touched.{IsOfTurn}
use Rattle.pdp_cpu.proofs.TurnLaws.{turn_touches}
use Rattle.pdp_cpu.specs.Handbook.Turn.{turn_trace}
use Rattle.pdp_script.specs.Entries.{events_at}
use Rattle.pdp_store.specs.Stored.{no_touch_in}
use Rattle.pdp_replay.specs.Run.FirstTouches.{earlier_touch, first_touch_of, first_touch, first_touches_at, if_before, untouched_all, meets}
use Rattle.pdp_store.specs.FirstTouches.{FirstTouches, all_first_touches_before, first_touches_after, first_touches_in, first_touches_of, first_touches_before, never, first_turn, touch_page, word_touched}
use Rattle.pdp_replay.specs.Past.{Past}
use Rattle.pdp_replay.specs.Past.Setup.{SetupData, core_size, drive_words}
use Rattle.pdp_replay.specs.Run.States.{state_at, trace_at}
use Rattle.pdp_replay.proofs.run.FirstTouchesLaws.{AllIn, absorbed, early_kept, late_dropped}
use Rattle.pdp_store.proofs.FirstTouches.{first_touches_after-append}
use Rattle.pdp_replay.proofs.run.Untouched.{first_touch_le}

abbrev pub trace_in : Past → ℕ → List TracedAccess
trace_in p t = turn_trace t (events_at p.script.entries t) (state_at p t)

all_in : (t words : ℕ) (xs : List TracedAccess) → All (IsOfTurn t words) xs → AllIn t xs
all_in t words [] all = tt
all_in t words (x ∷ xs) all = ((all 0 x (omega arith)).turn_is, all_in t words xs (λ k d below. all (suc k) d (omega arith)))

turn_in : (p : Past) (t : ℕ) → AllIn t (trace_in p t)
turn_in p t = all_in t _ (trace_in p t) (turn_touches t (events_at p.script.entries t) (state_at p t))

pub first_touches_next : (p : Past) (n : ℕ) → first_touches_at p (suc n) ≡ first_touches_after (trace_in p n) (first_touches_at p n)
unfolding trace_at
first_touches_next p n = first_touches_after-append (trace_at p n) (trace_in p n) (untouched_all p.setup)

-- a turn that stands in a trace
record Split (p : Past) (t n : ℕ) : Type 0 where
  rest : List TracedAccess
  is : trace_at p n ≡ (trace_at p t ++ trace_in p t) ++ rest

split : (p : Past) (t d : ℕ) → Split p t (d + suc t)
unfolding trace_at
split p t zero = let e : zero + suc t ≡ suc t = omega arith in subst (Split p t) (sym e) (record { rest = []; is = sym (append-nil _) })
split p t (suc d) =
    let so = split p t d in
    let e : suc d + suc t ≡ suc (d + suc t) = omega arith in
    subst (Split p t) (sym e) (record {
      rest = so.rest ++ trace_in p (d + suc t);
      is = ap (λ xs. xs ++ trace_in p (d + suc t)) so.is ∙ append_assoc (trace_at p t ++ trace_in p t) so.rest (trace_in p (d + suc t));
    })

-- a turn that is run again adds nothing
pub again_nothing : (p : Past) (t known : ℕ) → t < known → first_touches_after (trace_in p t) (first_touches_at p known) ≡ first_touches_at p known
again_nothing p t known below =
    let e : known ≡ (known - suc t) + suc t = omega (arith, below) in
    let so : Split p t known = subst (Split p t) (sym e) (split p t (known - suc t)) in
    rw so.is (absorbed (trace_at p t) (trace_in p t) so.rest (untouched_all p.setup))

-- touches of late turns are dropped
pub blank_stays : (k n : ℕ) → first_touches_before k (replicate n never) ≡ replicate n never
blank_stays k zero = refl
blank_stays k (suc n) = ap₂ ◌∷◌ (nothing (nat_lt never k)) (blank_stays k n) where
  nothing : (b : Bool) → (if b then never else never) ≡ never
  nothing true = refl
  nothing false = refl

pub drives_stay : (k : ℕ) (blank : List ℕ) (n : ℕ) → first_touches_before k blank ≡ blank → map (first_touches_before k) (replicate n blank) ≡ replicate n blank
drives_stay k blank zero stays = refl
drives_stay k blank (suc n) stays = ap₂ ◌∷◌ stays (drives_stay k blank n stays)

none_dropped : (k : ℕ) (s : SetupData) → all_first_touches_before k (untouched_all s) ≡ untouched_all s
unfolding untouched_all
none_dropped k s =
    ap₂ first_touches_of (blank_stays k ((core_size s + 255) / 256)) (drives_stay k (no_touch_in drive_words) s.drives (blank_stays k ((drive_words + 255) / 256)))

early_stay : (p : Past) (k n : ℕ) → n ≤ k → k ≤ never → all_first_touches_before k (first_touches_at p n) ≡ first_touches_at p n
unfolding trace_at first_touches_after
early_stay p k zero low small = none_dropped k p.setup
early_stay p k (suc n) low small =
    ap (all_first_touches_before k) (first_touches_next p n) ∙ early_kept k n (trace_in p n) (first_touches_at p n) (omega arith) (omega arith) (turn_in p n)
    ∙ ap (first_touches_after (trace_in p n)) (early_stay p k n (omega arith) small) ∙ sym (first_touches_next p n)

pub late_forgotten : (p : Past) (k d : ℕ) → k ≤ never → all_first_touches_before k (first_touches_at p (d + k)) ≡ first_touches_at p k
late_forgotten p k zero small = let e : zero + k ≡ k = omega arith in rw e (early_stay p k k (omega arith) small)
late_forgotten p k (suc d) small =
    let e : suc d + k ≡ suc (d + k) = omega arith in
    rw e (ap (all_first_touches_before k) (first_touches_next p (d + k)) ∙ late_dropped k (d + k) (trace_in p (d + k)) (first_touches_at p (d + k)) (omega arith) (turn_in p (d + k))
    ∙ late_forgotten p k d small)

there_drive : (ds : List (List ℕ)) (d page : ℕ) → page < length (slice_index_or ds d []) → d < length ds
there_drive [] d page within = absurd (omega arith)
there_drive (x ∷ ds) zero page within = omega arith
there_drive (x ∷ ds) (suc d) page within = let there = there_drive ds d page within in omega arith

-- a touch of this page, and another one
page_met : (part : Part) (w t page : ℕ) (f : FirstTouches) → page < length (first_touches_in part f) → w / 256 ≡ page
    → first_touch_of part page (word_touched part w t f) ≡ min (first_touch_of part page f) t
page_met parts.Core w t page f within is = rw is (get_or-set_same f.core page _ never within)
page_met (parts.Drive d) w t page f within is =
    rw is (ap (λ xs. slice_index_or xs page never) (get_or-set_same f.drives d _ [] (there_drive f.drives d page within)) ∙ get_or-set_same (slice_index_or f.drives d []) page _ never within)

other_page : (part : Part) (w t page : ℕ) (f : FirstTouches) → page < length (first_touches_in part f) → page ≢ w / 256
    → first_touch_of part page (word_touched part w t f) ≡ first_touch_of part page f
other_page parts.Core w t page f within is = get_or-set_other f.core (w / 256) page _ never is
other_page (parts.Drive d) w t page f within is =
    ap (λ xs. slice_index_or xs page never) (get_or-set_same f.drives d _ [] (there_drive f.drives d page within)) ∙ get_or-set_other (slice_index_or f.drives d []) (w / 256) page _ never is

other_part : (part other : Part) (w t page : ℕ) (f : FirstTouches) → is_same_part other part ≡ false
    → first_touches_in part (word_touched other w t f) ≡ first_touches_in part f
other_part parts.Core parts.Core w t page f is = absurd (cc)
other_part parts.Core (parts.Drive d) w t page f is = refl
other_part (parts.Drive d) parts.Core w t page f is = refl
other_part (parts.Drive d) (parts.Drive e) w t page f is =
    get_or-set_other f.drives e d _ [] (λ same. eqb-false e d is (sym same))

pub is_part : (part other : Part) → is_same_part other part ≡ true → other ≡ part
is_part parts.Core parts.Core is = refl
is_part parts.Core (parts.Drive d) is = absurd (cc)
is_part (parts.Drive d) parts.Core is = absurd (cc)
is_part (parts.Drive d) (parts.Drive e) is = ap parts.Drive (eqb-true e d is)

one_touch : (part : Part) (page : ℕ) (x : TracedAccess) (f : FirstTouches) (same inside : Bool) → is_same_part x.part part ≡ same → (x.word / 256 == page) ≡ inside
    → page < length (first_touches_in part f)
    → first_touch_of part page (word_touched x.part x.word x.turn f) ≡ (if same && inside then min (first_touch_of part page f) x.turn else first_touch_of part page f)
one_touch part page x f true true is at within =
    rw (is_part part x.part is) (page_met part x.word x.turn page f within (eqb-true (x.word / 256) page at))
one_touch part page x f true false is at within =
    rw (is_part part x.part is) (other_page part x.word x.turn page f within (λ same. eqb-false (x.word / 256) page at (sym same)))
one_touch part page x f false inside is at within = ap (λ xs. slice_index_or xs page never) (other_part part x.part x.word x.turn page f is)

drive_size : (ds : List (List ℕ)) (d e page t : ℕ) → length (slice_index_or (slice_set ds d (touch_page (slice_index_or ds d []) page t)) e []) ≡ length (slice_index_or ds e [])
drive_size [] d e page t = refl
drive_size (x ∷ ds) zero zero page t = length-set x page _
drive_size (x ∷ ds) zero (suc e) page t = refl
drive_size (x ∷ ds) (suc d) zero page t = refl
drive_size (x ∷ ds) (suc d) (suc e) page t = drive_size ds d e page t

size_kept : (part other : Part) (w t : ℕ) (f : FirstTouches) → length (first_touches_in part (word_touched other w t f)) ≡ length (first_touches_in part f)
size_kept parts.Core parts.Core w t f = length-set f.core (w / 256) _
size_kept parts.Core (parts.Drive e) w t f = refl
size_kept (parts.Drive d) parts.Core w t f = refl
size_kept (parts.Drive d) (parts.Drive e) w t f = drive_size f.drives e d (w / 256) t

pub sizes_kept : (part : Part) (xs : List TracedAccess) (f : FirstTouches) → length (first_touches_in part (first_touches_after xs f)) ≡ length (first_touches_in part f)
unfolding first_touches_after
sizes_kept part [] f = refl
sizes_kept part (x ∷ xs) f = sizes_kept part xs (word_touched x.part x.word x.turn f) ∙ size_kept part x.part x.word x.turn f

least : (a m : Bool) (v now t turn : ℕ) → turn ≡ t → now ≡ (if a then min v turn else v)
    → (if m then min now t else now) ≡ (if a || m then min v t else v)
least true true v now t turn is here = omega (arith, is, here)
least true false v now t turn is here = here ∙ ap (min v) is
least false true v now t turn is here = ap (λ n. min n t) here
least false false v now t turn is here = here

turn_first_touches : (part : Part) (page t : ℕ) (xs : List TracedAccess) (f : FirstTouches) → AllIn t xs → page < length (first_touches_in part f)
    → first_touch_of part page (first_touches_after xs f) ≡ (if meets part page xs then min (first_touch_of part page f) t else first_touch_of part page f)
unfolding first_touches_after
turn_first_touches part page t [] f all within = refl
turn_first_touches part page t (x ∷ xs) f all within =
    let g = word_touched x.part x.word x.turn f in
    turn_first_touches part page t xs g all.1 (rw (size_kept part x.part x.word x.turn f) within)
    ∙ least (is_same_part x.part part && x.word / 256 == page) (meets part page xs) (first_touch_of part page f) (first_touch_of part page g) t x.turn all.0
    (one_touch part page x f (is_same_part x.part part) (x.word / 256 == page) refl refl within)

blank_first : (n page : ℕ) → slice_index_or (replicate n never) page never ≡ never
blank_first zero page = refl
blank_first (suc n) zero = refl
blank_first (suc n) (suc page) = blank_first n page

drive_first : (n d size page : ℕ) → slice_index_or (slice_index_or (replicate n (replicate size never)) d []) page never ≡ never
drive_first zero d size page = refl
drive_first (suc n) zero size page = blank_first size page
drive_first (suc n) (suc d) size page = drive_first n d size page

none_yet : (part : Part) (page : ℕ) (s : SetupData) → first_touch_of part page (untouched_all s) ≡ never
unfolding untouched_all
none_yet parts.Core page s = blank_first ((core_size s + 255) / 256) page
none_yet (parts.Drive d) page s = drive_first s.drives d ((drive_words + 255) / 256) page

next_first : (first n : ℕ) (touches : Bool) → first ≤ n → n < never
    → (if touches then min (if_before first n) n else if_before first n) ≡ if_before (earlier_touch first n touches) (suc n)
next_first first n touches low small = by (nat_lt first n) refl touches where
  by : (less : Bool) → nat_lt first n ≡ less → (touches : Bool)
      → (if touches then min (if less then first else never) n else (if less then first else never))
      ≡ if_before (if less then first else if touches then n else suc n) (suc n)
  by true is touches = at (nat_lt first (suc n)) refl touches where
    at : (b : Bool) → nat_lt first (suc n) ≡ b → (touches : Bool) → (if touches then min first n else first) ≡ (if b then first else never)
    at true also true = omega (arith, ltb-true first n is)
    at true also false = refl
    at false also touches = absurd (omega (arith, ltb-true first n is, ltb-false first (suc n) also))
  by false is true = at (nat_lt n (suc n)) refl where
    at : (b : Bool) → nat_lt n (suc n) ≡ b → min never n ≡ (if b then n else never)
    at true also = omega (arith, small)
    at false also = absurd (omega (arith, ltb-false n (suc n) also))
  by false is false = at (nat_lt (suc n) (suc n)) refl where
    at : (b : Bool) → nat_lt (suc n) (suc n) ≡ b → never ≡ (if b then suc n else never)
    at true also = absurd (omega (arith, ltb-true (suc n) (suc n) also))
    at false also = refl

-- the first touches of a run up to turn n tell the first touch of each page
pub first_touches_tell : (p : Past) (part : Part) (page n : ℕ) → n ≤ never → page < length (first_touches_in part (untouched_all p.setup))
    → first_touch_of part page (first_touches_at p n) ≡ if_before (first_touch p part page n) n
unfolding trace_at first_touches_after first_touch
first_touches_tell p part page zero small within = none_yet part page p.setup
first_touches_tell p part page (suc n) small within =
    ap (first_touch_of part page) (first_touches_next p n)
    ∙ turn_first_touches part page n (trace_in p n) (first_touches_at p n) (turn_in p n) (rw (sizes_kept part (trace_at p n) (untouched_all p.setup)) within)
    ∙ ap (λ v. if meets part page (trace_in p n) then min v n else v) (first_touches_tell p part page n (omega arith) within)
    ∙ next_first (first_touch p part page n) n (meets part page (trace_in p n)) (first_touch_le p part page n) (omega arith)

-- so the lesser of it and the known turn is the first touch below the known turn
pub reached_is : (first n told : ℕ) → first ≤ n → n ≤ never → told ≡ if_before first n → min n told ≡ first
reached_is first n told low small is = by (nat_lt first n) refl is where
  by : (less : Bool) → nat_lt first n ≡ less → told ≡ (if less then first else never) → min n told ≡ first
  by true also is = omega (arith, is, ltb-true first n also)
  by false also is = omega (arith, is, low, small, ltb-false first n also)

-- setups with the same core and as many drives have the same pages
pub untouched_alike : (r s : SetupData) → core_size r ≡ core_size s → r.drives ≡ s.drives → untouched_all r ≡ untouched_all s
unfolding untouched_all
untouched_alike r s core drives =
    ap₂ (λ words count. first_touches_of (no_touch_in words) (replicate count (no_touch_in drive_words))) core drives

-- a turn up to the known one leaves those of the greater of both
pub first_touches_turned : (p : Past) (n known : ℕ) → n ≤ known → first_touches_after (trace_in p n) (first_touches_at p known) ≡ first_touches_at p (max known (n + 1))
first_touches_turned p n known le = by (nat_lt n known) refl where
  by : (b : Bool) → nat_lt n known ≡ b → first_touches_after (trace_in p n) (first_touches_at p known) ≡ first_touches_at p (max known (n + 1))
  by true is =
      let below : n < known = ltb-true n known is in
      let e : max known (n + 1) ≡ known = omega (arith, below) in
      rw e (again_nothing p n known below)
  by false is =
      let same : known ≡ n = omega (arith, le, ltb-false n known is) in
      let e : max known (n + 1) ≡ suc n = omega (arith, same) in
      rw (e, same) (sym (first_touches_next p n))

-- and if late ones are dropped, those of a lesser known turn
pub first_touches_cut : (p : Past) (k known : ℕ) → k ≤ known → k ≤ never → all_first_touches_before k (first_touches_at p known) ≡ first_touches_at p k
first_touches_cut p k known le small =
    let e : known ≡ (known - k) + k = omega (arith, le) in
    ap (λ n. all_first_touches_before k (first_touches_at p n)) e ∙ late_forgotten p k (known - k) small

pub none_told : (first : ℕ) → first_turn first ≡ None → first ≡ never
none_told first is = by (first == never) refl is where
  by : (b : Bool) → (first == never) ≡ b → (if b then None else Some first) ≡ None → first ≡ never
  by true same also = eqb-true first never same
  by false same also = absurd (cc)

pub some_told : (first turn : ℕ) → first_turn first ≡ Some turn → turn ≡ first
some_told first turn is = by (first == never) refl is where
  by : (b : Bool) → (first == never) ≡ b → (if b then None else Some first) ≡ Some turn → turn ≡ first
  by true same also = absurd (cc)
  by false same also = cc

-- what the reach of a patch cites
pub ruleset first_is_told = (none_told, some_told)
