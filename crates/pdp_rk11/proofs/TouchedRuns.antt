-- A run of words is touched if each of its pages is touched once.
use Rattle.std.proofs.Common.{◌≡◌, ◌≢◌, ◌⊎◌, inl, inr, ℕ, zero, suc, ◌+◌, ◌-◌, ◌*◌, ◌/◌, ◌<◌, ◌≤◌, List, [], ◌∷◌, true, false, Bool, refl, ap, sym, ◌∙◌, min, arith}
use Rattle.pdp_store.specs.FirstTouches.{touch_page}
use Rattle.pdp_rk11.specs.Touched.{core_after, words_named, disk_touched, run_touched, after_steps}
use Rattle.pdp_rk11.specs.Handbook.Transfer.{core_word}
use Rattle.pdp_rk11.specs.declared.function.Function.{Function}
use Rattle.pdp_rk11.specs.declared.function.Function.TheVariants.{ControlReset, Write, Read, WriteCheck, Seek, ReadCheck, DriveReset, WriteLock}
use Rattle.pdp_rk11.specs.declared.transfer.Transfer.{Transfer}

-- a page that is touched twice in a turn
touch_twice : (first_touches : List ℕ) (page turn : ℕ)
    → touch_page (touch_page first_touches page turn) page turn ≡ touch_page first_touches page turn
touch_twice [] page turn = refl
touch_twice (x ∷ xs) zero turn =
    let e : min (min x turn) turn ≡ min x turn = omega arith in
    ap (λ y. y ∷ xs) e
touch_twice (x ∷ xs) (suc page) turn = ap (λ ys. x ∷ ys) (touch_twice xs page turn)

-- words of one page: those from `done` to `last`, if `done` words were touched before
in_one_page : (word : ℕ → ℕ) (turn page done more last : ℕ) (first_touches : List ℕ) → last ≡ more + done
    → ((i : ℕ) → done ≤ i → i ≤ last → word i / 256 ≡ page)
    → after_steps (λ i xs. touch_page xs (word i / 256) turn) (suc last) first_touches
    ≡ touch_page (after_steps (λ i xs. touch_page xs (word i / 256) turn) done first_touches) page turn
unfolding after_steps
in_one_page word turn page done zero last first_touches is there =
    let same : last ≡ done = omega (arith, is) in
    let here : word last / 256 ≡ page = there last (omega (arith, is)) (omega arith) in
    ap (λ p. touch_page (after_steps (λ i xs. touch_page xs (word i / 256) turn) last first_touches) p turn) here
    ∙ ap (λ n. touch_page (after_steps (λ i xs. touch_page xs (word i / 256) turn) n first_touches) page turn) same
in_one_page word turn page done (suc more) zero first_touches is there = absurd (omega (arith, is))
in_one_page word turn page done (suc more) (suc last) first_touches is there =
    let before = after_steps (λ i xs. touch_page xs (word i / 256) turn) done first_touches in
    let here : word (suc last) / 256 ≡ page = there (suc last) (omega (arith, is)) (omega arith) in
    let less : last ≡ more + done = omega (arith, is) in
    ap (λ xs. touch_page xs (word (suc last) / 256) turn)
    (in_one_page word turn page done more last first_touches less (λ i from to. there i from (omega (arith, to))))
    ∙ ap (λ p. touch_page (touch_page before page turn) p turn) here
    ∙ touch_twice before page turn

-- the words of a run below a page, and those of the page too
pub run_begun : (start count turn : ℕ) (first_touches : List ℕ)
    → after_steps (run_touched start turn) (min count (start / 256 * 256 - start)) first_touches ≡ first_touches
unfolding after_steps
run_begun start count turn first_touches =
    let none : min count (start / 256 * 256 - start) ≡ 0 = omega arith in
    rw none refl

last_of : (done next : ℕ) → done < next → suc (next - 1) ≡ next
last_of done next below = omega arith

pub run_more : (start count turn page : ℕ) (first_touches : List ℕ)
    → 0 < count → start / 256 ≤ page → page < (start + count - 1) / 256 + 1
    → touch_page (after_steps (run_touched start turn) (min count (page * 256 - start)) first_touches) page turn
    ≡ after_steps (run_touched start turn) (min count ((page + 1) * 256 - start)) first_touches
run_more start count turn page first_touches some from below =
    let done = min count (page * 256 - start) in
    let next = min count ((page + 1) * 256 - start) in
    let further : done < next = omega arith in
    let there : (i : ℕ) → done ≤ i → i ≤ next - 1 → (start + i) / 256 ≡ page = λ i from_done to. omega arith in
    sym (in_one_page (λ i. start + i) turn page done (next - suc done) (next - 1) first_touches (omega arith) there)
    ∙ ap (λ n. after_steps (run_touched start turn) n first_touches) (last_of done next further)

pub run_none : (start count turn : ℕ) (first_touches : List ℕ) → count ≡ 0
    → first_touches ≡ after_steps (run_touched start turn) count first_touches
unfolding after_steps
run_none start count turn first_touches none = rw none refl

-- moves of one word of core are as one
one_word : (word turn count : ℕ) (first_touches : List ℕ)
    → after_steps (run_touched word turn) (min count 1) first_touches
    ≡ after_steps (λ i xs. touch_page xs (word / 256) turn) count first_touches
unfolding after_steps
one_word word turn zero first_touches = refl
one_word word turn (suc count) first_touches =
    let one : min (suc count) 1 ≡ 1 = omega arith in
    let first : (word + 0) / 256 ≡ word / 256 = omega arith in
    ap (λ n. after_steps (run_touched word turn) n first_touches) one
    ∙ ap (λ p. touch_page first_touches p turn) first
    ∙ sym (in_one_page (λ i. word) turn (word / 256) 0 count count first_touches (omega arith) (λ i from to. refl))

pub core_run : (t : Transfer) (turn : ℕ) (first_touches : List ℕ)
    → after_steps (run_touched t.core_start turn) (words_named t) first_touches
    ≡ after_steps (λ i xs. touch_page xs (core_word t i / 256) turn) t.count first_touches
core_run t turn first_touches = by_increment t.no_increment refl
  where
    by_increment : (none : Bool) → t.no_increment ≡ none
        → after_steps (run_touched t.core_start turn) (words_named t) first_touches
        ≡ after_steps (λ i xs. touch_page xs (core_word t i / 256) turn) t.count first_touches
    by_increment true is = rw is (one_word t.core_start turn t.count first_touches)
    by_increment false is = rw is refl

-- functions that touch words of core
pub core_of : (function : Function) (t : Transfer) (turn : ℕ) (first_touches : List ℕ)
    → (function ≡ Read) ⊎ ((function ≡ Write) ⊎ (function ≡ WriteCheck))
    → after_steps (run_touched t.core_start turn) (words_named t) first_touches ≡ core_after function t turn first_touches
core_of function t turn first_touches (inl is) = rw is (core_run t turn first_touches)
core_of function t turn first_touches (inr (inl is)) = rw is (core_run t turn first_touches)
core_of function t turn first_touches (inr (inr is)) = rw is (core_run t turn first_touches)

-- no word is touched
pub no_steps : (n : ℕ) (first_touches : List ℕ) → first_touches ≡ after_steps (λ i xs. xs) n first_touches
unfolding after_steps
no_steps zero first_touches = refl
no_steps (suc n) first_touches = no_steps n first_touches

-- functions that touch no word of core, and none of the drive
pub core_untouched : (function : Function) (t : Transfer) (turn : ℕ) (first_touches : List ℕ)
    → function ≢ Write → function ≢ Read → function ≢ WriteCheck → first_touches ≡ core_after function t turn first_touches
core_untouched Write t turn first_touches write read check = absurd (write refl)
core_untouched Read t turn first_touches write read check = absurd (read refl)
core_untouched WriteCheck t turn first_touches write read check = absurd (check refl)
core_untouched ReadCheck t turn first_touches write read check = no_steps t.count first_touches
core_untouched ControlReset t turn first_touches write read check = no_steps t.count first_touches
core_untouched Seek t turn first_touches write read check = no_steps t.count first_touches
core_untouched DriveReset t turn first_touches write read check = no_steps t.count first_touches
core_untouched WriteLock t turn first_touches write read check = no_steps t.count first_touches

pub disk_untouched : (function : Function) (t : Transfer) (turn : ℕ) (first_touches : List ℕ)
    → function ≢ Write → function ≢ Read → function ≢ WriteCheck → function ≢ ReadCheck
    → first_touches ≡ after_steps (disk_touched function t turn) t.count first_touches
disk_untouched Write t turn first_touches write read check read_check = absurd (write refl)
disk_untouched Read t turn first_touches write read check read_check = absurd (read refl)
disk_untouched WriteCheck t turn first_touches write read check read_check = absurd (check refl)
disk_untouched ReadCheck t turn first_touches write read check read_check = absurd (read_check refl)
disk_untouched ControlReset t turn first_touches write read check read_check = no_steps t.count first_touches
disk_untouched Seek t turn first_touches write read check read_check = no_steps t.count first_touches
disk_untouched DriveReset t turn first_touches write read check read_check = no_steps t.count first_touches
disk_untouched WriteLock t turn first_touches write read check read_check = no_steps t.count first_touches
