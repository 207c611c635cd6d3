-- The first touches that a completion leaves are those of its trace.
use Rattle.std.proofs.Common.{◌≡◌, ℕ, zero, suc, ◌+◌, ◌/◌, ◌<◌, List, [], ◌∷◌, ◌++◌, Bool, true, false, Option, Some, None, refl, ap, ap₂, sym, ◌∙◌, length, slice_index_or, slice_set, get_or-set_same, add-one}
use Rattle.std.proofs.lemmas.List.{set-get_or, set-set}
use Rattle.pdp_store.specs.TracedAccess.{TracedAccess}
use Rattle.pdp_store.specs.declared.part.Part.TheVariants.{Drive}
use Rattle.pdp_store.specs.FirstTouches.{FirstTouches, first_touches_after, first_touches_of, touch_page}
use Rattle.pdp_store.proofs.FirstTouches.{first_touches_after-append}
use Rattle.pdp_device.specs.Operation.{is_under_way}
use Rattle.pdp_rk11.specs.Handbook.Completion.{DiskWorld, drive_of, refusal, transfer_of}
use Rattle.pdp_rk11.specs.Handbook.Geometry.{drive_in}
use Rattle.pdp_rk11.specs.declared.failure.Failure.{Failure}
use Rattle.pdp_rk11.specs.Touched.{core_after, core_touched, disk_after, disk_touched, fill_touched, fill_first_touches, after_steps}
use Rattle.pdp_rk11.specs.Trace.{completion_touches, fill_touches, joined_lists, move_touches, touches_unless_refused, transfer_touches, written_by_disk}
use Rattle.pdp_rk11.specs.Handbook.Transfer.{core_word, disk_word, rest_of_sector}
use Rattle.pdp_rk11.specs.declared.function.Function.{Function}
use Rattle.pdp_rk11.specs.declared.function.Function.TheVariants.{ControlReset, Write, Read, WriteCheck, Seek, ReadCheck, DriveReset, WriteLock}
use Rattle.pdp_rk11.specs.declared.transfer.Transfer.{Transfer}

pub stepped_none : (step : ℕ → List ℕ → List ℕ) (xs : List ℕ) → after_steps step 0 xs ≡ xs
unfolding after_steps
stepped_none step xs = refl

pub stepped_more : (step : ℕ → List ℕ → List ℕ) (n : ℕ) (xs : List ℕ)
    → after_steps step (n + 1) xs ≡ step n (after_steps step n xs)
unfolding after_steps
stepped_more step n xs = rw (add-one n) refl

-- whether a function moves words, or compares or reads them
abbrev pub moves_words : Function → Bool
moves_words Write = true
moves_words Read = true
moves_words WriteCheck = true
moves_words ReadCheck = true
moves_words _ = false

-- first touches with those of one drive replaced
abbrev pub on_drive : ℕ → List (List ℕ) → List ℕ → List ℕ → FirstTouches
on_drive number drives core disk = first_touches_of core (slice_set drives number disk)

-- a page of the drive that was put there is touched
again : (number : ℕ) (drives : List (List ℕ)) (xs : List ℕ) (page turn : ℕ) → number < length drives
    → slice_set (slice_set drives number xs) number
    (touch_page (slice_index_or (slice_set drives number xs) number []) page turn)
    ≡ slice_set drives number (touch_page xs page turn)
again number drives xs page turn there =
    set-set drives number xs _
    ∙ ap (λ ys. slice_set drives number (touch_page ys page turn)) (get_or-set_same drives number xs [] there)

-- the same, if core has other first touches too
beside : (number : ℕ) (drives : List (List ℕ)) (core xs : List ℕ) (page turn : ℕ) → number < length drives
    → first_touches_of core (slice_set (slice_set drives number xs) number
    (touch_page (slice_index_or (slice_set drives number xs) number []) page turn))
    ≡ on_drive number drives core (touch_page xs page turn)
beside number drives core xs page turn there = ap (first_touches_of core) (again number drives xs page turn there)

one_move : (function : Function) (t : Transfer) (number turn i : ℕ) (drives : List (List ℕ)) (core disk : List ℕ)
    → number < length drives
    → first_touches_after (move_touches function t number turn i) (on_drive number drives core disk)
    ≡ on_drive number drives (core_touched function t turn i core) (disk_touched function t turn i disk)
unfolding first_touches_after
one_move Read t number turn i drives core disk there =
    beside number drives (touch_page core (core_word t i / 256) turn) disk (disk_word t i / 256) turn there
one_move Write t number turn i drives core disk there =
    beside number drives (touch_page core (core_word t i / 256) turn) disk (disk_word t i / 256) turn there
one_move WriteCheck t number turn i drives core disk there =
    beside number drives (touch_page core (core_word t i / 256) turn) disk (disk_word t i / 256) turn there
one_move ReadCheck t number turn i drives core disk there =
    beside number drives core disk (disk_word t i / 256) turn there
one_move ControlReset t number turn i drives core disk there = refl
one_move Seek t number turn i drives core disk there = refl
one_move DriveReset t number turn i drives core disk there = refl
one_move WriteLock t number turn i drives core disk there = refl

moves : (function : Function) (t : Transfer) (number turn : ℕ) (drives : List (List ℕ)) (core disk : List ℕ)
    → number < length drives → (n : ℕ)
    → first_touches_after (joined_lists (move_touches function t number turn) n) (on_drive number drives core disk)
    ≡ on_drive number drives (after_steps (core_touched function t turn) n core)
    (after_steps (disk_touched function t turn) n disk)
unfolding after_steps first_touches_after
moves function t number turn drives core disk there zero = refl
moves function t number turn drives core disk there (suc n) =
    let move = move_touches function t number turn in
    first_touches_after-append (joined_lists move n) (move n) _
    ∙ ap (first_touches_after (move n)) (moves function t number turn drives core disk there n)
    ∙ one_move function t number turn n drives _ _ there

fills : (t : Transfer) (number turn : ℕ) (drives : List (List ℕ)) (core disk : List ℕ)
    → number < length drives → (n : ℕ)
    → first_touches_after (joined_lists (λ i. written_by_disk turn (Drive number) (disk_word t t.count + i) ∷ []) n)
    (on_drive number drives core disk)
    ≡ on_drive number drives core (after_steps (fill_touched t turn) n disk)
unfolding after_steps first_touches_after
fills t number turn drives core disk there zero = refl
fills t number turn drives core disk there (suc n) =
    let word = disk_word t t.count + n in
    first_touches_after-append (joined_lists _ n) _ (on_drive number drives core disk)
    ∙ ap (first_touches_after (written_by_disk turn (Drive number) word ∷ [])) (fills t number turn drives core disk there n)
    ∙ beside number drives core (after_steps (fill_touched t turn) n disk) (word / 256) turn there

filled_by : (function : Function) (t : Transfer) (number turn : ℕ) (drives : List (List ℕ)) (core disk : List ℕ)
    → number < length drives
    → first_touches_after (fill_touches function t number turn) (on_drive number drives core disk)
    ≡ on_drive number drives core (fill_first_touches function t turn disk)
unfolding first_touches_after
filled_by Write t number turn drives core disk there =
    fills t number turn drives core disk there (rest_of_sector t)
filled_by Read t number turn drives core disk there = refl
filled_by WriteCheck t number turn drives core disk there = refl
filled_by ReadCheck t number turn drives core disk there = refl
filled_by ControlReset t number turn drives core disk there = refl
filled_by Seek t number turn drives core disk there = refl
filled_by DriveReset t number turn drives core disk there = refl
filled_by WriteLock t number turn drives core disk there = refl

pub transfer_first_touches : (function : Function) (t : Transfer) (number turn : ℕ) (drives : List (List ℕ))
    (core disk : List ℕ) → number < length drives
    → first_touches_after (transfer_touches function t number turn) (on_drive number drives core disk)
    ≡ on_drive number drives (core_after function t turn core) (disk_after function t turn disk)
transfer_first_touches function t number turn drives core disk there =
    let fill = fill_touches function t number turn in
    first_touches_after-append (joined_lists (move_touches function t number turn) t.count) fill _
    ∙ ap (first_touches_after fill) (moves function t number turn drives core disk there t.count)
    ∙ filled_by function t number turn drives _ _ there

-- the same, of a drive found among the others
pub touched_there : (function : Function) (t : Transfer) (number turn : ℕ) (drives drives_now : List (List ℕ))
    (core core_now disk disk_now : List ℕ) → number < length drives
    → slice_index_or drives number [] ≡ disk → core_now ≡ core_after function t turn core
    → disk_now ≡ disk_after function t turn disk → drives_now ≡ slice_set drives number disk_now
    → first_touches_of core_now drives_now ≡ first_touches_after (transfer_touches function t number turn) (first_touches_of core drives)
touched_there function t number turn drives drives_now core core_now disk disk_now there held core_is disk_is all =
    let same : slice_set drives number disk ≡ drives =
    ap (slice_set drives number) (sym held) ∙ set-get_or drives number [] in
    ap₂ (λ c ds. first_touches_of c ds) core_is (all ∙ ap (slice_set drives number) disk_is)
    ∙ sym (transfer_first_touches function t number turn drives core disk there)
    ∙ ap (λ ds. first_touches_after (transfer_touches function t number turn) (first_touches_of core ds)) same

-- functions that move no words touch none
no_moves : (f : ℕ → List TracedAccess) → ((i : ℕ) → f i ≡ []) → (n : ℕ) → joined_lists f n ≡ []
no_moves f none zero = refl
no_moves f none (suc n) = rw (no_moves f none n, none n) refl

no_touches : (moves : ℕ → List TracedAccess) (n : ℕ) (f : FirstTouches) → ((i : ℕ) → moves i ≡ [])
    → first_touches_after (joined_lists moves n ++ []) f ≡ f
unfolding first_touches_after
no_touches moves n f none = ap (λ xs. first_touches_after (xs ++ []) f) (no_moves moves none n)

pub none_touched : (function : Function) (t : Transfer) (number turn : ℕ) (f : FirstTouches) → moves_words function ≡ false
    → first_touches_after (transfer_touches function t number turn) f ≡ f
none_touched ControlReset t number turn f none =
    no_touches (move_touches ControlReset t number turn) t.count f (λ i. refl)
none_touched Seek t number turn f none = no_touches (move_touches Seek t number turn) t.count f (λ i. refl)
none_touched DriveReset t number turn f none =
    no_touches (move_touches DriveReset t number turn) t.count f (λ i. refl)
none_touched WriteLock t number turn f none = no_touches (move_touches WriteLock t number turn) t.count f (λ i. refl)
none_touched Read t number turn f none = absurd (cc)
none_touched Write t number turn f none = absurd (cc)
none_touched WriteCheck t number turn f none = absurd (cc)
none_touched ReadCheck t number turn f none = absurd (cc)

-- if a function can't be done
pub none_performed : (why : Option Failure) (failure : Failure) (turn : ℕ) (w : DiskWorld) (f : FirstTouches)
    → why ≡ Some failure → f ≡ first_touches_after (touches_unless_refused why turn w) f
unfolding first_touches_after
none_performed why failure turn w f is = rw is refl

pub under_way : (turn drives : ℕ) (w : DiskWorld) → is_under_way w.rk.operation ≡ true → drives ≡ length w.drives
    → touches_unless_refused (refusal w.rk drives) turn w ≡ completion_touches turn w
unfolding completion_touches
under_way turn drives w is same = rw (is, same) refl

pub not_under_way : (turn : ℕ) (w : DiskWorld) (f : FirstTouches) → is_under_way w.rk.operation ≡ false
    → f ≡ first_touches_after (completion_touches turn w) f
unfolding completion_touches first_touches_after
not_under_way turn w f is = rw is refl

-- if a function that moves no words is done
pub none_worked : (turn : ℕ) (w : DiskWorld) (f : FirstTouches) → moves_words w.rk.function ≡ false
    → f ≡ first_touches_after (touches_unless_refused None turn w) f
none_worked turn w f none =
    let t = transfer_of w.rk (length w.core) (length (drive_of w)) in
    sym (none_touched w.rk.function t (drive_in w.rk.disk_address) turn f none)
