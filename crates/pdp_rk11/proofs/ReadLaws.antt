-- What a read leaves, word by word, and that checks change no word.
use Rattle.std.proofs.Common.{◌≡◌, ◌≢◌, ℕ, zero, suc, ◌+◌, ◌-◌, ◌<◌, ◌≤◌, ◌||◌, ◌⊎◌, Bool, true, false, List, Option, refl, sym, ◌∙◌, ap, subst, arith, inl, inr, if◌then◌else◌, length, slice_index, slice_set, get_or-set_same, get_or-set_other}
use Rattle.std.proofs.lemmas.Bool.{cases_lt}
use Rattle.std.proofs.lemmas.List.{get_or_past}
use Rattle.pdp_rk11.specs.Handbook.Completion.{DiskWorld, rk_completed, drive_of, world_finished, is_read_check, is_write_check, lists_after, run_unless_refused, rk_transferred, run_function}
use Rattle.pdp_rk11.specs.Laws.{CanBeDone, ChecksChangeNoWord, ReadsLeaveTheLastMove, transfer_in}
use Rattle.pdp_rk11.specs.Moves.{item_after, moved_items, moved_to_one}
use Rattle.pdp_rk11.specs.Handbook.Transfer.{core_after_read, core_word, disk_word}
use Rattle.pdp_rk11.specs.declared.failure.Failure.{Failure}
use Rattle.pdp_rk11.specs.declared.function.Function.{Function}
use Rattle.pdp_rk11.specs.declared.function.Function.TheVariants.{ControlReset, Write, Read, WriteCheck, Seek, ReadCheck, DriveReset, WriteLock}
use Rattle.pdp_rk11.proofs.CompletionSizes.{completed_sizes}
use Rattle.pdp_rk11.proofs.CompletionTouches.{transfer_within}
use Rattle.pdp_rk11.proofs.Done.{Done, Quiet, Moved, done}
use Rattle.pdp_rk11.proofs.Moves.{get_or-moved, item_before, item_inside, item_past, length-moved}
use Rattle.pdp_store.specs.TracedAccess.{TracedAccess}

-- what is under way is done, if nothing forbids it
pub done_as : (f : Function) (turn : ℕ) (w : DiskWorld) → CanBeDone f w → rk_completed turn w ≡ world_finished (run_function f turn w)
unfolding rk_completed
done_as f turn w can =
    rw can.under_way (
    ap (λ (r : Option Failure). world_finished (run_unless_refused r turn w)) can.allowed
    ∙ ap (λ g. world_finished (run_function g turn w)) can.function_is)

core_after : (turn : ℕ) (w : DiskWorld) → CanBeDone Read w
    → (rk_completed turn w).core ≡ core_after_read (transfer_in w) (drive_of w) w.core
unfolding rk_transferred
core_after turn w can =
    ap (λ (x : DiskWorld). x.core) (done_as Read turn w can)
    ∙ ap (λ f. (lists_after f (transfer_in w) turn w).core) can.function_is

drives_after : (turn : ℕ) (w : DiskWorld) → CanBeDone Read w → (rk_completed turn w).drives ≡ w.drives
unfolding rk_transferred
drives_after turn w can =
    ap (λ (x : DiskWorld). x.drives) (done_as Read turn w can)
    ∙ ap (λ f. (lists_after f (transfer_in w) turn w).drives) can.function_is

-- an item outside the moved ones is as it was
pub not_moved : (first n : ℕ) (value : ℕ → ℕ) (xs : List ℕ) (k : ℕ) → (first ≤ k → k < first + n → ⊥)
    → slice_index (moved_items first n value xs) k ≡ slice_index xs k
not_moved first n value xs k outside = elim (cases_lt k (length xs)) [
  | inl within ↦ get_or-moved first n value xs k 0 within ∙ stays (cases_lt k first)
  | inr past ↦
      let beyond : length (moved_items first n value xs) ≤ k = omega (arith, length-moved first n value xs) in
      get_or_past (moved_items first n value xs) k 0 beyond ∙ sym (get_or_past xs k 0 past)
] where
  stays : (k < first) ⊎ (first ≤ k) → item_after first n value k (slice_index xs k) ≡ slice_index xs k
  stays (inl below) = item_before first n value k _ below
  stays (inr above) = elim (cases_lt k (first + n)) [
    | inl inside ↦ absurd (outside above inside)
    | inr past ↦ item_past first n value k _ past
  ]

-- the word of core has the value of the last move to it
last_moved : (one : Bool) (start n : ℕ) (value : ℕ → ℕ) (xs : List ℕ) (word i : ℕ) → i < n → (if one then start else start + i) ≡ word
    → ((j : ℕ) → i < j → j < n → (if one then start else start + j) ≢ word) → word < length xs
    → slice_index (if one then moved_to_one start n value xs else moved_items start n value xs) word ≡ value i
last_moved true start zero value xs word i is_done there last within = absurd (omega arith)
last_moved true start (suc n) value xs word i is_done there last within = elim (cases_lt i n) [
  | inl earlier ↦ absurd (last n earlier (omega arith) there)
  | inr latest ↦
      let same : n ≡ i = omega arith in
      let at_start : slice_index (slice_set xs start (value n)) start ≡ value n = get_or-set_same xs start (value n) 0 (omega arith) in
      subst (λ k. slice_index (slice_set xs start (value n)) k ≡ value n) there at_start ∙ ap value same
]
last_moved false start n value xs word i is_done there last within =
    let which : word - start ≡ i = omega arith in
    get_or-moved start n value xs word 0 within
    ∙ item_inside start n value word _ (omega arith) (omega arith)
    ∙ ap value which

-- a word of core to which no move goes is as it was
other_word : (one : Bool) (start n : ℕ) (value : ℕ → ℕ) (xs : List ℕ) (word : ℕ)
    → ((i : ℕ) → i < n → (if one then start else start + i) ≢ word)
    → slice_index (if one then moved_to_one start n value xs else moved_items start n value xs) word ≡ slice_index xs word
other_word true start zero value xs word none = refl
other_word true start (suc n) value xs word none =
    get_or-set_other xs start word (value n) 0 (λ same. none n (omega arith) (sym same))
other_word false start n value xs word none =
    not_moved start n value xs word (λ from to. none (word - start) (omega arith) (omega arith))

pub read_leaves : ReadsLeaveTheLastMove
read_leaves turn w can =
    let t = transfer_in w in
    let value : ℕ → ℕ = λ i. slice_index (drive_of w) (disk_word t i) in
    let after = core_after turn w can in
    let moves : is_read_check w.rk.function ≡ false = ap is_read_check can.function_is in
    record {
      moved_to = λ word i last.
          let inside : core_word t i < length w.core = transfer_within w.rk (length w.core) (length (drive_of w)) moves i last.done in
          let within : word < length w.core = subst (λ n. n < length w.core) last.there inside in
          ap (λ xs. slice_index xs word) after
          ∙ last_moved t.no_increment t.core_start t.count value w.core word i last.done last.there last.last within;
      others = λ word none.
          ap (λ xs. slice_index xs word) after ∙ other_word t.no_increment t.core_start t.count value w.core word none;
      size = (completed_sizes turn w).core;
      drives = drives_after turn w can;
    }

-- a check's lists
check_leaves : (f : Function) (turn : ℕ) (w : DiskWorld) → (is_write_check f || is_read_check f) ≡ true
    → lists_after f (transfer_in w) turn w ≡ w
check_leaves ControlReset turn w check = refl
check_leaves Write turn w check = cc
check_leaves Read turn w check = cc
check_leaves WriteCheck turn w check = refl
check_leaves Seek turn w check = refl
check_leaves ReadCheck turn w check = refl
check_leaves DriveReset turn w check = refl
check_leaves WriteLock turn w check = refl

words_left : {turn : ℕ} {w v : DiskWorld} {xs : List TracedAccess} → (is_write_check w.rk.function || is_read_check w.rk.function) ≡ true
    → Done turn w xs v → (v.core ≡ w.core) × (v.stamps ≡ w.stamps) × (v.drives ≡ w.drives)
words_left check (Quiet rk) = (refl, refl, refl)
words_left {turn} {w} check (Moved rk) =
    let same = check_leaves w.rk.function turn w check in
    (ap (λ (x : DiskWorld). x.core) same, ap (λ (x : DiskWorld). x.stamps) same, ap (λ (x : DiskWorld). x.drives) same)

pub checks_change_no_word : ChecksChangeNoWord
checks_change_no_word turn w check =
    let left = words_left check (done turn w) in record { core = left.0; stamps = left.1; drives = left.2 }
