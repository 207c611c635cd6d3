-- What a write leaves, word by word, and that a read brings it back.
use Rattle.std.proofs.Common.{◌≡◌, ◌≢◌, ℕ, zero, suc, ◌+◌, ◌-◌, ◌*◌, ◌/◌, ◌<◌, ◌≤◌, ◌==◌, ◌⊎◌, not, Bool, true, false, List, [], Option, Some, None, refl, sym, ◌∙◌, ap, arith, inl, inr, if◌then◌else◌, length, slice_index, slice_index_or, slice_set, get_or-set_same, get_or-set_other}
use Rattle.std.proofs.lemmas.Bool.{cases_lt, eqb-true, ltb-true}
use Rattle.std.proofs.lemmas.List.{get_or_past}
use Rattle.std.specs.Prelude.{min, nat_lt}
use Rattle.pdp_rk11.specs.Handbook.Completion.{DiskWorld, rk_completed, core_word_of_bus_address, drive_of, first_word_of_sector, lists_after, refusal, registers_after, stop_of, transfer_of, rk_transferred, within_core, words_asked}
use Rattle.pdp_rk11.specs.Handbook.Geometry.{drive_in, sector_number}
use Rattle.pdp_rk11.specs.Laws.{CanBeDone, EndsWell, WrittenWordsAreReadBack, WritesFillWithZeros, drive_numbered, transfer_in}
use Rattle.pdp_rk11.specs.Moves.{moved_items}
use Rattle.pdp_rk11.specs.Handbook.Transfer.{core_word, disk_word, disk_written, moved_to_disk, rest_of_sector}
use Rattle.pdp_rk11.specs.declared.failure.Failure.{Failure}
use Rattle.pdp_rk11.specs.declared.failure.Failure.TheVariants.{NoDrive, NoMemory, Overrun}
use Rattle.pdp_rk11.specs.declared.function.Function.TheVariants.{Write, Read}
use Rattle.pdp_rk11.specs.declared.rk.Rk.{Rk}
use Rattle.pdp_rk11.specs.declared.transfer.Transfer.{Transfer}
use Rattle.pdp_rk11.proofs.CompletionSizes.{length-disk_written}
use Rattle.pdp_rk11.proofs.Moves.{get_or-moved, item_inside, length-moved}
use Rattle.pdp_rk11.proofs.ReadLaws.{done_as, not_moved, read_leaves}

lists_written : (turn : ℕ) (w : DiskWorld) → CanBeDone Write w
    → (rk_completed turn w).drives ≡ slice_set w.drives (drive_in w.rk.disk_address) (disk_written (transfer_in w) w.core (drive_of w))
unfolding rk_transferred
lists_written turn w can =
    ap (λ (x : DiskWorld). x.drives) (done_as Write turn w can)
    ∙ ap (λ f. (lists_after f (transfer_in w) turn w).drives) can.function_is

core_stays : (turn : ℕ) (w : DiskWorld) → CanBeDone Write w → (rk_completed turn w).core ≡ w.core
unfolding rk_transferred
core_stays turn w can =
    ap (λ (x : DiskWorld). x.core) (done_as Write turn w can) ∙ ap (λ f. (lists_after f (transfer_in w) turn w).core) can.function_is

stamps_stay : (turn : ℕ) (w : DiskWorld) → CanBeDone Write w → (rk_completed turn w).stamps ≡ w.stamps
unfolding rk_transferred
stamps_stay turn w can =
    ap (λ (x : DiskWorld). x.stamps) (done_as Write turn w can) ∙ ap (λ f. (lists_after f (transfer_in w) turn w).stamps) can.function_is

-- what is allowed is with a drive that is there
drive_there : (rk : Rk) (drives : ℕ) → refusal rk drives ≡ None → drive_in rk.disk_address < drives
unfolding refusal
drive_there rk drives allowed = by_test (nat_lt (drive_in rk.disk_address) drives) refl _ allowed where
  by_test : (there : Bool) → nat_lt (drive_in rk.disk_address) drives ≡ there → (rest : Option Failure)
      → (if not there then Some NoDrive else rest) ≡ None → drive_in rk.disk_address < drives
  by_test true is rest none = ltb-true _ _ is
  by_test false is rest none = cc

drive_written : (turn : ℕ) (w : DiskWorld) → CanBeDone Write w
    → drive_numbered (drive_in w.rk.disk_address) (rk_completed turn w) ≡ disk_written (transfer_in w) w.core (drive_of w)
drive_written turn w can =
    ap (λ ds. slice_index_or ds (drive_in w.rk.disk_address) []) (lists_written turn w can)
    ∙ get_or-set_same w.drives (drive_in w.rk.disk_address) _ [] (drive_there w.rk (length w.drives) can.allowed)

other_drive : (turn : ℕ) (w : DiskWorld) → CanBeDone Write w → (number : ℕ) → number ≢ drive_in w.rk.disk_address
    → drive_numbered number (rk_completed turn w) ≡ drive_numbered number w
other_drive turn w can number other =
    ap (λ ds. slice_index_or ds number []) (lists_written turn w can)
    ∙ get_or-set_other w.drives (drive_in w.rk.disk_address) number _ [] other

second_of_three : (a b c : ℕ) → min a (min b c) ≤ b
second_of_three a b c = omega arith

-- the moves are of words of the drive
on_drive : (rk : Rk) (words size i : ℕ) → i < (transfer_of rk words size).count → disk_word (transfer_of rk words size) i < size
unfolding transfer_of
on_drive rk words size i done =
    let fits : (transfer_of rk words size).count ≤ size - first_word_of_sector rk =
    second_of_three (words_asked rk) (size - first_word_of_sector rk) (within_core rk words) in
    omega (arith, fits, done)

-- a word that was moved to the drive: the zeros are after it
word_moved : (t : Transfer) (core disk : List ℕ) (i : ℕ) → i < t.count → disk_word t i < length disk
    → slice_index (disk_written t core disk) (disk_word t i) ≡ slice_index core (core_word t i)
word_moved t core disk i done within =
    let which : disk_word t i - t.disk_start ≡ i = omega arith in
    let value : ℕ → ℕ = λ j. slice_index core (core_word t j) in
    not_moved (disk_word t t.count) (rest_of_sector t) (λ j. 0) (moved_to_disk t core disk) (disk_word t i) (λ from to. omega arith)
    ∙ get_or-moved t.disk_start t.count value disk (disk_word t i) 0 within
    ∙ item_inside t.disk_start t.count value (disk_word t i) (slice_index disk (disk_word t i)) (omega arith) (omega arith)
    ∙ ap value which

-- a word after the last one in its sector
in_rest : (sector count last word : ℕ) → last + 1 ≡ count → sector * 256 + last < word → word / 256 ≡ (sector * 256 + last) / 256
    → word < sector * 256 + count + ((count + 255) / 256 * 256 - count)
in_rest sector count last word is after same = omega arith

zero_at : (first n : ℕ) (xs : List ℕ) (word : ℕ) → first ≤ word → word < first + n → slice_index (moved_items first n (λ j. 0) xs) word ≡ 0
zero_at first n xs word from to = elim (cases_lt word (length xs)) [
  | inl within ↦ get_or-moved first n (λ j. 0) xs word 0 within ∙ item_inside first n (λ j. 0) word _ from to
  | inr past ↦
      let beyond : length (moved_items first n (λ j. 0) xs) ≤ word = omega (arith, length-moved first n (λ j. 0) xs) in
      get_or_past (moved_items first n (λ j. 0) xs) word 0 beyond
]

-- a word in none of the sectors that were written to
outside : (sector count word : ℕ) → ((i : ℕ) → i < count → word / 256 ≢ (sector * 256 + i) / 256)
    → (word < sector * 256) ⊎ (sector * 256 + count + ((count + 255) / 256 * 256 - count) ≤ word)
outside sector zero word none = elim (cases_lt word (sector * 256)) [ inl below ↦ inl below | inr above ↦ inr (omega arith) ]
outside sector (suc last) word none = elim (cases_lt word (sector * 256)) [
  | inl below ↦ inl below
  | inr above ↦ elim (cases_lt word (sector * 256 + suc last)) [
    | inl inside ↦
        let here : sector * 256 + (word - sector * 256) ≡ word = omega arith in
        absurd (none (word - sector * 256) (omega arith) (ap (λ k. k / 256) (sym here)))
    | inr past ↦ elim (cases_lt word (sector * 256 + suc last + ((suc last + 255) / 256 * 256 - suc last))) [
      | inl filled ↦ let same : word / 256 ≡ (sector * 256 + last) / 256 = omega arith in absurd (none last (omega arith) same)
      | inr beyond ↦ inr beyond
    ]
  ]
]

word_stays : (t : Transfer) (core disk : List ℕ) (word : ℕ)
    → (word < t.disk_start) ⊎ (disk_word t t.count + rest_of_sector t ≤ word)
    → slice_index (disk_written t core disk) word ≡ slice_index disk word
word_stays t core disk word (inl below) =
    not_moved (disk_word t t.count) (rest_of_sector t) (λ j. 0) (moved_to_disk t core disk) word (λ from to. omega arith)
    ∙ not_moved t.disk_start t.count _ disk word (λ from to. omega arith)
word_stays t core disk word (inr past) =
    not_moved (disk_word t t.count) (rest_of_sector t) (λ j. 0) (moved_to_disk t core disk) word (λ from to. omega arith)
    ∙ not_moved t.disk_start t.count _ disk word (λ from to. omega arith)

start_of : (rk : Rk) (words size : ℕ) → (transfer_of rk words size).disk_start ≡ sector_number rk.disk_address * 256
unfolding transfer_of
start_of rk words size = refl

filled_at : (t : Transfer) (sector : ℕ) → t.disk_start ≡ sector * 256 → (core disk : List ℕ) (last word : ℕ) → last + 1 ≡ t.count
    → disk_word t last < word → word / 256 ≡ disk_word t last / 256 → slice_index (disk_written t core disk) word ≡ 0
filled_at t sector start core disk last word is after same =
    let same_sector : word / 256 ≡ (sector * 256 + last) / 256 = same ∙ ap (λ n. (n + last) / 256) start in
    let within = in_rest sector t.count last word is (omega arith) same_sector in
    zero_at (disk_word t t.count) (rest_of_sector t) (moved_to_disk t core disk) word (omega arith) (omega (arith, within))

stays_at : (t : Transfer) (sector : ℕ) → t.disk_start ≡ sector * 256 → (core disk : List ℕ) (word : ℕ)
    → ((i : ℕ) → i < t.count → word / 256 ≢ disk_word t i / 256)
    → slice_index (disk_written t core disk) word ≡ slice_index disk word
stays_at t sector start core disk word none =
    word_stays t core disk word
    (elim (outside sector t.count word (λ i done same. none i done (same ∙ ap (λ n. (n + i) / 256) (sym start)))) [
      | inl below ↦ inl (omega arith)
      | inr past ↦ inr (omega arith)
    ])

pub write_leaves : WritesFillWithZeros
write_leaves turn w can =
    let t = transfer_in w in
    let sector = sector_number w.rk.disk_address in
    let start = start_of w.rk (length w.core) (length (drive_of w)) in
    let after = drive_written turn w can in
    record {
      moved_to = λ i done.
          ap (λ xs. slice_index xs (disk_word t i)) after
          ∙ word_moved t w.core (drive_of w) i done (on_drive w.rk (length w.core) (length (drive_of w)) i done);
      filled = λ last word is past same.
          ap (λ xs. slice_index xs word) after ∙ filled_at t sector start w.core (drive_of w) last word is past same;
      others = λ word none. ap (λ xs. slice_index xs word) after ∙ stays_at t sector start w.core (drive_of w) word none;
      size = ap length after ∙ length-disk_written t w.core (drive_of w);
      other_drives = other_drive turn w can;
      core = core_stays turn w can;
      stamps = stamps_stay turn w can;
    }

-- with no failure all words asked for are done
all_done : (count asked left : ℕ) → stop_of count asked left ≡ None → count ≡ asked
all_done count asked left none = by_test (count == asked) (count == left) refl none where
  by_test : (end overrun : Bool) → (count == asked) ≡ end
      → (if end then None else if overrun then Some Overrun else Some NoMemory) ≡ None → count ≡ asked
  by_test true overrun is stop = eqb-true _ _ is
  by_test false true is stop = cc
  by_test false false is stop = cc

written_in_full : (turn : ℕ) (w : DiskWorld) → EndsWell Write turn w → (transfer_in w).count ≡ words_asked w.rk
unfolding rk_transferred registers_after
written_in_full turn w well =
    all_done (transfer_in w).count (words_asked w.rk) (length (drive_of w) - (transfer_in w).disk_start)
    (ap (λ (x : DiskWorld). x.rk.failure) (sym (done_as Write turn w well.can_be_done)) ∙ well.no_failure)

read_in_full : (turn : ℕ) (w : DiskWorld) → EndsWell Read turn w → (transfer_in w).count ≡ words_asked w.rk
unfolding rk_transferred registers_after
read_in_full turn w well =
    all_done (transfer_in w).count (words_asked w.rk) (length (drive_of w) - (transfer_in w).disk_start)
    (ap (λ (x : DiskWorld). x.rk.failure) (sym (done_as Read turn w well.can_be_done)) ∙ well.no_failure)

core_word_by : (rk : Rk) (words size i : ℕ) → rk.no_increment ≡ false → core_word (transfer_of rk words size) i ≡ core_word_of_bus_address rk.address + i
unfolding transfer_of
core_word_by rk words size i increments = rw increments refl

disk_word_by : (rk : Rk) (words size i : ℕ) → disk_word (transfer_of rk words size) i ≡ sector_number rk.disk_address * 256 + i
unfolding transfer_of
disk_word_by rk words size i = refl

pub read_back : WrittenWordsAreReadBack
read_back turn later v w back i asked =
    let was = transfer_in v in
    let now = transfer_in w in
    let to = core_word_by w.rk (length w.core) (length (drive_of w)) in
    let from = core_word_by v.rk (length v.core) (length (drive_of v)) i back.written.increments in
    let place : disk_word now i ≡ disk_word was i =
    disk_word_by w.rk (length w.core) (length (drive_of w)) i
    ∙ ap (λ a. sector_number a * 256 + i) back.same_place
    ∙ sym (disk_word_by v.rk (length v.core) (length (drive_of v)) i) in
    let asked_now : words_asked w.rk ≡ words_asked v.rk = ap (λ n. 0o200000 - n) back.same_count in
    let written : i < was.count = omega (arith, asked, written_in_full turn v back.written) in
    let read : i < now.count = omega (arith, asked, asked_now, read_in_full later w back.read) in
    let last : (j : ℕ) → i < j → j < now.count → core_word now j ≢ core_word_of_bus_address w.rk.address + i =
    λ j above below same. omega (arith, to j back.read.increments, same) in
    (read_leaves later w back.read.can_be_done).moved_to (core_word_of_bus_address w.rk.address + i) i
    (record { done = read; there = to i back.read.increments; last = last })
    ∙ ap (λ xs. slice_index xs (disk_word now i)) back.drive_stays
    ∙ ap (λ k. slice_index (drive_numbered (drive_in v.rk.disk_address) (rk_completed turn v)) k) place
    ∙ (write_leaves turn v back.written.can_be_done).moved_to i written
    ∙ ap (λ k. slice_index v.core k) from
