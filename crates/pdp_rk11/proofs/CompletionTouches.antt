-- Each touch of a completion is of its turn and by the disk, and in core it is of a word that exists.
use Rattle.std.proofs.Common.{◌≡◌, ℕ, zero, suc, ◌+◌, ◌-◌, ◌<◌, ◌≤◌, ◌&&◌, Bool, true, false, List, [], ◌∷◌, refl, subst, arith, All, length, if◌then◌else◌}
use Rattle.std.proofs.lemmas.Bool.Decides.{nat_tests}
use Rattle.std.proofs.lemmas.List.Elements.{All-nil, All-cons, All-append}
use Rattle.std.specs.Prelude.{min, nat_lt}
use Rattle.pdp_store.specs.TracedAccess.{TracedAccess}
use Rattle.pdp_store.specs.declared.part.Part.TheVariants.{Core, Drive}
use Rattle.pdp_rk11.specs.Handbook.Completion.{DiskWorld, core_word_of_bus_address, first_word_of_sector, is_read_check, transfer_of, within_core, words_asked}
use Rattle.pdp_rk11.specs.Handbook.Geometry.{drive_in}
use Rattle.pdp_rk11.specs.Trace.{IsOfCompletion, completion_touches, fill_touches, joined_lists, move_touches, read_by_disk, transfer_touches, written_by_disk}
use Rattle.pdp_rk11.specs.Handbook.Transfer.{core_word, disk_word, rest_of_sector}
use Rattle.pdp_rk11.specs.declared.function.Function.{Function}
use Rattle.pdp_rk11.specs.declared.function.Function.TheVariants.{ControlReset, Write, Read, WriteCheck, Seek, ReadCheck, DriveReset, WriteLock}
use Rattle.pdp_rk11.specs.declared.rk.Rk.{Rk}
use Rattle.pdp_rk11.specs.declared.transfer.Transfer.{Transfer}
use Rattle.pdp_rk11.proofs.Done.{Done, Quiet, Moved, done, transfer_in}

-- a transfer's moves are within a core of so many words, if they are of core at all
abbrev IsWithin : Function → Transfer → ℕ → Type 0
IsWithin f t words = is_read_check f ≡ false → (i : ℕ) → i < t.count → core_word t i < words

within_by : (one within : Bool) (start words asked count i : ℕ) → nat_lt start words ≡ within
    → count ≤ (if one && within then asked else words - start) → i < count → (if one then start else start + i) < words
within_by true true start words asked count i is fits below = grind (arith, nat_tests)
within_by true false start words asked count i is fits below = omega arith
within_by false true start words asked count i is fits below = omega arith
within_by false false start words asked count i is fits below = omega arith

least_of_three : (a b c : ℕ) → min a (min b c) ≤ c
least_of_three a b c = omega arith

pub transfer_within : (rk : Rk) (words size : ℕ) → IsWithin rk.function (transfer_of rk words size) words
unfolding transfer_of
transfer_within rk words size reads i below =
    let limit : within_core rk words
    ≡ (if rk.no_increment && nat_lt (core_word_of_bus_address rk.address) words then words_asked rk else words - core_word_of_bus_address rk.address) =
    rw reads refl in
    let fits : (transfer_of rk words size).count ≤ within_core rk words =
    least_of_three (words_asked rk) (size - first_word_of_sector rk) (within_core rk words) in
    within_by rk.no_increment (nat_lt (core_word_of_bus_address rk.address) words) (core_word_of_bus_address rk.address) words (words_asked rk)
    (transfer_of rk words size).count i refl
    (subst (λ n. (transfer_of rk words size).count ≤ n) limit fits) below

module _ (turn words : ℕ) where
  abbrev Fits : TracedAccess → Type 0
  Fits = IsOfCompletion turn words

  core_read_fits : (word : ℕ) → word < words → Fits (read_by_disk turn Core word)
  core_read_fits word within = record { turn_is = refl; by_disk = refl; in_core = λ core. within }

  core_written_fits : (word : ℕ) → word < words → Fits (written_by_disk turn Core word)
  core_written_fits word within = record { turn_is = refl; by_disk = refl; in_core = λ core. within }

  drive_read_fits : (drive word : ℕ) → Fits (read_by_disk turn (Drive drive) word)
  drive_read_fits drive word = record { turn_is = refl; by_disk = refl; in_core = λ core. cc }

  drive_written_fits : (drive word : ℕ) → Fits (written_by_disk turn (Drive drive) word)
  drive_written_fits drive word = record { turn_is = refl; by_disk = refl; in_core = λ core. cc }

  one_fits : (x : TracedAccess) → Fits x → All Fits (x ∷ [])
  one_fits x fits = All-cons Fits x [] fits (All-nil Fits)

  two_fit : (x y : TracedAccess) → Fits x → Fits y → All Fits (x ∷ y ∷ [])
  two_fit x y fits also = All-cons Fits x (y ∷ []) fits (one_fits y also)

  joined_fit : (f : ℕ → List TracedAccess) (n : ℕ) → ((i : ℕ) → i < n → All Fits (f i)) → All Fits (joined_lists f n)
  joined_fit f zero each = All-nil Fits
  joined_fit f (suc n) each = All-append Fits (joined_lists f n) (f n) (joined_fit f n (λ i below. each i (omega arith))) (each n (omega arith))

  move_fits : (f : Function) (t : Transfer) (drive : ℕ) → IsWithin f t words → (i : ℕ) → i < t.count
      → All Fits (move_touches f t drive turn i)
  move_fits ControlReset t drive within i below = All-nil Fits
  move_fits Write t drive within i below =
      two_fit _ _ (core_read_fits (core_word t i) (within refl i below)) (drive_written_fits drive (disk_word t i))
  move_fits Read t drive within i below =
      two_fit _ _ (drive_read_fits drive (disk_word t i)) (core_written_fits (core_word t i) (within refl i below))
  move_fits WriteCheck t drive within i below =
      two_fit _ _ (core_read_fits (core_word t i) (within refl i below)) (drive_read_fits drive (disk_word t i))
  move_fits Seek t drive within i below = All-nil Fits
  move_fits ReadCheck t drive within i below = one_fits _ (drive_read_fits drive (disk_word t i))
  move_fits DriveReset t drive within i below = All-nil Fits
  move_fits WriteLock t drive within i below = All-nil Fits

  fill_fits : (f : Function) (t : Transfer) (drive : ℕ) → All Fits (fill_touches f t drive turn)
  fill_fits ControlReset t drive = All-nil Fits
  fill_fits Write t drive =
      joined_fit _ (rest_of_sector t) (λ i below. one_fits _ (drive_written_fits drive (disk_word t t.count + i)))
  fill_fits Read t drive = All-nil Fits
  fill_fits WriteCheck t drive = All-nil Fits
  fill_fits Seek t drive = All-nil Fits
  fill_fits ReadCheck t drive = All-nil Fits
  fill_fits DriveReset t drive = All-nil Fits
  fill_fits WriteLock t drive = All-nil Fits

  transfer_fits : (f : Function) (t : Transfer) (drive : ℕ) → IsWithin f t words → All Fits (transfer_touches f t drive turn)
  transfer_fits f t drive within =
      All-append Fits (joined_lists (move_touches f t drive turn) t.count) (fill_touches f t drive turn)
      (joined_fit (move_touches f t drive turn) t.count (move_fits f t drive within)) (fill_fits f t drive)

touches_of : {turn : ℕ} {w v : DiskWorld} {xs : List TracedAccess} → Done turn w xs v → All (IsOfCompletion turn (length w.core)) xs
touches_of {turn} {w} (Quiet rk) = All-nil (IsOfCompletion turn (length w.core))
touches_of {turn} {w} (Moved rk) =
    transfer_fits turn (length w.core) w.rk.function (transfer_in w) (drive_in w.rk.disk_address) (transfer_within w.rk (length w.core) _)

pub completion_of_turn : (turn : ℕ) (w : DiskWorld) → All (IsOfCompletion turn (length w.core)) (completion_touches turn w)
completion_of_turn turn w = touches_of (done turn w)
