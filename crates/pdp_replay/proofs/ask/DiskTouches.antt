-- The words of core that a completion of the disk reads.
use Rattle.std.proofs.Common.{◌≡◌, ◌∙◌, ◌⊎◌, ◌+◌, ◌-◌, ◌<◌, ◌≤◌, ◌&&◌, ℕ, zero, suc, Bool, true, false, List, [], ◌∷◌, Option, Some, None, Contains, ap, arith, if◌then◌else◌, inl, inr, length, min, nat_le, nat_lt, refl, subst, sym, ⊎_elim}
use Rattle.std.proofs.lemmas.Bool.{and_from, and_parts, cases_lt, le-leb, leb-true, lt-ltb, ltb-true}
use Rattle.std.proofs.lemmas.List.Elements.{Contains-append_cases, Contains-append_left, Contains-append_right}
use Rattle.pdp_device.specs.Operation.{is_under_way}
use Rattle.pdp_store.specs.TracedAccess.{TracedAccess}
use Rattle.pdp_store.specs.declared.part.Part.TheVariants.{Core, Drive}
use Rattle.pdp_rk11.specs.Handbook.Completion.{DiskWorld, core_word_of_bus_address, drive_of, refusal, transfer_of}
use Rattle.pdp_rk11.specs.Handbook.Geometry.{drive_in}
use Rattle.pdp_rk11.specs.Handbook.Transfer.{core_word, disk_word, rest_of_sector}
use Rattle.pdp_rk11.specs.Trace.{completion_touches, fill_touches, joined_lists, move_touches, read_by_disk, touches_unless_refused, transfer_touches, written_by_disk}
use Rattle.pdp_rk11.specs.WordsDone.{is_transfer, words_of_function, words_unless_refused}
use Rattle.pdp_rk11.specs.declared.failure.Failure.{Failure}
use Rattle.pdp_rk11.specs.declared.function.Function.{Function}
use Rattle.pdp_rk11.specs.declared.function.Function.TheVariants.{ControlReset, DriveReset, Read, ReadCheck, Seek, Write, WriteCheck, WriteLock}
use Rattle.pdp_rk11.specs.declared.rk.Rk.{Rk}
use Rattle.pdp_rk11.specs.declared.transfer.Transfer.{Transfer}
use Rattle.pdp_replay.specs.Ask.Reads.{reads_core}

-- what is in a list of none, of one and of two
pub none_in : (x : TracedAccess) → Contains [] x → ⊥
none_in x has = let below = has.1 in omega (arith, below)

pub in_one : (a x : TracedAccess) → Contains (a ∷ []) x → a ≡ x
in_one a x (zero, below, is) = is
in_one a x (suc k, below, is) = absurd (omega (arith, below))

in_two : (a b x : TracedAccess) → Contains (a ∷ b ∷ []) x → (a ≡ x) ⊎ (b ≡ x)
in_two a b x has =
    ⊎_elim
    (λ (first : Contains (a ∷ []) x). inl (in_one a x first))
    (λ (second : Contains (b ∷ []) x). inr (in_one b x second))
    (Contains-append_cases (a ∷ []) (b ∷ []) x has)

-- what is in joined lists is in one of them
record IsInList (f : ℕ → List TracedAccess) (n : ℕ) (x : TracedAccess) : Type 0 where
  place : ℕ
  below : place < n
  there : Contains (f place) x

in_joined : (f : ℕ → List TracedAccess) (n : ℕ) (x : TracedAccess) → Contains (joined_lists f n) x → IsInList f n x
in_joined f zero x has = absurd (none_in x has)
in_joined f (suc n) x has =
    ⊎_elim
    (λ (early : Contains (joined_lists f n) x). let one = in_joined f n x early in let below = one.below in
    record { place = one.place; below = omega (arith, below); there = one.there })
    (λ (last : Contains (f n) x). record { place = n; below = omega arith; there = last })
    (Contains-append_cases (joined_lists f n) (f n) x has)

from_list : (f : ℕ → List TracedAccess) (n k : ℕ) (x : TracedAccess) → k < n → Contains (f k) x → Contains (joined_lists f n) x
from_list f zero k x below there = absurd (omega (arith, below))
from_list f (suc n) k x below there =
    ⊎_elim
    (λ (early : k < n). Contains-append_left (joined_lists f n) (f n) x (from_list f n k x early there))
    (λ (late : n ≤ k). let same : k ≡ n = omega (arith, below, late) in Contains-append_right (joined_lists f n) (f n) x (subst (λ j. Contains (f j) x) same there))
    (cases_lt k n)

-- an access that isn't a read of core
of_drive : (turn drive number k : ℕ) → read_by_disk turn (Drive drive) k ≡ read_by_disk turn Core number → ⊥
of_drive turn drive number k is = let part = ap (λ (a : TracedAccess). a.part) is in cc

of_write : (turn number k : ℕ) (x : TracedAccess) → x.writes ≡ true → x ≡ read_by_disk turn Core number → ⊥
of_write turn number k x writes is = let kind = ap (λ (a : TracedAccess). a.writes) is in cc

word_is : (turn number k : ℕ) → read_by_disk turn Core k ≡ read_by_disk turn Core number → k ≡ number
word_is turn number k is = ap (λ (a : TracedAccess). a.word) is

-- of the accesses of a move one is a read of core, if the function reads core
read_of_move : (f : Function) (t : Transfer) (drive turn number i : ℕ) → Contains (move_touches f t drive turn i) (read_by_disk turn Core number)
    → (reads_core f ≡ true) × (core_word t i ≡ number)
read_of_move ControlReset t drive turn number i has = absurd (none_in _ has)
read_of_move Write t drive turn number i has =
    ⊎_elim
    (λ (first : read_by_disk turn Core (core_word t i) ≡ read_by_disk turn Core number). (refl, word_is turn number (core_word t i) first))
    (λ (second : written_by_disk turn (Drive drive) (disk_word t i) ≡ read_by_disk turn Core number). absurd (of_write turn number i _ refl second))
    (in_two _ _ _ has)
read_of_move Read t drive turn number i has =
    ⊎_elim
    (λ (first : read_by_disk turn (Drive drive) (disk_word t i) ≡ read_by_disk turn Core number). absurd (of_drive turn drive number (disk_word t i) first))
    (λ (second : written_by_disk turn Core (core_word t i) ≡ read_by_disk turn Core number). absurd (of_write turn number i _ refl second))
    (in_two _ _ _ has)
read_of_move WriteCheck t drive turn number i has =
    ⊎_elim
    (λ (first : read_by_disk turn Core (core_word t i) ≡ read_by_disk turn Core number). (refl, word_is turn number (core_word t i) first))
    (λ (second : read_by_disk turn (Drive drive) (disk_word t i) ≡ read_by_disk turn Core number). absurd (of_drive turn drive number (disk_word t i) second))
    (in_two _ _ _ has)
read_of_move Seek t drive turn number i has = absurd (none_in _ has)
read_of_move ReadCheck t drive turn number i has = absurd (of_drive turn drive number (disk_word t i) (in_one _ _ has))
read_of_move DriveReset t drive turn number i has = absurd (none_in _ has)
read_of_move WriteLock t drive turn number i has = absurd (none_in _ has)

move_reads : (f : Function) (t : Transfer) (drive turn number i : ℕ) → reads_core f ≡ true → core_word t i ≡ number
    → Contains (move_touches f t drive turn i) (read_by_disk turn Core number)
move_reads ControlReset t drive turn number i reads is = absurd cc
move_reads Write t drive turn number i reads is = (0, omega arith, ap (read_by_disk turn Core) is)
move_reads Read t drive turn number i reads is = absurd cc
move_reads WriteCheck t drive turn number i reads is = (0, omega arith, ap (read_by_disk turn Core) is)
move_reads Seek t drive turn number i reads is = absurd cc
move_reads ReadCheck t drive turn number i reads is = absurd cc
move_reads DriveReset t drive turn number i reads is = absurd cc
move_reads WriteLock t drive turn number i reads is = absurd cc

-- what fills a sector reads nothing
fill_reads_none : (f : Function) (t : Transfer) (drive turn number : ℕ) → Contains (fill_touches f t drive turn) (read_by_disk turn Core number) → ⊥
fill_reads_none ControlReset t drive turn number has = none_in _ has
fill_reads_none Write t drive turn number has =
    let one = in_joined (λ i. written_by_disk turn (Drive drive) (disk_word t t.count + i) ∷ []) (rest_of_sector t) _ has in
    of_write turn number one.place _ refl (in_one _ _ one.there)
fill_reads_none Read t drive turn number has = none_in _ has
fill_reads_none WriteCheck t drive turn number has = none_in _ has
fill_reads_none Seek t drive turn number has = none_in _ has
fill_reads_none ReadCheck t drive turn number has = none_in _ has
fill_reads_none DriveReset t drive turn number has = none_in _ has
fill_reads_none WriteLock t drive turn number has = none_in _ has

-- the words from a first one on, or that one alone
abbrev pub spans : Bool → ℕ → ℕ → ℕ → Bool
spans one start count number = nat_le start number && nat_lt number (start + (if one then min count 1 else count))

spanned : (one : Bool) (start count number i : ℕ) → i < count → (if one then start else start + i) ≡ number → spans one start count number ≡ true
spanned true start count number i below is =
    and_from _ _ (le-leb start number (omega (arith, is))) (lt-ltb number (start + min count 1) (omega (arith, below, is)))
spanned false start count number i below is =
    and_from _ _ (le-leb start number (omega (arith, is))) (lt-ltb number (start + count) (omega (arith, below, is)))

record IsMoved (one : Bool) (start count number : ℕ) : Type 0 where
  move : ℕ
  below : move < count
  is : (if one then start else start + move) ≡ number

moved : (one : Bool) (start count number : ℕ) → spans one start count number ≡ true → IsMoved one start count number
moved true start count number there =
    let both = and_parts _ _ there in
    let low = leb-true start number both.0 in
    let high = ltb-true number (start + min count 1) both.1 in
    record { move = 0; below = omega (arith, low, high); is = omega (arith, low, high) }
moved false start count number there =
    let both = and_parts _ _ there in
    let low = leb-true start number both.0 in
    let high = ltb-true number (start + count) both.1 in
    record { move = number - start; below = omega (arith, low, high); is = omega (arith, low) }

-- a transfer reads a word of core exactly if the function reads core and the word is one of those
transfer_reads : (f : Function) (t : Transfer) (drive turn number : ℕ) → Contains (transfer_touches f t drive turn) (read_by_disk turn Core number)
    → (reads_core f && spans t.no_increment t.core_start t.count number) ≡ true
transfer_reads f t drive turn number has =
    ⊎_elim
    (λ (in_moves : Contains (joined_lists (move_touches f t drive turn) t.count) (read_by_disk turn Core number)).
    let one = in_joined (move_touches f t drive turn) t.count _ in_moves in
    let read = read_of_move f t drive turn number one.place one.there in
    and_from _ _ read.0 (spanned t.no_increment t.core_start t.count number one.place one.below read.1))
    (λ (in_fill : Contains (fill_touches f t drive turn) (read_by_disk turn Core number)). absurd (fill_reads_none f t drive turn number in_fill))
    (Contains-append_cases (joined_lists (move_touches f t drive turn) t.count) (fill_touches f t drive turn) _ has)

read_is_there : (f : Function) (t : Transfer) (drive turn number : ℕ) → (reads_core f && spans t.no_increment t.core_start t.count number) ≡ true
    → Contains (transfer_touches f t drive turn) (read_by_disk turn Core number)
read_is_there f t drive turn number there =
    let both = and_parts (reads_core f) _ there in
    let move = moved t.no_increment t.core_start t.count number both.1 in
    Contains-append_left (joined_lists (move_touches f t drive turn) t.count) (fill_touches f t drive turn) _
    (from_list (move_touches f t drive turn) t.count move.move _ move.below (move_reads f t drive turn number move.move both.0 move.is))

-- as many words as it moves or compares
read_moves : (f : Function) → reads_core f ≡ true → is_transfer f ≡ true
read_moves Write reads = refl
read_moves WriteCheck reads = refl
read_moves Read reads = refl
read_moves ReadCheck reads = refl
read_moves ControlReset reads = absurd cc
read_moves Seek reads = absurd cc
read_moves DriveReset reads = absurd cc
read_moves WriteLock reads = absurd cc

same_count : (reads moves spans_all spans_some : Bool) → (reads ≡ true → moves ≡ true) → (moves ≡ true → spans_all ≡ spans_some)
    → (reads && spans_all) ≡ (reads && spans_some)
same_count true moves all some moved same = same (moved refl)
same_count false moves all some moved same = refl

-- what a completion of this function reads, by the count of its words
abbrev pub is_read_in : Rk → ℕ → ℕ → Bool
is_read_in rk count number = reads_core rk.function && spans rk.no_increment (core_word_of_bus_address rk.address) count number

counted_by : (w : DiskWorld) (number : ℕ) → is_read_in w.rk (words_unless_refused None w) number
    ≡ (reads_core w.rk.function && spans (transfer_of w.rk (length w.core) (length (drive_of w))).no_increment (transfer_of w.rk (length w.core) (length (drive_of w))).core_start (transfer_of w.rk (length w.core) (length (drive_of w))).count number)
unfolding transfer_of
counted_by w number =
    same_count (reads_core w.rk.function) (is_transfer w.rk.function) _ _ (read_moves w.rk.function)
    (λ moves. rw moves refl)

none_spanned : (one : Bool) (start number : ℕ) → spans one start 0 number ≡ true → ⊥
none_spanned one start number there = let move = moved one start 0 number there in let below = move.below in omega (arith, below)

read_unless : (refused : Option Failure) (turn : ℕ) (w : DiskWorld) (number : ℕ) → Contains (touches_unless_refused refused turn w) (read_by_disk turn Core number)
    → is_read_in w.rk (words_unless_refused refused w) number ≡ true
read_unless (Some failure) turn w number has = absurd (none_in _ has)
read_unless None turn w number has =
    counted_by w number ∙ transfer_reads w.rk.function (transfer_of w.rk (length w.core) (length (drive_of w))) (drive_in w.rk.disk_address) turn number has

unless_read : (refused : Option Failure) (turn : ℕ) (w : DiskWorld) (number : ℕ) → is_read_in w.rk (words_unless_refused refused w) number ≡ true
    → Contains (touches_unless_refused refused turn w) (read_by_disk turn Core number)
unless_read (Some failure) turn w number there =
    absurd (none_spanned w.rk.no_increment (core_word_of_bus_address w.rk.address) number (and_parts (reads_core w.rk.function) _ there).1)
unless_read None turn w number there =
    read_is_there w.rk.function (transfer_of w.rk (length w.core) (length (drive_of w))) (drive_in w.rk.disk_address) turn number (sym (counted_by w number) ∙ there)

pub completion_reads : (turn : ℕ) (w : DiskWorld) (number : ℕ) → is_under_way w.rk.operation ≡ true
    → Contains (completion_touches turn w) (read_by_disk turn Core number) → is_read_in w.rk (words_of_function w) number ≡ true
unfolding completion_touches
completion_reads turn w number busy has =
    read_unless (refusal w.rk (length w.drives)) turn w number
    (subst (λ (under_way : Bool). Contains (if under_way then touches_unless_refused (refusal w.rk (length w.drives)) turn w else []) (read_by_disk turn Core number)) busy has)

pub reads_of_completion : (turn : ℕ) (w : DiskWorld) (number : ℕ) → is_under_way w.rk.operation ≡ true → is_read_in w.rk (words_of_function w) number ≡ true
    → Contains (completion_touches turn w) (read_by_disk turn Core number)
unfolding completion_touches
reads_of_completion turn w number busy there =
    subst (λ (under_way : Bool). Contains (if under_way then touches_unless_refused (refusal w.rk (length w.drives)) turn w else []) (read_by_disk turn Core number)) (sym busy)
    (unless_read (refusal w.rk (length w.drives)) turn w number there)
