-- What a patch of a word, a patch less, other delays and another tape make of the state as of
-- power-up.
use Rattle.std.proofs.Common.{◌≡◌, ◌∙◌, ℕ, ◌<◌, ◌&&◌, Bool, true, false, List, [], ◌∷◌, None, Some, ap, ap₂, get_or, length, map, nat_eq, refl, subst, sym, unwrap_or, arith}
use Rattle.std.specs.Prelude.{slice_index, slice_index_or, slice_set}
use Rattle.std.specs.List.{range_with_len}
use Rattle.std.proofs.lemmas.Bool.{eqb-true, eq-eqb, false≢true}
use Rattle.std.proofs.lemmas.Grind.{get_or-set_at}
use Rattle.std.proofs.lemmas.List.{get_or-set_other, length-set}
use Rattle.std.proofs.lemmas.List.FromFn.{fill_by_all, get_or-map-range_with_len, length-map-range_with_len}
use Rattle.indexmap.specs.IndexMap.{insert_entry, shift_remove_entry}
use Rattle.pdp_store.specs.Parts.{is_same_part, word_at}
use Rattle.pdp_replay.specs.Past.FirstWords.{words_by_number, core_words, first_core_word, disk_words, drives_words, first_disk_word}
use Rattle.pdp_replay.specs.Past.PatchedWords.{Patches, is_same_word, patch_of}
use Rattle.pdp_replay.specs.Past.Setup.{SetupData, core_size, drive_words, image_of}
use Rattle.pdp_store.specs.declared.part.Part.{Part}
use Rattle.pdp_store.specs.declared.part.WordAt.{WordAt}
use Rattle.pdp_store.specs.declared.part.Part.TheVariants as parts
use Rattle.pdp_replay.proofs.past.FirstWords.{drive_by_number, filled_by_number, length_by_number, word_by_number}
use Rattle.pdp_replay.proofs.run.Lowered.{both_true}

-- a word is the same as itself alone
same_part : (part other : Part) → is_same_part part other ≡ true → part ≡ other
same_part parts.Core parts.Core is = refl
same_part (parts.Drive d) (parts.Drive e) is = ap parts.Drive (eqb-true d e is)
same_part parts.Core (parts.Drive e) is = absurd cc
same_part (parts.Drive d) parts.Core is = absurd cc

pub same_word : (k other : WordAt) → is_same_word k other ≡ true → k ≡ other
same_word k other is =
    let both = both_true (is_same_part k.part other.part) (nat_eq k.number other.number) is in
    ap₂ word_at (same_part k.part other.part both.0) (eqb-true k.number other.number both.1)

part_itself : (part : Part) → is_same_part part part ≡ true
part_itself parts.Core = refl
part_itself (parts.Drive d) = eq-eqb d d refl

pub itself : (k : WordAt) → is_same_word k k ≡ true
itself k = ap₂ ◌&&◌ (part_itself k.part) (eq-eqb k.number k.number refl)

-- one patch more: its word has it, and no other word another one
abbrev put : Patches → WordAt → ℕ → Patches
put ps k word = insert_entry is_same_word ps k word

put_first : (p : WordAt × ℕ) (ps : Patches) (k : WordAt) (word : ℕ) (same : Bool) → is_same_word k p.0 ≡ same
    → patch_of (put ps k word) k ≡ Some word → patch_of (put (p ∷ ps) k word) k ≡ Some word
put_first p ps k word true is later = simp is refl
put_first p ps k word false is later = simp is later

put_here : (ps : Patches) (k : WordAt) (word : ℕ) → patch_of (put ps k word) k ≡ Some word
put_here [] k word = let same = itself k in rw same refl
put_here (p ∷ ps) k word = put_first p ps k word (is_same_word k p.0) refl (put_here ps k word)

put_first_elsewhere : (p : WordAt × ℕ) (ps : Patches) (k q : WordAt) (word : ℕ) → is_same_word q k ≡ false → (same found : Bool)
    → is_same_word k p.0 ≡ same → is_same_word q p.0 ≡ found → patch_of (put ps k word) q ≡ patch_of ps q
    → patch_of (put (p ∷ ps) k word) q ≡ patch_of (p ∷ ps) q
put_first_elsewhere p ps k q word other true true is met later =
    absurd (false≢true (sym (subst (λ k. is_same_word q k ≡ false) (same_word k p.0 is) other) ∙ met))
put_first_elsewhere p ps k q word other true false is missed later = simp (is, missed) refl
put_first_elsewhere p ps k q word other false true is met later = simp (is, met) refl
put_first_elsewhere p ps k q word other false false is missed later = simp (is, missed) later

put_elsewhere : (ps : Patches) (k q : WordAt) (word : ℕ) → is_same_word q k ≡ false → patch_of (put ps k word) q ≡ patch_of ps q
put_elsewhere [] k q word other = rw other refl
put_elsewhere (p ∷ ps) k q word other =
    put_first_elsewhere p ps k q word other (is_same_word k p.0) (is_same_word q p.0) refl refl (put_elsewhere ps k q word other)

-- a patch less
abbrev pub taken : Patches → WordAt → Patches
taken ps k = shift_remove_entry (is_same_word k) ps

taken_first_elsewhere : (p : WordAt × ℕ) (ps : Patches) (k q : WordAt) → is_same_word q k ≡ false → (same found : Bool)
    → is_same_word k p.0 ≡ same → is_same_word q p.0 ≡ found → patch_of (taken ps k) q ≡ patch_of ps q
    → patch_of (taken (p ∷ ps) k) q ≡ patch_of (p ∷ ps) q
taken_first_elsewhere p ps k q other true true is met later =
    absurd (false≢true (sym (subst (λ k. is_same_word q k ≡ false) (same_word k p.0 is) other) ∙ met))
taken_first_elsewhere p ps k q other true false is missed later = simp (is, missed) refl
taken_first_elsewhere p ps k q other false true is met later = simp (is, met) refl
taken_first_elsewhere p ps k q other false false is missed later = simp (is, missed) later

pub taken_elsewhere : (ps : Patches) (k q : WordAt) → is_same_word q k ≡ false → patch_of (taken ps k) q ≡ patch_of ps q
taken_elsewhere [] k q other = refl
taken_elsewhere (p ∷ ps) k q other =
    taken_first_elsewhere p ps k q other (is_same_word k p.0) (is_same_word q p.0) refl refl (taken_elsewhere ps k q other)

-- what is listed by number, of which one is another, and of which none is
pub changed_at : {X : Type 0} (blank : X) (value now : ℕ → X) (size i : ℕ) (x : X) → i < size → now i ≡ x
    → ((number : ℕ) → nat_eq number i ≡ false → now number ≡ value number)
    → map now (range_with_len 0 size) ≡ slice_set (map value (range_with_len 0 size)) i x
changed_at {X} blank value now size i x inside here elsewhere =
    sym (fill_by_all now (slice_set before i x) size blank long (λ number below. each number below (nat_eq number i) refl))
  where
    before : List X
    before = map value (range_with_len 0 size)

    so_many : length before ≡ size
    so_many = length-map-range_with_len value 0 size

    long : length (slice_set before i x) ≡ size
    long = length-set before i x ∙ so_many

    each : (number : ℕ) → number < size → (same : Bool) → nat_eq number i ≡ same → get_or (slice_set before i x) number blank ≡ now number
    each number below true is =
        let at : number ≡ i = eqb-true number i is in
        let within : i < length before = rw so_many inside in
        rw at (get_or-set_at before i i x blank refl within ∙ sym here)
    each number below false is =
        get_or-set_other before i number x blank (λ same. false≢true (sym is ∙ eq-eqb number i same))
        ∙ get_or-map-range_with_len value 0 size number number blank below (omega arith)
        ∙ sym (elsewhere number is)

pub one_changed : (value now : ℕ → ℕ) (size i word : ℕ) → i < size → now i ≡ word
    → ((number : ℕ) → nat_eq number i ≡ false → now number ≡ value number)
    → words_by_number now size ≡ slice_set (words_by_number value size) i word
unfolding words_by_number
one_changed value now size i word inside here elsewhere = changed_at 0 value now size i word inside here elsewhere

pub same_lists : {X : Type 0} (value now : ℕ → X) (numbers : List ℕ) → ((number : ℕ) → now number ≡ value number) → map now numbers ≡ map value numbers
same_lists value now [] same = refl
same_lists value now (number ∷ numbers) same = ap₂ (λ x xs. x ∷ xs) (same number) (same_lists value now numbers same)

pub none_changed : (value now : ℕ → ℕ) (size : ℕ) → ((number : ℕ) → now number ≡ value number) → words_by_number now size ≡ words_by_number value size
none_changed value now size same =
    sym (filled_by_number now (words_by_number value size) size (length_by_number value size)
    (λ number below. word_by_number value size number below ∙ sym (same number)))

-- the setup with a patch more, and with one less
abbrev pub patched : SetupData → WordAt → ℕ → SetupData
patched s k word = record s { patches = put s.patches k word }

abbrev pub unpatched : SetupData → WordAt → SetupData
unpatched s k = record s { patches = taken s.patches k }

pub core_patched : (s : SetupData) (i word : ℕ) → i < core_size s → core_words (patched s (word_at parts.Core i) word) ≡ slice_set (core_words s) i word
unfolding core_words
core_patched s i word inside =
    one_changed (first_core_word s) (first_core_word (patched s (word_at parts.Core i) word)) (core_size s) i word inside
    (ap (λ found. unwrap_or found (slice_index s.core i)) (put_here s.patches (word_at parts.Core i) word))
    (λ number other. ap (λ found. unwrap_or found (slice_index s.core number)) (put_elsewhere s.patches (word_at parts.Core i) (word_at parts.Core number) word other))

pub core_stays : (s : SetupData) (drive i word : ℕ) → core_words (patched s (word_at (parts.Drive drive) i) word) ≡ core_words s
unfolding core_words
core_stays s drive i word =
    none_changed (first_core_word s) (first_core_word (patched s (word_at (parts.Drive drive) i) word)) (core_size s)
    (λ number. ap (λ found. unwrap_or found (slice_index s.core number)) (put_elsewhere s.patches (word_at (parts.Drive drive) i) (word_at parts.Core number) word refl))

disk_patched : (s : SetupData) (drive i word : ℕ) → i < drive_words
    → disk_words (patched s (word_at (parts.Drive drive) i) word) drive ≡ slice_set (disk_words s drive) i word
unfolding disk_words
disk_patched s drive i word inside =
    one_changed (first_disk_word s drive) (first_disk_word (patched s (word_at (parts.Drive drive) i) word) drive) drive_words i word inside
    (ap (λ found. unwrap_or found (slice_index (image_of s.disks drive) i)) (put_here s.patches (word_at (parts.Drive drive) i) word))
    (λ number other. ap (λ found. unwrap_or found (slice_index (image_of s.disks drive) number))
    (put_elsewhere s.patches (word_at (parts.Drive drive) i) (word_at (parts.Drive drive) number) word (ap₂ ◌&&◌ (eq-eqb drive drive refl) other)))

-- a patch of a word of one drive leaves every other drive
disk_beside : (s : SetupData) (drive other i word : ℕ) → nat_eq other drive ≡ false → disk_words (patched s (word_at (parts.Drive drive) i) word) other ≡ disk_words s other
unfolding disk_words
disk_beside s drive other i word beside =
    none_changed (first_disk_word s other) (first_disk_word (patched s (word_at (parts.Drive drive) i) word) other) drive_words
    (λ number. ap (λ found. unwrap_or found (slice_index (image_of s.disks other) number))
    (put_elsewhere s.patches (word_at (parts.Drive drive) i) (word_at (parts.Drive other) number) word (ap (λ same. same && nat_eq number i) beside)))

pub drives_patched : (s : SetupData) (drive i word : ℕ) → drive < s.drives → i < drive_words
    → drives_words (patched s (word_at (parts.Drive drive) i) word) ≡ slice_set (drives_words s) drive (slice_set (slice_index_or (drives_words s) drive []) i word)
unfolding drives_words
drives_patched s drive i word there inside =
    let here : slice_index_or (drives_words s) drive [] ≡ disk_words s drive = drive_by_number s drive there in
    changed_at [] (disk_words s) (disk_words (patched s (word_at (parts.Drive drive) i) word)) s.drives drive (slice_set (slice_index_or (drives_words s) drive []) i word) there
    (disk_patched s drive i word inside ∙ ap (λ words. slice_set words i word) (sym here))
    (λ other beside. disk_beside s drive other i word beside)

disk_stays : (s : SetupData) (i word drive : ℕ) → disk_words (patched s (word_at parts.Core i) word) drive ≡ disk_words s drive
unfolding disk_words
disk_stays s i word drive =
    none_changed (first_disk_word s drive) (first_disk_word (patched s (word_at parts.Core i) word) drive) drive_words
    (λ number. ap (λ found. unwrap_or found (slice_index (image_of s.disks drive) number)) (put_elsewhere s.patches (word_at parts.Core i) (word_at (parts.Drive drive) number) word refl))

pub drives_stay : (s : SetupData) (i word : ℕ) → drives_words (patched s (word_at parts.Core i) word) ≡ drives_words s
unfolding drives_words
drives_stay s i word = same_lists (disk_words s) (disk_words (patched s (word_at parts.Core i) word)) (range_with_len 0 s.drives) (disk_stays s i word)

pub core_reverted : (s : SetupData) (i : ℕ) → i < core_size s → patch_of (taken s.patches (word_at parts.Core i)) (word_at parts.Core i) ≡ None
    → core_words (unpatched s (word_at parts.Core i)) ≡ slice_set (core_words s) i (slice_index s.core i)
unfolding core_words
core_reverted s i inside none =
    one_changed (first_core_word s) (first_core_word (unpatched s (word_at parts.Core i))) (core_size s) i (slice_index s.core i) inside
    (ap (λ found. unwrap_or found (slice_index s.core i)) none)
    (λ number other. ap (λ found. unwrap_or found (slice_index s.core number)) (taken_elsewhere s.patches (word_at parts.Core i) (word_at parts.Core number) other))

disk_stays_reverted : (s : SetupData) (i drive : ℕ) → disk_words (unpatched s (word_at parts.Core i)) drive ≡ disk_words s drive
unfolding disk_words
disk_stays_reverted s i drive =
    none_changed (first_disk_word s drive) (first_disk_word (unpatched s (word_at parts.Core i)) drive) drive_words
    (λ number. ap (λ found. unwrap_or found (slice_index (image_of s.disks drive) number)) (taken_elsewhere s.patches (word_at parts.Core i) (word_at (parts.Drive drive) number) refl))

pub drives_stay_reverted : (s : SetupData) (i : ℕ) → drives_words (unpatched s (word_at parts.Core i)) ≡ drives_words s
unfolding drives_words
drives_stay_reverted s i = same_lists (disk_words s) (disk_words (unpatched s (word_at parts.Core i))) (range_with_len 0 s.drives) (disk_stays_reverted s i)
