-- An engine after its patches got back what they had of a word.
use Rattle.std.proofs.Common.{◌≡◌, ◌∙◌, ℕ, zero, suc, ◌<◌, ◌&&◌, true, false, [], ◌∷◌, Option, None, Some, ap, ap₂, refl, subst, sym, ⊎_elim, nat_eq}
use Rattle.std.specs.Prelude.{slice_index, slice_index_or, slice_set, unwrap_or}
use Rattle.std.specs.List.{insert, range_with_len}
use Rattle.std.specs.Option.{option_map}
use Rattle.std.proofs.lemmas.Bool.{cases_Bool, eq-eqb}
use Rattle.pdp_store.specs.Parts.{word_at}
use Rattle.pdp_store.specs.declared.part.Part.{Part}
use Rattle.pdp_store.specs.declared.part.Part.TheVariants as parts
use Rattle.pdp_store.specs.declared.part.WordAt.{WordAt}
use Rattle.pdp_replay.specs.Past.{Past}
use Rattle.pdp_replay.specs.Past.FirstWords.{AllThere, IsThere, PartHasWord, core_words, disk_words, drives_words, first_core_word, first_disk_word, image_word}
use Rattle.pdp_replay.specs.Past.PatchedWords.{Patches, is_same_word, patch_of}
use Rattle.pdp_replay.specs.Past.Restored.{patches_restored}
use Rattle.pdp_replay.specs.Past.Setup.{SetupData, core_size, drive_words, image_of}
use Rattle.pdp_replay.specs.Run.KeptRuns.{IsPatchedRun}
use Rattle.pdp_replay.specs.Run.States.{first_world}
use Rattle.pdp_replay.specs.Timeline.{IsEngine}
use Rattle.pdp_replay.specs.declared.run.kept_run.KeptRun.{KeptRun}
use Rattle.pdp_replay.proofs.past.EditedSetups.{engine_repatched, length_at, past_of, power_over, with_those_patches}
use Rattle.pdp_replay.proofs.past.FirstWords.{core_has_size, drive_by_number}
use Rattle.pdp_replay.proofs.past.Patches.{there_put, there_removed}
use Rattle.pdp_replay.proofs.past.PoweredWords.{changed_at, none_changed, one_changed, same_lists, taken, taken_elsewhere}
use Rattle.pdp_replay.proofs.run.PatchedStates.{PowersWith}

-- other patches, which are those of before for each word but one
abbrev SameElsewhere : WordAt → Patches → Patches → Type 0
SameElsewhere k ps qs = (q : WordAt) → is_same_word q k ≡ false → patch_of qs q ≡ patch_of ps q

put_elsewhere : (ps : Patches) (i : ℕ) (k q : WordAt) (word : ℕ) → is_same_word q k ≡ false → patch_of (insert ps i (k, word)) q ≡ patch_of ps q
put_elsewhere ps zero k q word other = rw other refl
put_elsewhere [] (suc i) k q word other = rw other refl
put_elsewhere (p ∷ ps) (suc i) k q word other =
    ⊎_elim (λ (yes : is_same_word q p.0 ≡ true). rw yes refl)
    (λ (no : is_same_word q p.0 ≡ false). rw no (put_elsewhere ps i k q word other))
    (cases_Bool (is_same_word q p.0))

restored_elsewhere : (k : WordAt) (was : Option (ℕ × ℕ)) (ps : Patches) → SameElsewhere k ps (patches_restored k was ps)
restored_elsewhere k None ps q other = taken_elsewhere ps k q other
restored_elsewhere k (Some p) ps q other = put_elsewhere (taken ps k) p.0 k q p.1 other ∙ taken_elsewhere ps k q other

-- the words as of power-up with such patches
abbrev repatched : Patches → SetupData → SetupData
repatched = with_those_patches

core_repatched : (s : SetupData) (qs : Patches) (i word : ℕ) → i < core_size s → SameElsewhere (word_at parts.Core i) s.patches qs
    → unwrap_or (patch_of qs (word_at parts.Core i)) (slice_index s.core i) ≡ word → core_words (repatched qs s) ≡ slice_set (core_words s) i word
unfolding core_words
core_repatched s qs i word inside same here =
    one_changed (first_core_word s) (first_core_word (repatched qs s)) (core_size s) i word inside here
    (λ number other. ap (λ found. unwrap_or found (slice_index s.core number)) (same (word_at parts.Core number) other))

core_beside : (s : SetupData) (qs : Patches) (drive i : ℕ) → SameElsewhere (word_at (parts.Drive drive) i) s.patches qs → core_words (repatched qs s) ≡ core_words s
unfolding core_words
core_beside s qs drive i same =
    none_changed (first_core_word s) (first_core_word (repatched qs s)) (core_size s)
    (λ number. ap (λ found. unwrap_or found (slice_index s.core number)) (same (word_at parts.Core number) refl))

disk_repatched : (s : SetupData) (qs : Patches) (drive i word : ℕ) → i < drive_words → SameElsewhere (word_at (parts.Drive drive) i) s.patches qs
    → unwrap_or (patch_of qs (word_at (parts.Drive drive) i)) (slice_index (image_of s.disks drive) i) ≡ word
    → disk_words (repatched qs s) drive ≡ slice_set (disk_words s drive) i word
unfolding disk_words
disk_repatched s qs drive i word inside same here =
    one_changed (first_disk_word s drive) (first_disk_word (repatched qs s) drive) drive_words i word inside here
    (λ number other. ap (λ found. unwrap_or found (slice_index (image_of s.disks drive) number))
    (same (word_at (parts.Drive drive) number) (ap₂ ◌&&◌ (eq-eqb drive drive refl) other)))

disk_beside : (s : SetupData) (qs : Patches) (drive other i : ℕ) → SameElsewhere (word_at (parts.Drive drive) i) s.patches qs → nat_eq other drive ≡ false
    → disk_words (repatched qs s) other ≡ disk_words s other
unfolding disk_words
disk_beside s qs drive other i same beside =
    none_changed (first_disk_word s other) (first_disk_word (repatched qs s) other) drive_words
    (λ number. ap (λ found. unwrap_or found (slice_index (image_of s.disks other) number))
    (same (word_at (parts.Drive other) number) (ap (λ is. is && nat_eq number i) beside)))

drives_repatched : (s : SetupData) (qs : Patches) (drive i word : ℕ) → drive < s.drives → i < drive_words → SameElsewhere (word_at (parts.Drive drive) i) s.patches qs
    → unwrap_or (patch_of qs (word_at (parts.Drive drive) i)) (slice_index (image_of s.disks drive) i) ≡ word
    → drives_words (repatched qs s) ≡ slice_set (drives_words s) drive (slice_set (slice_index_or (drives_words s) drive []) i word)
unfolding drives_words
drives_repatched s qs drive i word there inside same here =
    let before : slice_index_or (drives_words s) drive [] ≡ disk_words s drive = drive_by_number s drive there in
    changed_at [] (disk_words s) (disk_words (repatched qs s)) s.drives drive (slice_set (slice_index_or (drives_words s) drive []) i word) there
    (disk_repatched s qs drive i word inside same here ∙ ap (λ words. slice_set words i word) (sym before))
    (λ other beside. disk_beside s qs drive other i same beside)

disk_stays : (s : SetupData) (qs : Patches) (i drive : ℕ) → SameElsewhere (word_at parts.Core i) s.patches qs → disk_words (repatched qs s) drive ≡ disk_words s drive
unfolding disk_words
disk_stays s qs i drive same =
    none_changed (first_disk_word s drive) (first_disk_word (repatched qs s) drive) drive_words
    (λ number. ap (λ found. unwrap_or found (slice_index (image_of s.disks drive) number)) (same (word_at (parts.Drive drive) number) refl))

drives_stay : (s : SetupData) (qs : Patches) (i : ℕ) → SameElsewhere (word_at parts.Core i) s.patches qs → drives_words (repatched qs s) ≡ drives_words s
unfolding drives_words
drives_stay s qs i same = same_lists (disk_words s) (disk_words (repatched qs s)) (range_with_len 0 s.drives) (λ drive. disk_stays s qs i drive same)

-- so the setups differ in that word alone
powers_with_core : (s : SetupData) (qs : Patches) (i word : ℕ) → i < core_size s → SameElsewhere (word_at parts.Core i) s.patches qs
    → unwrap_or (patch_of qs (word_at parts.Core i)) (slice_index s.core i) ≡ word → PowersWith parts.Core i word s (repatched qs s)
unfolding first_world
powers_with_core s qs i word inside same here = record {
  is = ap₂ (power_over s) (core_repatched s qs i word inside same here) (drives_stay s qs i same);
  there = rw (core_has_size s) inside;
}

powers_with_disk : (s : SetupData) (qs : Patches) (drive i word : ℕ) → drive < s.drives → i < drive_words → SameElsewhere (word_at (parts.Drive drive) i) s.patches qs
    → unwrap_or (patch_of qs (word_at (parts.Drive drive) i)) (slice_index (image_of s.disks drive) i) ≡ word
    → PowersWith (parts.Drive drive) i word s (repatched qs s)
unfolding first_world
powers_with_disk s qs drive i word there inside same here = record {
  is = ap₂ (power_over s) (core_beside s qs drive i same) (drives_repatched s qs drive i word there inside same here);
  there = rw (length_at s drive there) inside;
}

powers_with : (s : SetupData) (qs : Patches) (part : Part) (i word : ℕ) → PartHasWord s part i → SameElsewhere (word_at part i) s.patches qs
    → unwrap_or (patch_of qs (word_at part i)) (image_word s.core s.disks part i) ≡ word → PowersWith part i word s (repatched qs s)
powers_with s qs parts.Core i word inside same here = powers_with_core s qs i word inside same here
powers_with s qs (parts.Drive drive) i word inside same here = powers_with_disk s qs drive i word inside.0 inside.1 same here

there_restored : (s : SetupData) (k : WordAt) (was : Option (ℕ × ℕ)) (ps : Patches) → IsThere s k → AllThere s ps → AllThere s (patches_restored k was ps)
there_restored s k None ps here there = there_removed s (is_same_word k) ps there
there_restored s k (Some p) ps here there = there_put s (taken ps k) p.0 k p.1 here (there_removed s (is_same_word k) ps there)

-- what was there is the value as of power-up
pub engine_restored : (p q : Past) (k : WordAt) (was : Option (ℕ × ℕ)) (word highest : ℕ) (before after : KeptRun) → IsEngine p highest before
    → q.setup ≡ with_those_patches (patches_restored k was p.setup.patches) p.setup → q.script ≡ p.script → IsThere p.setup k
    → patch_of (patches_restored k was p.setup.patches) k ≡ option_map (λ p. p.1) was
    → word ≡ unwrap_or (option_map (λ p. p.1) was) (image_word p.setup.core p.setup.disks k.part k.number)
    → IsPatchedRun k word before after → IsEngine q highest after
engine_restored p q k was word highest before after engine setup script inside found value done =
    let qs : Patches = patches_restored k was p.setup.patches in
    let here : unwrap_or (patch_of qs k) (image_word p.setup.core p.setup.disks k.part k.number) ≡ word =
    ap (λ patch. unwrap_or patch (image_word p.setup.core p.setup.disks k.part k.number)) found ∙ sym value in
    subst (λ (x : Past). IsEngine x highest after) (sym (ap₂ past_of setup script))
    (engine_repatched p qs k word highest before after engine (there_restored p.setup k was p.setup.patches inside engine.there) inside
    (powers_with p.setup qs k.part k.number word inside (restored_elsewhere k was p.setup.patches) here) done)
