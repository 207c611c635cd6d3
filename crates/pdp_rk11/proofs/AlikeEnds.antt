-- The lists after a transfer over two worlds that differ at most in one page: they differ there alone.
use Rattle.std.proofs.Common.{◌≡◌, ◌≢◌, ℕ, ◌/◌, ◌<◌, ◌&&◌, Bool, List, [], ◌==◌, not, refl, sym, ◌∙◌, ap, length, slice_index, slice_index_or, slice_set, get_or-set_same, get_or-set_other}
use Rattle.std.proofs.lemmas.List.{set-set, set_comm}
use Rattle.pdp_store.specs.Parts.{AlikeWords, core_with, drives_with, words_in}
use Rattle.pdp_store.specs.TracedAccess.{Avoids}
use Rattle.pdp_store.specs.declared.part.Part.{Part}
use Rattle.pdp_store.specs.declared.part.Part.TheVariants.{Core, Drive}
use Rattle.pdp_store.proofs.Traces.{Avoids-first}
use Rattle.pdp_rk11.specs.Handbook.Completion.{DiskWorld, drive_of, is_write_check, lists_after}
use Rattle.pdp_rk11.specs.Handbook.Geometry.{drive_in}
use Rattle.pdp_rk11.specs.Moves.{moved_items}
use Rattle.pdp_rk11.specs.Trace.{fill_touches, joined_lists, move_touches, transfer_touches, disk_world_with_words}
use Rattle.pdp_rk11.specs.Handbook.Transfer.{core_after_read, core_word, disk_word, disk_written, is_different, moved_to_disk, rest_of_sector}
use Rattle.pdp_rk11.specs.declared.function.Function.{Function}
use Rattle.pdp_rk11.specs.declared.function.Function.TheVariants.{Write, Read, WriteCheck}
use Rattle.pdp_rk11.specs.declared.transfer.Transfer.{Transfer}
use Rattle.pdp_rk11.proofs.AlikeMoves.{alike_moved, alike_to_core, any_same, moved_same, read_alike, to_core_same}

-- what is left in the part of the second world; all else is as in the first
pub record AlikeEnds (part : Part) (page : ℕ) (v w : DiskWorld) : Type 0 where
  pub left : List ℕ
  pub core : w.core ≡ core_with part left v.core
  pub stamps : w.stamps ≡ v.stamps
  pub drives : w.drives ≡ drives_with part left v.drives
  pub alike : AlikeWords page (words_in part v.core v.drives) left

-- whether a write check of the transfer differs
abbrev pub differs : Function → Transfer → List ℕ → List ℕ → Bool
differs f t core disk = is_write_check f && is_different t core disk

-- another core
module _ (page turn drive : ℕ) (t : Transfer) (core words : List ℕ) (alike : AlikeWords page core words) where
  core_looks_alike : (f : Function) → Avoids Core page (transfer_touches f t drive turn)
      → ((i : ℕ) → Avoids Core page (move_touches f t drive turn i) → core_word t i / 256 ≢ page) → (i : ℕ) → i < t.count
      → slice_index words (core_word t i) ≡ slice_index core (core_word t i)
  core_looks_alike f avoids outside =
      read_alike Core page (move_touches f t drive turn) t.count (core_word t) core words alike
      (Avoids-first Core page (joined_lists (move_touches f t drive turn) t.count) (fill_touches f t drive turn) avoids) outside

  written_alike_core : (disk : List ℕ) → Avoids Core page (transfer_touches Write t drive turn)
      → disk_written t words disk ≡ disk_written t core disk
  written_alike_core disk avoids =
      ap (λ xs. moved_items (disk_word t t.count) (rest_of_sector t) (λ i. 0) xs)
      (moved_same t.disk_start t.count (λ i. slice_index core (core_word t i)) (λ i. slice_index words (core_word t i)) disk
      (core_looks_alike Write avoids (λ i free. free.0 refl)))

  pub differs_alike_core : (f : Function) (disk : List ℕ) → Avoids Core page (transfer_touches f t drive turn)
      → differs f t words disk ≡ differs f t core disk
  differs_alike_core WriteCheck disk avoids =
      let looks = core_looks_alike WriteCheck avoids (λ i free. free.0 refl) in
      any_same t.count (λ i. not (slice_index core (core_word t i) == slice_index disk (disk_word t i)))
      (λ i. not (slice_index words (core_word t i) == slice_index disk (disk_word t i)))
      (λ i below. ap (λ x. not (x == slice_index disk (disk_word t i))) (looks i below))
  differs_alike_core _ disk avoids = refl

-- another content of the transfer's drive
module _ (page turn drive : ℕ) (t : Transfer) (disk words : List ℕ) (alike : AlikeWords page disk words) where
  disk_looks_alike : (f : Function) → Avoids (Drive drive) page (transfer_touches f t drive turn)
      → ((i : ℕ) → Avoids (Drive drive) page (move_touches f t drive turn i) → disk_word t i / 256 ≢ page) → (i : ℕ) → i < t.count
      → slice_index words (disk_word t i) ≡ slice_index disk (disk_word t i)
  disk_looks_alike f avoids outside =
      read_alike (Drive drive) page (move_touches f t drive turn) t.count (disk_word t) disk words alike
      (Avoids-first (Drive drive) page (joined_lists (move_touches f t drive turn) t.count) (fill_touches f t drive turn) avoids) outside

  read_alike_disk : (core : List ℕ) → Avoids (Drive drive) page (transfer_touches Read t drive turn)
      → core_after_read t words core ≡ core_after_read t disk core
  read_alike_disk core avoids =
      to_core_same t (λ i. slice_index disk (disk_word t i)) (λ i. slice_index words (disk_word t i)) core
      (disk_looks_alike Read avoids (λ i free. free.0 refl))

  written_alike_disk : (core : List ℕ) → AlikeWords page (disk_written t core disk) (disk_written t core words)
  written_alike_disk core =
      alike_moved page (disk_word t t.count) (rest_of_sector t) (λ i. 0) (moved_to_disk t core disk) (moved_to_disk t core words)
      (alike_moved page t.disk_start t.count (λ i. slice_index core (core_word t i)) disk words alike)

  pub differs_alike_disk : (f : Function) (core : List ℕ) → Avoids (Drive drive) page (transfer_touches f t drive turn)
      → differs f t core words ≡ differs f t core disk
  differs_alike_disk WriteCheck core avoids =
      let looks = disk_looks_alike WriteCheck avoids (λ i free. free.1.0 refl) in
      any_same t.count (λ i. not (slice_index core (core_word t i) == slice_index disk (disk_word t i)))
      (λ i. not (slice_index core (core_word t i) == slice_index words (disk_word t i)))
      (λ i below. ap (λ x. not (slice_index core (core_word t i) == x)) (looks i below))
  differs_alike_disk _ core avoids = refl

pub core_ends : (f : Function) (page turn : ℕ) (t : Transfer) (w : DiskWorld) (words : List ℕ) → AlikeWords page w.core words
    → Avoids Core page (transfer_touches f t (drive_in w.rk.disk_address) turn)
    → AlikeEnds Core page (lists_after f t turn w) (lists_after f t turn (disk_world_with_words Core words w))
core_ends Read page turn t w words alike avoids = record {
  left = core_after_read t (drive_of w) words;
  core = refl;
  stamps = refl;
  drives = refl;
  alike = alike_to_core page t (λ i. slice_index (drive_of w) (disk_word t i)) w.core words alike;
}
core_ends Write page turn t w words alike avoids = record {
  left = words;
  core = refl;
  stamps = refl;
  drives =
      ap (λ xs. slice_set w.drives (drive_in w.rk.disk_address) xs)
      (written_alike_core page turn (drive_in w.rk.disk_address) t w.core words alike (drive_of w) avoids);
  alike = alike;
}
core_ends _ page turn t w words alike avoids = record { left = words; core = refl; stamps = refl; drives = refl; alike = alike }

-- the drive's words if they have been exchanged
pub exchanged : (w : DiskWorld) (words : List ℕ) → drive_in w.rk.disk_address < length w.drives
    → drive_of (disk_world_with_words (Drive (drive_in w.rk.disk_address)) words w) ≡ words
exchanged w words there = get_or-set_same w.drives (drive_in w.rk.disk_address) words [] there

pub drive_ends : (f : Function) (page turn : ℕ) (t : Transfer) (w : DiskWorld) (words : List ℕ)
    → drive_in w.rk.disk_address < length w.drives → AlikeWords page (drive_of w) words
    → Avoids (Drive (drive_in w.rk.disk_address)) page (transfer_touches f t (drive_in w.rk.disk_address) turn)
    → AlikeEnds (Drive (drive_in w.rk.disk_address)) page (lists_after f t turn w)
    (lists_after f t turn (disk_world_with_words (Drive (drive_in w.rk.disk_address)) words w))
drive_ends Read page turn t w words there alike avoids = record {
  left = words;
  core =
      ap (λ xs. core_after_read t xs w.core) (exchanged w words there)
      ∙ read_alike_disk page turn (drive_in w.rk.disk_address) t (drive_of w) words alike w.core avoids;
  stamps = refl;
  drives = refl;
  alike = alike;
}
drive_ends Write page turn t w words there alike avoids = record {
  left = disk_written t w.core words;
  core = refl;
  stamps = refl;
  drives =
      ap (λ xs. slice_set (slice_set w.drives (drive_in w.rk.disk_address) words) (drive_in w.rk.disk_address) (disk_written t w.core xs))
      (exchanged w words there)
      ∙ set-set w.drives (drive_in w.rk.disk_address) words (disk_written t w.core words)
      ∙ sym (set-set w.drives (drive_in w.rk.disk_address) (disk_written t w.core (drive_of w)) (disk_written t w.core words));
  alike =
      rw (get_or-set_same w.drives (drive_in w.rk.disk_address) (disk_written t w.core (drive_of w)) [] there)
      (written_alike_disk page turn (drive_in w.rk.disk_address) t (drive_of w) words alike w.core);
}
drive_ends _ page turn t w words there alike avoids =
    record { left = words; core = refl; stamps = refl; drives = refl; alike = alike }

-- another drive's words, which the transfer does not see
pub other_unseen : (number : ℕ) (w : DiskWorld) (words : List ℕ) → drive_in w.rk.disk_address ≢ number
    → drive_of (disk_world_with_words (Drive number) words w) ≡ drive_of w
other_unseen number w words other = get_or-set_other w.drives number (drive_in w.rk.disk_address) words [] other

pub other_ends : (f : Function) (page turn number : ℕ) (t : Transfer) (w : DiskWorld) (words : List ℕ)
    → drive_in w.rk.disk_address ≢ number → AlikeWords page (slice_index_or w.drives number []) words
    → AlikeEnds (Drive number) page (lists_after f t turn w) (lists_after f t turn (disk_world_with_words (Drive number) words w))
other_ends Read page turn number t w words other alike = record {
  left = words;
  core = ap (λ xs. core_after_read t xs w.core) (other_unseen number w words other);
  stamps = refl;
  drives = refl;
  alike = alike;
}
other_ends Write page turn number t w words other alike = record {
  left = words;
  core = refl;
  stamps = refl;
  drives =
      ap (λ xs. slice_set (slice_set w.drives number words) (drive_in w.rk.disk_address) (disk_written t w.core xs))
      (other_unseen number w words other)
      ∙ set_comm w.drives number (drive_in w.rk.disk_address) words (disk_written t w.core (drive_of w)) (λ equal. other (sym equal));
  alike =
      rw (get_or-set_other w.drives (drive_in w.rk.disk_address) number (disk_written t w.core (drive_of w)) [] (λ equal. other (sym equal)))
      alike;
}
other_ends _ page turn number t w words other alike =
    record { left = words; core = refl; stamps = refl; drives = refl; alike = alike }
