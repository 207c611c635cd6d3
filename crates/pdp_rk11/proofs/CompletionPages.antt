-- The words of a page that a completion touches nowhere stay.
use Rattle.std.proofs.Common.{◌≡◌, ◌≢◌, ℕ, zero, suc, ◌+◌, ◌/◌, List, [], ◌∷◌, refl, sym, subst, ◌∙◌, ap, inl, inr, length, slice_index, slice_index_or, slice_set, get_or-set_same, get_or-set_other}
use Rattle.std.proofs.lemmas.Bool.{cases_eq, cases_lt}
use Rattle.std.proofs.lemmas.List.{set_past}
use Rattle.pdp_store.specs.Parts.{SameWords, words_in}
use Rattle.pdp_store.specs.TracedAccess.{Avoids, TracedAccess}
use Rattle.pdp_store.specs.declared.part.Part.{Part}
use Rattle.pdp_store.specs.declared.part.Part.TheVariants.{Core, Drive}
use Rattle.pdp_store.proofs.Traces.{Avoids-first, Avoids-second}
use Rattle.pdp_rk11.specs.Handbook.Completion.{DiskWorld, rk_completed, drive_of, lists_after}
use Rattle.pdp_rk11.specs.Handbook.Geometry.{drive_in}
use Rattle.pdp_rk11.specs.Moves.{moved_items}
use Rattle.pdp_rk11.specs.Trace.{completion_touches, fill_touches, joined_lists, move_touches, transfer_touches, written_by_disk}
use Rattle.pdp_rk11.specs.Handbook.Transfer.{core_word, disk_word, disk_written, moved_to_core, moved_to_disk, rest_of_sector}
use Rattle.pdp_rk11.specs.declared.function.Function.{Function}
use Rattle.pdp_rk11.specs.declared.function.Function.TheVariants.{Write, Read}
use Rattle.pdp_rk11.specs.declared.transfer.Transfer.{Transfer}
use Rattle.pdp_rk11.proofs.Done.{Done, Quiet, Moved, done, transfer_in}
use Rattle.pdp_rk11.proofs.Fronts.{front, moved_one_more, no_move, one_more_move}
use Rattle.pdp_rk11.proofs.Moves.{moved_none}

-- a word outside of the page may be set
pub set_elsewhere : (page : ℕ) (xs : List ℕ) (word value : ℕ) → word / 256 ≢ page → SameWords page xs (slice_set xs word value)
set_elsewhere page xs word value elsewhere k inside =
    sym (get_or-set_other xs word k value 0 (λ equal. elsewhere (rw (← equal) inside)))

pub same_then : (page : ℕ) (xs ys zs : List ℕ) → SameWords page xs ys → SameWords page ys zs → SameWords page xs zs
same_then page xs ys zs so also k inside = so k inside ∙ also k inside

module _ (page turn drive : ℕ) where
  -- a read, move by move
  read_leaves : (t : Transfer) (value : ℕ → ℕ) (core : List ℕ) (n : ℕ) → Avoids Core page (joined_lists (move_touches Read t drive turn) n)
      → SameWords page core (moved_to_core (front t n) value core)
  read_leaves t value core zero avoids k inside = ap (λ xs. slice_index xs k) (sym (no_move t value core))
  read_leaves t value core (suc n) avoids k inside =
      let before = Avoids-first Core page (joined_lists (move_touches Read t drive turn) n) (move_touches Read t drive turn n) avoids in
      let last = Avoids-second Core page (joined_lists (move_touches Read t drive turn) n) (move_touches Read t drive turn n) avoids in
      read_leaves t value core n before k inside
      ∙ set_elsewhere page (moved_to_core (front t n) value core) (core_word t n) (value n) (last.1.0 refl) k inside
      ∙ ap (λ xs. slice_index xs k) (sym (one_more_move t n value core))

  -- a write, move by move
  write_leaves : (t : Transfer) (value : ℕ → ℕ) (disk : List ℕ) (n : ℕ)
      → Avoids (Drive drive) page (joined_lists (move_touches Write t drive turn) n) → SameWords page disk (moved_items t.disk_start n value disk)
  write_leaves t value disk zero avoids k inside = ap (λ xs. slice_index xs k) (sym (moved_none t.disk_start value disk))
  write_leaves t value disk (suc n) avoids k inside =
      let before = Avoids-first (Drive drive) page (joined_lists (move_touches Write t drive turn) n) (move_touches Write t drive turn n) avoids in
      let last = Avoids-second (Drive drive) page (joined_lists (move_touches Write t drive turn) n) (move_touches Write t drive turn n) avoids in
      write_leaves t value disk n before k inside
      ∙ set_elsewhere page (moved_items t.disk_start n value disk) (disk_word t n) (value n) (last.1.0 refl) k inside
      ∙ ap (λ xs. slice_index xs k) (sym (moved_one_more t.disk_start n value disk))

  -- the fill of a sector, word by word
  fill_leaves : (first : ℕ) (value : ℕ → ℕ) (disk : List ℕ) (n : ℕ)
      → Avoids (Drive drive) page (joined_lists (λ i. written_by_disk turn (Drive drive) (first + i) ∷ []) n)
      → SameWords page disk (moved_items first n value disk)
  fill_leaves first value disk zero avoids k inside = ap (λ xs. slice_index xs k) (sym (moved_none first value disk))
  fill_leaves first value disk (suc n) avoids k inside =
      let before = Avoids-first (Drive drive) page (joined_lists (λ i. written_by_disk turn (Drive drive) (first + i) ∷ []) n) _ avoids in
      let last = Avoids-second (Drive drive) page (joined_lists (λ i. written_by_disk turn (Drive drive) (first + i) ∷ []) n) _ avoids in
      fill_leaves first value disk n before k inside
      ∙ set_elsewhere page (moved_items first n value disk) (first + n) (value n) (last.0 refl) k inside
      ∙ ap (λ xs. slice_index xs k) (sym (moved_one_more first n value disk))

  drive_leaves : (t : Transfer) (core disk : List ℕ) → Avoids (Drive drive) page (transfer_touches Write t drive turn)
      → SameWords page disk (disk_written t core disk)
  drive_leaves t core disk avoids =
      let moves = Avoids-first (Drive drive) page (joined_lists (move_touches Write t drive turn) t.count) (fill_touches Write t drive turn) avoids in
      let fill = Avoids-second (Drive drive) page (joined_lists (move_touches Write t drive turn) t.count) (fill_touches Write t drive turn) avoids in
      same_then page disk (moved_to_disk t core disk) (disk_written t core disk) (write_leaves t _ disk t.count moves)
      (fill_leaves (disk_word t t.count) (λ i. 0) (moved_to_disk t core disk) (rest_of_sector t) fill)

-- of the drives only the one that is written changes
drives_leave : (page drive number : ℕ) (drives : List (List ℕ)) (words : List ℕ)
    → (number ≡ drive → SameWords page (slice_index_or drives drive []) words)
    → SameWords page (slice_index_or drives number []) (slice_index_or (slice_set drives drive words) number [])
drives_leave page drive number drives words same k inside = elim (cases_eq number drive) [
  | inl equal ↦ rw equal (elim (cases_lt drive (length drives)) [
    | inl there ↦ same equal k inside ∙ ap (λ xs. slice_index xs k) (sym (get_or-set_same drives drive words [] there))
    | inr past ↦ ap (λ ds. slice_index (slice_index_or ds drive []) k) (sym (set_past drives drive words past))
  ])
  | inr other ↦ ap (λ xs. slice_index xs k) (sym (get_or-set_other drives drive number words [] other))
]

page_by_function : (f : Function) (part : Part) (page : ℕ) (t : Transfer) (turn : ℕ) (w : DiskWorld)
    → Avoids part page (transfer_touches f t (drive_in w.rk.disk_address) turn)
    → SameWords page (words_in part w.core w.drives) (words_in part (lists_after f t turn w).core (lists_after f t turn w).drives)
page_by_function Read Core page t turn w avoids =
    read_leaves page turn (drive_in w.rk.disk_address) t _ w.core t.count
    (Avoids-first Core page (joined_lists (move_touches Read t (drive_in w.rk.disk_address) turn) t.count) [] avoids)
page_by_function Write (Drive number) page t turn w avoids =
    drives_leave page (drive_in w.rk.disk_address) number w.drives (disk_written t w.core (drive_of w)) (λ equal.
    drive_leaves page turn (drive_in w.rk.disk_address) t w.core (drive_of w)
    (subst (λ d. Avoids (Drive d) page (transfer_touches Write t (drive_in w.rk.disk_address) turn)) equal avoids))
page_by_function _ _ page t turn w avoids = λ k inside. refl

page_of : {turn : ℕ} {w v : DiskWorld} {xs : List TracedAccess} → Done turn w xs v → (part : Part) (page : ℕ) → Avoids part page xs
    → SameWords page (words_in part w.core w.drives) (words_in part v.core v.drives)
page_of (Quiet rk) part page avoids k inside = refl
page_of {turn} {w} (Moved rk) part page avoids k inside = page_by_function w.rk.function part page (transfer_in w) turn w avoids k inside

pub completion_keeps_page : (part : Part) (page turn : ℕ) (w : DiskWorld) → Avoids part page (completion_touches turn w)
    → SameWords page (words_in part w.core w.drives) (words_in part (rk_completed turn w).core (rk_completed turn w).drives)
completion_keeps_page part page turn w = page_of (done turn w) part page
