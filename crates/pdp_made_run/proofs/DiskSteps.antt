-- The completion of the disk: word by word.
use Rattle.std.proofs.Common.{◌≡◌, ◌∙◌, ℕ, zero, suc, ◌+◌, ◌-◌, ◌==◌, ◌&&◌, inl, inr, Bool, true, false, List, [], ◌∷◌, Option, Some, None, refl, ap, sym, subst, length, get_or, slice_index, slice_set, nat_le, nat_lt, if◌then◌else◌, length-set, get_or-set_same, get_or-set_other}
use Rattle.std.proofs.lemmas.Bool.{cases_lt, eqb-true, eqb-false}
use Rattle.std.proofs.lemmas.List.{get_or_past}
use Rattle.pdp_device.specs.Operation.{is_under_way}
use Rattle.pdp_store.specs.Parts.{words_of_drive}
use Rattle.pdp_store.specs.declared.Stamp.{Stamp}
use Rattle.pdp_rk11.specs.Handbook.Completion.{DiskWorld, disk_world, drive_of, lists_after, refusal, rk_completed, rk_transferred, run_function, run_unless_refused, transfer_of, world_finished}
use Rattle.pdp_rk11.specs.Handbook.Geometry.{drive_in}
use Rattle.pdp_rk11.specs.Handbook.Transfer.{core_word, disk_word, disk_written, moved_to_disk, rest_of_sector}
use Rattle.pdp_rk11.specs.Laws.{transfer_in}
use Rattle.pdp_rk11.specs.Moves.{item_after, moved_items, moved_to_one}
use Rattle.pdp_rk11.specs.declared.failure.Failure.{Failure}
use Rattle.pdp_rk11.specs.declared.function.Function.{Function}
use Rattle.pdp_rk11.specs.declared.function.Function.TheVariants.{ControlReset, Write, Read, WriteCheck, Seek, ReadCheck, DriveReset, WriteLock}
use Rattle.pdp_rk11.specs.declared.rk.Rk.{Rk}
use Rattle.pdp_rk11.specs.declared.transfer.Transfer.{Transfer}
use Rattle.pdp_rk11.proofs.Moves.{get_or-moved, length-moved}
use Rattle.pdp_made.specs.Cells.{Half, byte_in, Data, DataCell, CoreByte, DriveByte, RegisterByte, CodeNow, Buffer, Keyboard, Printer, Reader, Punch, Switches, TapeByte, ValueByte, SourceByte, ResultByte, StatusByte, CodeDue, CodeSaved, EachSame, Same}
use Rattle.pdp_made.proofs.Registers.{set_tells}
use Rattle.pdp_made_run.specs.DiskRows.{drive_written, item_after_all, made_by_function, made_by_completion, made_unless_refused}

-- What moves leave, in two lists of one length
module _ (d e : Data) (half : Half) where
  by_test : (top : Bool) (new old : List DataCell) (a b x y : ℕ) → (EachSame d e new → byte_in half b ≡ byte_in half a)
      → (EachSame d e old → byte_in half y ≡ byte_in half x)
      → EachSame d e (if top then new else old) → byte_in half (if top then b else y) ≡ byte_in half (if top then a else x)
  by_test true new old a b x y moved stays all = moved all
  by_test false new old a b x y moved stays all = stays all

  moved_tells : (first n : ℕ) (one other : ℕ → ℕ) (cells : ℕ → List DataCell) (xs ys : List ℕ) (old : List DataCell) (k : ℕ) → length ys ≡ length xs
      → ((i : ℕ) → EachSame d e (cells i) → byte_in half (other i) ≡ byte_in half (one i))
      → (EachSame d e old → byte_in half (slice_index ys k) ≡ byte_in half (slice_index xs k))
      → EachSame d e (item_after first n cells k old)
      → byte_in half (slice_index (moved_items first n other ys) k) ≡ byte_in half (slice_index (moved_items first n one xs) k)
  moved_tells first n one other cells xs ys old k size moved stays all = elim (cases_lt k (length xs)) [
    | inl within ↦
        ap (byte_in half) (get_or-moved first n other ys k 0 (rw size within))
        ∙ by_test (nat_le first k && nat_lt k (first + n)) (cells (k - first)) old (one (k - first)) (other (k - first)) (slice_index xs k) (slice_index ys k) (moved (k - first)) stays all
        ∙ sym (ap (byte_in half) (get_or-moved first n one xs k 0 within))
    | inr past ↦
        ap (byte_in half) (get_or_past (moved_items first n other ys) k 0 (rw (length-moved first n other ys, size) past)
        ∙ sym (get_or_past (moved_items first n one xs) k 0 (rw (length-moved first n one xs) past)))
  ]

  last_tells : (item n : ℕ) (one other : ℕ → ℕ) (cells : ℕ → List DataCell) (xs ys : List ℕ) (old : List DataCell) (k : ℕ) → length ys ≡ length xs
      → ((i : ℕ) → EachSame d e (cells i) → byte_in half (other i) ≡ byte_in half (one i))
      → (EachSame d e old → byte_in half (slice_index ys k) ≡ byte_in half (slice_index xs k))
      → EachSame d e (item_after_all item n cells k old)
      → byte_in half (slice_index (moved_to_one item n other ys) k) ≡ byte_in half (slice_index (moved_to_one item n one xs) k)
  last_tells item zero one other cells xs ys old k size moved stays all = stays all
  last_tells item (suc n) one other cells xs ys old k size moved stays all =
      set_tells d e half (cells n) old xs ys item k (one n) (other n) (k == item) refl size (moved n) stays all

  -- a read, to one word of core or to many
  read_tells : (single : Bool) (start n : ℕ) (one other : ℕ → ℕ) (cells : ℕ → List DataCell) (xs ys : List ℕ) (old : List DataCell) (k : ℕ) → length ys ≡ length xs
      → ((i : ℕ) → EachSame d e (cells i) → byte_in half (other i) ≡ byte_in half (one i))
      → (EachSame d e old → byte_in half (slice_index ys k) ≡ byte_in half (slice_index xs k))
      → EachSame d e (if single then item_after_all start n cells k old else item_after start n cells k old)
      → byte_in half (slice_index (if single then moved_to_one start n other ys else moved_items start n other ys) k)
      ≡ byte_in half (slice_index (if single then moved_to_one start n one xs else moved_items start n one xs) k)
  read_tells true start n one other cells xs ys old k size moved stays all = last_tells start n one other cells xs ys old k size moved stays all
  read_tells false start n one other cells xs ys old k size moved stays all = moved_tells start n one other cells xs ys old k size moved stays all

-- data with the lists that the controller leaves
abbrev pub left_by : DiskWorld → Data → Data
left_by w d = record d { bus = record d.bus { core = w.core; drives = w.drives } }

-- a function that nothing forbids leaves the lists of its transfer
lists_done : (f : Function) (turn : ℕ) (w : DiskWorld) (d : Data) → w.rk.function ≡ f
    → left_by (world_finished (run_function f turn w)) d ≡ left_by (lists_after w.rk.function (transfer_in w) turn w) d
unfolding rk_transferred
lists_done ControlReset turn w d is = rw is refl
lists_done Write turn w d is = refl
lists_done Read turn w d is = refl
lists_done WriteCheck turn w d is = refl
lists_done Seek turn w d is = rw is refl
lists_done ReadCheck turn w d is = refl
lists_done DriveReset turn w d is = rw is refl
lists_done WriteLock turn w d is = rw is refl

module _ (d e : Data) (rk : Rk) (stamps : List (Option Stamp)) (turn : ℕ)
    (core_size : length d.bus.core ≡ length e.bus.core) (drives_count : length d.bus.drives ≡ length e.bus.drives)
    (drive_sizes : (n : ℕ) → length (words_of_drive d.bus.drives n) ≡ length (words_of_drive e.bus.drives n)) where
  abbrev here : DiskWorld
  here = disk_world rk e.bus.core stamps e.bus.drives

  abbrev there : DiskWorld
  there = disk_world rk d.bus.core stamps d.bus.drives

  abbrev number : ℕ
  number = drive_in rk.disk_address

  abbrev CompletionTells : (DataCell → List DataCell) → DiskWorld → DiskWorld → Type 0
  CompletionTells made x w = (c : DataCell) → EachSame d e (made c) → Same (left_by x d) (left_by w e) c

  -- a word of a drive
  written_tells : (t : Transfer) (k : ℕ) (half : Half) → EachSame d e (drive_written t number k half)
      → byte_in half (slice_index (disk_written t d.bus.core (drive_of there)) k) ≡ byte_in half (slice_index (disk_written t e.bus.core (drive_of here)) k)
  written_tells t k half all =
      moved_tells d e half (disk_word t t.count) (rest_of_sector t) (λ i. 0) (λ i. 0) (λ i. []) (moved_to_disk t e.bus.core (drive_of here)) (moved_to_disk t d.bus.core (drive_of there))
      (item_after t.disk_start t.count (λ i. CoreByte (core_word t i) half ∷ []) k (DriveByte number k half ∷ [])) k
      (length-moved t.disk_start t.count (λ i. slice_index d.bus.core (core_word t i)) (drive_of there) ∙ drive_sizes number ∙ sym (length-moved t.disk_start t.count (λ i. slice_index e.bus.core (core_word t i)) (drive_of here)))
      (λ i none. refl)
      (λ moved. moved_tells d e half t.disk_start t.count (λ i. slice_index e.bus.core (core_word t i)) (λ i. slice_index d.bus.core (core_word t i)) (λ i. CoreByte (core_word t i) half ∷ [])
      (drive_of here) (drive_of there) (DriveByte number k half ∷ []) k (drive_sizes number) (λ i same. same.0) (λ same. same.0) moved)
      all

  own_drive : (t : Transfer) (k : ℕ) (half : Half) → EachSame d e (drive_written t number k half)
      → byte_in half (slice_index (get_or (slice_set d.bus.drives number (disk_written t d.bus.core (drive_of there))) number []) k)
      ≡ byte_in half (slice_index (get_or (slice_set e.bus.drives number (disk_written t e.bus.core (drive_of here))) number []) k)
  own_drive t k half all = elim (cases_lt number (length e.bus.drives)) [
    | inl within ↦
        ap (λ words. byte_in half (slice_index words k)) (get_or-set_same d.bus.drives number (disk_written t d.bus.core (drive_of there)) [] (rw drives_count within))
        ∙ written_tells t k half all
        ∙ sym (ap (λ words. byte_in half (slice_index words k)) (get_or-set_same e.bus.drives number (disk_written t e.bus.core (drive_of here)) [] within))
    | inr past ↦
        ap (λ words. byte_in half (slice_index words k)) (
        get_or_past (slice_set d.bus.drives number (disk_written t d.bus.core (drive_of there))) number [] (rw (length-set d.bus.drives number (disk_written t d.bus.core (drive_of there)), drives_count) past)
        ∙ sym (get_or_past (slice_set e.bus.drives number (disk_written t e.bus.core (drive_of here))) number [] (rw (length-set e.bus.drives number (disk_written t e.bus.core (drive_of here))) past)))
  ]

  by_drive : (t : Transfer) (n k : ℕ) (half : Half) (own : Bool) → (n == number) ≡ own
      → EachSame d e (if own then drive_written t number k half else DriveByte n k half ∷ [])
      → byte_in half (slice_index (get_or (slice_set d.bus.drives number (disk_written t d.bus.core (drive_of there))) n []) k)
      ≡ byte_in half (slice_index (get_or (slice_set e.bus.drives number (disk_written t e.bus.core (drive_of here))) n []) k)
  by_drive t n k half true is all = rw (eqb-true n number is) (own_drive t k half all)
  by_drive t n k half false is all =
      ap (λ words. byte_in half (slice_index words k)) (get_or-set_other d.bus.drives number n (disk_written t d.bus.core (drive_of there)) [] (eqb-false n number is))
      ∙ all.0
      ∙ sym (ap (λ words. byte_in half (slice_index words k)) (get_or-set_other e.bus.drives number n (disk_written t e.bus.core (drive_of here)) [] (eqb-false n number is)))

  read_lists : (t : Transfer) → CompletionTells (made_by_function Read t number) (lists_after Read t turn there) (lists_after Read t turn here)
  read_lists t (CoreByte k half) all =
      read_tells d e half t.no_increment t.core_start t.count (λ i. slice_index (drive_of here) (disk_word t i)) (λ i. slice_index (drive_of there) (disk_word t i))
      (λ i. DriveByte number (disk_word t i) half ∷ []) e.bus.core d.bus.core (CoreByte k half ∷ []) k core_size (λ i same. same.0) (λ same. same.0) all
  read_lists t (DriveByte n k half) all = all.0
  read_lists t (RegisterByte n half) all = all.0
  read_lists t (CodeNow code) all = all.0
  read_lists t (Buffer Keyboard) all = all.0
  read_lists t (Buffer Printer) all = all.0
  read_lists t (Buffer Reader) all = all.0
  read_lists t (Buffer Punch) all = all.0
  read_lists t (Buffer Switches) all = all.0
  read_lists t (TapeByte k) all = all.0
  read_lists t (ValueByte half) all = all.0
  read_lists t (SourceByte half) all = all.0
  read_lists t (ResultByte half) all = all.0
  read_lists t (StatusByte half) all = all.0
  read_lists t (CodeDue code) all = all.0
  read_lists t (CodeSaved code) all = all.0

  write_lists : (t : Transfer) → CompletionTells (made_by_function Write t number) (lists_after Write t turn there) (lists_after Write t turn here)
  write_lists t (DriveByte n k half) all = by_drive t n k half (n == number) refl all
  write_lists t (CoreByte k half) all = all.0
  write_lists t (RegisterByte n half) all = all.0
  write_lists t (CodeNow code) all = all.0
  write_lists t (Buffer Keyboard) all = all.0
  write_lists t (Buffer Printer) all = all.0
  write_lists t (Buffer Reader) all = all.0
  write_lists t (Buffer Punch) all = all.0
  write_lists t (Buffer Switches) all = all.0
  write_lists t (TapeByte k) all = all.0
  write_lists t (ValueByte half) all = all.0
  write_lists t (SourceByte half) all = all.0
  write_lists t (ResultByte half) all = all.0
  write_lists t (StatusByte half) all = all.0
  write_lists t (CodeDue code) all = all.0
  write_lists t (CodeSaved code) all = all.0

  lists_tell : (f : Function) (t : Transfer) → CompletionTells (made_by_function f t number) (lists_after f t turn there) (lists_after f t turn here)
  lists_tell Read t = read_lists t
  lists_tell Write t = write_lists t
  lists_tell ControlReset t = λ c all. all.0
  lists_tell WriteCheck t = λ c all. all.0
  lists_tell Seek t = λ c all. all.0
  lists_tell ReadCheck t = λ c all. all.0
  lists_tell DriveReset t = λ c all. all.0
  lists_tell WriteLock t = λ c all. all.0

  same_transfer : transfer_in there ≡ transfer_in here
  same_transfer = ap (λ size. transfer_of rk size (length (drive_of there))) core_size ∙ ap (λ size. transfer_of rk (length e.bus.core) size) (drive_sizes number)

  unless_tells : (refused : Option Failure) → CompletionTells (made_unless_refused refused here) (world_finished (run_unless_refused refused turn there)) (world_finished (run_unless_refused refused turn here))
  unless_tells (Some failure) c all = all.0
  unless_tells None c all =
      subst (λ u. Same u (left_by (world_finished (run_function rk.function turn here)) e) c) (sym (lists_done rk.function turn there d refl))
      (subst (λ u. Same (left_by (lists_after rk.function (transfer_in there) turn there) d) u c) (sym (lists_done rk.function turn here e refl))
      (subst (λ t. Same (left_by (lists_after rk.function t turn there) d) (left_by (lists_after rk.function (transfer_in here) turn here) e) c) (sym same_transfer)
      (lists_tell rk.function (transfer_in here) c all)))

  by_state : (under_way : Bool) (c : DataCell) → EachSame d e (if under_way then made_unless_refused (refusal rk (length e.bus.drives)) here c else c ∷ [])
      → Same (left_by (if under_way then world_finished (run_unless_refused (refusal rk (length d.bus.drives)) turn there) else there) d)
      (left_by (if under_way then world_finished (run_unless_refused (refusal rk (length e.bus.drives)) turn here) else here) e) c
  by_state true c all =
      subst (λ refused. Same (left_by (world_finished (run_unless_refused refused turn there)) d) (left_by (world_finished (run_unless_refused (refusal rk (length e.bus.drives)) turn here)) e) c)
      (sym (ap (refusal rk) drives_count)) (unless_tells (refusal rk (length e.bus.drives)) c all)
  by_state false c all = all.0

  pub completion_tells : CompletionTells (made_by_completion here) (rk_completed turn there) (rk_completed turn here)
  unfolding rk_completed
  completion_tells c all = by_state (is_under_way rk.operation) c all
