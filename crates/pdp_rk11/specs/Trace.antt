-- The words that a completion of the RK11 touches, in their order. No rule of the handbook is here.
use Rattle.std.specs.Prelude.{ℕ, ◌≡◌, ◌<◌, zero, suc, ◌+◌, true, false, List, [], ◌∷◌, ◌++◌, Option}
use Rattle.std.specs.Prelude.{Some, None, length, map, if◌then◌else◌}
use Rattle.pdp_device.specs.Operation.{is_under_way}
use Rattle.pdp_store.specs.Parts.{AlikeWords, core_with, drives_with, words_in}
use Rattle.pdp_store.specs.Stamps.{stamps_after_trace}
use Rattle.pdp_store.specs.TracedAccess.{TracedAccess}
use Rattle.pdp_store.specs.declared.part.Part.{Part}
use Rattle.pdp_store.specs.declared.part.Part.TheVariants.{Core, Drive}
use Rattle.pdp_store.specs.declared.Stamp.{Stamp}
use Rattle.pdp_store.specs.declared.Agent.TheVariants.{Disk}
use Rattle.pdp_rk11.specs.Handbook.Completion.{DiskWorld, rk_completed, drive_of, refusal}
use Rattle.pdp_rk11.specs.Handbook.Completion.{transfer_of}
use Rattle.pdp_rk11.specs.Handbook.Geometry.{drive_in}
use Rattle.pdp_rk11.specs.Handbook.Transfer.{core_word, disk_word, rest_of_sector}
use Rattle.pdp_rk11.specs.declared.failure.Failure.{Failure}
use Rattle.pdp_rk11.specs.declared.function.Function.{Function}
use Rattle.pdp_rk11.specs.declared.function.Function.TheVariants.{Write, Read, WriteCheck}
use Rattle.pdp_rk11.specs.declared.function.Function.TheVariants.{ReadCheck}
use Rattle.pdp_rk11.specs.declared.transfer.Transfer.{Transfer}

-- the disk touches a word in this turn
abbrev pub read_by_disk : ℕ → Part → ℕ → TracedAccess
read_by_disk turn part word = record {
  turn = turn;
  agent = Disk;
  writes = false;
  part = part;
  word
      = word;
}

abbrev pub written_by_disk : ℕ → Part → ℕ → TracedAccess
written_by_disk turn part word = record {
  turn = turn;
  agent = Disk;
  writes = true;
  part = part;
  word = word;
}

-- move i of a transfer with a drive: a read or a write touches both words, a write check reads
-- both, a read check reads the drive's
abbrev pub move_touches : Function → Transfer → ℕ → ℕ → ℕ → List TracedAccess
move_touches Read t drive turn i =
    read_by_disk turn (Drive drive) (disk_word t i) ∷ written_by_disk turn Core (core_word t i) ∷ []
move_touches Write t drive turn i =
    read_by_disk turn Core (core_word t i) ∷ written_by_disk turn (Drive drive) (disk_word t i) ∷ []
move_touches WriteCheck t drive turn i =
    read_by_disk turn Core (core_word t i) ∷ read_by_disk turn (Drive drive) (disk_word t i) ∷ []
move_touches ReadCheck t drive turn i = read_by_disk turn (Drive drive) (disk_word t i) ∷ []
move_touches _ t drive turn i = []

-- the lists of 0, 1 and so on below a number, joined
abbrev pub joined_lists : {A : Type 0} → (ℕ → List A) → ℕ → List A
joined_lists f zero = []
joined_lists f (suc n) = joined_lists f n ++ f n

-- a write fills the rest of its last sector
abbrev pub fill_touches : Function → Transfer → ℕ → ℕ → List TracedAccess
fill_touches Write t drive turn =
    joined_lists (λ i. written_by_disk turn (Drive drive) (disk_word t t.count + i) ∷ [])
    (rest_of_sector t)
fill_touches _ t drive turn = []

abbrev pub transfer_touches : Function → Transfer → ℕ → ℕ → List TracedAccess
transfer_touches function t drive turn =
    joined_lists (move_touches function t drive turn) t.count ++ fill_touches function t drive turn

abbrev pub touches_unless_refused : Option Failure → ℕ → DiskWorld → List TracedAccess
touches_unless_refused (Some failure) turn w = []
touches_unless_refused None turn w =
    transfer_touches w.rk.function (transfer_of w.rk (length w.core) (length (drive_of w)))
    (drive_in w.rk.disk_address) turn

-- all accesses to words of core and of drives that a completion in this turn makes, in their order
unfoldable pub completion_touches : ℕ → DiskWorld → List TracedAccess
completion_touches turn w =
    if is_under_way w.rk.operation then touches_unless_refused (refusal w.rk
    (length w.drives)) turn w else []

-- the same world with other words in a part
abbrev pub disk_world_with_words : Part → List ℕ → DiskWorld → DiskWorld
disk_world_with_words part words w = record w {
  core = core_with part words w.core;
  drives = drives_with part words w.drives;
}

-- the same world with other last stamps of core
abbrev pub disk_world_with_stamps : DiskWorld → List (Option Stamp) → DiskWorld
disk_world_with_stamps w stamps = record w { stamps = stamps }

-- a touch by the disk in this turn; in core, of one of its first so many words
pub record IsOfCompletion (turn words : ℕ) (x : TracedAccess) : Type 0 where
  pub turn_is : x.turn ≡ turn
  pub by_disk : x.agent ≡ Disk
  pub in_core : x.part ≡ Core → x.word < words

-- core, its stamps and the drives keep their lengths
pub record SameSizes (v w : DiskWorld) : Type 0 where
  pub core : length w.core ≡ length v.core
  pub stamps : length w.stamps ≡ length v.stamps
  pub drives : map length w.drives ≡ map length v.drives

-- a completion, and one over other words in a page of a part: it ends in the same way on both, with
-- the same trace
pub record AlikeCompletions (part : Part) (page turn : ℕ) (w : DiskWorld)
    (words : List ℕ) : Type 0 where
  pub left : List ℕ
  pub is : rk_completed turn (disk_world_with_words part words w) ≡ disk_world_with_words part left
      (rk_completed turn w)
  pub alike : AlikeWords page (words_in part (rk_completed turn w).core
      (rk_completed turn w).drives) left
  pub trace : completion_touches turn (disk_world_with_words part words w)
      ≡ completion_touches turn w

-- a completion, and one over other last stamps of core: the writes of the trace leave their stamps
-- on these, the rest ends in the same way, and the trace is the same
pub record RestampedCompletion (turn : ℕ) (w : DiskWorld)
    (stamps : List (Option Stamp)) : Type 0 where
  pub is : rk_completed turn (disk_world_with_stamps w stamps) ≡ disk_world_with_stamps
      (rk_completed turn w) (stamps_after_trace (completion_touches turn w) stamps)
  pub trace : completion_touches turn (disk_world_with_stamps w stamps)
      ≡ completion_touches turn w

-- the last stamps of core have no part in a completion
abbrev pub StampsDisturbNoCompletion : Type 0
StampsDisturbNoCompletion =
    (turn : ℕ) (w : DiskWorld) (stamps : List (Option Stamp)) → RestampedCompletion turn w stamps
