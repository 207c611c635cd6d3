-- What the laws of the RK11 say: each name is the law's sentence (PDP-11 Peripherals Handbook,
-- RK11; that a completion is one act, and the zero fill, are [P]).
use Rattle.std.specs.Prelude.{ℕ, ◌≡◌, ◌≢◌, ◌<◌, ◌+◌, ◌/◌, ◌↔◌, true, false, ◌||◌, List, None}
use Rattle.std.specs.Prelude.{length, slice_index}
use Rattle.pdp_word.specs.Bits.{field}
use Rattle.pdp_device.specs.Operation.{is_under_way}
use Rattle.pdp_store.specs.Parts.{words_of_drive}
use Rattle.pdp_rk11.specs.Handbook.Completion.{DiskWorld, rk_completed, core_word_of_bus_address}
use Rattle.pdp_rk11.specs.Handbook.Completion.{drive_of}
use Rattle.pdp_rk11.specs.Handbook.Completion.{is_read_check, is_write_check, refusal, transfer_of}
use Rattle.pdp_rk11.specs.Handbook.Completion.{words_asked}
use Rattle.pdp_rk11.specs.Handbook.Geometry.{drive_in, words_of_sector}
use Rattle.pdp_rk11.specs.Handbook.Rk.{rk_value}
use Rattle.pdp_rk11.specs.Handbook.Transfer.{core_word, disk_word}
use Rattle.pdp_rk11.specs.declared.function.Function.{Function}
use Rattle.pdp_rk11.specs.declared.function.Function.TheVariants.{Write, Read}
use Rattle.pdp_rk11.specs.declared.register.RkRegister.TheVariants.{Error, Control}
use Rattle.pdp_rk11.specs.declared.rk.Rk.{Rk}
use Rattle.pdp_rk11.specs.declared.transfer.Transfer.{Transfer}

-- this function is under way, and nothing forbids it
pub record CanBeDone (function : Function) (w : DiskWorld) : Type 0 where
  pub under_way : is_under_way w.rk.operation ≡ true
  pub function_is : w.rk.function ≡ function
  pub allowed : refusal w.rk (length w.drives) ≡ None

-- the words that it moves or compares
abbrev pub transfer_in : DiskWorld → Transfer
transfer_in w = transfer_of w.rk (length w.core) (length (drive_of w))

-- the words of the drive of this number
abbrev pub drive_numbered : ℕ → DiskWorld → List ℕ
drive_numbered number w = words_of_drive w.drives number

-- move i goes to this word of core, and no later one does
pub record IsLastMoveTo (t : Transfer) (word i : ℕ) : Type 0 where
  pub done : i < t.count
  pub there : core_word t i ≡ word
  pub last : (j : ℕ) → i < j → j < t.count → core_word t j ≢ word

-- a read: the word of core to which a move goes has the drive's word of the last such move, and
-- each to which none goes is as it was; so are the drives
pub record ReadLeaves (turn : ℕ) (w : DiskWorld) : Type 0 where
  pub moved_to : (word i : ℕ) → IsLastMoveTo (transfer_in w) word i
      → slice_index (rk_completed turn w).core word ≡ slice_index (drive_of w) (disk_word
      (transfer_in w) i)
  pub others : (word : ℕ) → ((i : ℕ) → i < (transfer_in w).count → core_word
      (transfer_in w) i ≢ word)
      → slice_index (rk_completed turn w).core word ≡ slice_index w.core word
  pub size : length (rk_completed turn w).core ≡ length w.core
  pub drives : (rk_completed turn w).drives ≡ w.drives

abbrev pub ReadsLeaveTheLastMove : Type 0
ReadsLeaveTheLastMove = (turn : ℕ) (w : DiskWorld) → CanBeDone Read w → ReadLeaves turn w

-- a write: the drive's words of the moves have core's words, those after them in the sector of the
-- last one are 0, and all other words of the drive are as they were; so are the other drives, and
-- core with its stamps
pub record WriteLeaves (turn : ℕ) (w : DiskWorld) : Type 0 where
  pub moved_to : (i : ℕ) → i < (transfer_in w).count
      → slice_index (drive_numbered (drive_in w.rk.disk_address) (rk_completed turn w)) (disk_word
      (transfer_in w) i)
      ≡ slice_index w.core (core_word (transfer_in w) i)
  pub filled : (last word : ℕ) → last + 1 ≡ (transfer_in w).count → disk_word (transfer_in w) last
      < word
      → word / words_of_sector ≡ disk_word (transfer_in w) last / words_of_sector
      → slice_index (drive_numbered (drive_in w.rk.disk_address) (rk_completed turn w)) word ≡ 0
  pub others : (word : ℕ)
      → ((i : ℕ) → i < (transfer_in w).count → word / words_of_sector ≢ disk_word
      (transfer_in w) i / words_of_sector)
      → slice_index (drive_numbered (drive_in w.rk.disk_address) (rk_completed turn w)) word
      ≡ slice_index (drive_of w) word
  pub size : length (drive_numbered (drive_in w.rk.disk_address) (rk_completed turn w)) ≡ length
      (drive_of w)
  pub other_drives : (number : ℕ) → number ≢ drive_in w.rk.disk_address
      → drive_numbered number (rk_completed turn w) ≡ drive_numbered number w
  pub core : (rk_completed turn w).core ≡ w.core
  pub stamps : (rk_completed turn w).stamps ≡ w.stamps

abbrev pub WritesFillWithZeros : Type 0
WritesFillWithZeros = (turn : ℕ) (w : DiskWorld) → CanBeDone Write w → WriteLeaves turn w

-- a function that ends with no error, over incremented bus addresses
pub record EndsWell (function : Function) (turn : ℕ) (w : DiskWorld) : Type 0 where
  pub can_be_done : CanBeDone function w
  pub increments : w.rk.no_increment ≡ false
  pub no_failure : (rk_completed turn w).rk.failure ≡ None

-- a write, and a read of as many words from the same disk address, of a drive that is as the write
-- left it
pub record ReadsBack (turn later : ℕ) (v w : DiskWorld) : Type 0 where
  pub written : EndsWell Write turn v
  pub read : EndsWell Read later w
  pub same_place : w.rk.disk_address ≡ v.rk.disk_address
  pub same_count : w.rk.word_count ≡ v.rk.word_count
  pub drive_stays : drive_of w ≡ drive_numbered (drive_in v.rk.disk_address) (rk_completed turn v)

-- then core has the words that were written where they were read to, wherever that is
abbrev pub WrittenWordsAreReadBack : Type 0
WrittenWordsAreReadBack = (turn later : ℕ) (v w : DiskWorld) → ReadsBack turn later v w → (i : ℕ)
    → i < words_asked v.rk
    → slice_index (rk_completed later w).core (core_word_of_bus_address w.rk.address + i)
    ≡ slice_index v.core (core_word_of_bus_address v.rk.address + i)

-- a completion leaves all words as they were, with the stamps of core's
pub record LeavesWords (turn : ℕ) (w : DiskWorld) : Type 0 where
  pub core : (rk_completed turn w).core ≡ w.core
  pub stamps : (rk_completed turn w).stamps ≡ w.stamps
  pub drives : (rk_completed turn w).drives ≡ w.drives

-- write check and read check, whether they can be done or not
abbrev pub ChecksChangeNoWord : Type 0
ChecksChangeNoWord = (turn : ℕ) (w : DiskWorld) → (is_write_check w.rk.function || is_read_check
    w.rk.function) ≡ true
    → LeavesWords turn w

-- ready, bit 7 of RKCS, is set by the completion of what is under way, however it ends
abbrev pub CompletionsSetReady : Type 0
CompletionsSetReady = (turn drives : ℕ) (w : DiskWorld) → is_under_way w.rk.operation ≡ true
    → field 7 1 (rk_value Control drives (rk_completed turn w).rk) ≡ 1

-- bit 15 of RKCS is set exactly if RKER isn't 0
abbrev pub ErrorsAreTold : Type 0
ErrorsAreTold = (drives : ℕ) (rk : Rk) → (field 15 1 (rk_value Control drives rk) ≡ 1) ↔
    (rk_value Error drives rk ≢ 0)

-- bit 14 of RKCS is set exactly if a bit of RKER other than bit 0 is
abbrev pub HardErrorsAreTold : Type 0
HardErrorsAreTold = (drives : ℕ) (rk : Rk) → (field 14 1 (rk_value Control drives rk) ≡ 1) ↔
    (rk_value Error drives rk / 2 ≢ 0)
