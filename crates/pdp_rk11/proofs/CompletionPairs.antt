-- Two completions over worlds that differ at most in one page, which neither touches, end alike.
use Rattle.std.proofs.Common.{◌≡◌, ◌≢◌, ◌⊎◌, ℕ, ◌<◌, ◌≤◌, Bool, true, false, List, [], Option, Some, None, refl, sym, subst, ◌∙◌, ap, inl, inr, length, slice_index, slice_index_or, length-set, if◌then◌else◌}
use Rattle.std.proofs.lemmas.Bool.{cases_eq, cases_lt}
use Rattle.std.proofs.lemmas.List.{get_or_past, set_past}
use Rattle.pdp_device.specs.Operation.{is_under_way}
use Rattle.pdp_store.specs.Parts.{AlikeWords, core_with, drives_with, words_in}
use Rattle.pdp_store.specs.TracedAccess.{Avoids, TracedAccess}
use Rattle.pdp_store.specs.declared.part.Part.{Part}
use Rattle.pdp_store.specs.declared.part.Part.TheVariants.{Core, Drive}
use Rattle.pdp_rk11.specs.Handbook.Completion.{DiskWorld, rk_completed, drive_of, rk_finished, world_finished, lists_after, run_unless_refused, refusal, registers_after, transfer_of, rk_transferred, with_rk, run_function}
use Rattle.pdp_rk11.specs.Handbook.Geometry.{drive_in}
use Rattle.pdp_rk11.specs.Trace.{AlikeCompletions, completion_touches, touches_unless_refused, transfer_touches, disk_world_with_words}
use Rattle.pdp_rk11.specs.declared.failure.Failure.{Failure}
use Rattle.pdp_rk11.specs.declared.function.Function.{Function}
use Rattle.pdp_rk11.specs.declared.function.Function.TheVariants.{ControlReset, Seek, DriveReset, WriteLock}
use Rattle.pdp_rk11.specs.declared.rk.Rk.{Rk}
use Rattle.pdp_rk11.specs.declared.transfer.Transfer.{Transfer}
use Rattle.pdp_rk11.proofs.AlikeEnds.{AlikeEnds, core_ends, differs, differs_alike_core, differs_alike_disk, drive_ends, exchanged, other_ends, other_unseen}
use Rattle.pdp_rk11.proofs.CompletionSizes.{drives_count}
use Rattle.pdp_rk11.proofs.Done.{transfer_in}

-- a trace and a world, and those of the second completion: the same trace, and other words in the part alone
record Alike (part : Part) (page : ℕ) (xs ys : List TracedAccess) (v w : DiskWorld) : Type 0 where
  left : List ℕ
  is : w ≡ disk_world_with_words part left v
  alike : AlikeWords page (words_in part v.core v.drives) left
  trace : ys ≡ xs

-- all that a completion sees of the second world is as in the first, and a transfer's lists end alike
record LooksAlike (part : Part) (page turn : ℕ) (w : DiskWorld) (words : List ℕ) : Type 0 where
  count : length (drives_with part words w.drives) ≡ length w.drives
  core : length (core_with part words w.core) ≡ length w.core
  drive : length (drive_of (disk_world_with_words part words w)) ≡ length (drive_of w)
  alike : AlikeWords page (words_in part w.core w.drives) words
  differ : (t : Transfer) → Avoids part page (transfer_touches w.rk.function t (drive_in w.rk.disk_address) turn)
      → differs w.rk.function t (core_with part words w.core) (drive_of (disk_world_with_words part words w))
      ≡ differs w.rk.function t w.core (drive_of w)
  ends : (t : Transfer) → Avoids part page (transfer_touches w.rk.function t (drive_in w.rk.disk_address) turn)
      → AlikeEnds part page (lists_after w.rk.function t turn w) (lists_after w.rk.function t turn (disk_world_with_words part words w))

-- the lists after a transfer, with the registers that go with them
abbrev ending : Transfer → ℕ → Bool → ℕ → DiskWorld → DiskWorld
ending t size different turn w =
    world_finished (with_rk (lists_after w.rk.function t turn w) (registers_after size t different w.rk))

-- the trace, and the world, of a completion with so many drives, if one is under way
abbrev touches_if : Bool → ℕ → ℕ → DiskWorld → List TracedAccess
touches_if under_way drives turn w = if under_way then touches_unless_refused (refusal w.rk drives) turn w else []

abbrev world_if : Bool → ℕ → ℕ → DiskWorld → DiskWorld
world_if under_way drives turn w = if under_way then world_finished (run_unless_refused (refusal w.rk drives) turn w) else w

module _ (part : Part) (page turn : ℕ) (w : DiskWorld) (words : List ℕ) (looks : LooksAlike part page turn w words) where
  same_transfer : transfer_in (disk_world_with_words part words w) ≡ transfer_in w
  same_transfer =
      ap (λ n. transfer_of w.rk n (length (drive_of (disk_world_with_words part words w)))) looks.core
      ∙ ap (λ n. transfer_of w.rk (length w.core) n) looks.drive

  same_trace : transfer_touches w.rk.function (transfer_in (disk_world_with_words part words w)) (drive_in w.rk.disk_address) turn
      ≡ transfer_touches w.rk.function (transfer_in w) (drive_in w.rk.disk_address) turn
  same_trace = ap (λ t. transfer_touches w.rk.function t (drive_in w.rk.disk_address) turn) same_transfer

  transfers_alike : Avoids part page (transfer_touches w.rk.function (transfer_in w) (drive_in w.rk.disk_address) turn)
      → Alike part page (transfer_touches w.rk.function (transfer_in w) (drive_in w.rk.disk_address) turn)
      (transfer_touches w.rk.function (transfer_in (disk_world_with_words part words w)) (drive_in w.rk.disk_address) turn)
      (world_finished (rk_transferred turn w)) (world_finished (rk_transferred turn (disk_world_with_words part words w)))
  unfolding rk_transferred
  transfers_alike avoids =
      let ends = looks.ends (transfer_in w) avoids in
      let second = disk_world_with_words part words w in
      let different = differs w.rk.function (transfer_in w) w.core (drive_of w) in
      let together : world_finished (rk_transferred turn second) ≡ ending (transfer_in w) (length (drive_of w)) different turn second =
      ap (λ t. ending t (length (drive_of second)) (differs w.rk.function t second.core (drive_of second)) turn second) same_transfer
      ∙ ap (λ n. ending (transfer_in w) n (differs w.rk.function (transfer_in w) second.core (drive_of second)) turn second) looks.drive
      ∙ ap (λ d. ending (transfer_in w) (length (drive_of w)) d turn second) (looks.differ (transfer_in w) avoids) in
      let apart : ending (transfer_in w) (length (drive_of w)) different turn second
      ≡ disk_world_with_words part ends.left (ending (transfer_in w) (length (drive_of w)) different turn w) =
      λ i. record {
        rk = rk_finished (registers_after (length (drive_of w)) (transfer_in w) different w.rk);
        core = ends.core i;
        stamps = ends.stamps i;
        drives = ends.drives i;
      } in
      record { left = ends.left; is = together ∙ apart; alike = ends.alike; trace = same_trace }

  -- a function that moves no word
  others_alike : (rk : Rk)
      → Alike part page (transfer_touches w.rk.function (transfer_in w) (drive_in w.rk.disk_address) turn)
      (transfer_touches w.rk.function (transfer_in (disk_world_with_words part words w)) (drive_in w.rk.disk_address) turn)
      (with_rk w rk) (with_rk (disk_world_with_words part words w) rk)
  others_alike rk = record { left = words; is = refl; alike = looks.alike; trace = same_trace }

  functions_alike : (f : Function) → Avoids part page (transfer_touches w.rk.function (transfer_in w) (drive_in w.rk.disk_address) turn)
      → Alike part page (transfer_touches w.rk.function (transfer_in w) (drive_in w.rk.disk_address) turn)
      (transfer_touches w.rk.function (transfer_in (disk_world_with_words part words w)) (drive_in w.rk.disk_address) turn)
      (world_finished (run_function f turn w)) (world_finished (run_function f turn (disk_world_with_words part words w)))
  functions_alike ControlReset avoids = others_alike _
  functions_alike Seek avoids = others_alike _
  functions_alike DriveReset avoids = others_alike _
  functions_alike WriteLock avoids = others_alike _
  functions_alike _ avoids = transfers_alike avoids

  performed_alike : (failure : Option Failure) → Avoids part page (touches_unless_refused failure turn w)
      → Alike part page (touches_unless_refused failure turn w) (touches_unless_refused failure turn (disk_world_with_words part words w))
      (world_finished (run_unless_refused failure turn w)) (world_finished (run_unless_refused failure turn (disk_world_with_words part words w)))
  performed_alike (Some failure) avoids = record { left = words; is = refl; alike = looks.alike; trace = refl }
  performed_alike None avoids = functions_alike w.rk.function avoids

  states_alike : (under_way : Bool) → Avoids part page (touches_if under_way (length w.drives) turn w)
      → Alike part page (touches_if under_way (length w.drives) turn w)
      (touches_if under_way (length (drives_with part words w.drives)) turn (disk_world_with_words part words w))
      (world_if under_way (length w.drives) turn w)
      (world_if under_way (length (drives_with part words w.drives)) turn (disk_world_with_words part words w))
  states_alike true avoids =
      subst (λ n.
      Alike part page (touches_unless_refused (refusal w.rk (length w.drives)) turn w)
      (touches_unless_refused (refusal w.rk n) turn (disk_world_with_words part words w))
      (world_finished (run_unless_refused (refusal w.rk (length w.drives)) turn w))
      (world_finished (run_unless_refused (refusal w.rk n) turn (disk_world_with_words part words w))))
      (sym looks.count) (performed_alike (refusal w.rk (length w.drives)) avoids)
  states_alike false avoids = record { left = words; is = refl; alike = looks.alike; trace = refl }

  alike_where_seen : Avoids part page (completion_touches turn w) → AlikeCompletions part page turn w words
  unfolding rk_completed completion_touches
  alike_where_seen avoids =
      let ends = states_alike (is_under_way w.rk.operation) avoids in
      record { left = ends.left; is = ends.is; alike = ends.alike; trace = ends.trace }

core_looks : (page turn : ℕ) (w : DiskWorld) (words : List ℕ) → AlikeWords page w.core words → LooksAlike Core page turn w words
core_looks page turn w words alike = record {
  count = refl;
  core = alike.size;
  drive = refl;
  alike = alike;
  differ = λ t avoids.
      differs_alike_core page turn (drive_in w.rk.disk_address) t w.core words alike w.rk.function (drive_of w) avoids;
  ends = λ t avoids. core_ends w.rk.function page turn t w words alike avoids;
}

drive_looks : (page turn : ℕ) (w : DiskWorld) (words : List ℕ) → drive_in w.rk.disk_address < length w.drives
    → AlikeWords page (drive_of w) words → LooksAlike (Drive (drive_in w.rk.disk_address)) page turn w words
drive_looks page turn w words there alike = record {
  count = length-set w.drives (drive_in w.rk.disk_address) words;
  core = refl;
  drive = ap (λ xs. length xs) (exchanged w words there) ∙ alike.size;
  alike = alike;
  differ = λ t avoids.
      ap (λ xs. differs w.rk.function t w.core xs) (exchanged w words there)
      ∙ differs_alike_disk page turn (drive_in w.rk.disk_address) t (drive_of w) words alike w.rk.function w.core avoids;
  ends = λ t avoids. drive_ends w.rk.function page turn t w words there alike avoids;
}

other_looks : (page turn number : ℕ) (w : DiskWorld) (words : List ℕ) → drive_in w.rk.disk_address ≢ number
    → AlikeWords page (slice_index_or w.drives number []) words → LooksAlike (Drive number) page turn w words
other_looks page turn number w words other alike = record {
  count = length-set w.drives number words;
  core = refl;
  drive = ap (λ xs. length xs) (other_unseen number w words other);
  alike = alike;
  differ = λ t avoids. ap (λ xs. differs w.rk.function t w.core xs) (other_unseen number w words other);
  ends = λ t avoids. other_ends w.rk.function page turn number t w words other alike;
}

-- a drive that isn't there has no words, and can be given none
none_there : (number : ℕ) (w : DiskWorld) (words : List ℕ) → length w.drives ≤ number → disk_world_with_words (Drive number) words w ≡ w
none_there number w words past = ap (λ drives. record w { drives = drives }) (set_past w.drives number words past)

alike_past : (page turn number : ℕ) (w : DiskWorld) (words : List ℕ) → length w.drives ≤ number
    → AlikeCompletions (Drive number) page turn w words
alike_past page turn number w words past =
    let still : length (rk_completed turn w).drives ≤ number = subst (λ n. n ≤ number) (sym (drives_count turn w)) past in
    record {
      left = [];
      is = ap (λ v. rk_completed turn v) (none_there number w words past) ∙ sym (none_there number (rk_completed turn w) [] still);
      alike = record {
        size = ap (λ xs. length xs) (sym (get_or_past (rk_completed turn w).drives number [] still));
        words = λ k outside. ap (λ xs. slice_index xs k) (sym (get_or_past (rk_completed turn w).drives number [] still));
      };
      trace = ap (λ v. completion_touches turn v) (none_there number w words past);
    }

alike_drive : (number page turn : ℕ) (w : DiskWorld) (words : List ℕ) → number < length w.drives ⊎ length w.drives ≤ number
    → drive_in w.rk.disk_address ≡ number ⊎ (drive_in w.rk.disk_address ≢ number) → AlikeWords page (slice_index_or w.drives number []) words
    → Avoids (Drive number) page (completion_touches turn w) → AlikeCompletions (Drive number) page turn w words
alike_drive number page turn w words (inr past) which alike avoids = alike_past page turn number w words past
alike_drive number page turn w words (inl there) (inr other) alike avoids =
    alike_where_seen (Drive number) page turn w words (other_looks page turn number w words other alike) avoids
alike_drive number page turn w words (inl there) (inl same) alike avoids =
    subst (λ d.
    d < length w.drives → AlikeWords page (slice_index_or w.drives d []) words → Avoids (Drive d) page (completion_touches turn w)
    → AlikeCompletions (Drive d) page turn w words) same
    (λ here also free.
    alike_where_seen (Drive (drive_in w.rk.disk_address)) page turn w words (drive_looks page turn w words here also) free)
    there alike avoids

pub completions_alike : (part : Part) (page turn : ℕ) (w : DiskWorld) (words : List ℕ)
    → AlikeWords page (words_in part w.core w.drives) words → Avoids part page (completion_touches turn w)
    → AlikeCompletions part page turn w words
completions_alike Core page turn w words alike avoids =
    alike_where_seen Core page turn w words (core_looks page turn w words alike) avoids
completions_alike (Drive number) page turn w words alike avoids =
    alike_drive number page turn w words (cases_lt number (length w.drives)) (cases_eq (drive_in w.rk.disk_address) number) alike avoids
