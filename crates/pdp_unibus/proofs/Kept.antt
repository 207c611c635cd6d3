-- What a trace says of the bus before it and of the bus after it: whose its touches are, whose stamps are left, and which
-- pages stay. So it goes along the beginning of a turn.
use Rattle.std.proofs.Common.{◌≡◌, ℕ, ◌<◌, Bool, true, false, List, [], ◌∷◌, ◌++◌, None, refl, sym, subst, ◌∙◌, All, length, map, slice_index_or, if◌then◌else◌, arith}
use Rattle.std.proofs.lemmas.List.Elements.{All-nil, All-append}
use Rattle.pdp_device.specs.Operation.{is_due}
use Rattle.pdp_rk11.proofs.CompletionPages.{completion_keeps_page}
use Rattle.pdp_rk11.proofs.CompletionSizes.{completed_sizes}
use Rattle.pdp_rk11.proofs.CompletionStamps.{completed_stamps}
use Rattle.pdp_rk11.proofs.CompletionTouches.{completion_of_turn}
use Rattle.pdp_rk11.specs.Handbook.Completion.{rk_completed}
use Rattle.pdp_rk11.specs.Trace.{IsOfCompletion}
use Rattle.pdp_store.proofs.Traces.{Avoids-first, Avoids-second, last_write-append}
use Rattle.pdp_store.specs.TracedAccess.{Avoids, TracedAccess, last_write}
use Rattle.pdp_store.specs.declared.part.Part.{Part}
use Rattle.pdp_unibus.specs.Handbook.Beginning.{Progress, after_event, after_events, at_start, before_disk, after_beginning, disk_done, in_turn, where_due}
use Rattle.pdp_unibus.specs.Handbook.BusWorld.{BusWorld, disk_world_of, with_disk_world, with_first_touches}
use Rattle.pdp_store.specs.FirstTouches.{first_touches_after}
use Rattle.pdp_unibus.specs.Page.{SamePage}
use Rattle.pdp_unibus.specs.Touched.{IsOfTurn}
use Rattle.pdp_unibus.specs.Trace.{begun_touches, disk_touches, event_touches, events_touches}
use Rattle.pdp_io_page.specs.declared.io_page.IoPage.{IoPage}
use Rattle.pdp_unibus.specs.declared.event.Event.{Event}
use Rattle.pdp_unibus.specs.declared.event.Event.TheVariants.{DiskDone}
use Rattle.pdp_unibus.proofs.Beginnings.{Quiet, dues, dues_are_quiet}

-- a relation of a trace, the bus before it and the bus after it, that goes along the beginning of a turn
pub record Begins (K : List TracedAccess → BusWorld → BusWorld → Type 0) : Type 0 where
  pub stays : (b : BusWorld) → K [] b b
  pub changes : (xs : List TracedAccess) (b c : BusWorld) (io_page : IoPage) (bytes_read : ℕ) → K xs b c → K xs b (record c { io_page = io_page; bytes_read = bytes_read })
  pub completes : (b : BusWorld) → K (disk_touches b) b (with_first_touches (with_disk_world b (rk_completed b.turn (disk_world_of b))) (first_touches_after (disk_touches b) b.first_touches))
  pub joins : (xs ys : List TracedAccess) (b c d : BusWorld) → K xs b c → K ys c d → K (xs ++ ys) b d

module _ (K : List TracedAccess → BusWorld → BusWorld → Type 0) (begins : Begins K) where
  along_event : (e : Event) (p : Progress) → K (event_touches e p.bus) p.bus (after_event e p).bus
  along_event DiskDone p = begins.completes p.bus
  along_event _ p = begins.changes [] p.bus p.bus _ _ (begins.stays p.bus)

  along_events : (es : List Event) (p : Progress) → K (events_touches es p) p.bus (after_events es p).bus
  along_events [] p = begins.stays p.bus
  along_events (e ∷ es) p =
      begins.joins _ _ p.bus (after_event e p).bus _ (along_event e p) (along_events es (after_event e p))

  along_quiet : (xs : List TracedAccess) (b : BusWorld) (f : Progress → Progress) (p : Progress) → Quiet f → K xs b p.bus → K xs b (f p).bus
  along_quiet xs b f p quiet so = subst (K xs b) (sym (quiet.leaves p)) (begins.changes xs b p.bus _ _ so)

  along_due : (due : Bool) (p : Progress) → K (if due then disk_touches p.bus else []) p.bus (where_due due disk_done p).bus
  along_due true p = begins.completes p.bus
  along_due false p = begins.stays p.bus

  along_before : (t : ℕ) (es : List Event) (w : BusWorld) → K (events_touches es (at_start (in_turn t w))) (in_turn t w) (before_disk t es w).bus
  unfolding before_disk dues
  along_before t es w =
      along_quiet _ (in_turn t w) dues (after_events es (at_start (in_turn t w))) dues_are_quiet (along_events es (at_start (in_turn t w)))

  pub along_begun : (t : ℕ) (es : List Event) (w : BusWorld) → K (begun_touches t es w) (in_turn t w) (after_beginning t es w).bus
  unfolding after_beginning begun_touches
  along_begun t es w =
      let before = before_disk t es w in
      begins.joins _ _ (in_turn t w) before.bus _ (along_before t es w)
      (along_due (is_due before.bus.turn before.bus.io_page.disk.operation) before)

-- the turn and the number of words stay, and every touch is of that turn and of those words
pub record KeepsTurn (xs : List TracedAccess) (b c : BusWorld) : Type 0 where
  pub turn : c.turn ≡ b.turn
  pub words : length c.core ≡ length b.core
  pub touches : All (IsOfTurn b.turn (length b.core)) xs

of_turn : (turn words : ℕ) (x : TracedAccess) → IsOfCompletion turn words x → IsOfTurn turn words x
of_turn turn words x so = record { turn_is = so.turn_is; in_core = so.in_core; by_disk = λ _. so.by_disk }

pub keeps_turn : Begins KeepsTurn
keeps_turn = record {
  stays = λ b. record { turn = refl; words = refl; touches = All-nil (IsOfTurn b.turn (length b.core)) };
  changes = λ xs b c io_page bytes_read so. record { turn = so.turn; words = so.words; touches = so.touches };
  completes = λ b. record {
    turn = refl;
    words = (completed_sizes b.turn (disk_world_of b)).core;
    touches = λ k d below. of_turn b.turn (length b.core) _ (completion_of_turn b.turn (disk_world_of b) k d below);
  };
  joins = λ xs ys b c d so also. record {
    turn = also.turn ∙ so.turn;
    words = also.words ∙ so.words;
    touches = All-append (IsOfTurn b.turn (length b.core)) xs ys so.touches (rw (so.turn, so.words) at also.touches);
  };
}

-- each last stamp is that of the last write in the trace, if it has one
pub record KeepsStamps (xs : List TracedAccess) (b c : BusWorld) : Type 0 where
  pub size : length c.stamps ≡ length b.stamps
  pub stamps : (k : ℕ) → k < length b.stamps → slice_index_or c.stamps k None ≡ last_write xs k (slice_index_or b.stamps k None)

pub keeps_stamps : Begins KeepsStamps
keeps_stamps = record {
  stays = λ b. record { size = refl; stamps = λ k within. refl };
  changes = λ xs b c io_page bytes_read so. record { size = so.size; stamps = so.stamps };
  completes = λ b. record {
    size = (completed_sizes b.turn (disk_world_of b)).stamps;
    stamps = completed_stamps b.turn (disk_world_of b);
  };
  joins = λ xs ys b c d so also. record {
    size = also.size ∙ so.size;
    stamps = λ k within.
        let below : k < length c.stamps = omega (arith, so.size) in
        rw (last_write-append xs ys k (slice_index_or b.stamps k None), ← so.stamps k within) (also.stamps k below);
  };
}

-- the words of a page that the trace avoids stay
abbrev pub KeepsPage : Part → ℕ → List TracedAccess → BusWorld → BusWorld → Type 0
KeepsPage part page xs b c = Avoids part page xs → SamePage part page b c

pub keeps_page : (part : Part) (page : ℕ) → Begins (KeepsPage part page)
keeps_page part page = record {
  stays = λ b avoids k inside. refl;
  changes = λ xs b c io_page bytes_read so. so;
  completes = λ b avoids. completion_keeps_page part page b.turn (disk_world_of b) avoids;
  joins = λ xs ys b c d so also avoids k inside.
      so (Avoids-first part page xs ys avoids) k inside ∙ also (Avoids-second part page xs ys avoids) k inside;
}

-- the tape stays
pub keeps_tape : Begins (λ xs b c. c.tape ≡ b.tape)
keeps_tape = record {
  stays = λ b. refl;
  changes = λ xs b c io_page bytes_read so. so;
  completes = λ b. refl;
  joins = λ xs ys b c d so also. also ∙ so;
}

pub begun_keeps_turn : (t : ℕ) (es : List Event) (w : BusWorld) → KeepsTurn (begun_touches t es w) (in_turn t w) (after_beginning t es w).bus
begun_keeps_turn = along_begun KeepsTurn keeps_turn

pub begun_keeps_stamps : (t : ℕ) (es : List Event) (w : BusWorld) → KeepsStamps (begun_touches t es w) (in_turn t w) (after_beginning t es w).bus
begun_keeps_stamps = along_begun KeepsStamps keeps_stamps

pub begun_keeps_page : (part : Part) (page t : ℕ) (es : List Event) (w : BusWorld) → Avoids part page (begun_touches t es w)
    → SamePage part page (in_turn t w) (after_beginning t es w).bus
begun_keeps_page part page = along_begun (KeepsPage part page) (keeps_page part page)

pub begun_keeps_tape : (t : ℕ) (es : List Event) (w : BusWorld) → (after_beginning t es w).bus.tape ≡ w.tape
begun_keeps_tape = along_begun (λ xs b c. c.tape ≡ b.tape) keeps_tape

-- the disk's completion keeps the length of each drive
pub disk_keeps_drives : (b : BusWorld) → map length (rk_completed b.turn (disk_world_of b)).drives ≡ map length b.drives
disk_keeps_drives b = (completed_sizes b.turn (disk_world_of b)).drives
