-- What every course keeps, and what its trace says.
use Rattle.std.proofs.Common.{◌≡◌, ℕ, ◌<◌, ◌==◌, Bool, true, false, List, [], ◌∷◌, Option, None, Some, refl, sym, ◌∙◌, All, length, slice_index_or, slice_set, if◌then◌else◌, length-set, get_or-set_same, get_or-set_other}
use Rattle.std.proofs.lemmas.Bool.{eqb-true, eqb-false}
use Rattle.std.proofs.lemmas.List.Elements.{All-nil, All-cons, All-append}
use Rattle.pdp_store.specs.TracedAccess.{Avoids, TracedAccess, last_write}
use Rattle.pdp_store.specs.CycleLogs.{no_log}
use Rattle.pdp_store.specs.declared.cycle_log.BusCycle.{BusCycle}
use Rattle.pdp_store.specs.declared.part.Part.{Part}
use Rattle.pdp_store.specs.declared.part.Part.TheVariants as parts
use Rattle.pdp_store.specs.declared.Stamp.{Stamp}
use Rattle.pdp_unibus.proofs.Kept.{KeepsPage, KeepsStamps, keeps_page, keeps_stamps}
use Rattle.pdp_unibus.specs.Handbook.BusWorld.{BusWorld}
use Rattle.pdp_unibus.specs.Handbook.Cycle.{core_stored}
use Rattle.pdp_unibus.specs.Page.{SamePage}
use Rattle.pdp_unibus.specs.Trace.{processor_touch}
use Rattle.pdp_operand.specs.Phases.Phase.{State}
use Rattle.pdp_operand.specs.Phases.Course.{Course, follow}
use Rattle.pdp_operand.specs.Laws.Trace.{trace_of}
use Rattle.pdp_operand.specs.Laws.Touched.{IsByProcessor}
use Rattle.pdp_operand.proofs.Along.{Goes, along_course}
use Rattle.pdp_operand.proofs.Shape.{log_after}

-- the turn and the number of words stay, and every touch is by the processor, of that turn and of those words
pub record KeepsTurn (xs : List TracedAccess) (b c : BusWorld) : Type 0 where
  pub turn : c.turn ≡ b.turn
  pub words : length c.core ≡ length b.core
  pub touches : All (IsByProcessor b.turn (length b.core)) xs

touch_of_turn : (writes : Bool) (b : BusWorld) (k : ℕ) → k < length b.core
    → All (IsByProcessor b.turn (length b.core)) (processor_touch writes b k ∷ [])
touch_of_turn writes b k within =
    let of_turn : IsByProcessor b.turn (length b.core) (processor_touch writes b k) =
    record { turn_is = refl; by_processor = refl; of_core = refl; in_core = within } in
    All-cons (IsByProcessor b.turn (length b.core)) _ [] of_turn (All-nil (IsByProcessor b.turn (length b.core)))

goes_turn : Goes KeepsTurn
goes_turn = record {
  stays = λ b. record { turn = refl; words = refl; touches = All-nil (IsByProcessor b.turn (length b.core)) };
  changes = λ xs b c io_page told so. record { turn = so.turn; words = so.words; touches = so.touches };
  looks = λ b k within. record { turn = refl; words = refl; touches = touch_of_turn false b k within };
  writes = λ b k word told within. record { turn = refl; words = length-set _ _ _; touches = touch_of_turn true b k within };
  joins = λ xs ys b c d so also. record {
    turn = also.turn ∙ so.turn;
    words = also.words ∙ so.words;
    touches = All-append (IsByProcessor b.turn (length b.core)) xs ys so.touches (rw (so.turn, so.words) at also.touches);
  };
}

stamped : (stamps : List (Option Stamp)) (j k : ℕ) (stamp : Option Stamp) (same : Bool) → (j == k) ≡ same → k < length stamps
    → slice_index_or (slice_set stamps j stamp) k None ≡ (if same then stamp else slice_index_or stamps k None)
stamped stamps j k stamp true is within = rw (eqb-true _ _ is) (get_or-set_same _ _ _ _ within)
stamped stamps j k stamp false is within = get_or-set_other stamps j k stamp None (λ equal. eqb-false j k is (sym equal))

goes_stamps : Goes KeepsStamps
goes_stamps = record {
  stays = keeps_stamps.stays;
  changes = λ xs b c io_page told so. record { size = so.size; stamps = so.stamps };
  looks = λ b k within. record { size = refl; stamps = λ j below. refl };
  writes = λ b k word told within. record { size = length-set _ _ _; stamps = λ j below. stamped b.stamps k j _ (k == j) refl below };
  joins = keeps_stamps.joins;
}

-- the tape stays
goes_tape : Goes (λ xs b c. c.tape ≡ b.tape)
goes_tape = record {
  stays = λ b. refl;
  changes = λ xs b c io_page told so. so;
  looks = λ b k within. refl;
  writes = λ b k word told within. refl;
  joins = λ xs ys b c d so also. also ∙ so;
}

-- where no log is kept none is begun
none_after : (told : Option BusCycle) → log_after told no_log ≡ no_log
none_after None = refl
none_after (Some cycle) = refl

goes_unlogged : Goes (λ xs b c. b.log ≡ no_log → c.log ≡ no_log)
goes_unlogged = record {
  stays = λ b none. none;
  changes = λ xs b c io_page told so none. rw (so none) (none_after told);
  looks = λ b k within none. rw none refl;
  writes = λ b k word told within none. rw none refl;
  joins = λ xs ys b c d so also none. also (so none);
}

-- a write leaves the pages of other words of its part, and of all other parts
written_elsewhere : (part : Part) (page : ℕ) (b : BusWorld) (k word : ℕ) (told : BusCycle) → Avoids part page (processor_touch true b k ∷ [])
    → SamePage part page b (core_stored b k word told)
written_elsewhere parts.Core page b k word told avoids j inside =
    sym (get_or-set_other b.core k j word 0 (λ equal. avoids.0 refl (rw (← equal) inside)))
written_elsewhere (parts.Drive number) page b k word told avoids j inside = refl

goes_page : (part : Part) (page : ℕ) → Goes (KeepsPage part page)
goes_page part page = record {
  stays = (keeps_page part page).stays;
  changes = λ xs b c io_page told so. so;
  looks = λ b k within avoids j inside. refl;
  writes = λ b k word told within avoids. written_elsewhere part page b k word told avoids;
  joins = (keeps_page part page).joins;
}

pub course_keeps_turn : (course : Course) (s : State) → KeepsTurn (trace_of course s) s.world.bus (follow course s).world.bus
course_keeps_turn = along_course KeepsTurn goes_turn

pub course_keeps_stamps : (course : Course) (s : State) → KeepsStamps (trace_of course s) s.world.bus (follow course s).world.bus
course_keeps_stamps = along_course KeepsStamps goes_stamps

pub course_keeps_tape : (course : Course) (s : State) → (follow course s).world.bus.tape ≡ s.world.bus.tape
course_keeps_tape = along_course (λ xs b c. c.tape ≡ b.tape) goes_tape

pub course_keeps_no_log : (course : Course) (s : State) → s.world.bus.log ≡ no_log → (follow course s).world.bus.log ≡ no_log
course_keeps_no_log = along_course (λ xs b c. b.log ≡ no_log → c.log ≡ no_log) goes_unlogged

pub course_touches : (course : Course) (s : State) → All (IsByProcessor s.world.bus.turn (length s.world.bus.core)) (trace_of course s)
course_touches course s = (course_keeps_turn course s).touches

pub course_stamps : (course : Course) (s : State) (k : ℕ) → k < length s.world.bus.stamps
    → slice_index_or (follow course s).world.bus.stamps k None ≡ last_write (trace_of course s) k (slice_index_or s.world.bus.stamps k None)
course_stamps course s = (course_keeps_stamps course s).stamps

pub course_keeps_page : (part : Part) (page : ℕ) (course : Course) (s : State) → Avoids part page (trace_of course s)
    → SamePage part page s.world.bus (follow course s).world.bus
course_keeps_page part page = along_course (KeepsPage part page) (goes_page part page)
