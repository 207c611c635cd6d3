-- A course leaves a page that it never touches, and is the same whatever the page holds.
use Rattle.std.proofs.Common.{ℕ, List, sym, ap, subst}
use Rattle.pdp_store.specs.Parts.{AlikeWords}
use Rattle.pdp_store.specs.TracedAccess.{Avoids}
use Rattle.pdp_store.specs.declared.part.Part.{Part}
use Rattle.pdp_unibus.specs.Handbook.BusWorld.{BusWorld}
use Rattle.pdp_unibus.specs.Page.{AlikeOutside, words_of_part, bus_with_words}
use Rattle.pdp_operand.specs.Phases.Phase.{State}
use Rattle.pdp_operand.specs.Phases.Course.{Course}
use Rattle.pdp_operand.specs.Laws.Trace.{trace_of}
use Rattle.pdp_operand.specs.Laws.Page.{UndisturbedCourse}
use Rattle.pdp_operand.proofs.Kept.{course_keeps_page}
use Rattle.pdp_operand.proofs.Pairs.{over, paired_course}

undisturbed_by : (part : Part) (page : ℕ) (course : Course) (s : State) (words : List ℕ) → AlikeWords page (words_of_part part s.world.bus) words
    → Avoids part page (trace_of course s) → UndisturbedCourse part page course s (bus_with_words part words s.world.bus)
undisturbed_by part page course s words alike avoids =
    let pair = paired_course part page course s words alike avoids in
    record {
      processor = ap (λ t. t.world.processor) (sym pair.is);
      latch = ap (λ t. t.latch) (sym pair.is);
      bus = record { words = pair.words; is = ap (λ t. t.world.bus) pair.is; alike = pair.alike };
      trace = sym pair.trace;
      page_of_one = course_keeps_page part page course s avoids;
      page_of_other = course_keeps_page part page course (over part s words) (rw pair.trace avoids);
    }

pub course_undisturbed : (part : Part) (page : ℕ) (course : Course) (s : State) (c : BusWorld) → AlikeOutside part page s.world.bus c
    → Avoids part page (trace_of course s) → UndisturbedCourse part page course s c
course_undisturbed part page course s c alike avoids =
    subst (λ other. UndisturbedCourse part page course s other) (sym alike.is)
    (undisturbed_by part page course s alike.words alike.alike avoids)
