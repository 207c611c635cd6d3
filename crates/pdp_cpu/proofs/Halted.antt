-- A halted machine stays.
use Rattle.std.proofs.Common.{◌≡◌, ◌≢◌, ◌∙◌, ℕ, zero, suc, ◌+◌, false, List, [], ◌∷◌, ap, arith, refl}
use Rattle.pdp_unibus.proofs.Beginnings.{begun_idles, begun_is_settled, still_idle}
use Rattle.pdp_unibus.specs.Handbook.BusWorld.{is_disk_busy}
use Rattle.pdp_unibus.specs.declared.event.Event.{Event}
use Rattle.pdp_unibus.specs.declared.event.Event.TheVariants.{Key, Tick, PrinterDone, ReaderDone, PunchDone, DiskDone, Switches, Continue}
use Rattle.pdp_operand.specs.Phases.Course.{follow}
use Rattle.pdp_operand.specs.Phases.World.{World}
use Rattle.pdp_operand.specs.declared.processor.Processor.{Processor}
use Rattle.pdp_operand.specs.declared.processor.RunState.TheVariants.{Halted}
use Rattle.pdp_cpu.specs.Laws.TurnLaws.{NoneContinues, Stays, WordsStay, world_after}
use Rattle.pdp_cpu.specs.Handbook.Turn.{act_end, beginning, one_turn, processor_after, processor_after_events}

event_stays : (e : Event) (p : Processor) → e ≢ Continue → processor_after e p ≡ p
event_stays Continue p other = absurd (other refl)
event_stays (Key key) p other = refl
event_stays (Switches word) p other = refl
event_stays Tick p other = refl
event_stays PrinterDone p other = refl
event_stays ReaderDone p other = refl
event_stays PunchDone p other = refl
event_stays DiskDone p other = refl

events_stay : (es : List Event) (p : Processor) → NoneContinues es → processor_after_events es p ≡ p
events_stay [] p none = refl
events_stay (e ∷ es) p none = events_stay es (processor_after e p) (λ k d below. none (suc k) d (omega (arith, below))) ∙ event_stays e p (none 0 e (omega arith))

-- a halted machine does nothing
idle : (v : World) → v.processor.run ≡ Halted → act_end v ≡ v
unfolding follow
idle v is = rw is refl

turn_stays : (t : ℕ) (events : List Event) (w : World) → w.processor.run ≡ Halted → NoneContinues events → Stays w (one_turn t events w)
unfolding one_turn
turn_stays t events w is none =
    let begun = events_stay events w.processor none in
    let kept = begun_is_settled t events w.bus in
    let same = idle (beginning t events w) (ap (λ p. p.run) begun ∙ is) in
    record {
      processor = ap (λ v. v.processor) same ∙ begun;
      status = ap (λ v. v.bus.io_page.status) same ∙ kept.status;
      mapping = ap (λ v. v.bus.io_page.mapping) same ∙ kept.mapping;
    }

pub halted_stays : (events : ℕ → List Event) (t n : ℕ) (w : World) → w.processor.run ≡ Halted
    → ((k : ℕ) → NoneContinues (events k)) → Stays w (world_after events t n w)
halted_stays events t zero w is none = record { processor = refl; status = refl; mapping = refl }
halted_stays events t (suc n) w is none =
    let before = halted_stays events t n w is none in
    let turn = turn_stays (t + n) (events (t + n)) (world_after events t n w) (ap (λ p. p.run) before.processor ∙ is) (none (t + n)) in
    record {
      processor = turn.processor ∙ before.processor;
      status = turn.status ∙ before.status;
      mapping = turn.mapping ∙ before.mapping;
    }

words_stay_in_turn : (t : ℕ) (events : List Event) (w : World) → w.processor.run ≡ Halted → NoneContinues events
    → is_disk_busy w.bus.io_page ≡ false → WordsStay w (one_turn t events w)
unfolding one_turn
words_stay_in_turn t events w is none quiet =
    let idles = begun_idles t events w.bus quiet in
    let same = idle (beginning t events w) (ap (λ p. p.run) (events_stay events w.processor none) ∙ is) in
    record {
      disk = ap (λ v. v.bus.io_page.disk) same ∙ idles.disk;
      core = ap (λ v. v.bus.core) same ∙ ap (λ bus. bus.core) idles.leaves;
      stamps = ap (λ v. v.bus.stamps) same ∙ ap (λ bus. bus.stamps) idles.leaves;
      drives = ap (λ v. v.bus.drives) same ∙ ap (λ bus. bus.drives) idles.leaves;
    }

pub halted_words_stay : (events : ℕ → List Event) (t n : ℕ) (w : World) → w.processor.run ≡ Halted
    → ((k : ℕ) → NoneContinues (events k)) → is_disk_busy w.bus.io_page ≡ false → WordsStay w (world_after events t n w)
halted_words_stay events t zero w is none quiet = record { disk = refl; core = refl; stamps = refl; drives = refl }
halted_words_stay events t (suc n) w is none quiet =
    let halted = halted_stays events t n w is none in
    let before = halted_words_stay events t n w is none quiet in
    let turn = words_stay_in_turn (t + n) (events (t + n)) (world_after events t n w) (ap (λ p. p.run) halted.processor ∙ is) (none (t + n))
    (still_idle w.bus.io_page (world_after events t n w).bus.io_page before.disk quiet) in
    record {
      disk = turn.disk ∙ before.disk;
      core = turn.core ∙ before.core;
      stamps = turn.stamps ∙ before.stamps;
      drives = turn.drives ∙ before.drives;
    }
