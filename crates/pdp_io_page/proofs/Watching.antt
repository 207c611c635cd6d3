-- Turns in which nothing happens but by events.
use Rattle.std.proofs.Common.{◌≡◌, ℕ, ◌+◌, ◌-◌, ◌*◌, ◌%◌, ◌/◌, ◌<◌, ◌≤◌, ◌==◌, nat_lt, ◌&&◌, Bool, false, refl, min, unwrap_or, arith}
use Rattle.std.proofs.Math.Nat.{div-eq_of_lt-le, div-mul-le_self, mod-eq-sub-div-mul}
use Rattle.std.proofs.lemmas.Bool.Decides.{nat_tests}
use Rattle.pdp_device.specs.Operation.{due_after, is_due}
use Rattle.pdp_device.specs.declared.operation.Operation.{Operation}
use Rattle.pdp_device.specs.declared.operation.Operation.TheVariants.{Idle, ByEvent, At}
use Rattle.pdp_io_page.specs.Handbook.Delays.{is_tick}
use Rattle.pdp_io_page.specs.Handbook.Source.{has_request}
use Rattle.pdp_io_page.specs.Watch.{IsQuiet, IsWatched}
use Rattle.pdp_io_page.specs.declared.io_page.IoPage.{IoPage}
use Rattle.pdp_io_page.specs.declared.watch.Watch.{Watch}

-- an operation isn't due before the turn that is told
due_later : (turn most t : ℕ) (o : Operation) → turn < t → t < unwrap_or (due_after turn o) most → is_due t o ≡ false
due_later turn most t Idle after before = refl
due_later turn most t ByEvent after before = refl
due_later turn most t (At due) after before = grind (arith, nat_tests)

-- the pieces of a watch
pub io_page_is_watched : (b : IoPage) (turn tick most : ℕ) (requested : Bool)
    → ((t : ℕ) → turn < t → t < tick → is_tick t b.delays.clock ≡ false) → requested ≡ has_request b
    → IsWatched turn b (record {
      wake = min (min (min (min tick (unwrap_or (due_after turn b.console.printer.operation) most))
          (unwrap_or (due_after turn b.paper_tape.reader.operation) most))
          (unwrap_or (due_after turn b.paper_tape.punch.operation) most))
          (unwrap_or (due_after turn b.disk.operation) most);
      requested = requested;
    })
io_page_is_watched b turn tick most requested ticks asks = record {
  quiet = λ t after before. record {
    clock = ticks t after (omega (arith, before));
    printer = due_later turn most t b.console.printer.operation after (omega (arith, before));
    reader = due_later turn most t b.paper_tape.reader.operation after (omega (arith, before));
    punch = due_later turn most t b.paper_tape.punch.operation after (omega (arith, before));
    disk = due_later turn most t b.disk.operation after (omega (arith, before));
  };
  silent = λ none. cc;
}

-- a clock of period p ticks in no turn between this one and its next tick
pub ticks_later : (turn t p : ℕ) → 0 < p → turn < t → t < (turn / p + 1) * p → is_tick t p ≡ false
ticks_later turn t p above after before =
    let least : turn / p * p ≤ turn = div-mul-le_self turn p in
    let same : t / p ≡ turn / p = div-eq_of_lt-le p (omega (arith, least, after)) before in
    let left : t % p ≡ t - t / p * p = mod-eq-sub-div-mul t p in
    let past : t % p ≡ t - turn / p * p = rw same at left in
    not_zero (t % p) (omega (arith, past, least, after)) where
      not_zero : (n : ℕ) → 0 < n → (nat_lt 0 p && nat_lt 0 t && n == 0) ≡ false
      not_zero n positive = grind (arith, nat_tests, positive)
