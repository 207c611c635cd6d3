-- Turns that begin without events, and in which nothing else happens.
use Rattle.std.proofs.Common.{◌≡◌, ℕ, ◌<◌, ◌≤◌, nat_lt, ◌&&◌, Bool, true, false, [], ap, ◌∙◌, subst, arith}
use Rattle.std.proofs.lemmas.Bool.{and_parts}
use Rattle.std.proofs.lemmas.Bool.Decides.{nat_tests}
use Rattle.pdp_io_page.specs.Watch.{IsQuiet, IsWatched}
use Rattle.pdp_io_page.specs.declared.watch.Watch.{Watch}
use Rattle.pdp_unibus.specs.Handbook.Beginning.{Progress, at_start, before_disk, after_beginning, clock_ticked, disk_done, disk_due, in_turn, printer_done, printer_due, punch_done, punch_due, reader_done, reader_due, where_due}
use Rattle.pdp_unibus.specs.Handbook.BusWorld.{BusWorld}

-- a turn in which nothing happens but by events, and has none, begins and nothing more
pub begun_quietly : (t : ℕ) (w : BusWorld) → IsQuiet t w.io_page → after_beginning t [] w ≡ at_start (in_turn t w)
unfolding after_beginning before_disk
begun_quietly t w quiet =
    ap (λ (p : Progress). disk_due (punch_due (reader_due (printer_due p)))) (none clock_ticked quiet.clock)
    ∙ ap (λ (p : Progress). disk_due (punch_due (reader_due p))) (none printer_done quiet.printer)
    ∙ ap (λ (p : Progress). disk_due (punch_due p)) (none reader_done quiet.reader)
    ∙ ap disk_due (none punch_done quiet.punch)
    ∙ none disk_done quiet.disk where
      start : Progress
      start = at_start (in_turn t w)

      none : (step : Progress → Progress) {due : Bool} → due ≡ false → where_due due step start ≡ start
      none step is = ap (λ holds. where_due holds step start) is

pub later_turn : (turn later : ℕ) (rest : Bool) → (nat_lt turn later && rest) ≡ true → turn ≤ later
later_turn turn later rest quiet =
    let before : turn < later = grind (arith, nat_tests, (and_parts (nat_lt turn later) rest quiet).0) in
    omega (arith, before)

pub quietly_begun : (t asked : ℕ) (v w : BusWorld) (watch : Watch) → v ≡ w → asked ≡ t → IsWatched v.turn v.io_page watch
    → (nat_lt v.turn t && nat_lt asked watch.wake) ≡ true → after_beginning t [] w ≡ at_start (in_turn t v)
quietly_begun t asked v w watch same is watched quiet =
    let parts = and_parts (nat_lt v.turn t) (nat_lt asked watch.wake) quiet in
    let after : v.turn < t = grind (arith, nat_tests, parts.0) in
    let before : t < watch.wake = grind (arith, nat_tests, parts.1, is) in
    subst (λ other. after_beginning t [] other ≡ at_start (in_turn t v)) same (begun_quietly t v (watched.quiet t after before))
