-- No turn changes how large a drive is.
use Rattle.std.proofs.Common.{◌≡◌, ◌∙◌, ℕ, List, length, map, refl}
use Rattle.pdp_store.specs.TracedAccess.{TracedAccess}
use Rattle.pdp_unibus.proofs.Kept.{Begins, along_begun, disk_keeps_drives}
use Rattle.pdp_unibus.specs.Handbook.BusWorld.{BusWorld}
use Rattle.pdp_unibus.specs.declared.event.Event.{Event}
use Rattle.pdp_operand.proofs.Along.{Goes, along_course}
use Rattle.pdp_operand.specs.Phases.World.{World}
use Rattle.pdp_cpu.specs.Handbook.Turn.{at_turn, course_at, one_turn}

-- each drive keeps its length
abbrev KeepsDrives : List TracedAccess → BusWorld → BusWorld → Type 0
KeepsDrives xs b c = map length c.drives ≡ map length b.drives

begins : Begins KeepsDrives
begins = record {
  stays = λ b. refl;
  changes = λ xs b c io_page bytes_read so. so;
  completes = disk_keeps_drives;
  joins = λ xs ys b c d so also. also ∙ so;
}

goes : Goes KeepsDrives
goes = record {
  stays = λ b. refl;
  changes = λ xs b c io_page told so. so;
  looks = λ b k within. refl;
  writes = λ b k word told within. refl;
  joins = λ xs ys b c d so also. also ∙ so;
}

pub turn_keeps_drives : (t : ℕ) (events : List Event) (w : World) → map length (one_turn t events w).bus.drives ≡ map length w.bus.drives
unfolding one_turn
turn_keeps_drives t events w =
    along_course KeepsDrives goes (course_at (at_turn t events w)) (at_turn t events w) ∙ along_begun KeepsDrives begins t events w.bus
