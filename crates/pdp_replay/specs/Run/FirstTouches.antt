-- The first touches of pages in a run.
use Rattle.std.specs.Prelude.{ℕ, ◌≡◌, ◌+◌, ◌/◌, ◌<◌, ◌≤◌, ◌==◌, ◌&&◌, ◌||◌, Bool, false, List}
use Rattle.std.specs.Prelude.{[], ◌∷◌}
use Rattle.std.specs.Prelude.{None, if◌then◌else◌, length, nat_lt, replicate, slice_index_or}
use Rattle.std.specs.Prelude.{slice_set, suc, zero}
use Rattle.pdp_store.specs.TracedAccess.{Avoids, TracedAccess}
use Rattle.pdp_store.specs.Parts.{is_same_part}
use Rattle.pdp_store.specs.declared.part.Part.{Part}
use Rattle.pdp_store.specs.declared.part.Part.TheVariants.{Core}
use Rattle.pdp_unibus.specs.Page.{SamePage, words_of_part, bus_with_words}
use Rattle.pdp_operand.specs.Phases.World.{World, world}
use Rattle.pdp_cpu.specs.Handbook.Turn.{turn_trace}
use Rattle.pdp_script.specs.Entries.{events_at}
use Rattle.pdp_store.specs.FirstTouches.{FirstTouches, all_first_touches_before}
use Rattle.pdp_store.specs.FirstTouches.{first_touches_after, first_touches_in, first_touches_of}
use Rattle.pdp_store.specs.FirstTouches.{never}
use Rattle.pdp_store.specs.Stored.{no_touch_in}
use Rattle.pdp_replay.specs.Past.{Past, with_setup}
use Rattle.pdp_replay.specs.Past.Setup.{SetupData, core_size, drive_words}
use Rattle.pdp_replay.specs.Run.States.{first_world, state_at, trace_at}

-- whether a trace has an access of any kind to this page of 256 words
abbrev pub meets : Part → ℕ → List TracedAccess → Bool
meets part page [] = false
meets part page (x ∷ xs) = (is_same_part x.part part && x.word / 256 == page) || meets part page xs

-- the least turn up to turn n that touches a page, by the least below turn n and by whether turn n
-- touches it: `first` if that is below turn n, else turn n if it touches the page, else the next
abbrev pub earlier_touch : ℕ → ℕ → Bool → ℕ
earlier_touch first n touches = if nat_lt first n then first else if touches then n else suc n

-- all accesses in this turn of the run
abbrev pub trace_of_turn : Past → ℕ → List TracedAccess
trace_of_turn p t = turn_trace t (events_at p.script.entries t) (state_at p t)

-- the least turn below turn n in which the run has an access of any kind to the page; n if there is
-- none
unfoldable pub first_touch : Past → Part → ℕ → ℕ → ℕ
first_touch p part page zero = zero
first_touch p part page (suc n) =
    earlier_touch (first_touch p part page n) n (meets part page (trace_of_turn p n))

-- so it is: no turn before it has an access to the page, and it has one if it is below turn n
pub record IsFirstTouch (p : Past) (part : Part) (page n first : ℕ) : Type 0 where
  pub within : first ≤ n
  pub none_before : (t : ℕ) → t < first → Avoids part page (trace_of_turn p t)
  pub touches : first < n → Avoids part page (trace_of_turn p first) → ⊥

abbrev pub FirstTouchesAreFirst : Type 0
FirstTouchesAreFirst = (p : Past) (part : Part) (page n : ℕ)
    → IsFirstTouch p part page n (first_touch p part page n)

-- a world with other words in a part, and with one word of it changed
abbrev pub world_with : Part → List ℕ → World → World
world_with part words w = world w.processor (bus_with_words part words w.bus)

abbrev pub world_changed : Part → ℕ → ℕ → World → World
world_changed part i word w = world_with part (slice_set (words_of_part part w.bus) i word) w

-- a patch of a word reaches to the first touch of its page: until then the run is the old one with
-- the word changed
abbrev pub PatchesReachTheFirstTouch : Type 0
PatchesReachTheFirstTouch = (part : Part) (i word n k : ℕ) (p : Past) (s : SetupData)
    → first_world s ≡ world_changed part i word (first_world p.setup)
    → i < length (words_of_part part (first_world p.setup).bus) → n ≤ first_touch p part (i / 256) k
    → state_at (with_setup p s) n ≡ world_changed part i word (state_at p n)

-- the first touches of the pages of core and of each drive, if none is touched
unfoldable pub untouched_all : SetupData → FirstTouches
untouched_all s = first_touches_of (no_touch_in (core_size s)) (replicate s.drives
    (no_touch_in drive_words))

-- the first touches that the turns before turn n leave
abbrev pub first_touches_at : Past → ℕ → FirstTouches
first_touches_at p n = first_touches_after (trace_at p n) (untouched_all p.setup)

-- that of a page of a part
abbrev pub first_touch_of : Part → ℕ → FirstTouches → ℕ
first_touch_of part page f = slice_index_or (first_touches_in part f) page never

-- a first touch below n, or none
abbrev pub if_before : ℕ → ℕ → ℕ
if_before first n = if nat_lt first n then first else never

-- the first touches that the turns before turn n leave tell the first touch of each page that is
-- there
abbrev pub FirstTouchesAreTold : Type 0
FirstTouchesAreTold = (p : Past) (part : Part) (page n : ℕ) → n ≤ never
    → page < length (first_touches_in part (untouched_all p.setup))
    → first_touch_of part page (first_touches_at p n) ≡ if_before (first_touch p part page n) n

-- a turn that is run again adds nothing to them
abbrev pub TurnsRunAgainTouchNothingNew : Type 0
TurnsRunAgainTouchNothingNew = (p : Past) (t known : ℕ) → t < known
    → first_touches_after (trace_of_turn p t) (first_touches_at p known) ≡ first_touches_at p known

-- if touches of turn k and later ones are dropped, those of the turns before it are left
abbrev pub LateTouchesAreDropped : Type 0
LateTouchesAreDropped = (p : Past) (k d : ℕ) → k ≤ never
    → all_first_touches_before k (first_touches_at p (d + k)) ≡ first_touches_at p k

-- before turn n the words of this page are those of power-up, and none of them has a stamp
pub record IsAsAtPowerUp (p : Past) (part : Part) (page n : ℕ) : Type 0 where
  pub words : SamePage part page (first_world p.setup).bus (state_at p n).bus
  pub unstamped : part ≡ Core → (k : ℕ) → k / 256 ≡ page
      → slice_index_or (state_at p n).bus.stamps k None ≡ None

-- up to the first touch of a page all states of a run have it alike
abbrev pub UntouchedPagesAreAlike : Type 0
UntouchedPagesAreAlike = (p : Past) (part : Part) (page n known : ℕ)
    → n ≤ first_touch p part page known → IsAsAtPowerUp p part page n
