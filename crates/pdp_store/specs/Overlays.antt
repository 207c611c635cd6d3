-- Last stamps and first touches of one run, from a turn on, laid over those of another run.
use Rattle.std.specs.Prelude.{ℕ, ◌≡◌, ◌<◌, ◌≤◌, ◌++◌, List, [], ◌∷◌, Option, Some, None, drop}
use Rattle.std.specs.Prelude.{length}
use Rattle.std.specs.Prelude.{max, nat_le, nat_lt, take, if◌then◌else◌}
use Rattle.pdp_store.specs.FirstTouches.{FirstTouches, first_touches_of}
use Rattle.pdp_store.specs.declared.Stamp.{Stamp}

-- the last stamp of a word: a stamp of this turn or a later one hides the one under it; an earlier
-- one, or none, leaves the one under it
abbrev pub stamp_over : ℕ → Option Stamp → Option Stamp → Option Stamp
stamp_over turn under None = under
stamp_over turn under (Some stamp) = if nat_le turn stamp.turn then Some stamp else under

-- the greatest turn of these last stamps; 0 if there are none
abbrev pub later_turn : ℕ → Option Stamp → ℕ
later_turn latest None = latest
later_turn latest (Some stamp) = max latest stamp.turn

unfoldable pub latest_turn : List (Option Stamp) → ℕ
latest_turn [] = 0
latest_turn (last ∷ stamps) = later_turn (latest_turn stamps) last

-- the same for each word of core; of two lists, as many words as the shorter one has
abbrev pub stamps_over : ℕ → List (Option Stamp) → List (Option Stamp) → List (Option Stamp)
stamps_over turn [] stamps = []
stamps_over turn (under ∷ unders) [] = []
stamps_over turn (under ∷ unders) (stamp ∷ stamps) =
    stamp_over turn under stamp ∷ stamps_over turn unders stamps

-- the stamps laid over those before word n alone
abbrev pub laid_to : ℕ → ℕ → List (Option Stamp) → List (Option Stamp) → List (Option Stamp)
laid_to n turn under stamps = take n (stamps_over turn under stamps) ++ drop n under

-- the first touch of a page: one under it that is before this turn stays, otherwise it is the one
-- over it
abbrev pub touch_over : ℕ → ℕ → ℕ → ℕ
touch_over turn under first = if nat_lt under turn then under else first

-- the same for each page of a part, and for each drive
abbrev pub touches_over : ℕ → List ℕ → List ℕ → List ℕ
touches_over turn [] firsts = []
touches_over turn (under ∷ unders) [] = []
touches_over turn (under ∷ unders) (first ∷ firsts) =
    touch_over turn under first ∷ touches_over turn unders firsts

abbrev pub drives_over : ℕ → List (List ℕ) → List (List ℕ) → List (List ℕ)
drives_over turn [] drives = []
drives_over turn (under ∷ unders) [] = []
drives_over turn (under ∷ unders) (drive ∷ drives) =
    touches_over turn under drive ∷ drives_over turn unders drives

-- the first touches of core and of each drive
abbrev pub first_touches_over : ℕ → FirstTouches → FirstTouches → FirstTouches
first_touches_over turn under f =
    first_touches_of (touches_over turn under.core f.core) (drives_over turn under.drives f.drives)

-- a last stamp of a turn before this one, or none
abbrev pub IsBefore : ℕ → Option Stamp → Type 0
IsBefore turn None = Unit {0}
IsBefore turn (Some stamp) = stamp.turn < turn

-- the same of each word
abbrev pub AreBefore : ℕ → List (Option Stamp) → Type 0
AreBefore turn [] = Unit {0}
AreBefore turn (x ∷ xs) = IsBefore turn x × AreBefore turn xs

-- two overlays are one: stamps are laid over b from turn c on, and the result over a from turn e
-- on. If e is not before c, and all of b are before e, b has no effect. If e is not after c, it is
-- the same to lay b over a first.
abbrev pub OverlaysAreFlat : Type 0
OverlaysAreFlat =
    (c e : ℕ) (a b stamps : List (Option Stamp)) → length b ≡ length stamps
    → (c ≤ e → AreBefore e b → stamps_over e a (stamps_over c b stamps) ≡ stamps_over e a stamps)
    × (e ≤ c → stamps_over e a (stamps_over c b stamps)
    ≡ stamps_over c (stamps_over e a b) stamps)
