-- Of which inputs the run of a past makes each cell: its events, and what it gives the machine as
-- of power-up. No rule of the handbook is here.
use Rattle.std.specs.Prelude.{ℕ, zero, suc, ◌≡◌, List, slice_index}
use Rattle.pdp_script.specs.Entries.{events_at}
use Rattle.pdp_replay.specs.Past.{Past}
use Rattle.pdp_replay.specs.Run.States.{disk_of, first_world, punched_at, state_at, text_at}
use Rattle.pdp_made.specs.Cells.{DataCell, CoreByte, DriveByte, High, Low, Same}
use Rattle.pdp_made_run.specs.Origins.{EachOrigin, Events, Origin}
use Rattle.pdp_made_run.specs.RunRows.{RunsAlike, before_turn, made_before_turn}
use Rattle.pdp_made_run.specs.RunRows.{made_of_printed, made_of_punched}
use Rattle.pdp_made_run.specs.TurnRows.{data_in}

-- the events of each turn of a past
abbrev pub script_events : Past → Events
script_events p turn = events_at p.script.entries turn

-- of which inputs each cell before turn n is made
abbrev pub made_at : Past → ℕ → DataCell → List Origin
made_at p n c = made_before_turn (script_events p) n (first_world p.setup) c

-- The runs of two pasts go the same way before turn n.
abbrev pub PastsGoAlike : ℕ → Past → Past → Type 0
PastsGoAlike n p q =
    RunsAlike (script_events p) (script_events q) n (first_world p.setup) (first_world q.setup)

-- These inputs are the same in both pasts: events, and cells as of power-up.
abbrev pub SameInputs : Past → Past → List Origin → Type 0
SameInputs p q inputs = EachOrigin (script_events q) (script_events p) (data_in (first_world q.setup))
    (data_in (first_world p.setup)) inputs

-- The states of a run are those that the rows go back through.
abbrev pub StatesAreOfRows : Type 0
StatesAreOfRows = (p : Past) (n : ℕ)
    → state_at p n ≡ before_turn (script_events p) n (first_world p.setup)

-- The law of pasts: take any other past whose inputs of these names are the same, and whose run
-- goes the same way before turn n. Then the cell is the same there.
abbrev pub PastsTell : Type 0
PastsTell = (n : ℕ) (p q : Past) → PastsGoAlike n p q → (c : DataCell)
    → SameInputs p q (made_at p n c) → Same (data_in (state_at q n)) (data_in (state_at p n)) c

-- The same of word k of core, and of a drive.
abbrev pub CoreWordsTell : Type 0
CoreWordsTell = (n : ℕ) (p q : Past) → PastsGoAlike n p q → (k : ℕ)
    → SameInputs p q (made_at p n (CoreByte k Low))
    → SameInputs p q (made_at p n (CoreByte k High))
    → slice_index (state_at q n).bus.core k ≡ slice_index (state_at p n).bus.core k

abbrev pub DriveWordsTell : Type 0
DriveWordsTell = (n : ℕ) (p q : Past) → PastsGoAlike n p q → (drive k : ℕ)
    → SameInputs p q (made_at p n (DriveByte drive k Low))
    → SameInputs p q (made_at p n (DriveByte drive k High))
    → slice_index (disk_of (state_at q n) drive) k ≡ slice_index (disk_of (state_at p n) drive) k

-- The inputs of each byte that may come out before turn n are the same.
unfoldable pub SamePrintedInputs : ℕ → Past → Past → Type 0
SamePrintedInputs zero p q = Unit {0}
SamePrintedInputs (suc n) p q = SamePrintedInputs n p q
    × SameInputs p q (made_of_printed (script_events p) n (first_world p.setup))

unfoldable pub SamePunchedInputs : ℕ → Past → Past → Type 0
SamePunchedInputs zero p q = Unit {0}
SamePunchedInputs (suc n) p q = SamePunchedInputs n p q
    × SameInputs p q (made_of_punched (script_events p) n (first_world p.setup))

-- The law of texts: then the same text came out before turn n.
abbrev pub TextsTell : Type 0
TextsTell = (n : ℕ) (p q : Past) → PastsGoAlike n p q → SamePrintedInputs n p q
    → text_at q n ≡ text_at p n

abbrev pub PunchedTextsTell : Type 0
PunchedTextsTell = (n : ℕ) (p q : Past) → PastsGoAlike n p q → SamePunchedInputs n p q
    → punched_at q n ≡ punched_at p n
