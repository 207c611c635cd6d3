-- Rows: of which cells before a phase each cell after it is made. They are a third column of the
-- microcode, beside what a phase asks for and what it makes of the reply. Here is what a row is,
-- what it is worth, and what rows tell of a list of phases. No rule of the handbook is here.
use Rattle.std.specs.Prelude.{◌≡◌, List, [], ◌∷◌, flat_map, Result, Ok, Err}
use Rattle.pdp_word.specs.declared.codes.Codes.{Codes}
use Rattle.pdp_operand.specs.Phases.Phase.{Phase, State, Stop, run, step}
use Rattle.pdp_made.specs.Cells.{AreAlike, Data, DataCell, EachSame, Same, WorldsAlike, data_at}
use Rattle.pdp_made.specs.Cells.{data_of}

-- A row has a phase, and says of which cells before it each cell after it is made. A phase of the
-- sequence of a trap depends on the codes that are saved; every other phase is the same for all
-- codes.
pub record PhaseRow : Type 0 where
  pub phase : Codes → Phase
  pub made : State → DataCell → List DataCell

-- each cell is made of itself
abbrev pub of_itself : DataCell → List DataCell
of_itself c = c ∷ []

-- Data d and e are before, data u and t after: a cell is the same after, if the cells that it is
-- made of are the same before.
abbrev pub CellsTell : (DataCell → List DataCell) → Data → Data → Data → Data → Type 0
CellsTell made d e u t = (c : DataCell) → EachSame d e (made c) → Same u t c

-- The same of how phases end: by `made` if both go on, by `stops` if both come to a trap. If only
-- one comes to a trap, this says nothing.
abbrev pub TellsEnds : (DataCell → List DataCell) → (DataCell → List DataCell) → Codes → Codes
    → Data → Data → Result State Stop → Result State Stop → Type 0
TellsEnds made stops saved other d e (Ok t) (Ok v) =
    CellsTell made d e (data_of other v) (data_of saved t)
TellsEnds made stops saved other d e (Err stop) (Err end) =
    CellsTell stops d e (data_at other end.world) (data_at saved stop.world)
TellsEnds made stops saved other d e (Ok t) (Err end) = Unit {0}
TellsEnds made stops saved other d e (Err stop) (Ok v) = Unit {0}

-- The law of a row: from two states alike except for data, if the cells that it names for a cell
-- are the same in both, that cell is the same after. A phase that can't go on changes no data.
pub record IsSoundRow (row : PhaseRow) : Type 0 where
  pub tells : (saved other : Codes) (s u : State) → AreAlike saved other s u
      → TellsEnds (row.made s) of_itself saved other (data_of other u) (data_of saved s)
      (step (row.phase saved) s) (step (row.phase other) u)

abbrev pub AreSoundRows : List PhaseRow → Type 0
AreSoundRows [] = Unit {0}
AreSoundRows (row ∷ rows) = IsSoundRow row × AreSoundRows rows

abbrev pub phases_in : List PhaseRow → Codes → List Phase
phases_in [] saved = []
phases_in (row ∷ rows) saved = row.phase saved ∷ phases_in rows saved

-- Of which cells before a list of phases each cell after it is made, back from the last phase to
-- the first. At a trap the last phase is the one before the phase that couldn't go on.
abbrev pub made_next : (State → DataCell → List DataCell) → (DataCell → List DataCell)
    → Result State Stop → DataCell → List DataCell
made_next rest first (Ok t) c = flat_map first (rest t c)
made_next rest first (Err stop) c = c ∷ []

unfoldable pub made_through : List PhaseRow → Codes → State → DataCell → List DataCell
made_through [] saved s c = c ∷ []
made_through (row ∷ rows) saved s c =
    made_next (λ t. made_through rows saved t) (row.made s) (step (row.phase saved) s) c

-- Both go on, to two states that are alike, or both come to the same trap, in worlds that are
-- alike.
abbrev pub BothEndAlike : (State → State → Type 0) → Codes → Codes → Result State Stop
    → Result State Stop → Type 0
BothEndAlike rest saved other (Ok t) (Ok v) = AreAlike saved other t v × rest t v
BothEndAlike rest saved other (Err stop) (Err end) =
    (end.trap ≡ stop.trap) × WorldsAlike stop.world end.world
BothEndAlike rest saved other (Ok t) (Err end) = ⊥
BothEndAlike rest saved other (Err stop) (Ok v) = ⊥

-- The phases go the same way from two states: after each of them both are alike.
unfoldable pub GoTheSameWay : List PhaseRow → Codes → Codes → State → State → Type 0
GoTheSameWay [] saved other s u = Unit {0}
GoTheSameWay (row ∷ rows) saved other s u =
    BothEndAlike (λ t v. GoTheSameWay rows saved other t v) saved other (step (row.phase saved) s)
    (step (row.phase other) u)

-- The law of plans: phases with sound rows go the same way from two states alike except for data.
-- If the cells that `made_through` names for a cell are the same before, that cell is the same
-- after, also if they come to a trap.
abbrev pub PlansTell : Type 0
PlansTell = (rows : List PhaseRow) (saved other : Codes) (s u : State) → AreSoundRows rows
    → AreAlike saved other s u → GoTheSameWay rows saved other s u
    → TellsEnds (made_through rows saved s) (made_through rows saved s) saved other (data_of other
    u) (data_of saved s) (run (phases_in rows saved) s) (run (phases_in rows other) u)
