-- The checkpoints of a machine, at the multiples of a stride of turns.
use Rattle.std.specs.Prelude.{ℕ, zero, suc, ◌≡◌, ◌+◌, ◌*◌, ◌/◌, ◌%◌, ◌-◌, ◌<◌, ◌≤◌, ◌==◌, min}
use Rattle.std.specs.Prelude.{nat_lt, if◌then◌else◌, List, [], ◌∷◌, ◌++◌, drop, length, map}
use Rattle.std.specs.List.{filter}
use Rattle.pdp_unibus.specs.Handbook.LastTurn.{last_turn}
use Rattle.pdp_cpu.specs.Handbook.MachineState.{MachineState}
use Rattle.pdp_cpu.specs.Saved.{saved_machine}
use Rattle.pdp_checkpoint.specs.declared.checkpoint.Checkpoint.{Checkpoint}
use Rattle.pdp_checkpoint.specs.Formers.{AreFewFormers, FormerData}

abbrev pub widest_stride : ℕ
widest_stride = 2000000000

abbrev pub most_kept : ℕ
most_kept = 256

-- how many states are kept at most between the checkpoints
abbrev pub most_near : ℕ
most_near = 256

-- the checkpoints, the earliest first, and how many turns lie between two of them; states near the
-- turns that were asked about last, in the order in which they were kept; and former runs
pub record LadderData : Type 0 where
  pub kept : List Checkpoint
  pub stride : ℕ
  pub near : List Checkpoint
  pub formers : List FormerData

-- the state of a machine, with its turn
abbrev pub checkpoint_of : MachineState → Checkpoint
checkpoint_of m = record { turn = m.turn; saved = saved_machine m }

-- so many numbers, this one first and each further one a step above the one before
unfoldable pub steps_from : ℕ → ℕ → ℕ → List ℕ
steps_from step first zero = []
steps_from step first (suc count) = first ∷ steps_from step (first + step) count

-- the first multiple of the stride above the turns that are kept
abbrev pub next_of : LadderData → ℕ
next_of l = length l.kept * l.stride

-- which of the checkpoints is the last at or before a turn, counted from 0
abbrev pub best_of : LadderData → ℕ → ℕ
best_of l turn = min (turn / l.stride) (length l.kept - 1)

-- the turns are 0, the stride, twice the stride and so on; there are some, at most 256, and none is
-- too late
pub record AreCheckpoints (l : LadderData) : Type 0 where
  pub turns : map (λ c. c.turn) l.kept ≡ steps_from l.stride 0 (length l.kept)
  pub some : 0 < length l.kept
  pub few : length l.kept ≤ most_kept
  pub positive : 0 < l.stride
  pub widest : l.stride ≤ widest_stride
  pub within : next_of l ≤ last_turn + l.stride

-- what is kept is bounded: at most 256 checkpoints at their turns, at most 256 states between them,
-- and at most two former runs, each with at most 512 states
pub record IsLadder (l : LadderData) : Type 0 where
  pub checkpoints : AreCheckpoints l
  pub near : length l.near ≤ most_near
  pub formers : AreFewFormers l.formers

-- those whose turns are multiples of a stride
abbrev pub at_multiples : ℕ → List Checkpoint → List Checkpoint
at_multiples stride kept = filter (λ c. c.turn % stride == 0) kept

-- with one more state, the last
abbrev pub with_last : LadderData → Checkpoint → LadderData
with_last l c = record l { kept = l.kept ++ c ∷ [] }

-- with twice the stride, and the states at its multiples
abbrev pub ladder_doubled : LadderData → LadderData
ladder_doubled l = record l { kept = at_multiples (l.stride * 2) l.kept; stride = l.stride * 2 }

-- the states near a turn, with one more; if that makes more than 256, the one that was kept first
-- goes
abbrev pub near_with : List Checkpoint → Checkpoint → List Checkpoint
near_with near c = (if nat_lt most_near (length near + 1) then drop 1 (near ++ c ∷ []) else near
    ++ c ∷ [])

-- with one more state; if that makes more than 256, at twice the stride
unfoldable pub kept_with : LadderData → Checkpoint → LadderData
kept_with l c = (if nat_lt (length l.kept) most_kept then with_last l c else ladder_doubled
    (with_last l c))
