-- What is kept of a run that an edit of its past ended, until a run of the edited past meets it.
use Rattle.std.specs.Prelude.{ℕ, ◌≡◌, ◌≤◌, ◌<◌, ◌⊎◌, List, Option, Some, None, length, max}
use Rattle.std.specs.Prelude.{slice_get}
use Rattle.std.specs.List.{All}
use Rattle.pdp_cpu.specs.SavedOutput.{OutputData}
use Rattle.pdp_checkpoint.specs.declared.checkpoint.Checkpoint.{Checkpoint}

-- some of its states; what came out of it from a turn on, with its first touches; the greatest turn
-- whose events edits may have changed since; and up to which turn it was known
pub record FormerData : Type 0 where
  pub states : List Checkpoint
  pub output : OutputData
  pub edited : ℕ
  pub known : ℕ

-- how many former runs are kept at most, and how many states of each: those that a ladder kept
abbrev pub most_formers : ℕ
most_formers = 2

abbrev pub most_states : ℕ
most_states = 512

abbrev pub HasFewStates : FormerData → Type 0
HasFewStates f = length f.states ≤ most_states

-- at most two former runs, each with at most 512 states
pub record AreFewFormers (formers : List FormerData) : Type 0 where
  pub count : length formers ≤ most_formers
  pub states : All HasFewStates formers

-- once an edit may have changed the events of turns up to this one
abbrev pub former_edited : ℕ → FormerData → FormerData
former_edited turn f = record f { edited = max f.edited turn }

-- a state is one of these
pub record IsStateIn (states : List Checkpoint) (c : Checkpoint) : Type 0 where
  pub place : ℕ
  pub state : slice_get states place ≡ Some c

-- of these states, one of a turn that is not above this one, and no other is closer to it
pub record IsClosest (states : List Checkpoint) (turn : ℕ) (c : Checkpoint) : Type 0 where
  pub place : ℕ
  pub state : slice_get states place ≡ Some c
  pub below : c.turn ≤ turn
  pub greatest : All (λ d. d.turn ≤ turn → d.turn ≤ c.turn) states

-- the closest of these states to this turn, if there is one
abbrev pub IsLastBy : List Checkpoint → ℕ → Option Checkpoint → Type 0
IsLastBy states turn None = All (λ c. turn < c.turn) states
IsLastBy states turn (Some c) = IsClosest states turn c

-- the least turn of these states that is not below this one
pub record IsLeastFrom (states : List Checkpoint) (turn first : ℕ) : Type 0 where
  pub state : Checkpoint
  pub there : IsStateIn states state
  pub is : state.turn ≡ first
  pub from : turn ≤ first
  pub least : All (λ d. turn ≤ d.turn → first ≤ d.turn) states

-- the least of their turns from this one on, if there is one
abbrev pub IsFirstFrom : List Checkpoint → ℕ → Option ℕ → Type 0
IsFirstFrom states turn None = All (λ c. c.turn < turn) states
IsFirstFrom states turn (Some first) = IsLeastFrom states turn first

-- a former run is one of these
pub record IsFormerIn (formers : List FormerData) (f : FormerData) : Type 0 where
  pub place : ℕ
  pub former : slice_get formers place ≡ Some f

-- a state of these, of a turn above this one
pub record IsAbove (turn : ℕ) (states : List Checkpoint) (c : Checkpoint) : Type 0 where
  pub there : IsStateIn states c
  pub late : turn < c.turn

-- a former run is this one or one of these
abbrev pub IsLeft : FormerData → List FormerData → FormerData → Type 0
IsLeft former formers f = (f ≡ former) ⊎ IsFormerIn formers f

-- with these states
abbrev pub with_states : List Checkpoint → FormerData → FormerData
with_states states f = record f { states = states }

-- a former run was there, or it is this one with states of turns above this one, which were there
pub record IsSetAside (turn : ℕ) (states : List Checkpoint) (f g : FormerData) : Type 0 where
  pub is : g ≡ with_states g.states f
  pub late : All (IsAbove turn states) g.states

abbrev pub IsFormerAfter : ℕ → List Checkpoint → List FormerData → Option FormerData → FormerData
    → Type 0
IsFormerAfter turn states formers None g = IsFormerIn formers g
IsFormerAfter turn states formers (Some f) g = IsSetAside turn states f g ⊎ IsFormerIn formers g
