-- A run that goes on from states of a former run, which it meets.
use Rattle.std.specs.Prelude.{ℕ, ◌≡◌, ◌≤◌, ◌<◌, List}
use Rattle.std.specs.List.{All}
use Rattle.pdp_checkpoint.specs.Formers.{FormerData, IsStateIn}
use Rattle.pdp_checkpoint.specs.Ladder.{next_of}
use Rattle.pdp_checkpoint.specs.declared.checkpoint.Checkpoint.{Checkpoint}
use Rattle.pdp_replay.specs.Past.{Past}
use Rattle.pdp_replay.specs.Run.Checkpoints.{IsFormerOf}
use Rattle.pdp_replay.specs.Run.KeptRuns.{IsKeptRun, IsOnWay}
use Rattle.pdp_replay.specs.Run.Meetings.{MeetAt, TouchesNoMore}
use Rattle.pdp_replay.specs.declared.run.kept_run.KeptRun.{KeptRun}

-- a run is on its way, and has these former runs
pub record HasFormers (runs : List FormerData) (r : KeptRun) : Type 0 where
  pub past : Past
  pub formers : All (IsFormerOf past) runs
  pub way : IsOnWay past r

pub record HasFormer (f : FormerData) (r : KeptRun) : Type 0 where
  pub past : Past
  pub former : IsFormerOf past f
  pub way : IsOnWay past r

-- a run is on its way
pub record IsSomeWay (r : KeptRun) : Type 0 where
  pub past : Past
  pub way : IsOnWay past r

-- the run of p is at the turn up to which it is known, and meets a former run there, in this state
pub record MeetsFormer (p : Past) (f : FormerData) (there : Checkpoint) (r : KeptRun) : Type 0 where
  pub former : IsFormerOf p f
  pub way : IsOnWay p r
  pub state : IsStateIn f.states there
  pub turn : there.turn ≡ r.machine.state.turn
  pub known : r.known ≡ r.machine.state.turn
  pub meet : MeetAt r.machine.state.turn p former.past
  pub touches : TouchesNoMore r.machine.state.turn p former.past

pub record MeetsSomewhere (f : FormerData) (there : Checkpoint) (r : KeptRun) : Type 0 where
  pub past : Past
  pub meets : MeetsFormer past f there r

-- a later state of a former run, up to this turn and to the next turn whose state is to be kept
pub record IsLaterState (to : ℕ) (f : FormerData) (there next : Checkpoint) (r : KeptRun) : Type 0
  where
    pub state : IsStateIn f.states next
    pub later : there.turn < next.turn
    pub most : next.turn ≤ to
    pub short : next.turn ≤ next_of r.ladder

-- what is kept is still that of each run that has these former runs and was on its way, and it is
-- on its way still
abbrev pub FollowsEachKept : List FormerData → KeptRun → KeptRun → Type 0
FollowsEachKept formers before after =
    (p : Past) → All (IsFormerOf p) formers → IsOnWay p before → IsKeptRun p after

abbrev pub FollowsEach : List FormerData → KeptRun → KeptRun → Type 0
FollowsEach formers before after =
    (p : Past) → All (IsFormerOf p) formers → IsOnWay p before → IsOnWay p after

-- the same of one former run
abbrev pub FollowsOneKept : FormerData → KeptRun → KeptRun → Type 0
FollowsOneKept f before after = (p : Past) → IsFormerOf p f → IsOnWay p before → IsKeptRun p after

abbrev pub FollowsOne : FormerData → KeptRun → KeptRun → Type 0
FollowsOne f before after = (p : Past) → IsFormerOf p f → IsOnWay p before → IsOnWay p after
