-- Searches backwards, for the last of some turns that has a property [P].
use Rattle.std.specs.Prelude.{ℕ, zero, suc, ◌≡◌, ◌+◌, ◌*◌, ◌<◌, ◌≤◌, Bool, true, Option, Some, None}
use Rattle.std.specs.Prelude.{max, min, unwrap_or, if◌then◌else◌}
use Rattle.pdp_script.specs.Script.{ScriptData}
use Rattle.pdp_replay.specs.Past.{Past}
use Rattle.pdp_replay.specs.Timeline.{Timeline}
use Rattle.pdp_replay.specs.Run.KeptRuns.{IsKeptRun, IsOnWay}
use Rattle.pdp_replay.specs.Ask.Searches.{HoldsNowhere}
use Rattle.pdp_replay.specs.Ask.SoughtTurns.{is_sought_at}
use Rattle.pdp_replay.specs.Ask.Watches.{is_watched_at}
use Rattle.pdp_replay.specs.declared.ask.sought.Sought.{Sought}
use Rattle.pdp_replay.specs.declared.ask.watch.Watchpoint.{Watchpoint}
use Rattle.pdp_replay.specs.declared.run.kept_run.KeptRun.{KeptRun}

-- turn t is the last from one on and before another that has the property
pub record IsLastOfTurns (holds : ℕ → Bool) (from to t : ℕ) : Type 0 where
  pub least : from ≤ t
  pub most : t < to
  pub there : holds t ≡ true
  pub none : HoldsNowhere holds (t + 1) to

-- this is the last turn from one on and before another that has the property; None if none has it
abbrev pub IsLastOf : (ℕ → Bool) → ℕ → ℕ → Option ℕ → Type 0
IsLastOf holds from to (Some t) = IsLastOfTurns holds from to t
IsLastOf holds from to None = HoldsNowhere holds from to

-- the same turn, computed: the last of `n` turns from one on that has the property
unfoldable pub last_of_turns : (ℕ → Bool) → ℕ → ℕ → Option ℕ
last_of_turns holds from zero = None
last_of_turns holds from (suc n) =
    if holds (from + n) then Some (from + n) else last_of_turns holds from n

-- this is the last turn that is watched for in every run with this script that is kept, of those
-- from its machine's turn to another one
abbrev pub IsLastTo : ℕ → ScriptData → Watchpoint → KeptRun → Option ℕ → Type 0
IsLastTo to script watch r found = (p : Past) → p.script ≡ script → IsOnWay p r
    → IsLastOf (is_watched_at p watch) r.machine.state.turn to found

-- this is the last turn that is sought, of those from one on and before another, in every run with
-- this script that is kept
abbrev pub IsLastSought : ℕ → ℕ → ScriptData → Sought → KeptRun → Option ℕ → Type 0
IsLastSought from to script sought r found = (p : Past) → p.script ≡ script → IsKeptRun p r
    → IsLastOf (is_sought_at p sought) from to found

-- a search back to turn `from` ran at most two strides of turns more than those up to turn `to`, if
-- that was known; otherwise at most three, beside the turns up to it that were not known
pub record IsWithinBack (from to known before after stride : ℕ) : Type 0 where
  pub known_all : to ≤ known → after + from ≤ before + to + 2 * stride
  pub known_less : after + from + min to known ≤ before + to + to + 3 * stride

-- the same bound of a run that is kept, and of a timeline
abbrev pub RunsBack : ℕ → ℕ → KeptRun → KeptRun → Type 0
RunsBack from to before after =
    IsWithinBack from to before.known before.meter after.meter after.ladder.stride

abbrev pub IsWithinBackwards : ℕ → ℕ → Timeline → Timeline → Type 0
IsWithinBackwards from to before after =
    IsWithinBack from to before.known before.turns after.turns after.stride

-- what a search backwards that found this turn, if any, ran: back to that turn; all turns up to
-- turn `to` are known now
pub record IsFoundBackwards (from to : ℕ) (found : Option ℕ) (before after : Timeline) : Type 0
  where
    pub bound : IsWithinBackwards (unwrap_or found from) to before after
    pub known : after.known ≡ max before.known to
