-- A run whose former runs are put aside for a while, which no other part of it depends on.
use Rattle.std.proofs.Common.{ℕ, List}
use Rattle.std.specs.List.{All}
use Rattle.pdp_checkpoint.specs.Formers.{FormerData}
use Rattle.pdp_checkpoint.proofs.Checkpoints.{checkpoints_beside}
use Rattle.pdp_replay.specs.Past.{Past}
use Rattle.pdp_replay.specs.Run.Checkpoints.{AreKept, IsFormerOf}
use Rattle.pdp_replay.specs.Run.KeptRuns.{Advances, ArrivesAt, CanGoOn, IsKeptRun, IsOnWay, with_formers}
use Rattle.pdp_replay.specs.declared.run.kept_run.KeptRun.{KeptRun}

are_kept_beside : (p : Past) (formers : List FormerData) (r : KeptRun) → All (IsFormerOf p) formers → AreKept p r.known r.machine r.ladder
    → AreKept p r.known r.machine (with_formers formers r).ladder
are_kept_beside p formers r all kept = record {
  states = record {
    states = kept.states.states;
    checkpoints = checkpoints_beside r.ladder r.ladder.near formers kept.states.checkpoints;
    count = kept.states.count;
    near = kept.states.near;
    formers = all;
  };
  texts = kept.texts;
  built = kept.built;
}

pub kept_beside : (p : Past) (formers : List FormerData) (r : KeptRun) → All (IsFormerOf p) formers → IsKeptRun p r → IsKeptRun p (with_formers formers r)
kept_beside p formers r all run = record { kept = are_kept_beside p formers r all run.kept; current = run.current }

pub way_beside : (p : Past) (formers : List FormerData) (r : KeptRun) → All (IsFormerOf p) formers → IsOnWay p r → IsOnWay p (with_formers formers r)
way_beside p formers r all on = record { kept = are_kept_beside p formers r all on.kept; here = on.here; reached = on.reached }

pub can_go_on_beside : (formers : List FormerData) (r : KeptRun) → CanGoOn r → CanGoOn (with_formers formers r)
can_go_on_beside formers r ready = record { reached = ready.reached; short = ready.short; current = ready.current }

-- how far a run came is no matter of them
pub advances_beside : (from to : ℕ) (none all : List FormerData) (before after : KeptRun) → Advances from to (with_formers none before) after
    → Advances from to before (with_formers all after)
advances_beside from to none all before after on =
    let come = on.come in
    record {
      come = record { within = come.within; known = come.known; ahead = come.ahead; current = come.current };
      turn_most = on.turn_most;
      known_least = on.known_least;
      known_most = on.known_most;
      stride = on.stride;
      ran = on.ran;
      counted = on.counted;
    }

pub arrives_beside : (to : ℕ) (none all : List FormerData) (before after : KeptRun) → ArrivesAt to (with_formers none before) after
    → ArrivesAt to before (with_formers all after)
arrives_beside to none all before after there = record { turn = there.turn; short = there.short; known = there.known }
