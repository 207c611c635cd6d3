-- From which turn on a run with an edit would be the run without it [P].
use Rattle.std.specs.Prelude.{ℕ, ◌≡◌, ◌+◌, ◌&&◌, ◌<◌, ◌≤◌, ◌↔◌, Bool, true, false, Option, Some}
use Rattle.std.specs.Prelude.{None, Result, Err, nat_le, if◌then◌else◌}
use Rattle.pdp_cpu.specs.Saved.{saved_machine}
use Rattle.pdp_script.specs.Entries.{events_from}
use Rattle.pdp_script.specs.Refusal.{result_map}
use Rattle.pdp_script.specs.Script.{ScriptData}
use Rattle.pdp_script.specs.declared.faults.Fault.{Fault}
use Rattle.pdp_script.specs.declared.faults.Fault.TheVariants.{TurnTooLarge}
use Rattle.pdp_unibus.specs.Handbook.LastTurn.{last_turn}
use Rattle.pdp_replay.specs.Ask.Searches.{first_turn_of}
use Rattle.pdp_replay.specs.Past.{Past}
use Rattle.pdp_replay.specs.Past.Edit.{past_edit}
use Rattle.pdp_replay.specs.Run.Branches.{AreAlikeAt, AreBesideAt, IsBranchOf}
use Rattle.pdp_replay.specs.Run.Decided.{are_same_events, do_meet}
use Rattle.pdp_replay.specs.Run.KeptRuns.{IsKeptRun}
use Rattle.pdp_replay.specs.Run.States.{at}
use Rattle.pdp_replay.specs.declared.ask.fading.Bracket.{Bracket}
use Rattle.pdp_replay.specs.declared.past.past_edit.PastEdit.{PastEdit}
use Rattle.pdp_replay.specs.declared.run.branch.Branch.{Branch}
use Rattle.pdp_replay.specs.declared.run.kept_run.KeptRun.{KeptRun}

-- the runs of two pasts are one from turn n on: they have the same state before it, except for
-- stamps and what came out, and their scripts have the same events in turn n and in later ones
pub record AreJoined (n : ℕ) (p q : Past) : Type 0 where
  pub state : AreAlikeAt n p q
  pub events : events_from p.script.entries n ≡ events_from q.script.entries n

-- whether they are
unfoldable pub are_joined : Past → Past → ℕ → Bool
are_joined p q n =
    do_meet (saved_machine (at p n)) (saved_machine (at q n))
    && are_same_events (events_from p.script.entries n) (events_from q.script.entries n)

abbrev pub JoinedIsDecided : Type 0
JoinedIsDecided = (p q : Past) (n : ℕ) → (are_joined p q n ≡ true) ↔ AreJoined n p q

-- once they are one, with the same tape, they stay so
abbrev pub JoinedStayJoined : Type 0
JoinedStayJoined = (p q : Past) (n k : ℕ) → p.setup.tape ≡ q.setup.tape → n ≤ k → AreJoined n p q
    → AreJoined k p q

-- the past with the edit that is asked about, up to turn `to`
abbrev pub fading_checked : PastEdit → ℕ → Past → Result Past Fault
fading_checked edit to p = (if nat_le to last_turn then past_edit edit p else Err TurnTooLarge)

-- the least turn up to turn `to` from which on both runs are one
abbrev pub joined_by : ℕ → Past → Past → Option ℕ
joined_by to p q = first_turn_of (are_joined p q) 0 (to + 1)

-- the least turn up to turn `to` from which on the run with this edit is the run without it, if the
-- edit can be made
unfoldable pub fading : PastEdit → ℕ → Past → Result (Option ℕ) Fault
fading edit to p = result_map (joined_by to p) (fading_checked edit to p)

-- one run is kept, the other one is that of the branch; they are not one in turn `from`, but their
-- scripts have the same events after it
pub record AreApart (from : ℕ) (p q : Past) (script : ScriptData) (r : KeptRun) (b : Branch)
    : Type 0
  where
    pub tape : p.setup.tape ≡ q.setup.tape
    pub same : p.script ≡ script
    pub run : IsKeptRun p r
    pub branch : IsBranchOf q b
    pub apart : are_joined p q from ≡ false
    pub events : events_from p.script.entries (from + 1) ≡ events_from q.script.entries (from + 1)

-- in the one turn the runs are not one yet, with this state of the other one, and in the other turn
-- they are
pub record IsBracket (to : ℕ) (p q : Past) (b : Bracket) : Type 0 where
  pub order : b.apart < b.alike
  pub most : b.alike ≤ to
  pub apart_is : are_joined p q b.apart ≡ false
  pub alike_is : are_joined p q b.alike ≡ true
  pub state_is : b.state ≡ saved_machine (at q b.apart)

-- a bracket, or that the runs are not one in turn `to` either
abbrev pub IsBracketOrNone : ℕ → Past → Past → Option Bracket → Type 0
IsBracketOrNone to p q (Some b) = IsBracket to p q b
IsBracketOrNone to p q None = are_joined p q to ≡ false

-- the bracket, if there is one, lies between these turns, and the branch came to its first one
pub record IsBracketIn (from to : ℕ) (script : ScriptData) (r : KeptRun) (b : Branch)
    (found : Bracket) : Type 0 where
  pub least : from ≤ found.apart
  pub order : found.apart < found.alike
  pub most : found.alike ≤ to
  pub beside : AreBesideAt found.apart found.state script r b

abbrev pub AreBesideIn : ℕ → ℕ → ScriptData → KeptRun → Branch → Option Bracket → Type 0
AreBesideIn from to script r b (Some found) = IsBracketIn from to script r b found
AreBesideIn from to script r b None = Unit {0}

-- the runs are one in turn t, and not in the turn before it
pub record IsEdge (to : ℕ) (p q : Past) (t : ℕ) : Type 0 where
  pub before : ℕ
  pub next : t ≡ before + 1
  pub most : t ≤ to
  pub apart : are_joined p q before ≡ false
  pub joined : are_joined p q t ≡ true
