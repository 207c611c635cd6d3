-- Branches: a machine beside that of a run, in a state of the run of another past.
use Rattle.std.specs.Prelude.{ℕ, ◌≡◌, ◌*◌, ◌/◌, ◌≤◌, ◌<◌, List, [], length, map, max, replicate}
use Rattle.pdp_cpu.specs.Saved.{SavedMachineData, SavedMeet, saved_machine}
use Rattle.pdp_cpu.specs.Handbook.MachineState.{MachineWithTexts}
use Rattle.pdp_script.specs.Entries.{events_at}
use Rattle.pdp_script.specs.Script.{ScriptData}
use Rattle.pdp_store.specs.FirstTouches.{first_touches_of}
use Rattle.pdp_store.specs.Stored.{no_touch_in}
use Rattle.pdp_store.specs.declared.part.WordAt.{WordAt}
use Rattle.pdp_replay.specs.Past.{Past}
use Rattle.pdp_replay.specs.Past.Setup.{drive_count, drive_words, unit_words}
use Rattle.pdp_replay.specs.Past.FirstWords.{IsThere}
use Rattle.pdp_replay.specs.Run.FirstTouches.{first_touch}
use Rattle.pdp_replay.specs.Run.KeptRuns.{IsKeptRun, IsUnderWay, KeepsStride}
use Rattle.pdp_replay.specs.Run.States.{at}
use Rattle.pdp_replay.specs.declared.past.base_setup.BaseSetup.{BaseSetup}
use Rattle.pdp_replay.specs.declared.run.branch.Branch.{Branch}
use Rattle.pdp_replay.specs.declared.run.branch.Likeness.{Likeness}
use Rattle.pdp_replay.specs.declared.run.branch.Likeness.TheVariants.{Alike, Apart}
use Rattle.pdp_replay.specs.declared.run.kept_run.KeptRun.{KeptRun}

-- the branch has the script of this past, and is in a state of its run, with what came out of it
pub record IsBranchOf (q : Past) (b : Branch) : Type 0 where
  pub script : q.script ≡ b.script
  pub known : ℕ
  pub way : IsUnderWay q known b.machine

-- a call leaves the branch in a state of each run in a state of which it was
abbrev pub KeepsBranch : Branch → Branch → Type 0
KeepsBranch before after = (q : Past) → IsBranchOf q before → IsBranchOf q after

-- a run with this script is kept, and the branch is of a machine of the same size
pub record AreBeside (script : ScriptData) (r : KeptRun) (b : Branch) : Type 0 where
  pub past : Past
  pub other : Past
  pub same : past.script ≡ script
  pub run : IsKeptRun past r
  pub branch : IsBranchOf other b
  pub units : other.setup.units ≡ past.setup.units
  pub drives : other.setup.drives ≡ past.setup.drives

-- and this is the state of the branch of this turn, to which it came at least
pub record AreBesideAt (turn : ℕ) (saved : SavedMachineData) (script : ScriptData) (r : KeptRun)
    (b : Branch) : Type 0 where
  pub beside : AreBeside script r b
  pub state : saved ≡ saved_machine (at beside.other turn)
  pub reached : turn ≤ b.machine.state.turn

-- the branch is of the run of q, came to this turn at least, and this is its state then
pub record IsBranchAt (q : Past) (turn : ℕ) (saved : SavedMachineData) (b : Branch) : Type 0 where
  pub branch : IsBranchOf q b
  pub state : saved ≡ saved_machine (at q turn)
  pub reached : turn ≤ b.machine.state.turn

-- so it is of some run
pub record WasAt (turn : ℕ) (saved : SavedMachineData) (b : Branch) : Type 0 where
  pub past : Past
  pub is : IsBranchAt past turn saved b

-- both scripts have the same events in each turn before this one
abbrev pub SameEventsBefore : ℕ → ScriptData → ScriptData → Type 0
SameEventsBefore turn some other =
    (t : ℕ) → t < turn → events_at some.entries t ≡ events_at other.entries t

-- a run with this script is kept, and it is of a machine of this size
pub record IsKeptOfSize (p : Past) (base : BaseSetup) (script : ScriptData) (r : KeptRun) : Type 0
  where
    pub same : p.script ≡ script
    pub run : IsKeptRun p r
    pub units : p.setup.units ≡ base.units
    pub drives : p.setup.drives ≡ drive_count base.drives

-- there is such a run
pub record IsRunOfSize (base : BaseSetup) (script : ScriptData) (r : KeptRun) : Type 0 where
  pub past : Past
  pub is : IsKeptOfSize past base script r

-- each run with this script that is kept, of a machine of this size, has this word
abbrev pub HasWordInEach : WordAt → BaseSetup → ScriptData → KeptRun → Type 0
HasWordInEach at base script r = (p : Past) → IsKeptOfSize p base script r → IsThere p.setup at

-- the branch has this other script, and the state and what came out of each such run before this
-- turn
abbrev pub BranchesOff : ℕ → BaseSetup → ScriptData → ScriptData → KeptRun → Branch → Type 0
BranchesOff turn base script other r b =
    (b.script ≡ other) × ((p : Past) → IsKeptOfSize p base script r → IsUnderWay p turn b.machine)

-- the branch is in the state of the run of q before this turn, with what came out of it; no turn
-- before this one touched the page of the word, which is there
pub record IsUntouchedBranch (at : WordAt) (turn : ℕ) (q : Past) (b : Branch) : Type 0 where
  pub script : q.script ≡ b.script
  pub way : IsUnderWay q turn b.machine
  pub here : b.machine.state.turn ≡ turn
  pub there : IsThere q.setup at
  pub known : ℕ
  pub untouched : turn ≤ first_touch q at.part (at.number / 256) known

-- so it is of some run
pub record IsSomewhereUntouched (at : WordAt) (turn : ℕ) (b : Branch) : Type 0 where
  pub past : Past
  pub is : IsUntouchedBranch at turn past b

-- both runs have the same state before turn n, except for stamps and what came out
abbrev pub AreAlikeAt : ℕ → Past → Past → Type 0
AreAlikeAt n p q = SavedMeet (saved_machine (at p n)) (saved_machine (at q n))

-- what the comparison of both runs in turn n told: that they are alike; or that they are not, and
-- the state of the other one
abbrev pub IsTold : ℕ → Past → Past → Likeness → Type 0
IsTold n p q Alike = AreAlikeAt n p q
IsTold n p q (Apart here) = (AreAlikeAt n p q → ⊥) × (here ≡ saved_machine (at q n))

-- so it is of each run with this script that is kept, and of each run that the branch is of
abbrev pub Compares : ℕ → ScriptData → KeptRun → Branch → Likeness → Type 0
Compares n script r b told = (p q : Past) → p.script ≡ script → IsKeptRun p r → IsBranchOf q b
    → IsTold n p q told

-- a run was looked at in turns up to this one, and what it came to is known
pub record IsLookedAt (to : ℕ) (before after : KeptRun) : Type 0 where
  pub known_least : before.known ≤ after.known
  pub known_most : after.known ≤ max before.known to
  pub stride : KeepsStride before after
  pub counted : before.meter ≤ after.meter

-- a machine with core and drives of this size and this tape, which has run no turn
pub record IsBlank (base : BaseSetup) (tape : List ℕ) (m : MachineWithTexts) : Type 0 where
  pub turn : m.state.turn ≡ 0
  pub tape_is : m.state.world.bus.tape ≡ tape
  pub core : length m.state.world.bus.core ≡ base.units * unit_words
  pub stamps : length m.state.world.bus.stamps ≡ base.units * unit_words
  pub drives : map length m.state.world.bus.drives ≡ replicate (drive_count base.drives) drive_words
  pub text : m.kept_text ≡ []
  pub punched : m.kept_punched ≡ []
  pub first_touches : m.first_touches ≡ first_touches_of (no_touch_in (base.units * unit_words))
      (replicate (drive_count base.drives) (no_touch_in drive_words))
