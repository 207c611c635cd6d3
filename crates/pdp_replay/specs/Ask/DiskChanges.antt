-- The turns that change a word of a drive [P].
use Rattle.std.specs.Prelude.{ℕ, ◌≡◌, ◌+◌, ◌==◌, ◌<◌, Bool, Result, not, slice_index}
use Rattle.pdp_operand.specs.Phases.World.{World}
use Rattle.pdp_script.specs.Refusal.{result_map}
use Rattle.pdp_script.specs.Script.{ScriptData}
use Rattle.pdp_script.specs.declared.faults.Fault.{Fault}
use Rattle.pdp_replay.specs.Past.{Past}
use Rattle.pdp_replay.specs.Past.Edit.{disk_word_at}
use Rattle.pdp_replay.specs.Past.Setup.{SetupData, drive_words}
use Rattle.pdp_replay.specs.Run.KeptRuns.{IsKeptRun}
use Rattle.pdp_replay.specs.Run.States.{disk_of, state_at}
use Rattle.pdp_replay.specs.Ask.Searches.{search_checked}
use Rattle.pdp_replay.specs.Ask.Writes.{then_checked}
use Rattle.pdp_replay.specs.declared.run.kept_run.KeptRun.{KeptRun}

-- the word of this number of a drive
abbrev pub word_on : ℕ → ℕ → World → ℕ
word_on drive number w = slice_index (disk_of w drive) number

-- does turn t change the word of this number of a drive? After the turn it isn't the word that it
-- was before the turn
abbrev pub word_changes : ℕ → ℕ → Past → ℕ → Bool
word_changes drive number p t = not (word_on drive number (state_at p t)
    == word_on drive number (state_at p (t + 1)))

-- can turns from one on and before another be searched for a change of this word?
abbrev pub change_checked : ℕ → ℕ → ℕ → ℕ → SetupData → Result (Unit {0}) Fault
change_checked drive number from to s = then_checked (search_checked from to) (result_map (λ _. tt)
    (disk_word_at drive number s))

-- a word can be watched in a run with this script: it is on a drive that is there
pub record CanWatch (drive number : ℕ) (script : ScriptData) (r : KeptRun) : Type 0 where
  pub past : Past
  pub same : past.script ≡ script
  pub run : IsKeptRun past r
  pub there : drive < past.setup.drives
  pub within : number < drive_words
