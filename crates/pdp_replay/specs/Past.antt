-- The past: what determines a run, its setup with the delays and the patches, and its script [P].
use Rattle.std.specs.Prelude.{ℕ, List, [], Result}
use Rattle.std.specs.declared.hash.BuildHasherDefault.{BuildHasherDefault}
use Rattle.std.specs.declared.hash.FoldHasher.{FoldHasher}
use Rattle.indexmap.specs.IndexMap.{IndexMap}
use Rattle.pdp_script.specs.Refusal.{result_map}
use Rattle.pdp_script.specs.Script.{ScriptData}
use Rattle.pdp_script.specs.declared.faults.Fault.{Fault}
use Rattle.pdp_io_page.specs.declared.delays.Delays.{Delays}
use Rattle.pdp_replay.specs.Past.Setup.{SetupData, setup_from, setup_checked}
use Rattle.pdp_store.specs.declared.part.WordAt.{WordAt}
use Rattle.pdp_replay.specs.declared.past.base_setup.BaseSetup.{BaseSetup}
pub mod PatchedWords
pub mod Setup
pub mod FirstWords
pub mod Image
pub mod Edit
pub mod Restored

pub record Past : Type 0 where
  pub setup : SetupData
  pub script : ScriptData

-- a base setup with the tape, the delays, the patches and the script of an engine
abbrev pub past_from : BaseSetup → List ℕ → Delays → IndexMap WordAt ℕ
    (BuildHasherDefault FoldHasher) → ScriptData → Past
past_from base_setup tape delays patches script = record {
  setup = setup_from base_setup tape delays
      patches;
  script = script;
}

-- without events, and no number given
abbrev pub past_without_events : SetupData → Past
past_without_events setup = record { setup = setup; script = record { entries = []; given = 0 } }

-- the past that a run begins with, or why there is none
abbrev pub starting_past : SetupData → Result Past Fault
starting_past setup = result_map past_without_events (setup_checked setup)

abbrev pub with_setup : Past → SetupData → Past
with_setup p setup = record p { setup = setup }

abbrev pub with_script : Past → ScriptData → Past
with_script p script = record p { script = script }

-- the past with an edited setup, or with an edited script; or the edit's refusal
abbrev pub of_setup : Past → Result SetupData Fault → Result Past Fault
of_setup p edited = result_map (with_setup p) edited

abbrev pub of_script : Past → Result ScriptData Fault → Result Past Fault
of_script p edited = result_map (with_script p) edited
