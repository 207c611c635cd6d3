-- What came out of a machine from a turn on, and its first touches, apart from the machine.
use Rattle.std.specs.Prelude.{ℕ, ◌≡◌, ◌-◌, ◌++◌, List, drop, length, take}
use Rattle.pdp_store.specs.FirstTouches.{FirstTouches, all_first_touches_before}
use Rattle.pdp_store.specs.Overlays.{first_touches_over}
use Rattle.pdp_cpu.specs.KeptTexts.{kept_before}
use Rattle.pdp_cpu.specs.Saved.{SavedMachineData}
use Rattle.pdp_cpu.specs.Handbook.MachineState.{MachineWithTexts}
use Rattle.pdp_cpu.specs.declared.kept_text.KeptByte.{KeptByte}

-- the printed and the punched bytes after the first `text_from` and `punched_from`, and all first
-- touches
pub record OutputData : Type 0 where
  pub text : List KeptByte
  pub text_from : ℕ
  pub punched : List KeptByte
  pub punched_from : ℕ
  pub first_touches : FirstTouches

-- of bytes that are kept those that came out in this turn and later
abbrev pub bytes_from : ℕ → List KeptByte → List KeptByte
bytes_from turn bytes = drop (length (kept_before turn bytes)) bytes

-- what a machine keeps of this turn and of later turns
abbrev pub output_from : ℕ → MachineWithTexts → OutputData
output_from turn m = record {
  text = bytes_from turn m.kept_text;
  text_from = length (kept_before turn m.kept_text);
  punched = bytes_from turn m.kept_punched;
  punched_from = length (kept_before turn m.kept_punched);
  first_touches = m.first_touches;
}

-- of a list whose bytes come after the first `from` ones, those after the first `first` and up to
-- the first `last`
abbrev pub bytes_between : ℕ → ℕ → ℕ → List KeptByte → List KeptByte
bytes_between from first last bytes = drop (first - from) (take (last - from) bytes)

-- a machine takes of what came out of another run the bytes from the saved machine `there` to
-- `next`, and the first touches of the turns from its own to that of `next`
pub record TakesOutput (there next : SavedMachineData) (o : OutputData)
    (before after : MachineWithTexts) : Type 0 where
  pub state : after.state ≡ before.state
  pub text : after.kept_text
      ≡ before.kept_text ++ bytes_between o.text_from there.text_length next.text_length o.text
  pub punched : after.kept_punched ≡ before.kept_punched
      ++ bytes_between o.punched_from there.punched_length next.punched_length o.punched
  pub first_touches : after.first_touches ≡ first_touches_over before.state.turn
      before.first_touches (all_first_touches_before next.turn o.first_touches)
