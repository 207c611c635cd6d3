use Rattle.std.proofs.Common.{◌≡◌, ◌∙◌, ◌*◌, ap, ap₂, length, map, replicate}
use Rattle.pdp_store.specs.FirstTouches.{first_touches_of}
use Rattle.pdp_store.specs.Stored.{no_touch_in}
use Rattle.pdp_cpu.specs.Handbook.MachineState.{MachineState}
use Rattle.pdp_replay.specs.Past.Setup.{drive_words, unit_words}
use Rattle.pdp_replay.proofs.run.BranchingOff.{BlankCore, blank_core, map_twice}
use Rattle.pdp_replay.proofs.run.branch.blank_machine.Goals as goal

pub returns : goal.returns
returns c =
    let state = c.at_power_up.ensures.state in
    let size : c.from.result * unit_words ≡ c.args.base_setup.now.units * unit_words = ap (λ n. n * unit_words) c.from.ensures in
    let core : BlankCore (c.args.base_setup.now.units * unit_words) c.in_ok-core.core = blank_core (c.from.result * unit_words) (c.args.base_setup.now.units * unit_words) c.in_ok-core.core c.in_ok-core.ensures size in
    record {
      turn = ap (λ (s : MachineState). s.turn) state;
      tape_is = ap (λ (s : MachineState). s.world.bus.tape) state;
      core = ap (λ (s : MachineState). length s.world.bus.core) state ∙ core.words;
      stamps = ap (λ (s : MachineState). length s.world.bus.stamps) state ∙ core.stamps;
      drives = ap (λ (s : MachineState). map length s.world.bus.drives) state ∙ map_twice length _ c.in_ok-drives.drives.items
          ∙ c.in_ok-drives.ensures.sizes ∙ ap (λ n. replicate n drive_words) c.count.ensures;
      text = c.at_power_up.ensures.kept_text;
      punched = c.at_power_up.ensures.kept_punched;
      first_touches = c.at_power_up.ensures.first_touches
          ∙ ap₂ first_touches_of core.touches (c.in_ok-drives.ensures.touches ∙ ap (λ n. replicate n (no_touch_in drive_words)) c.count.ensures);
    }
