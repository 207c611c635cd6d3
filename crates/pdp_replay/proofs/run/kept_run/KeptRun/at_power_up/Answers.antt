use Rattle.pdp_replay.specs.Past.{Past, past_without_events}
use Rattle.pdp_replay.specs.Past.Setup.{first_setup}
use Rattle.pdp_replay.proofs.run.PoweredRuns.{powered_in_run, powered_kept}
use Rattle.pdp_replay.proofs.run.kept_run.KeptRun.at_power_up.Goals as goal

pub returns-clause-run : goal.returns-clause-run
returns-clause-run c =
    let p : Past = past_without_events (first_setup c.args.base_setup.now c.args.tape.items) in
    let m = c.in_ok-machine.machine in
    let first = c.in_ok-machine.ensures in
    let new = c.in_ok-ladder.ensures in
    record {
      kept = powered_kept p m c.new.new.machine c.in_ok-ladder.ladder first.state first.kept_text first.kept_punched first.first_touches new.machine new.kept new.near new.formers new.checkpoints;
      current = λ yes. powered_in_run p m c.new.new.machine first.state new.machine;
    }
