use Rattle.pdp_replay.proofs.Engines.{fresh_engine}
use Rattle.pdp_replay.proofs.past.Setups.{good_is}
use Rattle.pdp_replay.specs.Past.Setup.{given_setup}
use Rattle.pdp_replay.specs.declared.past.base_setup.DriveCount.TheVariants.{One}
use Rattle.pdp_replay.proofs.engine.Engine.new.Goals as goal

pub at_power_up-requires-clause-good : goal.at_power_up-requires-clause-good
at_power_up-requires-clause-good c = good_is (given_setup c.args.setup) c.in_ok-check.ensures

pub invariant_of-result : goal.invariant_of-result
invariant_of-result c =
    let setup = c.args.setup in
    let run = c.in_ok-run in
    fresh_engine (record { units = setup.units; start = setup.start; core = setup.core; disks = setup.disks; drives = One; stride = setup.stride }) setup.tape.items
    run.run' c.standard.result c.new.result c.new-2.result
    (good_is (given_setup setup) c.in_ok-check.ensures) run.ensures.run run.ensures.stride run.ensures.known
    c.standard.ensures c.new.ensures.empty c.new-2.ensures.empty c.new-2.ensures.none_given
