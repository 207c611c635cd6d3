use Rattle.std.proofs.Common.{arith, sym, ◌<◌}
use Rattle.pdp_replay.specs.Past.FirstWords.{IsThere}
use Rattle.pdp_replay.specs.Past.Setup.{SetupData, setup_from}
use Rattle.pdp_replay.proofs.past.Patches.{entry_there, number_is_small}
use Rattle.pdp_replay.proofs.engine.Engine.patch.Goals as goal

pub overflow_cast-number : goal.overflow_cast-number
overflow_cast-number c =
    let old = c.self.inside in
    let s : SetupData = setup_from old.base_setup old.run.machine.state.world.bus.tape old.delays old.patches in
    let at = c.in_ok-at.at.now in
    let there : IsThere s at = entry_there s _ _ (at, c.in_ok-at.word.now) c.self.invariant.there (sym c.in_ok-at.ensures.entry) in
    let small : at.number < 1247232 = number_is_small s c.self.invariant.good.units at.part at.number there in
    omega (arith, small)

pub overflow_mul-result : goal.overflow_mul-result
overflow_mul-result c =
    let old = c.self.inside in
    let s : SetupData = setup_from old.base_setup old.run.machine.state.world.bus.tape old.delays old.patches in
    let at = c.in_ok-at.at.now in
    let there : IsThere s at = entry_there s _ _ (at, c.in_ok-at.word.now) c.self.invariant.there (sym c.in_ok-at.ensures.entry) in
    let small : at.number < 1247232 = number_is_small s c.self.invariant.good.units at.part at.number there in
    omega (arith, small)
