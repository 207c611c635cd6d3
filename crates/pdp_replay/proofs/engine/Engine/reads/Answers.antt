use Rattle.std.proofs.Common.{take, ◌/◌, ◌-◌, ◌≡◌, refl, subst}
use Rattle.pdp_replay.specs.Past.{Past, past_from}
use Rattle.pdp_replay.specs.Timeline.{Timeline}
use Rattle.pdp_replay.specs.Ask.Reads.{read_in, reads_in_turns}
use Rattle.pdp_replay.proofs.ask.ListedTurns.{all_listed}
use Rattle.pdp_replay.proofs.engine.Engine.reads.Goals as goal

pub returns-clause-value : goal.returns-clause-value
returns-clause-value c =
    let e = c.self.inside in
    let p : Past = past_from e.base_setup e.run.machine.state.world.bus.tape e.delays e.patches e.script in
    let value = c.in_ok-value.value in
    let found = c.in_ok-value.ensures in
    rw c.of.ensures.value (
    subst (λ (t : Timeline). value.reads.items ≡ take 256 (reads_in_turns t.past (c.args.address / 2) c.args.from (c.args.to - c.args.from))) c.self.view_is
    (subst (λ k. value.reads.items ≡ take 256 (reads_in_turns p k c.args.from (c.args.to - c.args.from))) c.in_ok-number.ensures.number
    (all_listed (read_in p c.in_ok-number.number) c.args.from value.reached c.args.to value.reads.items
    found.least found.within_to found.early found.most (found.reads p (record { same = refl; run = c.self.invariant.run; units = refl; drives = refl })))))
