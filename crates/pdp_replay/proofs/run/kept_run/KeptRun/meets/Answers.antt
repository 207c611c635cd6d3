use Rattle.std.proofs.Common.{◌≡◌, arith, subst, sym}
use Rattle.pdp_cpu.specs.SavedOutput.{OutputData}
use Rattle.pdp_store.specs.FirstTouches.{all_first_touches_before}
use Rattle.pdp_store.specs.Overlays.{first_touches_over}
use Rattle.pdp_replay.proofs.run.FormerRuns.{meets_here, state_fits, touches_fit}
use Rattle.pdp_replay.proofs.run.kept_run.KeptRun.meets.Goals as goal

pub has_touches_of-requires : goal.has_touches_of-requires
has_touches_of-requires c =
    let run = c.requires.run in
    rw c.output.ensures (touches_fit run.past c.args.former.now c.args.self.now.known c.args.self.now.machine run.former run.way.kept.texts)

pub meets-requires : goal.meets-requires
meets-requires c =
    let run = c.requires.run in
    state_fits run.past c.args.former.now c.args.there.now c.args.self.now.machine run.former c.requires.state run.way.kept.built

pub returns-then-meets : goal.returns-then-meets
returns-then-meets c = λ yes p is on.
    let f = c.args.former.now in
    let r = c.args.self.now in
    let turn : r.machine.state.turn ≡ c.turns-here.result = sym c.turns-here.ensures in
    let touches = c.has_touches_of.ensures.0 yes in
    meets_here p f c.args.there.now r is on c.requires.state
    (omega (arith, turn, c.if-there-here.false))
    (omega (arith, turn, c.if-self-here.false))
    (omega (arith, turn, c.edited.ensures, c.if-here-edited.false))
    (c.meets.ensures.0 c.if-meets.true)
    (subst (λ (o : OutputData). first_touches_over r.machine.state.turn r.machine.first_touches (all_first_touches_before r.machine.state.turn o.first_touches) ≡ r.machine.first_touches) c.output.ensures touches)
