use Rattle.std.proofs.Common.{◌≡◌, ◌<◌, ◌∙◌, ◌&&◌, ap₂, arith, false, nat_le, refl, sym}
use Rattle.pdp_checkpoint.specs.Ladder.{next_of}
use Rattle.pdp_replay.proofs.run.Checkpoints.{found_fits}
use Rattle.pdp_replay.proofs.run.OnWay.{on_way_loaded, turn_loaded}
use Rattle.pdp_replay.proofs.ask.Resuming.{known_is_below, resumed_kept, says_between}
use Rattle.pdp_replay.proofs.run.kept_run.KeptRun.resume.Goals as goal

-- the machine is at the turn of the state that was loaded
at_kept : (c : goal.After-self-1) → c.load.new.self.state.turn ≡ c.closest-closest.result.now.turn
at_kept c =
    turn_loaded c.requires.run.past c.args.self.now c.load.new.self _ _ c.requires.run.run.kept c.closest-closest.ensures.closest.state c.load.ensures.state

pub load-requires : goal.load-requires
load-requires c =
    let run = c.args.self.now in
    found_fits c.requires.run.past run.known run.machine run.ladder _ _ c.requires.run.run.kept c.closest-closest.ensures.closest.state

pub returns-clause-way : goal.returns-clause-way
returns-clause-way c = λ p run.
    let closest = c.closest-closest.ensures.closest in
    let load = c.load.ensures in
    on_way_loaded p c.args.self.now _ _ _ run.kept closest.state (omega (arith, closest.below, c.min.ensures)) refl refl load.state load.kept_text load.kept_punched load.first_touches

pub returns-clause-resumed : goal.returns-clause-resumed
returns-clause-resumed c =
    let r = c.args.self.now in
    let closest = c.closest-closest.ensures in
    let turn = at_kept c in
    let next = known_is_below r c.requires.run in
    let low : c.min.result < next_of r.ladder = omega (arith, c.min.ensures, next) in
    let near = closest.near low in
    let earlier : says_between r c.closest-closest.result.now.turn c.args.turn ≡ false =
    ap₂ (λ turn stays. nat_le c.closest-closest.result.now.turn turn && stays) (sym c.turns-here.ensures) (sym c.is_current_by-stays.ensures)
    ∙ sym c.is_later.ensures ∙ c.if-is_later.false in
    let least = resumed_kept r c.args.turn c.closest-closest.result.now.turn (rw (← c.min.ensures) closest.later) earlier in
    record {
      turn = omega (arith, turn, least);
      most = omega (arith, turn, closest.closest.below, c.min.ensures);
      near = omega (arith, turn, near, c.min.ensures);
      ladder = refl;
      known = refl;
      meter = refl;
    }

pub returns-clause-ready : goal.returns-clause-ready
returns-clause-ready c =
    let turn = at_kept c in
    let next = known_is_below c.args.self.now c.requires.run in
    record {
      reached = omega (arith, turn, c.closest-closest.ensures.closest.below, c.min.ensures);
      short = omega (arith, turn, next, c.closest-closest.ensures.closest.below, c.min.ensures);
      current = refl;
    }
