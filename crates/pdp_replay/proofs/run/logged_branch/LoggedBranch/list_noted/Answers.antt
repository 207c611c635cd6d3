use Rattle.std.proofs.Common.{◌∙◌, ◌++◌, ap, map}
use Rattle.pdp_moves.specs.CourseMoves.{sources_of_act}
use Rattle.pdp_turn_moves.specs.ActMoves.{moves_of_act}
use Rattle.pdp_replay.specs.declared.ask.moves.MoveDetail.TheVariants as moved
use Rattle.pdp_replay.proofs.ask.MovesListed.{turn_listed}
use Rattle.pdp_replay.proofs.run.logged_branch.LoggedBranch.list_noted.Goals as goal

pub returns : goal.returns
returns c =
    let noted = c.args.noted.now in
    let m = c.args.self.now.machine.state in
    turn_listed c.args.details.now.items c.push.new.self.items c.list_beginning.new.details.items c.list_act.new.details.items
    c.args.turn noted.beginning (moves_of_act (sources_of_act noted.act.noted) m.world.bus.log.told)
    c.in_ok-push.ensures.items
    c.in_ok-list_beginning.ensures
    (c.in_ok-list_act.ensures
    ∙ ap (λ moves. c.list_beginning.new.details.items ++ map moved.Act moves)
    (c.as_slice.ensures.value ∙ c.in_ok-moves.ensures ∙ ap (moves_of_act (sources_of_act noted.act.noted)) c.cycles.ensures))
