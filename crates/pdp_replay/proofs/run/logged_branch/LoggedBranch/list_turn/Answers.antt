use Rattle.std.proofs.Common.{◌∙◌, ◌++◌, drop, map, ap, option_to_list}
use Rattle.pdp_replay.specs.declared.ask.accesses.TurnDetail.TheVariants as detail
use Rattle.pdp_replay.specs.declared.ask.text_part.TextKind.TheVariants.{Printed, Punched}
use Rattle.pdp_replay.proofs.ask.TurnAccesses.{bytes_left, details_listed}
use Rattle.pdp_replay.proofs.run.logged_branch.LoggedBranch.list_turn.Goals as goal

pub returns : goal.returns
returns c =
    let m = c.args.self.now.machine.state in
    let told = c.args.told in
    let printed = bytes_left c.text-printed.result.now told.printed m.text c.text-printed.ensures.bytes in
    let punched = bytes_left c.punched-punched.result.now told.punched m.punched c.punched-punched.ensures.bytes in
    details_listed c.args.details.now.items c.push.new.self.items c.list_events.new.details.items c.list_output.new.details.items
    c.list_output-2.new.details.items c.add_if_there.new.items.items c.list_cycles.new.details.items
    told.head c.args.events.now (drop told.printed m.text) (drop told.punched m.punched) told.disk m.world.bus.log.told
    c.in_ok-push.ensures.items
    c.in_ok-list_events.ensures
    (c.in_ok-list_output.ensures ∙ ap (λ bytes. c.list_events.new.details.items ++ map (detail.Output Printed) bytes) printed)
    (c.in_ok-list_output-2.ensures ∙ ap (λ bytes. c.list_output.new.details.items ++ map (detail.Output Punched) bytes) punched)
    (c.in_ok-add_if_there.ensures.items ∙ ap (λ it. c.list_output-2.new.details.items ++ option_to_list it) c.completion_detail.ensures)
    (c.in_ok-list_cycles.ensures ∙ ap (λ cycles. c.add_if_there.new.items.items ++ map detail.Cycle cycles) c.cycles.ensures)
