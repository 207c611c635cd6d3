use Rattle.std.proofs.Common.{◌∙◌, ◌++◌, ap, option_to_list}
use Rattle.pdp_replay.proofs.ask.MovesListed.{beginning_listed}
use Rattle.pdp_replay.proofs.ask.moves.list_beginning.Goals as goal

pub returns : goal.returns
returns c =
    beginning_listed c.args.details.now.items c.add_if_there.new.items.items c.add_if_there-2.new.items.items
    c.add_if_there-3.new.items.items c.add_if_there-4.new.items.items c.args.beginning
    (c.in_ok-add_if_there.ensures.items ∙ ap (λ it. c.args.details.now.items ++ option_to_list it) c.key_detail.ensures)
    (c.in_ok-add_if_there-2.ensures.items ∙ ap (λ it. c.add_if_there.new.items.items ++ option_to_list it) c.switches_detail.ensures)
    (c.in_ok-add_if_there-3.ensures.items ∙ ap (λ it. c.add_if_there-2.new.items.items ++ option_to_list it) c.reader_detail.ensures)
    (c.in_ok-add_if_there-4.ensures.items ∙ ap (λ it. c.add_if_there-3.new.items.items ++ option_to_list it) c.disk_detail.ensures)
