use Rattle.std.proofs.Common.{◌+◌, ◌*◌, ◌∙◌, Ok, ap, sym}
use Rattle.pdp_replay.proofs.ask.VirtualReads.{first_unreadable, one_more_word}
use Rattle.pdp_replay.proofs.ask.virtual_words.read_virtual.Goals as goal

pub returns-in-Err : goal.returns-in-Err
returns-in-Err c =
    first_unreadable c.args.words.mode c.args.words.address c.loop-index.index c.args.words.count _ c.args.machine.now.state.world.bus c.loop-index.items.items
    c.in-Err.cause (ap (λ a. a + 2 * c.loop-index.index) c.from.ensures) c.loop-index-test.true c.loop-index.invariant
    (sym c.in-Err.is ∙ c.virtual_word.ensures)

pub loop-index-preserved : goal.loop-index-preserved
loop-index-preserved c =
    one_more_word c.args.words.mode c.args.words.address c.loop-index.index _ c.args.machine.now.state.world.bus c.loop-index.items.items c.in-Ok.word
    (ap (λ a. a + 2 * c.loop-index.index) c.from.ensures) c.loop-index.invariant (sym c.in-Ok.is ∙ c.virtual_word.ensures)
    ∙ ap Ok (sym c.in_ok-push-in-Ok.ensures.items)
