use Rattle.std.proofs.Common.{◌∙◌, sym}
use Rattle.pdp_session.specs.History.{pasts_from}
use Rattle.pdp_session.proofs.Commanding.{edit_done, edit_failed, edit_refused, edit_unkept}
use Rattle.pdp_session.proofs.Histories.{edited_leads, edited_pasts}
use Rattle.pdp_session.proofs.history.History.edit.Goals as goal

pub returns-in-Err-clause-reply : goal.returns-in-Err-clause-reply
returns-in-Err-clause-reply c =
    let e = c.self.inside in
    rw (← c.self.view_is) ((edit_refused c.args.edit c.in-Err.fault _ (pasts_from e.engine.past e.done.items e.undone.items) (sym c.in-Err.ensures)).0)

pub returns-in_default-reserve-clause-reply : goal.returns-in_default-reserve-clause-reply
returns-in_default-reserve-clause-reply c =
    let e = c.self.inside in
    rw (← c.self.view_is) ((edit_unkept c.args.edit (pasts_from e.engine.past e.done.items e.undone.items) (sym c.in_default.ensures)).0)

pub returns-in_default-before_edit-clause-reply : goal.returns-in_default-before_edit-clause-reply
returns-in_default-before_edit-clause-reply c =
    let e = c.self.inside in
    rw (← c.self.view_is) ((edit_unkept c.args.edit (pasts_from e.engine.past e.done.items e.undone.items) (sym c.in_default.ensures)).0)

pub invariant_of-self-then-is_refused : goal.invariant_of-self-then-is_refused
invariant_of-self-then-is_refused c =
    let e = c.self.inside in
    let failed = edit_failed c.args.edit (pasts_from e.engine.past e.done.items e.undone.items) c.run_edit-reply.result c.run_edit-reply.new.engine.past
    (sym c.in_default.ensures) c.run_edit-reply.ensures.reply c.run_edit-reply.ensures.after (sym c.if-is_refused.ensures) in
    rw (failed.1, c.reserve.ensures.items) c.self.invariant

pub returns-then-is_refused-clause-after : goal.returns-then-is_refused-clause-after
returns-then-is_refused-clause-after c =
    let e = c.self.inside in
    let s = pasts_from e.engine.past e.done.items e.undone.items in
    let failed = edit_failed c.args.edit s c.run_edit-reply.result c.run_edit-reply.new.engine.past
    (sym c.in_default.ensures) c.run_edit-reply.ensures.reply c.run_edit-reply.ensures.after (sym c.if-is_refused.ensures) in
    rw (← c.self.view_is, failed.0, failed.1, c.reserve.ensures.items) ((edit_unkept c.args.edit s (sym c.in_default.ensures)).1)

pub invariant_of-self-2 : goal.invariant_of-self-2
invariant_of-self-2 c =
    let e = c.self.inside in
    let now = c.run_edit-reply.new.engine.past in
    let before = c.in-Ok-before_edit.before in
    let done = edit_done c.args.edit (pasts_from e.engine.past e.done.items e.undone.items) c.run_edit-reply.result now
    (sym c.in_default.ensures) c.run_edit-reply.ensures.reply c.run_edit-reply.ensures.after (sym c.if-is_refused.ensures) in
    let pushed = rw c.reserve.ensures.items at c.keep.ensures.done in
    edited_leads before e.engine.past now e.done.items c.keep.new.done.items c.keep.new.undone.items (c.in-Ok-before_edit.ensures now done.is) pushed c.keep.ensures.undone
    c.self.invariant.0

pub returns-clause-after : goal.returns-clause-after
returns-clause-after c =
    let e = c.self.inside in
    let now = c.run_edit-reply.new.engine.past in
    let before = c.in-Ok-before_edit.before in
    let done = edit_done c.args.edit (pasts_from e.engine.past e.done.items e.undone.items) c.run_edit-reply.result now
    (sym c.in_default.ensures) c.run_edit-reply.ensures.reply c.run_edit-reply.ensures.after (sym c.if-is_refused.ensures) in
    let pushed = rw c.reserve.ensures.items at c.keep.ensures.done in
    rw (← c.self.view_is)
    (edited_pasts before e.engine.past now e.done.items c.keep.new.done.items e.undone.items c.keep.new.undone.items (c.in-Ok-before_edit.ensures now done.is) pushed
    c.keep.ensures.undone ∙ done.after)
