use Rattle.std.proofs.Common.{◌∙◌, Err, Ok, Option, ap, refl, subst, sym, ℕ}
use Rattle.std.proofs.lemmas.Result.{err_from_is_err_and}
use Rattle.pdp_script.specs.Script.{script_edited}
use Rattle.pdp_replay.specs.Past.{with_script}
use Rattle.pdp_replay.specs.Past.Edit.{past_with_patch}
use Rattle.pdp_replay.specs.Run.Branches.{SameEventsBefore}
use Rattle.pdp_replay.proofs.ask.FadingEdits.{edit_made, edit_refused, patch_fading, patch_refused, same_before_edit, script_fading}
use Rattle.pdp_replay.proofs.ask.fading.find_fading.Goals as goal

pub returns-in_err-other-in-Script-clause-turn : goal.returns-in_err-other-in-Script-clause-turn
returns-in_err-other-in-Script-clause-turn c = λ p is.
    let told = rw c.in_err-other-in-Script.was at c.edited.ensures in
    let out = err_from_is_err_and c.from_residual.result c.from_residual.ensures.1 in
    let error = out.1 ∙ ap Err out.2 in
    rw (c.in-Script.is, error)
    (edit_refused (Option ℕ) c.in-Script.edit c.args.to p (script_edited c.in-Script.edit c.args.script.now) c.in_err-other-in-Script.field-0.0 c.requires.limit
    (ap (script_edited c.in-Script.edit) is.same) told)

pub find_script_fading-requires-clause-same : goal.find_script_fading-requires-clause-same
find_script_fading-requires-clause-same c =
    let told = rw c.in_ok-other-in-Script.was at c.edited.ensures in
    let made = edit_made (script_edited c.in-Script.edit c.args.script.now) c.in_ok-other-in-Script.other told in
    subst (λ n. SameEventsBefore n c.args.script.now c.in_ok-other-in-Script.other) (sym c.first_turn_of-from.ensures)
    (same_before_edit c.in-Script.edit c.args.script.now c.in_ok-other-in-Script.other made)

pub returns-in_err-find_script_fading-in-Script-clause-turn : goal.returns-in_err-find_script_fading-in-Script-clause-turn
returns-in_err-find_script_fading-in-Script-clause-turn c = λ p is.
    let told = rw c.in_ok-other-in-Script.was at c.edited.ensures in
    let made = edit_made (script_edited c.in-Script.edit c.args.script.now) c.in_ok-other-in-Script.other told in
    let out = err_from_is_err_and c.from_residual-in_err-find_script_fading-in-Script.result c.from_residual-in_err-find_script_fading-in-Script.ensures.1 in
    let error = out.1 ∙ ap Err out.2 in
    let due = script_fading c.in-Script.edit c.args.to p c.in_ok-other-in-Script.other c.requires.limit (ap (script_edited c.in-Script.edit) is.same ∙ made) in
    rw (c.in-Script.is, error, due) refl

pub returns-in_ok-find_script_fading-in-Script-clause-turn : goal.returns-in_ok-find_script_fading-in-Script-clause-turn
returns-in_ok-find_script_fading-in-Script-clause-turn c = λ p is.
    let told = rw c.in_ok-other-in-Script.was at c.edited.ensures in
    let made = edit_made (script_edited c.in-Script.edit c.args.script.now) c.in_ok-other-in-Script.other told in
    let due = script_fading c.in-Script.edit c.args.to p c.in_ok-other-in-Script.other c.requires.limit (ap (script_edited c.in-Script.edit) is.same ∙ made) in
    rw (c.in-Script.is, due) (ap Ok (c.in_ok-find_script_fading-in-Script.ensures.found p (with_script p c.in_ok-other-in-Script.other) is refl refl))

pub returns-in_err-place-in-Word-clause-turn : goal.returns-in_err-place-in-Word-clause-turn
returns-in_err-place-in-Word-clause-turn c = λ p is.
    let told = c.in_err-place-in-Word.ensures.past p (record { units = is.units; drives = is.drives }) in
    let out = err_from_is_err_and c.from_residual-in_err-place-in-Word.result c.from_residual-in_err-place-in-Word.ensures.1 in
    let error = out.1 ∙ ap Err out.2 in
    rw (c.in-Word.is, error) (patch_refused (Option ℕ) c.in-Word.patch c.args.to p c.in_err-place-in-Word.field-0.0 c.requires.limit told)

pub returns-in_err-find_patch_fading-in-Word-clause-turn : goal.returns-in_err-find_patch_fading-in-Word-clause-turn
returns-in_err-find_patch_fading-in-Word-clause-turn c = λ p is.
    let place = c.in_ok-place-in-Word.place in
    let made = c.in_ok-place-in-Word.ensures.past p (record { units = is.units; drives = is.drives }) in
    let out = err_from_is_err_and c.from_residual-in_err-find_patch_fading-in-Word.result c.from_residual-in_err-find_patch_fading-in-Word.ensures.1 in
    let error = out.1 ∙ ap Err out.2 in
    let due = patch_fading c.in-Word.patch c.args.to p (past_with_patch place.0 place.1 p) c.requires.limit made in
    rw (c.in-Word.is, error, due) refl

pub returns-in_ok-find_patch_fading-in-Word-clause-turn : goal.returns-in_ok-find_patch_fading-in-Word-clause-turn
returns-in_ok-find_patch_fading-in-Word-clause-turn c = λ p is.
    let place = c.in_ok-place-in-Word.place in
    let made = c.in_ok-place-in-Word.ensures.past p (record { units = is.units; drives = is.drives }) in
    let due = patch_fading c.in-Word.patch c.args.to p (past_with_patch place.0 place.1 p) c.requires.limit made in
    rw (c.in-Word.is, due) (ap Ok (c.in_ok-find_patch_fading-in-Word.ensures.found p is))
