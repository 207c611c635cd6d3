use Rattle.std.proofs.Common.{◌≡◌, ◌∙◌, Err, Ok, Option, ℕ, ap, false, refl, subst}
use Rattle.std.proofs.lemmas.Result.{err_from_is_err_and}
use Rattle.pdp_script.specs.Refusal.{for_memory, question_answer}
use Rattle.pdp_replay.specs.Past.{Past, past_from}
use Rattle.pdp_replay.specs.Ask.Fadings.{fading}
use Rattle.pdp_replay.specs.Timeline.{Timeline}
use Rattle.pdp_replay.specs.declared.ask.told.Told.{Told}
use Rattle.pdp_replay.proofs.ask.FadedAnswers.{answer_told, faded_edits_change_no_answer}
use Rattle.pdp_replay.proofs.ask.FadedSearches.{faded_edits_change_no_search}
use Rattle.pdp_replay.proofs.ask.FadingEdits.{too_large}
use Rattle.pdp_replay.proofs.engine.Engine.fades.Goals as goal

pub returns-then-to-gt-LAST_TURN-clause-turn : goal.returns-then-to-gt-LAST_TURN-clause-turn
returns-then-to-gt-LAST_TURN-clause-turn c = let late = too_large c.args.edit c.args.to c.args.self.now.past c.if-to-gt-LAST_TURN.true in rw late refl

pub returns-in_err-turn-clause-turn : goal.returns-in_err-turn-clause-turn
returns-in_err-turn-clause-turn c =
    let e = c.self.inside in
    let p : Past = past_from e.base_setup e.run.machine.state.world.bus.tape e.delays e.patches e.script in
    let told = rw c.in_err-turn.was at c.find_fading-found.ensures.turn p (record { same = refl; run = c.self.invariant.run; units = refl; drives = refl }) in
    let out = err_from_is_err_and c.from_residual.result c.from_residual.ensures.1 in
    let is = out.1 ∙ ap Err out.2 in
    rw is (subst (λ (t : Timeline). Err c.in_err-turn.field-0.0 ≡ question_answer (fading c.args.edit c.args.to t.past) (for_memory {X = Told (Option ℕ)} (Err c.in_err-turn.field-0.0))) c.self.view_is told)

pub returns-clause-turn : goal.returns-clause-turn
returns-clause-turn c =
    let e = c.self.inside in
    let p : Past = past_from e.base_setup e.run.machine.state.world.bus.tape e.delays e.patches e.script in
    let told = rw c.in_ok-turn.was at c.find_fading-found.ensures.turn p (record { same = refl; run = c.self.invariant.run; units = refl; drives = refl }) in
    rw c.of.ensures.value (
    subst (λ (t : Timeline). Ok c.in_ok-turn.turn ≡ question_answer (fading c.args.edit c.args.to t.past) false) c.self.view_is told)

pub returns-clause-answers : goal.returns-clause-answers
returns-clause-answers c =
    let p : Past = c.args.self.now.past in
    faded_edits_change_no_answer c.args.edit c.args.to p c.of.result.value (answer_told (fading c.args.edit c.args.to p) c.of.result.value (returns-clause-turn c))

pub returns-clause-searches : goal.returns-clause-searches
returns-clause-searches c =
    let p : Past = c.args.self.now.past in
    faded_edits_change_no_search c.args.edit c.args.to p c.of.result.value (answer_told (fading c.args.edit c.args.to p) c.of.result.value (returns-clause-turn c))
