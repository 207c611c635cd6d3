use Rattle.std.proofs.Common.{◌≡◌, true, false, [], arith, rules, sym, ap, ◌∙◌}
use Rattle.std.proofs.lemmas.Result.{err_from_is_err_and}
use Rattle.pdp_script.specs.declared.faults.Fault.TheVariants.{Input, Output}
use Rattle.pdp_replay.specs.Past.Setup.{given_setup, setup_checked}
use Rattle.pdp_replay.specs.Timeline.{new_timeline}
use Rattle.pdp_session.specs.Session.{is_told_first}
use Rattle.pdp_session.proofs.SessionEnds.{ends_begun, ends_refused, start_refuses, starts_with}
use Rattle.pdp_session.proofs.session.run.Goals as goal

pub returns-in_err-engine-clause-input : goal.returns-in_err-engine-clause-input
returns-in_err-engine-clause-input g c = λ failed.
    let refused = c.in_err-engine.field-0.0 in
    let (told, is, same) = err_from_is_err_and c.from_residual.result c.from_residual.ensures.1 in
    let of_start : is_told_first refused ≡ true = start_refuses new_timeline _ refused _ c.in_err-engine.ensures.engine in
    let fault : refused ≡ Input = cc in
    let never : false ≡ true = sym (ap is_told_first fault) ∙ of_start in
    cc

pub returns-in_err-engine-clause-output : goal.returns-in_err-engine-clause-output
returns-in_err-engine-clause-output g c = λ failed.
    let refused = c.in_err-engine.field-0.0 in
    let (told, is, same) = err_from_is_err_and c.from_residual.result c.from_residual.ensures.1 in
    let of_start : is_told_first refused ≡ true = start_refuses new_timeline _ refused _ c.in_err-engine.ensures.engine in
    let fault : refused ≡ Output = cc in
    let never : false ≡ true = sym (ap is_told_first fault) ∙ of_start in
    cc

pub returns-clause-session : goal.returns-clause-session
returns-clause-session g c =
    let began = rw c.new-history.ensures.engine at c.serve.ensures.session in
    rw (starts_with (setup_checked (given_setup c.args.setup)) _ c.in_ok-engine.engine c.in_ok-engine.ensures.engine) began

pub returns-in_err-engine-clause-session : goal.returns-in_err-engine-clause-session
returns-in_err-engine-clause-session g c =
    let (told, is, same) = err_from_is_err_and c.from_residual.result c.from_residual.ensures.1 in
    rw (is, same) (record {
      read = [];
      out = [];
      takes = search rules;
      writes = search rules;
      pulled = omega arith;
      ends = ends_refused _ _ _ c.in_err-engine.field-0.0 _ c.in_err-engine.ensures.engine;
    })

pub returns-clause-unread : goal.returns-clause-unread
returns-clause-unread g c = ends_begun _ c.serve.result c.serve.ensures.began

pub returns-clause-unwritten : goal.returns-clause-unwritten
returns-clause-unwritten g c = ends_begun _ c.serve.result c.serve.ensures.began
