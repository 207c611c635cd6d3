use Rattle.std.proofs.Common.{◌∙◌, [], subst, sym}
use Rattle.std.specs.List.{All}
use Rattle.std.proofs.lemmas.List.Elements.{All-nil}
use Rattle.std.proofs.lemmas.Result.{on_ok_weaker}
use Rattle.pdp_checkpoint.specs.Ladder.{LadderData}
use Rattle.pdp_replay.specs.Past.{Past}
use Rattle.pdp_replay.specs.Run.Checkpoints.{IsFormerOf}
use Rattle.pdp_replay.specs.Run.KeptRuns.{Advances, ArrivesAt, CanGoOn, IsKeptRun, IsOnWay}
use Rattle.pdp_replay.proofs.run.FormersBeside.{advances_beside, arrives_beside, can_go_on_beside, kept_beside, way_beside}
use Rattle.pdp_replay.proofs.run.kept_run.KeptRun.take_back.Goals as goal
use Rattle.pdp_replay.proofs.run.kept_run.KeptRun.take_back.Goals.{After-deref, After-put_formers}

-- the former runs that were taken are those of the run
taken_formers : (c : After-deref) (p : Past) → IsOnWay p c.args.self.now → All (IsFormerOf p) c.deref.result.now
taken_formers c p on =
    subst (All (IsFormerOf p)) (sym (c.deref.ensures.value ∙ c.take_formers-formers.ensures.formers)) on.kept.states.formers

-- without them the run is on its way as before
without_formers : (c : After-deref) (p : Past) → IsOnWay p c.args.self.now → IsOnWay p (record c.args.self.now { ladder = c.take_formers-formers.new.self })
without_formers c p on =
    subst (λ (l : LadderData). IsOnWay p (record c.args.self.now { ladder = l })) (sym c.take_formers-formers.ensures.after)
    (way_beside p [] c.args.self.now (All-nil (IsFormerOf p)) on)

pub follow_each-result-requires-clause-ready : goal.follow_each-result-requires-clause-ready
follow_each-result-requires-clause-ready c =
    subst (λ (l : LadderData). CanGoOn (record c.args.self.now { ladder = l })) (sym c.take_formers-formers.ensures.after)
    (can_go_on_beside [] c.args.self.now c.requires.ready)

pub follow_each-result-requires-clause-run : goal.follow_each-result-requires-clause-run
follow_each-result-requires-clause-run c =
    let run = c.requires.run in
    let at_deref = (goal.at.follow_each-result-requires-clause-run c).After-deref in
    record { past = run.past; formers = taken_formers at_deref run.past run.way; way = without_formers at_deref run.past run.way }

pub returns-clause-kept : goal.returns-clause-kept
returns-clause-kept c = λ p on.
    let at_deref = (goal.at.returns-clause-kept c).After-deref in
    let all = subst (All (IsFormerOf p)) (sym c.take_formers-formers.ensures.formers) on.kept.states.formers in
    let followed = c.follow_each-result.new.self in
    subst (λ (l : LadderData). IsKeptRun p (record followed { ladder = l })) (sym c.put_formers.ensures)
    (kept_beside p c.take_formers-formers.result.items followed all
    (c.follow_each-result.ensures.kept p (taken_formers at_deref p on) (without_formers at_deref p on)))

pub returns-clause-way : goal.returns-clause-way
returns-clause-way c =
    let at_deref = (goal.at.returns-clause-way c).After-deref in
    let followed = c.follow_each-result.new.self in
    on_ok_weaker c.follow_each-result.result
    (λ way p on.
    let all = subst (All (IsFormerOf p)) (sym c.take_formers-formers.ensures.formers) on.kept.states.formers in
    subst (λ (l : LadderData). IsOnWay p (record followed { ladder = l })) (sym c.put_formers.ensures)
    (way_beside p c.take_formers-formers.result.items followed all (way p (taken_formers at_deref p on) (without_formers at_deref p on))))
    c.follow_each-result.ensures.way

pub returns-clause-arrives : goal.returns-clause-arrives
returns-clause-arrives c =
    let followed = c.follow_each-result.new.self in
    on_ok_weaker c.follow_each-result.result
    (λ there.
    subst (λ (l : LadderData). ArrivesAt followed.machine.state.turn c.args.self.now (record followed { ladder = l })) (sym c.put_formers.ensures)
    (arrives_beside followed.machine.state.turn [] c.take_formers-formers.result.items c.args.self.now followed
    (subst (λ (l : LadderData). ArrivesAt followed.machine.state.turn (record c.args.self.now { ladder = l }) followed) c.take_formers-formers.ensures.after there)))
    c.follow_each-result.ensures.arrives

pub returns-clause-advances : goal.returns-clause-advances
returns-clause-advances c =
    let followed = c.follow_each-result.new.self in
    let from = c.args.self.now.machine.state.turn in
    subst (λ (l : LadderData). Advances from c.args.to c.args.self.now (record followed { ladder = l })) (sym c.put_formers.ensures)
    (advances_beside from c.args.to [] c.take_formers-formers.result.items c.args.self.now followed
    (subst (λ (l : LadderData). Advances from c.args.to (record c.args.self.now { ladder = l }) followed) c.take_formers-formers.ensures.after
    c.follow_each-result.ensures.advances))
