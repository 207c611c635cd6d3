use Rattle.std.proofs.Common.{◌≡◌, ◌∙◌, Err, Ok, OnOk, Result, ap, arith, max, refl, subst, sym}
use Rattle.std.proofs.lemmas.Result.{on_ok_weaker}
use Rattle.pdp_cpu.specs.Saved.{CanHold, saved_machine, saved_over, state_on}
use Rattle.pdp_cpu.specs.SavedOutput.{OutputData, TakesOutput}
use Rattle.pdp_cpu.specs.Handbook.MachineState.{MachineState}
use Rattle.pdp_replay.specs.Past.{Past}
use Rattle.pdp_replay.specs.Run.Checkpoints.{KeepsTexts}
use Rattle.pdp_replay.specs.Run.FormerRuns.{MeetsFormer}
use Rattle.pdp_replay.specs.Run.KeptRuns.{ArrivesAt, IsUnderWay}
use Rattle.pdp_replay.specs.Run.States.{at}
use Rattle.pdp_replay.proofs.run.Coming.{advances_from, arrives_from}
use Rattle.pdp_replay.proofs.run.FormerRuns.{adopted, can_adopt, meets_on, state_fits, touches_fit}
use Rattle.pdp_replay.proofs.run.OnWay.{on_way_settled}
use Rattle.pdp_replay.proofs.run.kept_run.KeptRun.adopt.Goals as goal
use Rattle.pdp_replay.proofs.run.kept_run.KeptRun.adopt.Goals.{After-load_over, After-settle}

-- what the machine took is of this former run
took : (c : After-load_over) → TakesOutput c.args.there.now.saved c.args.next.now.saved c.args.former.now.output c.args.self.now.machine c.take_output.new.self
took c = subst (λ (o : OutputData). TakesOutput c.args.there.now.saved c.args.next.now.saved o c.args.self.now.machine c.take_output.new.self) c.output.ensures c.in_ok-take_output.ensures.taken

-- the machine was made the later state of each run that meets the former one
loaded : (c : After-load_over) (p : Past) → MeetsFormer p c.args.former.now c.args.there.now c.args.self.now
    → (c.load_over.new.self.state ≡ at p c.args.next.now.turn) × KeepsTexts p c.args.next.now.turn c.load_over.new.self
loaded c p meets =
    let load = c.load_over.ensures in
    let before = c.take_output.ensures.state in
    adopted p c.args.former.now c.args.there.now c.args.next.now c.args.self.now c.take_output.new.self c.load_over.new.self meets c.requires.next.state c.requires.next.later (took c)
    (load.state ∙ ap (λ (s : MachineState). state_on c.take_output.new.self (saved_over s.turn (saved_machine s) c.args.there.now.saved c.args.next.now.saved)) before)
    load.kept_text load.kept_punched load.first_touches

turn_is : (c : After-load_over) → c.load_over.new.self.state.turn ≡ c.args.next.now.turn
turn_is c = ap (λ (s : MachineState). s.turn) (loaded c c.requires.meets.past c.requires.meets.meets).0

-- it is on its way there
came : (c : After-load_over) (p : Past) → MeetsFormer p c.args.former.now c.args.there.now c.args.self.now → IsUnderWay p c.args.self.now.known c.load_over.new.self
came c p meets =
    let turn = turn_is c in
    let there = loaded c p meets in
    let known = meets.known in
    let before = meets.turn in
    let later = c.requires.next.later in
    let same : c.args.next.now.turn ≡ max c.args.self.now.known c.load_over.new.self.state.turn = omega (arith, turn, known, before, later) in
    record {
      here = there.0 ∙ ap (at p) (sym turn);
      texts = subst (λ k. KeepsTexts p k c.load_over.new.self) same there.1;
    }

pub take_output-requires : goal.take_output-requires
take_output-requires c =
    let some = c.requires.meets in
    rw c.output.ensures (touches_fit some.past c.args.former.now c.args.self.now.known c.args.self.now.machine some.meets.former some.meets.way.kept.texts)

pub load_over-requires-clause-sizes : goal.load_over-requires-clause-sizes
load_over-requires-clause-sizes c =
    let some = c.requires.meets in
    rw c.take_output.ensures.state
    (state_fits some.past c.args.former.now c.args.next.now c.args.self.now.machine some.meets.former c.requires.next.state some.meets.way.kept.built)

pub load_over-requires-clause-held : goal.load_over-requires-clause-held
load_over-requires-clause-held c =
    let some = c.requires.meets in
    let taken = subst (λ (o : OutputData). TakesOutput c.args.there.now.saved c.args.next.now.saved o c.args.self.now.machine c.take_output.new.self) c.output.ensures c.in_ok-take_output.ensures.taken in
    let next = c.requires.next in
    subst (λ (s : MachineState). CanHold c.take_output.new.self (saved_over s.turn (saved_machine s) c.args.there.now.saved c.args.next.now.saved)) (sym c.take_output.ensures.state)
    (can_adopt some.past c.args.former.now c.args.there.now c.args.next.now c.args.self.now c.take_output.new.self some.meets next.state next.later taken)

pub settle-requires-clause-within : goal.settle-requires-clause-within
settle-requires-clause-within c =
    let turn = turn_is (goal.at.settle-requires-clause-within c).After-load_over in
    omega (arith, turn, c.requires.next.short)

pub settle-requires-clause-limit : goal.settle-requires-clause-limit
settle-requires-clause-limit c =
    let turn = turn_is (goal.at.settle-requires-clause-limit c).After-load_over in
    omega (arith, turn, c.requires.next.most)

pub returns-clause-kept : goal.returns-clause-kept
returns-clause-kept c = λ p meets.
    let at_load = (goal.at.returns-clause-kept c).After-load_over in
    c.settle.ensures.kept p meets.way.kept.states (came at_load p meets)

-- what two facts say of the same success
both_on_ok : {T E P Q R : Type 0} (r : Result T E) → (P → Q → R) → OnOk r P → OnOk r Q → OnOk r R
both_on_ok (Ok value) gives one other = gives one other
both_on_ok (Err refused) gives one other = tt

pub returns-clause-meets : goal.returns-clause-meets
returns-clause-meets c =
    let at_load = (goal.at.returns-clause-meets c).After-load_over in
    let turn = turn_is at_load in
    both_on_ok c.settle.result
    (λ same there p meets.
    let way = came at_load p meets in
    let on = on_way_settled p c.args.self.now.known c.load_over.new.self c.settle.new.self way (c.settle.ensures.kept p meets.way.kept.states way).kept same there.known in
    let known = there.known in
    let before = meets.known in
    let first = meets.turn in
    let later = c.requires.next.later in
    meets_on p c.args.former.now c.args.there.now c.args.next.now c.args.self.now c.settle.new.self meets c.requires.next.state later on
    (ap (λ m. m.state.turn) same ∙ turn) (omega (arith, known, before, first, later, turn)))
    c.settle.ensures.machine c.settle.ensures.arrives

pub returns-clause-arrives : goal.returns-clause-arrives
returns-clause-arrives c =
    let turn = turn_is (goal.at.returns-clause-arrives c).After-load_over in
    on_ok_weaker c.settle.result
    (λ there. subst (λ n. ArrivesAt n c.args.self.now c.settle.new.self) turn (arrives_from _ c.args.self.now _ c.settle.new.self refl there))
    c.settle.ensures.arrives

pub returns-clause-advances : goal.returns-clause-advances
returns-clause-advances c =
    let turn = turn_is (goal.at.returns-clause-advances c).After-load_over in
    let some = c.requires.meets.meets.turn in
    let later = c.requires.next.later in
    advances_from _ _ _ c.args.self.now _ c.settle.new.self refl refl (omega (arith, turn, some, later)) (omega arith) c.settle.ensures.advances (omega (arith, turn))
