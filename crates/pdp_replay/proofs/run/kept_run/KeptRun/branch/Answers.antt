use Rattle.std.proofs.Common.{◌≡◌, ◌∙◌, ℕ, ap, arith, refl, subst, sym}
use Rattle.pdp_unibus.specs.SavedTouches.{HasPagesOf}
use Rattle.pdp_cpu.specs.Saved.{saved_machine}
use Rattle.pdp_cpu.specs.SavedOutput.{OutputData, TakesOutput, output_from}
use Rattle.pdp_cpu.specs.Handbook.MachineState.{MachineState, MachineWithTexts}
use Rattle.pdp_replay.specs.Past.{Past}
use Rattle.pdp_replay.specs.Run.Branches.{IsKeptOfSize, IsLookedAt}
use Rattle.pdp_replay.specs.Run.Checkpoints.{IsBuiltFrom, KeepsTexts}
use Rattle.pdp_replay.specs.Run.FirstTouches.{first_touches_at}
use Rattle.pdp_replay.specs.Run.KeptRuns.{IsKeptRun}
use Rattle.pdp_replay.specs.Run.States.{at}
use Rattle.pdp_replay.specs.declared.run.kept_run.KeptRun.{KeptRun}
use Rattle.pdp_replay.proofs.run.Branches.{looked_at}
use Rattle.pdp_replay.proofs.run.BranchingOff.{blank_built, blank_pages, branched_off, first_is_first, takes_all}
use Rattle.pdp_replay.proofs.run.Resumed.{can_hold}
use Rattle.pdp_replay.proofs.run.StateSizes.{tape_stays}
use Rattle.pdp_replay.proofs.run.kept_run.KeptRun.branch.Goals as goal
use Rattle.pdp_replay.proofs.run.kept_run.KeptRun.branch.Goals.{In_ok-take_output}

pub take_output-requires : goal.take_output-requires
take_output-requires c =
    let some = c.requires.run in
    let p = some.past in
    let run : IsKeptRun p c.reach.new.self = c.in_ok-reach.ensures.kept p some.is.same some.is.run in
    let out : c.in_ok-output.output.first_touches ≡ first_touches_at p c.reach.new.self.known =
    ap (λ (o : OutputData). o.first_touches) c.in_ok-output.ensures ∙ ap (λ (m : MachineWithTexts). m.first_touches) c.save.ensures.same ∙ run.kept.texts.first_touches in
    subst (λ f. HasPagesOf f c.in_ok-machine.machine.first_touches) (sym out)
    (blank_pages p c.args.base_setup.now c.in_ok-tape.tape.items c.reach.new.self.known c.in_ok-machine.machine some.is.units some.is.drives c.in_ok-machine.ensures)

-- the state of the run
here_is : (c : In_ok-take_output) (p : Past) → IsKeptOfSize p c.args.base_setup.now c.args.script.now c.args.self.now → c.in_ok-here.here ≡ saved_machine (at p c.args.turn)
here_is c p is = c.in_ok-here.ensures.saved ∙ ap saved_machine (c.in_ok-reach.ensures.there p is.same is.run)

-- the blank machine keeps now what came out of the run before that turn
takes : (c : In_ok-take_output) (p : Past) → IsKeptOfSize p c.args.base_setup.now c.args.script.now c.args.self.now → KeepsTexts p c.args.turn c.take_output.new.self
takes c p is =
    let run : IsKeptRun p c.reach.new.self = c.in_ok-reach.ensures.kept p is.same is.run in
    let keeps : KeepsTexts p c.reach.new.self.known c.save.new.self = subst (KeepsTexts p c.reach.new.self.known) (sym c.save.ensures.same) run.kept.texts in
    let known = c.in_ok-reach.ensures.arrives.known in
    let blank = c.in_ok-machine.ensures in
    let first = first_is_first p c.reach.new.self.known _ c.reach.new.self.ladder c.best-first.result.now run.kept.states c.best-first.ensures.state c.best-first.ensures.below in
    let fits = c.ranges.turn.fits in
    takes_all p c.args.turn c.reach.new.self.known c.save.new.self c.in_ok-machine.machine c.take_output.new.self c.best-first.result.now.saved keeps (omega (arith, known)) (omega (arith, fits)) first
    blank.text blank.punched blank.turn
    (blank_pages p c.args.base_setup.now c.in_ok-tape.tape.items c.args.turn c.in_ok-machine.machine is.units is.drives blank)
    (subst (λ s. TakesOutput c.best-first.result.now.saved s (output_from 0 c.save.new.self) c.in_ok-machine.machine c.take_output.new.self) (here_is c p is)
    (subst (λ o. TakesOutput c.best-first.result.now.saved c.in_ok-here.here o c.in_ok-machine.machine c.take_output.new.self) c.in_ok-output.ensures c.in_ok-take_output.ensures.taken))

-- and it is of the same size, with the same tape
built : (c : In_ok-take_output) (p : Past) → IsKeptOfSize p c.args.base_setup.now c.args.script.now c.args.self.now → IsBuiltFrom p.setup c.take_output.new.self
built c p is =
    let same : c.in_ok-tape.tape.items ≡ p.setup.tape =
    c.in_ok-tape.ensures.items_if_clones_equal (λ x y is. is) ∙ c.tape.ensures ∙ ap (λ (m : MachineWithTexts). m.state.world.bus.tape) c.save.ensures.same
    ∙ ap (λ (s : MachineState). s.world.bus.tape) (c.in_ok-reach.ensures.there p is.same is.run) ∙ tape_stays p c.args.turn in
    blank_built p c.args.base_setup.now c.in_ok-tape.tape.items c.in_ok-machine.machine c.take_output.new.self is.units is.drives c.in_ok-machine.ensures same c.take_output.ensures.state

pub load-requires : goal.load-requires
load-requires c =
    let some = c.requires.run in
    let b = (goal.at.load-requires c).In_ok-take_output in
    can_hold some.past c.args.turn c.args.turn c.take_output.new.self c.in_ok-here.here (here_is b some.past some.is) (omega arith) (takes b some.past some.is) (built b some.past some.is)

-- the run is kept, whatever machine of the same value it has
same_kept : (p : Past) (r : KeptRun) (m : MachineWithTexts) → m ≡ r.machine → IsKeptRun p r → IsKeptRun p (record r { machine = m })
same_kept p r m same run = subst (λ x. IsKeptRun p (record r { machine = x })) (sym same) run

same_looked : (to : ℕ) (before r : KeptRun) (m : MachineWithTexts) → m ≡ r.machine → IsLookedAt to before r → IsLookedAt to before (record r { machine = m })
same_looked to before r m same looked = subst (λ x. IsLookedAt to before (record r { machine = x })) (sym same) looked

pub returns-in_err-take_output-clause-kept : goal.returns-in_err-take_output-clause-kept
returns-in_err-take_output-clause-kept c = λ p same run. same_kept p c.reach.new.self c.save.new.self c.save.ensures.same (c.reach.ensures.kept p same run)

pub returns-in_err-take_output-clause-looked : goal.returns-in_err-take_output-clause-looked
returns-in_err-take_output-clause-looked c =
    same_looked c.args.turn c.args.self.now c.reach.new.self c.save.new.self c.save.ensures.same (looked_at _ c.args.turn c.args.turn c.args.self.now c.reach.new.self c.reach.ensures.advances (omega arith))

pub returns-clause-kept : goal.returns-clause-kept
returns-clause-kept c = λ p same run. same_kept p c.reach.new.self c.save.new.self c.save.ensures.same (c.reach.ensures.kept p same run)

pub returns-clause-looked : goal.returns-clause-looked
returns-clause-looked c =
    same_looked c.args.turn c.args.self.now c.reach.new.self c.save.new.self c.save.ensures.same (looked_at _ c.args.turn c.args.turn c.args.self.now c.reach.new.self c.reach.ensures.advances (omega arith))

pub returns-clause-branch : goal.returns-clause-branch
returns-clause-branch c =
    let b = (goal.at.returns-clause-branch c).In_ok-take_output in (
      refl,
      λ p is. branched_off p c.args.turn c.take_output.new.self c.load.new.self c.in_ok-here.here (here_is b p is) (takes b p is) (built b p is)
          c.load.ensures.state c.load.ensures.kept_text c.load.ensures.kept_punched c.load.ensures.first_touches,
    )
