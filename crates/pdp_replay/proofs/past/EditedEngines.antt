-- An engine after an edit of the script.
use Rattle.std.proofs.Common.{◌≡◌, ◌∙◌, ◌≤◌, All, ℕ, ap, arith, min, subst}
use Rattle.pdp_replay.specs.Past.FirstWords.{AllThere}
use Rattle.pdp_replay.specs.Run.KeptRuns.{IsKeptRun}
use Rattle.pdp_replay.specs.Run.Checkpoints.{IsFormerOf, IsInRun}
use Rattle.pdp_replay.specs.Past.{Past}
use Rattle.pdp_replay.specs.Past.Setup.{IsGood, SetupData}
use Rattle.pdp_replay.specs.Run.Strides.{IsStride}
use Rattle.pdp_replay.specs.Timeline.{IsEngine}
use Rattle.pdp_replay.specs.declared.run.kept_run.KeptRun.{KeptRun}
use Rattle.pdp_replay.proofs.run.Agreeing.{Agree, agree_before, same_at}
use Rattle.pdp_replay.proofs.past.EditedStates.{SameAfter, SameBefore, kept_agree}
use Rattle.pdp_replay.proofs.run.Formers.{former_of_other}

-- a run that is kept is that of each past that agrees with this one up to the known turn
run_agree : (p q : Past) (r : KeptRun) → Agree p q r.known → All (IsFormerOf q) r.ladder.formers → IsKeptRun p r → IsKeptRun q r
run_agree p q r agree formers run = record {
  kept = kept_agree p q r.known r.machine r.ladder agree formers run.kept;
  current = λ yes.
      let there : IsInRun p r.known r.machine = run.current yes in
      record {
        here = there.here ∙ same_at p q r.machine.state.turn (agree_before p q r.known r.machine.state.turn agree there.reached);
        reached = there.reached;
      };
}

-- the events before this turn stay, and those after the greatest that was edited, and nothing is
-- known past this turn any more
pub engine_edited : (p q : Past) (turn edited highest : ℕ) (before after : KeptRun) → IsEngine p highest before
    → p.setup ≡ q.setup → SameBefore turn p.script q.script → SameAfter edited p.script q.script → All (λ f. edited ≤ f.edited) after.ladder.formers → after.known ≡ min before.known turn → after.ladder.stride ≡ before.ladder.stride
    → IsKeptRun p after → IsEngine q highest after
engine_edited p q turn edited highest before after engine setup same later raised known stride run =
    let reached = engine.reached in
    let agree : Agree p q after.known = record { setup = setup; events = λ t below. same t (omega (arith, below, known)) } in
    let formers : All (IsFormerOf q) after.ladder.formers = λ k d inside.
    let least = raised k d inside in
    former_of_other p q _ (ap (λ (s : SetupData). s.tape) setup) (ap (λ (s : SetupData). s.units) setup) (ap (λ (s : SetupData). s.drives) setup)
    (λ t above. later t (omega (arith, above, least))) (run.kept.states.formers k d inside) in
    record {
      good = subst IsGood setup engine.good;
      there = subst (λ (s : SetupData). AllThere s s.patches) setup engine.there;
      reached = omega (arith, reached, known);
      limit = engine.limit;
      stride = subst (λ (s : SetupData). IsStride s.stride highest after.ladder.stride) setup (rw stride engine.stride);
      run = run_agree p q after agree formers run;
    }
