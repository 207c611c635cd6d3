use Rattle.std.proofs.Common.{◌≡◌, ◌≤◌, ℕ, Some, arith, subst, sym}
use Rattle.pdp_cpu.specs.Saved.{saved_machine}
use Rattle.pdp_cpu.specs.Handbook.MachineState.{MachineWithTexts}
use Rattle.pdp_replay.specs.Past.{Past}
use Rattle.pdp_replay.specs.Ask.Fadings.{AreApart, AreBesideIn, IsBracketOrNone}
use Rattle.pdp_replay.specs.Run.Branches.{IsBranchOf, IsLookedAt}
use Rattle.pdp_replay.specs.Run.States.{at}
use Rattle.pdp_replay.specs.declared.run.branch.Branch.{Branch}
use Rattle.pdp_replay.specs.declared.run.kept_run.KeptRun.{KeptRun}
use Rattle.pdp_replay.proofs.ask.Fadings.{edge_is_first, none_joined}
use Rattle.pdp_replay.proofs.run.Branches.{counts_on, kept_metered, looked_further, looked_metered, looked_nowhere, looked_on, meter_grows, state_of_branch}
use Rattle.pdp_replay.proofs.ask.fading.find_edge.Goals as goal
use Rattle.pdp_replay.proofs.ask.fading.find_edge.Goals.{In_ok-state}

same_branch : (q : Past) (b : Branch) (m : MachineWithTexts) → m ≡ b.machine → IsBranchOf q b → IsBranchOf q (record b { machine = m })
same_branch q b m same branch = subst (λ x. IsBranchOf q (record b { machine = x })) (sym same) branch

pub gallop-requires-clause-beside : goal.gallop-requires-clause-beside
gallop-requires-clause-beside c =
    let beside = c.requires.beside in
    let turn = c.in_ok-run.ensures.turn in
    let branch = c.in_ok-run.ensures.branch beside.other beside.branch in
    record {
      beside = record {
        past = beside.past;
        other = beside.other;
        same = beside.same;
        run = kept_metered beside.past c.args.run.now c.run.new.meter beside.run;
        branch = same_branch beside.other c.run.new.self c.save.new.self c.save.ensures.same branch;
        units = beside.units;
        drives = beside.drives;
      };
      state = state_of_branch beside.other c.run.new.self c.args.apart c.in_ok-state.state branch turn c.in_ok-state.ensures.saved;
      reached = rw c.save.ensures.same (omega (arith, turn));
    }

pub returns-in_err-halve-in-Some-clause-kept : goal.returns-in_err-halve-in-Some-clause-kept
returns-in_err-halve-in-Some-clause-kept c = λ p same run. c.halve.ensures.kept p same (c.gallop.ensures.kept p same (kept_metered p c.args.run.now c.run.new.meter run))

pub returns-in_ok-halve-in-Some-clause-kept : goal.returns-in_ok-halve-in-Some-clause-kept
returns-in_ok-halve-in-Some-clause-kept c = λ p same run. c.halve.ensures.kept p same (c.gallop.ensures.kept p same (kept_metered p c.args.run.now c.run.new.meter run))

-- looked at by the branch's turns, and then twice
looked_twice : (to most counted : ℕ) (before between after : KeptRun) → before.meter ≤ counted → IsLookedAt to (record before { meter = counted }) between
    → IsLookedAt most between after → most ≤ to → IsLookedAt to before after
looked_twice to most counted before between after more first then le =
    looked_on to before between after
    (looked_on to before (record before { meter = counted }) between (looked_metered to counted before before (looked_nowhere to before) more) first)
    (looked_further most to between after then le)

pub returns-in_err-halve-in-Some-clause-looked : goal.returns-in_err-halve-in-Some-clause-looked
returns-in_err-halve-in-Some-clause-looked c =
    let found : AreBesideIn c.args.apart c.args.to c.args.script.now c.gallop.new.run c.gallop.new.branch (Some c.in-Some.bracket) = subst (AreBesideIn c.args.apart c.args.to c.args.script.now c.gallop.new.run c.gallop.new.branch) c.in-Some.is c.in_ok-bracket.ensures.beside in
    looked_twice c.args.to c.in-Some.bracket.alike c.run.new.meter c.args.run.now c.gallop.new.run c.halve.new.run (meter_grows _ _ _ c.run.ensures.runs.ran) c.gallop.ensures.looked c.halve.ensures.looked found.most

pub returns-in_ok-halve-in-Some-clause-looked : goal.returns-in_ok-halve-in-Some-clause-looked
returns-in_ok-halve-in-Some-clause-looked c =
    let found : AreBesideIn c.args.apart c.args.to c.args.script.now c.gallop.new.run c.gallop.new.branch (Some c.in-Some.bracket) = subst (AreBesideIn c.args.apart c.args.to c.args.script.now c.gallop.new.run c.gallop.new.branch) c.in-Some.is c.in_ok-bracket.ensures.beside in
    looked_twice c.args.to c.in-Some.bracket.alike c.run.new.meter c.args.run.now c.gallop.new.run c.halve.new.run (meter_grows _ _ _ c.run.ensures.runs.ran) c.gallop.ensures.looked c.halve.ensures.looked found.most

-- they are apart still when the branch came to that turn
still_apart : (c : In_ok-state) (p q : Past) → AreApart c.args.apart p q c.args.script.now c.args.run.now c.args.branch.now
    → AreApart c.args.apart p q c.args.script.now (record c.args.run.now { meter = c.run.new.meter }) (record c.run.new.self { machine = c.save.new.self })
still_apart c p q apart = record {
  tape = apart.tape;
  same = apart.same;
  run = kept_metered p c.args.run.now c.run.new.meter apart.run;
  branch = same_branch q c.run.new.self c.save.new.self c.save.ensures.same (c.in_ok-run.ensures.branch q apart.branch);
  apart = apart.apart;
  events = apart.events;
}

state_is : (c : In_ok-state) (p q : Past) → AreApart c.args.apart p q c.args.script.now c.args.run.now c.args.branch.now → c.in_ok-state.state ≡ saved_machine (at q c.args.apart)
state_is c p q apart = state_of_branch q c.run.new.self c.args.apart c.in_ok-state.state (c.in_ok-run.ensures.branch q apart.branch) c.in_ok-run.ensures.turn c.in_ok-state.ensures.saved

pub returns-in_ok-halve-in-Some-clause-found : goal.returns-in_ok-halve-in-Some-clause-found
returns-in_ok-halve-in-Some-clause-found c = λ p q apart.
    let b = (goal.at.returns-in_ok-halve-in-Some-clause-found c).In_ok-state in
    let now = still_apart b p q apart in
    let in_bracket : AreBesideIn c.args.apart c.args.to c.args.script.now c.gallop.new.run c.gallop.new.branch (Some c.in-Some.bracket) = subst (AreBesideIn c.args.apart c.args.to c.args.script.now c.gallop.new.run c.gallop.new.branch) c.in-Some.is c.in_ok-bracket.ensures.beside in
    let bracket : IsBracketOrNone c.args.to p q (Some c.in-Some.bracket) = subst (IsBracketOrNone c.args.to p q) c.in-Some.is (c.in_ok-bracket.ensures.found p q now (state_is b p q apart)) in
    let after : AreApart c.args.apart p q c.args.script.now c.gallop.new.run c.gallop.new.branch = record {
      tape = now.tape;
      same = now.same;
      run = c.gallop.ensures.kept p now.same now.run;
      branch = c.gallop.ensures.branch q now.branch;
      apart = now.apart;
      events = now.events;
    } in
    edge_is_first p q c.args.to c.in_ok-halve-in-Some.field-0 apart.tape (c.in_ok-halve-in-Some.ensures.found c.args.apart c.args.to p q after in_bracket.least bracket)

pub returns-in-None-clause-found : goal.returns-in-None-clause-found
returns-in-None-clause-found c = λ p q apart.
    let b = (goal.at.returns-in-None-clause-found c).In_ok-state in
    none_joined p q c.args.to apart.tape
    (subst (IsBracketOrNone c.args.to p q) c.in-None.is (c.in_ok-bracket.ensures.found p q (still_apart b p q apart) (state_is b p q apart)))

pub returns-in_ok-halve-in-Some-clause-counted : goal.returns-in_ok-halve-in-Some-clause-counted
returns-in_ok-halve-in-Some-clause-counted c =
    let turn = c.in_ok-run.ensures.turn in
    let more = c.gallop.ensures.looked.counted in
    let most = c.halve.ensures.looked.counted in
    counts_on c.args.branch.now.machine.state.turn c.run.new.self.machine.state.turn c.args.apart c.args.run.now.meter c.args.run.now.meter c.run.new.meter c.halve.new.run.meter
    (omega arith) turn c.run.ensures.runs.ran (omega (arith, more, most))

pub returns-in-None-clause-counted : goal.returns-in-None-clause-counted
returns-in-None-clause-counted c =
    let turn = c.in_ok-run.ensures.turn in
    counts_on c.args.branch.now.machine.state.turn c.run.new.self.machine.state.turn c.args.apart c.args.run.now.meter c.args.run.now.meter c.run.new.meter c.gallop.new.run.meter
    (omega arith) turn c.run.ensures.runs.ran c.gallop.ensures.looked.counted
