use Rattle.std.proofs.Common.{◌≡◌, ◌+◌, ap, arith, refl, sym}
use Rattle.pdp_replay.specs.Past.{Past, with_script}
use Rattle.pdp_replay.specs.Past.Setup.{SetupData}
use Rattle.pdp_replay.proofs.ask.Fadings.{branch_of_other, if_ok_weaker, joined_at_once, none_joined, not_joined_before, not_joined_from, of_pasts, one_from_the_start}
use Rattle.pdp_replay.proofs.run.Branches.{looked_further, looked_on}
use Rattle.pdp_replay.proofs.ask.fading.find_script_fading.Goals as goal

-- pasts with the same setup have the same tape
same_tape : (p q : Past) → q.setup ≡ p.setup → p.setup.tape ≡ q.setup.tape
same_tape p q setup = ap (λ (s : SetupData). s.tape) (sym setup)

pub returns-in_default-clause-found : goal.returns-in_default-clause-found
returns-in_default-clause-found c = λ p q is script setup.
    joined_at_once p q c.args.to (one_from_the_start p q (sym setup) (of_pasts p q c.args.script.now c.args.other 0 is.same script c.in_default.ensures))

pub returns-then-to-apart-clause-found : goal.returns-then-to-apart-clause-found
returns-then-to-apart-clause-found c = λ p q is script setup.
    none_joined p q c.args.to (same_tape p q setup)
    (not_joined_before p q c.in-Some.apart c.args.to (same_tape p q setup) c.if-to-apart.true
    (not_joined_from p q c.args.script.now c.args.other c.in-Some.apart is.same script c.in-Some.ensures.0))

pub find_edge-requires-clause-beside : goal.find_edge-requires-clause-beside
find_edge-requires-clause-beside c =
    let some = c.requires.run in
    let p = some.past in
    let q : Past = with_script p c.args.other in
    record {
      past = p;
      other = q;
      same = some.is.same;
      run = c.in_ok-branch.ensures.kept p some.is.same some.is.run;
      branch = branch_of_other p q c.args.base_setup.now c.args.script.now c.args.other c.args.run.now c.in_ok-branch.branch c.min.result c.args.from some.is refl refl c.requires.same
          (omega (arith, c.min.ensures)) c.in_ok-branch.ensures.turn c.in_ok-branch.ensures.branch;
      units = refl;
      drives = refl;
    }

pub find_edge-requires-clause-behind : goal.find_edge-requires-clause-behind
find_edge-requires-clause-behind c = let turn = c.in_ok-branch.ensures.turn in omega (arith, turn, c.min.ensures)

pub returns-clause-found : goal.returns-clause-found
returns-clause-found c =
    if_ok_weaker _ _ c.find_edge.result
    (λ found told p q is script setup. told p q (record {
      tape = same_tape p q setup;
      same = is.same;
      run = c.in_ok-branch.ensures.kept p is.same is.run;
      branch = branch_of_other p q c.args.base_setup.now c.args.script.now c.args.other c.args.run.now c.in_ok-branch.branch c.min.result c.args.from is script (sym setup) c.requires.same
          (omega (arith, c.min.ensures)) c.in_ok-branch.ensures.turn c.in_ok-branch.ensures.branch;
      apart = not_joined_from p q c.args.script.now c.args.other c.in-Some.apart is.same script c.in-Some.ensures.0;
      events = of_pasts p q c.args.script.now c.args.other (c.in-Some.apart + 1) is.same script c.in-Some.ensures.1;
    }))
    c.find_edge.ensures.found

pub returns-clause-kept : goal.returns-clause-kept
returns-clause-kept c = λ p same run. c.find_edge.ensures.kept p same (c.in_ok-branch.ensures.kept p same run)

pub returns-clause-looked : goal.returns-clause-looked
returns-clause-looked c =
    let later = c.if-to-apart.false in
    looked_on c.args.to c.args.run.now c.branch-run.new.self c.find_edge.new.run
    (looked_further c.min.result c.args.to c.args.run.now c.branch-run.new.self c.in_ok-branch.ensures.looked (omega (arith, c.min.ensures, later))) c.find_edge.ensures.looked
