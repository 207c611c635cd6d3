use Rattle.std.proofs.Common.{arith, subst}
use Rattle.pdp_replay.specs.Past.{Past}
use Rattle.pdp_replay.specs.Past.Edit.{past_with_patch}
use Rattle.pdp_replay.specs.Run.Branches.{IsKeptOfSize, IsTold, IsUntouchedBranch}
use Rattle.pdp_replay.proofs.ask.Fadings.{beside_after, if_ok_weaker}
use Rattle.pdp_replay.proofs.ask.PatchFadings.{apart_patched, beside_patched, nothing_patched, untouched_branch}
use Rattle.pdp_replay.proofs.run.Branches.{looked_further, looked_on}
use Rattle.pdp_replay.proofs.ask.patch_fading.find_patch_fading.Goals as goal
use Rattle.pdp_replay.proofs.ask.patch_fading.find_patch_fading.Goals.{In_ok-branch}

-- the branch, before the word is patched in it
untouched : (c : In_ok-branch) (p : Past) → IsKeptOfSize p c.args.base_setup.now c.args.script.now c.args.run.now
    → IsUntouchedBranch c.args.place.0 c.min-untouched.result p c.in_ok-branch.branch
untouched c p is =
    untouched_branch c.args.place.0 c.min-untouched.result c.reached_by.result p c.args.base_setup.now c.args.script.now c.in_ok-other.other c.args.run.now c.in_ok-branch.branch is
    (c.requires.there p is) c.reached_by.ensures.small c.reached_by.ensures.reached (omega (arith, c.min-untouched.ensures)) c.in_ok-other.ensures c.in_ok-branch.ensures.turn c.in_ok-branch.ensures.branch

pub set_word-requires : goal.set_word-requires
set_word-requires c =
    let some = c.requires.run in
    record { untouched = record { past = some.past; is = untouched (goal.at.set_word-requires c).In_ok-branch some.past some.is } }

pub compare-requires-clause-beside : goal.compare-requires-clause-beside
compare-requires-clause-beside c =
    let some = c.requires.run in
    let b = (goal.at.compare-requires-clause-beside c).In_ok-branch in
    beside_patched c.args.place.0 c.args.place.1 some.past c.args.script.now c.branch-run.new.self c.set_word.new.self some.is.same
    (c.in_ok-branch.ensures.kept some.past some.is.same some.is.run) (c.in_ok-set_word.ensures.branch some.past (untouched b some.past some.is))

pub returns-in_err-compare-clause-kept : goal.returns-in_err-compare-clause-kept
returns-in_err-compare-clause-kept c = λ p same run. c.compare.ensures.kept p same (c.in_ok-branch.ensures.kept p same run)

pub returns-in_err-compare-clause-looked : goal.returns-in_err-compare-clause-looked
returns-in_err-compare-clause-looked c =
    looked_further c.min-untouched.result c.args.to c.args.run.now c.compare.new.self
    (looked_on c.min-untouched.result c.args.run.now c.branch-run.new.self c.compare.new.self c.in_ok-branch.ensures.looked c.compare.ensures.looked) (omega (arith, c.min-untouched.ensures))

pub returns-in-Alike-clause-found : goal.returns-in-Alike-clause-found
returns-in-Alike-clause-found c = λ p is.
    let here = untouched (goal.at.returns-in-Alike-clause-found c).In_ok-branch p is in
    let q = past_with_patch c.args.place.0 c.args.place.1 p in
    let told = c.in_ok-compare.ensures.told p q is.same (c.in_ok-branch.ensures.kept p is.same is.run) (c.in_ok-set_word.ensures.branch p here) in
    nothing_patched c.args.place.0 c.args.place.1 c.min-untouched.result here.known c.args.to p here.there here.untouched
    (subst (IsTold c.min-untouched.result p q) c.in-Alike.is told)

pub returns-in-Alike-clause-kept : goal.returns-in-Alike-clause-kept
returns-in-Alike-clause-kept c = λ p same run. c.compare.ensures.kept p same (c.in_ok-branch.ensures.kept p same run)

pub returns-in-Alike-clause-looked : goal.returns-in-Alike-clause-looked
returns-in-Alike-clause-looked c =
    looked_further c.min-untouched.result c.args.to c.args.run.now c.compare.new.self
    (looked_on c.min-untouched.result c.args.run.now c.branch-run.new.self c.compare.new.self c.in_ok-branch.ensures.looked c.compare.ensures.looked) (omega (arith, c.min-untouched.ensures))

pub find_edge-requires-clause-beside : goal.find_edge-requires-clause-beside
find_edge-requires-clause-beside c =
    let some = c.requires.run in
    let b = (goal.at.find_edge-requires-clause-beside c).In_ok-branch in
    beside_after c.args.script.now c.branch-run.new.self c.compare.new.self c.set_word.new.self c.compare.new.branch
    (beside_patched c.args.place.0 c.args.place.1 some.past c.args.script.now c.branch-run.new.self c.set_word.new.self some.is.same
    (c.in_ok-branch.ensures.kept some.past some.is.same some.is.run) (c.in_ok-set_word.ensures.branch some.past (untouched b some.past some.is))) c.compare.ensures.kept c.compare.ensures.branch

pub returns-clause-found : goal.returns-clause-found
returns-clause-found c =
    let b = (goal.at.returns-clause-found c).In_ok-branch in
    if_ok_weaker _ _ c.find_edge.result
    (λ found answer p is.
    let q = past_with_patch c.args.place.0 c.args.place.1 p in
    let run = c.in_ok-branch.ensures.kept p is.same is.run in
    let branch = c.in_ok-set_word.ensures.branch p (untouched b p is) in
    let differ = subst (IsTold c.min-untouched.result p q) c.in-Apart.is (c.in_ok-compare.ensures.told p q is.same run branch) in
    answer p q (apart_patched c.args.place.0 c.args.place.1 c.min-untouched.result p c.args.script.now c.compare.new.self c.compare.new.branch is.same
    (c.in_ok-compare.ensures.kept p is.same run) (c.in_ok-compare.ensures.branch q branch) differ.0))
    c.find_edge.ensures.found

pub returns-clause-kept : goal.returns-clause-kept
returns-clause-kept c = λ p same run. c.find_edge.ensures.kept p same (c.compare.ensures.kept p same (c.in_ok-branch.ensures.kept p same run))

pub returns-clause-looked : goal.returns-clause-looked
returns-clause-looked c =
    looked_on c.args.to c.args.run.now c.compare.new.self c.find_edge.new.run
    (looked_further c.min-untouched.result c.args.to c.args.run.now c.compare.new.self
    (looked_on c.min-untouched.result c.args.run.now c.branch-run.new.self c.compare.new.self c.in_ok-branch.ensures.looked c.compare.ensures.looked) (omega (arith, c.min-untouched.ensures)))
    c.find_edge.ensures.looked
