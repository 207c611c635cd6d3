use Rattle.std.proofs.Common.{◌≡◌, Some, None, sym, ◌∙◌, rules}
use Rattle.std.specs.List.{position}
use Rattle.std.specs.Map.{keys_of}
use Rattle.pdp_replay.specs.Past.PatchedWords.{is_same_word, patch_of}
use Rattle.pdp_replay.proofs.past.RestoredPatches.{located, missing, once_of}
use Rattle.pdp_replay.proofs.past.patch.find_patch.Goals as goal

pub returns-in-Some-clause-place : goal.returns-in-Some-clause-place
returns-in-Some-clause-place c =
    let index : position (is_same_word c.args.at) (keys_of c.args.patches.now.entries) ≡ Some c.in-Some.place = search rules ∙ sym c.in-Some.ensures.index in
    let value : patch_of c.args.patches.now.entries c.args.at ≡ Some c.in-Some.word.now = search rules ∙ sym c.in-Some.ensures.value in
    located c.args.at c.args.patches.now.entries c.in-Some.place c.in-Some.word.now index value

pub returns-in-None-clause-place : goal.returns-in-None-clause-place
returns-in-None-clause-place c =
    let value : patch_of c.args.patches.now.entries c.args.at ≡ None = search rules ∙ sym c.in-None.ensures.value in
    missing c.args.at c.args.patches.now.entries value

pub returns-in-Some-clause-once : goal.returns-in-Some-clause-once
returns-in-Some-clause-once c = once_of _ (λ k. search rules) c.args.patches.now.entries c.len.ensures.unique

pub returns-in-None-clause-once : goal.returns-in-None-clause-once
returns-in-None-clause-once c = once_of _ (λ k. search rules) c.args.patches.now.entries c.len.ensures.unique
