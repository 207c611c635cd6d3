use Rattle.std.proofs.Common.{◌≡◌, sym, ◌∙◌, rules, is_some, true}
use Rattle.pdp_replay.specs.Past.PatchedWords.{patch_of}
use Rattle.pdp_replay.proofs.past.RestoredPatches.{put_there, none_there, ok_gives}
use Rattle.pdp_replay.proofs.past.patch.put_patch.Goals as goal

pub shift_insert-requires-clause-below_len : goal.shift_insert-requires-clause-below_len
shift_insert-requires-clause-below_len c = λ there.
    let said : is_some (patch_of c.args.patches.now.entries c.args.at) ≡ true = search rules ∙ there in
    absurd (none_there (patch_of c.args.patches.now.entries c.args.at) c.requires.none said)

pub returns-clause-entries : goal.returns-clause-entries
returns-clause-entries c =
    put_there _ c.args.at c.in-Some.word c.in-Some.place c.min-place.result c.args.was c.args.patches.now.entries c.shift_insert.new.self.entries
    (ok_gives c.shift_insert.result _ (c.shift_insert.ensures.succeeds c.requires.room) c.shift_insert.ensures.entries)
    (sym (search rules) ∙ c.requires.none) (search rules) (search rules)
