use Rattle.std.proofs.Common.{◌≡◌, ◌∙◌, is_some, rules, sym}
use Rattle.pdp_replay.specs.Past.PatchedWords.{patch_of}
use Rattle.pdp_replay.proofs.past.Lists.{is_there, not_there}
use Rattle.pdp_replay.proofs.past.edits.make_room.Goals as goal

pub returns-then-contains_key-clause-room : goal.returns-then-contains_key-clause-room
returns-then-contains_key-clause-room c = λ none.
    let said : c.contains_key.result ≡ is_some (patch_of c.args.patches.now.entries c.args.at) = c.contains_key.ensures ∙ search rules in
    not_there (patch_of c.args.patches.now.entries c.args.at) none (sym said ∙ c.if-contains_key.true)

pub returns-in_err-reserve-clause-patched : goal.returns-in_err-reserve-clause-patched
returns-in_err-reserve-clause-patched c = λ there.
    let said : c.contains_key.result ≡ is_some (patch_of c.args.patches.now.entries c.args.at) = c.contains_key.ensures ∙ search rules in
    is_there c.contains_key.result (said ∙ there) c.if-contains_key.false
