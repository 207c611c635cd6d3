use Rattle.std.proofs.Common.{◌≡◌, ◌∙◌, is_some, rules}
use Rattle.pdp_store.specs.Parts.{word_at}
use Rattle.pdp_store.specs.declared.part.Part.TheVariants as part
use Rattle.pdp_replay.specs.Past.Edit.{revert_edit}
use Rattle.pdp_replay.specs.Past.PatchedWords.{patch_of}
use Rattle.pdp_replay.proofs.engine.Engine.check_reversion.Goals as goal

pub returns-then-not-contains_key : goal.returns-then-not-contains_key
unfolding revert_edit
returns-then-not-contains_key c =
    let found : c.contains_key.result ≡ is_some (patch_of c.self.inside.patches.entries (word_at part.Core c.in_ok-number.number)) = c.contains_key.ensures ∙ search rules in
    search rules

pub returns : goal.returns
unfolding revert_edit
returns c =
    let found : c.contains_key.result ≡ is_some (patch_of c.self.inside.patches.entries (word_at part.Core c.in_ok-number.number)) = c.contains_key.ensures ∙ search rules in
    search rules
