use Rattle.pdp_checkpoint.proofs.SharedPages.{patch_for_all}
use Rattle.pdp_checkpoint.proofs.patched.ReadyPatch.new.Goals as goal

pub new_pages-requires : goal.new_pages-requires
new_pages-requires c =
    patch_for_all c.args.at c.args.value c.args.kept.now c.index-kept-0.result c.in_ok-page.page
    c.requires.some c.index-kept-0.is c.requires.there c.requires.alike c.in_ok-page.ensures.patch c.in_ok-page.ensures.page
