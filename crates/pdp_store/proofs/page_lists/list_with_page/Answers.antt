use Rattle.std.proofs.Common.{◌∙◌, ap, slice_set}
use Rattle.std.proofs.lemmas.List.{map-set}
use Rattle.pdp_store.specs.Pages.{SharedPage}
use Rattle.pdp_store.proofs.page_lists.list_with_page.Goals as goal

pub returns : goal.returns
returns c =
    map-set (λ (p : SharedPage). p.value) c.in_ok-list.list.items c.args.place c.args.page
    ∙ ap (λ ps. slice_set ps c.args.place c.args.page.value) c.in_ok-list.ensures
