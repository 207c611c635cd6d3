-- Lists of pages with another page at one place.
use Rattle.std.specs.Prelude.{List, map}
use Rattle.pdp_store.specs.declared.page.Page.{Page}
use Rattle.pdp_store.specs.Pages.{SharedPage}

-- the pages that are shared
abbrev pub pages_shared : List SharedPage → List Page
pages_shared pages = map (λ page. page.value) pages
