use Rattle.std.proofs.Common.{Vec, Global, ◌≡◌, ◌∙◌, ◌*◌, ℕ, List, ap, get_or, length, refl, sym, arith}
use Rattle.pdp_store.specs.Pages.{SharedPage, words_of}
use Rattle.pdp_store.proofs.ComparedPages.{all_compared, none_compared, page_compared, page_same}
use Rattle.pdp_store.proofs.PagedTakes.{as_many_pages}
use Rattle.pdp_store.proofs.paged_drive.shared_pages.PagedDriveSharedPaging.has_words.Goals as goal

-- as many pages as places
as_many : (pages : List SharedPage) (words : List ℕ) (places : ℕ) → length (words_of pages) ≡ length words → places * 256 ≡ length words → length pages ≡ places
as_many pages words places same all = as_many_pages pages places (same ∙ sym all)

-- src/paged_drive/shared_pages.rt
pub loop-place-init : goal.loop-place-init
loop-place-init c = sym none_compared

pub returns-then-not-are_same_words : goal.returns-then-not-are_same_words
returns-then-not-are_same_words c =
    let pages = c.args.pages.now.value.items in
    let many = as_many pages c.args.self.now.words c.count-place-end.result c.requires c.count-place-end.ensures.words in
    let at = c.index.ensures ∙ ap (λ (v : Vec SharedPage Global). get_or v.items c.loop-place.place c.index.result.now) c.deref.ensures in (
      λ wrong. absurd (cc),
      λ same. sym c.if-not-are_same_words.true ∙ c.are_same_words.ensures.1 (
          c.words_at.ensures
          ∙ page_same c.args.self.now.words pages c.loop-place.place c.index.result.now same (omega (arith, many, c.loop-place-test.true)) at
          ∙ sym c.words_in.ensures),
    )

pub loop-place-preserved : goal.loop-place-preserved
loop-place-preserved c =
    let pages = c.args.pages.now.value.items in
    let many = as_many pages c.args.self.now.words c.count-place-end.result c.requires c.count-place-end.ensures.words in
    let at = c.index.ensures ∙ ap (λ (v : Vec SharedPage Global). get_or v.items c.loop-place.place c.index.result.now) c.deref.ensures in
    page_compared c.args.self.now.words pages c.loop-place.place c.index.result.now (omega (arith, many, c.loop-place-test.true)) at c.loop-place.invariant
    (sym c.words_at.ensures ∙ c.are_same_words.ensures.0 c.if-not-are_same_words.false ∙ c.words_in.ensures)

pub returns : goal.returns
returns c =
    let pages = c.args.pages.now.value.items in
    let many = as_many pages c.args.self.now.words c.count-place-end.result c.requires c.count-place-end.ensures.words in
    (λ yes. all_compared c.args.self.now.words pages c.loop-place.place c.requires (omega (arith, many, c.loop-place-test.false)) c.loop-place.invariant, λ same. refl)
