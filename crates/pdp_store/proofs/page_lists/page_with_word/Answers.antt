use Rattle.std.proofs.Common.{◌≡◌, ◌∙◌, ◌/◌, ◌%◌, Some, ap, refl, slice_get, slice_set, sym}
use Rattle.std.proofs.lemmas.Option.{slice_get_read}
use Rattle.pdp_store.specs.declared.page.Page.{Page}
use Rattle.pdp_store.proofs.PageLists.{there_within}
use Rattle.pdp_store.proofs.Pages.{piece-stamps_of, piece-words_of}
use Rattle.pdp_store.proofs.page_lists.page_with_word.Goals as goal

pub bounds-pages-i : goal.bounds-pages-i
bounds-pages-i g c = there_within c.args.pages.now c.args.i c.requires.there

pub returns-clause-page : goal.returns-clause-page
returns-clause-page g c =
    let ps = c.args.pages.now in
    let k = c.args.i / 256 in
    let old = c.index-pages-i.result in
    let at : slice_get ps k ≡ Some old =
    slice_get_read ps _ k old refl (there_within ps c.args.i c.requires.there) c.index-pages-i.is in
    let made = c.in_ok-page.ensures.page in
    let was = c.deref.ensures in
    let named = c.in_ok-new.ensures.ok in
    record {
      has_words =
          ap (λ (p : Page). p.words.items) named ∙ made.words
          ∙ ap (λ (p : Page). slice_set p.words.items (c.args.i % 256) c.args.w) was
          ∙ ap (λ xs. slice_set xs (c.args.i % 256) c.args.w) (sym (piece-words_of ps k old at));
      has_stamps =
          ap (λ (p : Page). p.stamps.value.items) named ∙ made.stamps ∙ ap (λ (p : Page). p.stamps.value.items) was
          ∙ sym (piece-stamps_of ps k old c.requires.stamped at);
      has_serial = ap (λ (p : Page). p.serial) named ∙ made.serial;
    }
