use Rattle.std.proofs.Common.{rules, ◌≡◌, ◌∙◌, ap, length, sym}
use Rattle.pdp_store.specs.Pages.{PagedStored, words_of, stamps_of}
use Rattle.pdp_store.proofs.PagedTakes.{as_many_pages, as_stamped, fields_of_pages}
use Rattle.pdp_store.proofs.paged_store.Paged.take_pages.Goals as goal

pub put_bases-requires-clause-bases : goal.put_bases-requires-clause-bases
put_bases-requires-clause-bases c =
    let pages : c.deref.result.now ≡ c.in_ok-pages.field-0.pages.items = search rules in
    sym (ap length pages ∙ as_many_pages c.in_ok-pages.field-0.pages.items (length c.self.inside.bases.items) (ap length (c.in_ok-pages.ensures.all_words ∙ sym (ap (λ (v : PagedStored). v.words) c.self.view_is)) ∙ c.self.invariant.0.all_words))

pub put_bases-requires-clause-written : goal.put_bases-requires-clause-written
put_bases-requires-clause-written c =
    let pages : c.deref.result.now ≡ c.in_ok-pages.field-0.pages.items = search rules in
    c.self.invariant.0.places ∙ sym (ap length pages ∙ as_many_pages c.in_ok-pages.field-0.pages.items (length c.self.inside.bases.items) (ap length (c.in_ok-pages.ensures.all_words ∙ sym (ap (λ (v : PagedStored). v.words) c.self.view_is)) ∙ c.self.invariant.0.all_words))

pub invariant_of-self : goal.invariant_of-self
invariant_of-self c =
    let pages : c.deref.result.now ≡ c.in_ok-pages.field-0.pages.items = search rules in
    let words : c.self.inside.words.items ≡ words_of c.deref.result.now = ap (λ (v : PagedStored). v.words) c.self.view_is ∙ sym (ap words_of pages ∙ c.in_ok-pages.ensures.all_words) in
    let stamps : c.self.inside.stamps.items ≡ stamps_of c.deref.result.now = ap (λ (v : PagedStored). v.stamps) c.self.view_is ∙ sym (ap stamps_of pages ∙ c.in_ok-pages.ensures.all_stamps) in
    let fields = fields_of_pages c.deref.result.now _ _ _ _ words stamps
    (as_stamped _ _ _ _ (ap length (sym stamps)) (ap length (sym words)) c.self.invariant.0.all_stamps)
    c.put_bases.ensures in
    let many : length c.deref.result.now ≡ length c.self.inside.bases.items
    = as_many_pages c.deref.result.now (length c.self.inside.bases.items) (ap length (sym words) ∙ c.self.invariant.0.all_words) in
    (fields, c.self.invariant.1 ∙ sym (c.put_bases.ensures.count ∙ many))
