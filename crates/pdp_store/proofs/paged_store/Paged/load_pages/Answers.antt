use Rattle.std.proofs.Common.{rules, ◌≡◌, ◌∙◌, ap, length, sym, subst}
use Rattle.pdp_store.specs.Pages.{PagedStored, words_of, stamps_of}
use Rattle.pdp_store.proofs.PagedTakes.{as_many_pages, as_stamped, fields_of_pages, rewrapped}
use Rattle.pdp_store.proofs.paged_store.Paged.load_pages.Goals as goal

pub put_bases-requires-clause-bases : goal.put_bases-requires-clause-bases
put_bases-requires-clause-bases c =
    let pages : c.args.pages.now ≡ c.args.pages.now = search rules in
    let words : length (words_of c.args.pages.now) ≡ length c.self.inside.words.items
    = subst (λ (v : PagedStored). length (words_of c.args.pages.now) ≡ length v.words) (sym c.self.view_is) c.requires.words in
    sym (ap length pages ∙ as_many_pages c.args.pages.now (length c.self.inside.bases.items) (words ∙ c.self.invariant.0.all_words))

pub put_bases-requires-clause-written : goal.put_bases-requires-clause-written
put_bases-requires-clause-written c =
    let pages : c.args.pages.now ≡ c.args.pages.now = search rules in
    let words : length (words_of c.args.pages.now) ≡ length c.self.inside.words.items
    = subst (λ (v : PagedStored). length (words_of c.args.pages.now) ≡ length v.words) (sym c.self.view_is) c.requires.words in
    c.self.invariant.0.places ∙ sym (ap length pages ∙ as_many_pages c.args.pages.now (length c.self.inside.bases.items) (words ∙ c.self.invariant.0.all_words))

pub invariant_of-self : goal.invariant_of-self
invariant_of-self c =
    let pages : c.args.pages.now ≡ c.args.pages.now = search rules in
    let pages-2 : c.args.pages.now ≡ c.args.pages.now = search rules in
    let pages-4 : c.args.pages.now ≡ c.args.pages.now = search rules in
    let words : length (words_of c.args.pages.now) ≡ length c.self.inside.words.items
    = subst (λ (v : PagedStored). length (words_of c.args.pages.now) ≡ length v.words) (sym c.self.view_is) (ap (λ ps. length (words_of ps)) (sym pages) ∙ c.requires.words) in
    let stamps : length (stamps_of c.args.pages.now) ≡ length c.self.inside.stamps.items
    = subst (λ (v : PagedStored). length (stamps_of c.args.pages.now) ≡ length v.stamps) (sym c.self.view_is) (ap (λ ps. length (stamps_of ps)) (sym pages) ∙ c.requires.stamps) in
    let words_now : c.put_words.new.words ≡ words_of c.args.pages.now = c.put_words.ensures ∙ ap words_of pages-2 in
    let stamps_now : c.put_stamps.new.stamps ≡ stamps_of c.args.pages.now = c.put_stamps.ensures ∙ ap stamps_of pages-4 in
    let words_len : length c.put_words.new.words ≡ c.self.inside.words.len = search rules in
    let stamps_len : length c.put_stamps.new.stamps ≡ c.self.inside.stamps.len = search rules in
    let fields = fields_of_pages c.args.pages.now _ _ _ _
    (rewrapped c.put_words.new.words c.self.inside.words.items c.self.inside.words.len words_len ∙ words_now)
    (rewrapped c.put_stamps.new.stamps c.self.inside.stamps.items c.self.inside.stamps.len stamps_len ∙ stamps_now)
    (as_stamped _ _ _ _ stamps words c.self.invariant.0.all_stamps)
    c.put_bases.ensures in
    let many : length c.args.pages.now ≡ length c.self.inside.bases.items
    = as_many_pages c.args.pages.now (length c.self.inside.bases.items) (words ∙ c.self.invariant.0.all_words) in
    (fields, c.self.invariant.1 ∙ sym (c.put_bases.ensures.count ∙ many))
