use Rattle.std.proofs.Common.{◌≡◌, ◌<◌, ◌*◌, ◌∙◌, Bool, None, true, false, ap, get_or, length, sym, subst, arith}
use Rattle.pdp_store.specs.Pages.{PagedStored}
use Rattle.pdp_store.specs.Bases.{given_there}
use Rattle.pdp_store.proofs.PagedFields.{marked_there, given_unmarked}
use Rattle.pdp_store.proofs.paged_store.Paged.given_with.Goals as goal

pub returns-then-index : goal.returns-then-index
returns-then-index c =
    let inside : c.args.place * 256 < length c.self.inside.words.items = subst (λ (v : PagedStored). c.args.place * 256 < length v.words) (sym c.self.view_is) c.requires in
    let all : length c.self.inside.words.items ≡ length c.self.inside.bases.items * 256 = c.self.invariant.0.all_words in
    let places : length c.self.inside.written.items ≡ length c.self.inside.bases.items = c.self.invariant.0.places in
    let mark : true ≡ get_or c.self.inside.written.items c.args.place true = subst (λ (m : Bool). m ≡ get_or c.self.inside.written.items c.args.place m) c.if-index.true c.index.ensures in
    subst (λ (v : PagedStored). c.next_given.result ≡ given_there (get_or v.bases c.args.place None) c.args.given) c.self.view_is
    (c.next_given.ensures ∙ ap (λ b. given_there b c.args.given) (sym (marked_there c.self.inside.written.items c.self.inside.bases.items c.args.place (omega arith) mark)))

pub returns-else-index : goal.returns-else-index
returns-else-index c =
    let inside : c.args.place * 256 < length c.self.inside.words.items = subst (λ (v : PagedStored). c.args.place * 256 < length v.words) (sym c.self.view_is) c.requires in
    let all : length c.self.inside.words.items ≡ length c.self.inside.bases.items * 256 = c.self.invariant.0.all_words in
    let places : length c.self.inside.written.items ≡ length c.self.inside.bases.items = c.self.invariant.0.places in
    let mark : false ≡ get_or c.self.inside.written.items c.args.place false = subst (λ (m : Bool). m ≡ get_or c.self.inside.written.items c.args.place m) c.if-index.false c.index.ensures in
    subst (λ (v : PagedStored). c.args.given ≡ given_there (get_or v.bases c.args.place None) c.args.given) c.self.view_is
    (sym (given_unmarked c.self.inside.written.items c.self.inside.bases.items c.args.place c.args.given (omega arith) places mark))
