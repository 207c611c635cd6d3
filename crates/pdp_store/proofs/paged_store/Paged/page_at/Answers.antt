use Rattle.std.proofs.Common.{◌≡◌, ◌<◌, ◌*◌, ◌∙◌, Bool, Some, None, true, false, ap, get_or, length, refl, sym, subst, arith, slice_get, IfOk}
use Rattle.std.proofs.lemmas.Option.{slice_get_read}
use Rattle.std.proofs.lemmas.Result.{IfOk-weaker}
use Rattle.pdp_store.specs.Pages.{PagedStored}
use Rattle.pdp_store.specs.Pieces.{piece}
use Rattle.pdp_store.specs.Bases.{IsPageOf, bases_of, serial_of, serial_there}
use Rattle.pdp_store.proofs.PagedFields.{marked_there, unmarked_there}
use Rattle.pdp_store.proofs.PagedTakes.{page_is}
use Rattle.pdp_store.proofs.paged_store.Paged.page_at.Goals as goal

pub returns-then-index : goal.returns-then-index
returns-then-index c =
    let inside : c.args.place * 256 < length c.self.inside.words.items = subst (λ (v : PagedStored). c.args.place * 256 < length v.words) (sym c.self.view_is) c.requires in
    let all : length c.self.inside.words.items ≡ length c.self.inside.bases.items * 256 = c.self.invariant.0.all_words in
    let places : length c.self.inside.written.items ≡ length c.self.inside.bases.items = c.self.invariant.0.places in
    let mark : true ≡ get_or c.self.inside.written.items c.args.place true = subst (λ (m : Bool). m ≡ get_or c.self.inside.written.items c.args.place m) c.if-index.true c.index.ensures in
    let none : get_or (bases_of c.self.inside.written.items c.self.inside.bases.items) c.args.place None ≡ None
    = marked_there c.self.inside.written.items c.self.inside.bases.items c.args.place (omega arith) mark in
    subst (λ (v : PagedStored). IfOk c.new_page.result (λ page. IsPageOf page (piece c.args.place v.words) (piece c.args.place v.stamps) (serial_there (get_or v.bases c.args.place None) c.args.given))) c.self.view_is
    (IfOk-weaker c.new_page.result _ _
    (λ page is. page_is page _ _ _ _ _ _ (c.piece_at-words.ensures.piece ∙ ap (piece c.args.place) c.deref.ensures.value)
    (c.piece_at-stamps.ensures.piece ∙ ap (piece c.args.place) c.deref-2.ensures.value)
    (c.next_serial.ensures ∙ ap (λ b. serial_there b c.args.given) (sym none)) is)
    c.new_page.ensures)

pub returns-else-index : goal.returns-else-index
returns-else-index c =
    let inside : c.args.place * 256 < length c.self.inside.words.items = subst (λ (v : PagedStored). c.args.place * 256 < length v.words) (sym c.self.view_is) c.requires in
    let all : length c.self.inside.words.items ≡ length c.self.inside.bases.items * 256 = c.self.invariant.0.all_words in
    let places : length c.self.inside.written.items ≡ length c.self.inside.bases.items = c.self.invariant.0.places in
    let mark : false ≡ get_or c.self.inside.written.items c.args.place false = subst (λ (m : Bool). m ≡ get_or c.self.inside.written.items c.args.place m) c.if-index.false c.index.ensures in
    let below : c.args.place < length c.self.inside.bases.items = omega arith in
    let base : slice_get c.self.inside.bases.items c.args.place ≡ Some c.index-else-index.result.now
    = slice_get_read c.self.inside.bases.items (length c.self.inside.bases.items) c.args.place c.index-else-index.result.now refl below c.index-else-index.ensures in
    let some : get_or (bases_of c.self.inside.written.items c.self.inside.bases.items) c.args.place None ≡ Some (serial_of c.index-else-index.result.now)
    = unmarked_there c.self.inside.written.items c.self.inside.bases.items c.args.place c.index-else-index.result.now (omega arith) mark base in
    subst (λ (v : PagedStored). IfOk c.page.result (λ page. IsPageOf page (piece c.args.place v.words) (piece c.args.place v.stamps) (serial_there (get_or v.bases c.args.place None) c.args.given))) c.self.view_is
    (IfOk-weaker c.page.result _ _
    (λ page is. page_is page _ _ _ _ _ _ (c.piece_at-words.ensures.piece ∙ ap (piece c.args.place) c.deref.ensures.value)
    (c.piece_at-stamps.ensures.piece ∙ ap (piece c.args.place) c.deref-2.ensures.value)
    (sym (ap (λ b. serial_there b c.args.given) some)) is)
    c.page.ensures)
