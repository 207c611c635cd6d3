use Rattle.std.proofs.Common.{rules, ◌≡◌, ◌<◌, ◌+◌, ◌*◌, ℕ, List, [], ◌∷◌, ◌++◌, ap, length, sym, subst, arith}
use Rattle.pdp_store.specs.Pages.{PagedStored, SharedPage}
use Rattle.pdp_store.specs.Bases.{AreTakenBelow}
use Rattle.pdp_store.proofs.PagedTakes.{length-bases_of, none_taken, one_taken_more, all_taken}
use Rattle.pdp_store.proofs.paged_store.Paged.pages.Goals as goal

pub loop-place-init : goal.loop-place-init
loop-place-init c =
    subst (λ (pages : List SharedPage). AreTakenBelow 0 pages c.self.inside.given c.args.self.now) (sym c.in_ok-pages.ensures.items)
    (subst (λ (given : ℕ). AreTakenBelow 0 [] given c.args.self.now) (ap (λ (v : PagedStored). v.given) (sym c.self.view_is)) (none_taken c.args.self.now))

pub loop-place-preserved : goal.loop-place-preserved
loop-place-preserved c =
    let places : c.len-places.result ≡ length c.self.inside.bases.items = search rules in
    let count : length c.args.self.now.bases ≡ length c.self.inside.bases.items
    = subst (λ (v : PagedStored). length v.bases ≡ length c.self.inside.bases.items) c.self.view_is
    (length-bases_of c.self.inside.written.items c.self.inside.bases.items c.self.invariant.0.places) in
    let below : c.loop-place.place < length c.args.self.now.bases = omega arith in
    let more = one_taken_more c.args.self.now c.loop-place.place c.loop-place.given c.loop-place.pages.items c.in_ok-page_at.field-0 c.loop-place.invariant below c.in_ok-page_at.ensures in
    subst (λ (pages : List SharedPage). AreTakenBelow (c.loop-place.place + 1) pages c.given_with-given.result c.args.self.now) (sym {A = List SharedPage} c.in_ok-push.ensures.items)
    (subst (λ (given : ℕ). AreTakenBelow (c.loop-place.place + 1) (c.loop-place.pages.items ++ c.in_ok-page_at.field-0 ∷ []) given c.args.self.now) (sym {A = ℕ} c.given_with-given.ensures) more)

pub returns : goal.returns
returns c =
    let places : c.len-places.result ≡ length c.self.inside.bases.items = search rules in
    let count : length c.args.self.now.bases ≡ length c.self.inside.bases.items
    = subst (λ (v : PagedStored). length v.bases ≡ length c.self.inside.bases.items) c.self.view_is
    (length-bases_of c.self.inside.written.items c.self.inside.bases.items c.self.invariant.0.places) in
    let words : length c.args.self.now.words ≡ length c.self.inside.bases.items * 256
    = subst (λ (v : PagedStored). length v.words ≡ length c.self.inside.bases.items * 256) c.self.view_is c.self.invariant.0.all_words in
    let stamps : 0 < length c.args.self.now.stamps → length c.args.self.now.stamps ≡ length c.args.self.now.words
    = subst (λ (v : PagedStored). 0 < length v.stamps → length v.stamps ≡ length v.words) c.self.view_is c.self.invariant.0.all_stamps in
    all_taken c.args.self.now c.loop-place.place c.loop-place.given c.loop-place.pages.items c.loop-place.invariant (omega arith) (omega arith) (grind arith)
