use Rattle.std.proofs.Common.{List, Vec, Global, ◌≡◌, ◌/◌, ℕ, length, slice_get, slice_set, refl, sym, ◌∙◌, ap, arith}
use Rattle.std.proofs.lemmas.List.{get_or_read}
use Rattle.pdp_store.specs.declared.paged_drive.Backing.TheVariants.{Written}
use Rattle.pdp_store.specs.Pages.{PagedWords, SharedPage, without_base}
use Rattle.pdp_store.specs.declared.paged_drive.Backing.{Backing}
use Rattle.pdp_store.specs.DriveBackings.{backing_at, own_with_copy}
use Rattle.pdp_store.proofs.DriveBackings.{length-unshared, within_own, words-replaced, bases-replaced, fields-replaced}
use Rattle.pdp_store.proofs.paged_drive.PagedDrive.replace.Goals as goal

own_after : (own : List ℕ) (k : ℕ) (held place : Backing) (these pages : List SharedPage) → held ≡ place → these ≡ pages
    → own_with_copy held (slice_get these k) k own ≡ own_with_copy place (slice_get pages k) k own
own_after own k held place these pages same_place same = rw (same_place, same) refl

pub index-held-requires : goal.index-held-requires
index-held-requires c =
    let s = c.self.inside in
    let within = within_own s.pages.value.items s.backings.items s.own.items _ _ (ap (λ (v : PagedWords). v.words) c.self.view_is) c.requires in
    omega (arith, s.backings.ok.0, c.self.invariant.words)

pub unshare-requires-clause-shared : goal.unshare-requires-clause-shared
unshare-requires-clause-shared c =
    let s = c.self.inside in
    let within = within_own s.pages.value.items s.backings.items s.own.items _ _ (ap (λ (v : PagedWords). v.words) c.self.view_is) c.requires in
    let held = get_or_read s.backings.items _ _ (omega (arith, c.self.invariant.words)) c.index-held.ensures Written in
    λ is.
    let inside = c.self.invariant.shared _ (sym held ∙ is) in
    rw (c.deref-2.ensures.value, c.deref.ensures) inside

pub unshare-requires-clause-place : goal.unshare-requires-clause-place
unshare-requires-clause-place c =
    let s = c.self.inside in
    let within = within_own s.pages.value.items s.backings.items s.own.items _ _ (ap (λ (v : PagedWords). v.words) c.self.view_is) c.requires in
    omega (arith, c.self.invariant.words)

pub index_mut-requires : goal.index_mut-requires
index_mut-requires c =
    let s = c.self.inside in
    let within = within_own s.pages.value.items s.backings.items s.own.items _ _ (ap (λ (v : PagedWords). v.words) c.self.view_is) c.requires in
    omega (arith, s.backings.ok.0, c.self.invariant.words)

pub index_mut-requires-2 : goal.index_mut-requires-2
index_mut-requires-2 c =
    let s = c.self.inside in
    let within = within_own s.pages.value.items s.backings.items s.own.items _ _ (ap (λ (v : PagedWords). v.words) c.self.view_is) c.requires in
    let held = get_or_read s.backings.items _ _ (omega (arith, c.self.invariant.words)) c.index-held.ensures Written in
    let mine = c.unshare.ensures ∙ own_after s.own.items _ _ _ _ _ held (c.deref-2.ensures.value ∙ ap (λ (v : Vec SharedPage Global). v.items) c.deref.ensures) in
    let many = length-unshared (backing_at s.backings.items (c.args.i / 256)) (slice_get s.pages.value.items (c.args.i / 256)) (c.args.i / 256) s.own.items (omega (arith, c.self.invariant.words)) in
    omega (arith, c.unshare.new.own.ok.0, ap length mine)

pub invariant_of-self : goal.invariant_of-self
invariant_of-self c =
    let s = c.self.inside in
    let within = within_own s.pages.value.items s.backings.items s.own.items _ _ (ap (λ (v : PagedWords). v.words) c.self.view_is) c.requires in
    let held = get_or_read s.backings.items _ _ (omega (arith, c.self.invariant.words)) c.index-held.ensures Written in
    let mine = c.unshare.ensures ∙ own_after s.own.items _ _ _ _ _ held (c.deref-2.ensures.value ∙ ap (λ (v : Vec SharedPage Global). v.items) c.deref.ensures) in
    rw mine (fields-replaced s.pages.value.items s.backings.items s.own.items s.given c.args.i c.args.w s.changed c.self.invariant within)

pub returns-clause-words : goal.returns-clause-words
returns-clause-words c =
    let s = c.self.inside in
    let within = within_own s.pages.value.items s.backings.items s.own.items _ _ (ap (λ (v : PagedWords). v.words) c.self.view_is) c.requires in
    let held = get_or_read s.backings.items _ _ (omega (arith, c.self.invariant.words)) c.index-held.ensures Written in
    let mine = c.unshare.ensures ∙ own_after s.own.items _ _ _ _ _ held (c.deref-2.ensures.value ∙ ap (λ (v : Vec SharedPage Global). v.items) c.deref.ensures) in
    rw mine (words-replaced s.pages.value.items s.backings.items s.own.items c.args.i c.args.w c.self.invariant.words within)
    ∙ ap (λ (v : PagedWords). slice_set v.words c.args.i c.args.w) c.self.view_is

pub returns-clause-bases : goal.returns-clause-bases
returns-clause-bases c =
    let s = c.self.inside in
    let within = within_own s.pages.value.items s.backings.items s.own.items _ _ (ap (λ (v : PagedWords). v.words) c.self.view_is) c.requires in
    bases-replaced s.pages.value.items s.backings.items _ (omega (arith, c.self.invariant.words))
    ∙ ap (λ (v : PagedWords). without_base v.bases c.args.i) c.self.view_is
