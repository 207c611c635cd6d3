use Rattle.std.proofs.Common.{Vec, Global, [], ◌≡◌, get_or, slice_get, refl, sym, ◌∙◌, ap, arith}
use Rattle.std.proofs.lemmas.List.{get_or_read}
use Rattle.std.proofs.lemmas.Option.{slice_get_read}
use Rattle.std.proofs.lemmas.Result.{IfOk-weaker}
use Rattle.pdp_store.specs.declared.page.Page.{Page}
use Rattle.pdp_store.specs.declared.paged_drive.Backing.TheVariants.{Shared, Written}
use Rattle.pdp_store.specs.Pages.{PagedWords, SharedPage}
use Rattle.pdp_store.specs.Bases.{IsPageOf, serial_there}
use Rattle.pdp_store.specs.Pieces.{piece}
use Rattle.pdp_store.specs.DriveBackings.{base_from}
use Rattle.pdp_store.proofs.DriveTaken.{base_of_own, base_there, count_places, stamps-none, length-part, piece-own, piece-shared}
use Rattle.pdp_store.proofs.paged_drive.PagedDrive.page_of.Goals as goal

pub index-held-requires : goal.index-held-requires
index-held-requires c =
    let s = c.self.inside in
    let bases = ap (λ (v : PagedWords). v.bases) c.self.view_is in
    let many = count_places s.pages.value.items s.backings.items _ bases in
    omega (arith, s.backings.ok.0)

pub index-requires : goal.index-requires
index-requires c =
    let s = c.self.inside in
    let bases = ap (λ (v : PagedWords). v.bases) c.self.view_is in
    let many = count_places s.pages.value.items s.backings.items _ bases in
    let held = get_or_read s.backings.items _ _ (omega arith) c.index-held.ensures Written in
    let inside = c.self.invariant.shared _ (sym held ∙ c.in-Shared.is) in
    rw c.deref.ensures (omega (arith, s.pages.value.ok.0))

pub returns-in-Shared : goal.returns-in-Shared
returns-in-Shared c =
    let s = c.self.inside in
    let bases = ap (λ (v : PagedWords). v.bases) c.self.view_is in
    let many = count_places s.pages.value.items s.backings.items _ bases in
    let held = get_or_read s.backings.items _ _ (omega arith) c.index-held.ensures Written in
    let k = c.args.place in
    let there = c.index.result.now in
    let is = sym held ∙ c.in-Shared.is in
    let inside = c.self.invariant.shared _ is in
    let at = slice_get_read s.pages.value.items _ k there refl inside (c.index.ensures ∙ ap (λ (v : Vec SharedPage Global). get_or v.items k there) c.deref.ensures) in
    let same : c.in_ok-page.page.value ≡ there.value = c.in_ok-page.ensures.cases in
    record {
      has_words =
          ap (λ (p : Page). p.words.items) same
          ∙ piece-shared s.pages.value.items s.backings.items s.own.items k there c.self.invariant.words (omega arith) is at
          ∙ ap (λ (v : PagedWords). piece k v.words) c.self.view_is;
      has_stamps = ap (λ (p : Page). p.stamps.value.items) same ∙ stamps-none s.pages.value.items k there c.self.invariant.stamps at;
      has_serial =
          ap (λ (p : Page). p.serial) same
          ∙ sym (ap (λ b. serial_there b c.args.given) (base_there s.pages.value.items s.backings.items _ k Shared bases (omega arith) (sym is) ∙ ap (λ p. base_from Shared p) at));
    }

pub part-requires : goal.part-requires
part-requires c =
    let s = c.self.inside in
    let bases = ap (λ (v : PagedWords). v.bases) c.self.view_is in
    let many = count_places s.pages.value.items s.backings.items _ bases in
    rw c.deref-2.ensures.value (omega (arith, c.self.invariant.words))

pub new_page-requires : goal.new_page-requires
new_page-requires c =
    let s = c.self.inside in
    let bases = ap (λ (v : PagedWords). v.bases) c.self.view_is in
    let many = count_places s.pages.value.items s.backings.items _ bases in
    let words = c.part.ensures ∙ ap (λ xs. piece c.args.place xs) c.deref-2.ensures.value in
    record {
      full = length-part c.args.place s.own.items _ words (omega (arith, c.self.invariant.words));
      stamped = λ some. absurd (omega arith);
    }

pub returns : goal.returns
returns c =
    let s = c.self.inside in
    let bases = ap (λ (v : PagedWords). v.bases) c.self.view_is in
    let many = count_places s.pages.value.items s.backings.items _ bases in
    let held = get_or_read s.backings.items _ _ (omega arith) c.index-held.ensures Written in
    let k = c.args.place in
    let there = c.index-held.result.now in
    let words = c.part.ensures ∙ ap (λ xs. piece k xs) c.deref-2.ensures.value in
    let base = base_there s.pages.value.items s.backings.items _ k there bases (omega arith) held ∙ base_of_own there (slice_get s.pages.value.items k) c.in_default.not-Shared in
    IfOk-weaker c.new_page.result (λ page. IsPageOf page c.part.result.now [] c.serial_for.result) _ (λ page made. record {
      has_words =
          made.has_words ∙ words
          ∙ piece-own s.pages.value.items s.backings.items s.own.items k c.self.invariant.words (omega arith) (λ is. c.in_default.not-Shared (held ∙ is))
          ∙ ap (λ (v : PagedWords). piece k v.words) c.self.view_is;
      has_stamps = made.has_stamps;
      has_serial = made.has_serial ∙ c.serial_for.ensures ∙ sym (ap (λ b. serial_there b c.args.given) base);
    }) c.new_page.ensures
