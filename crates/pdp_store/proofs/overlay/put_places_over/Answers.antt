use Rattle.std.proofs.Common.{◌≡◌, ◌∙◌, ◌<◌, Bool, false, length, not, true, ap, arith, refl, subst, sym}
use Rattle.std.proofs.lemmas.Option.{slice_get_read}
use Rattle.pdp_store.specs.Overlays.{stamps_over}
use Rattle.pdp_store.specs.Pages.{page_stamps, page_words, stamps_of, words_of}
use Rattle.pdp_store.specs.Pieces.{piece}
use Rattle.pdp_store.proofs.Overlays.{all_so_far, as_long, length-stamps_over, none_so_far, one_kept_more, one_put_more, piece-stamps_over, stamps_here, words_left, words_there}
use Rattle.pdp_store.proofs.PageRuns.{put_all, put_ends, put_more}
use Rattle.pdp_store.proofs.Pages.{piece-words_of}
use Rattle.pdp_store.proofs.overlay.put_places_over.Goals as goal

-- src/overlay.rt
pub loop-place-init : goal.loop-place-init
loop-place-init c = record {
  here = refl;
  items = refl;
  fields = none_so_far c.args.words.now c.args.stamps.now c.args.pages.now _ c.args.bases.now.items c.args.written.now.items c.requires.words c.requires.fields;
}

pub keeps_base-stays-requires : goal.keeps_base-stays-requires
keeps_base-stays-requires c =
    let here = stamps_here c.args.words.now c.args.stamps.now c.args.pages.now _ _ c.loop-place.place c.index-pages-place.result c.requires.fields c.requires.words c.requires.stamps c.loop-place-test.true c.index-pages-place.is in
    ap length (sym here) ∙ as_long c.loop-place.place (stamps_of c.args.pages.now) c.args.stamps.now c.requires.stamps ∙ ap length (sym c.piece_at-under.ensures.piece)

pub put_unless-at-requires-clause-same : goal.put_unless-at-requires-clause-same
put_unless-at-requires-clause-same c = λ stays.
    words_there c.args.pages.now c.loop-place.place c.loop-place.at c.loop-place.words c.words_in.result.now c.index-pages-place.result (omega (arith, c.loop-place-test.true))
    c.loop-place.invariant.here c.words_in.ensures (sym c.piece_at.ensures.piece ∙ c.keeps_base-stays.ensures.words stays)

pub loop-place-preserved-then-stays : goal.loop-place-preserved-then-stays
loop-place-preserved-then-stays c =
    let place = c.loop-place.place in
    let pages = c.args.pages.now in
    let page = c.index-pages-place.result in
    let before = c.loop-place.invariant in
    let at = slice_get_read pages (length pages) place page refl c.loop-place-test.true c.index-pages-place.is in
    let here = stamps_here c.args.words.now c.args.stamps.now pages _ _ place page c.requires.fields c.requires.words c.requires.stamps c.loop-place-test.true c.index-pages-place.is in
    let left = words_left pages place c.loop-place.at c.args.words.now c.loop-place.words (omega (arith, c.loop-place-test.true)) before.here before.items in
    record {
      here = put_ends page_words pages place c.loop-place.at _ c.words_in.result.now page c.put_unless-at.ensures.end before.here c.loop-place-test.true c.index-pages-place.is c.words_in.ensures;
      items =
          put_more page_words pages place c.loop-place.at _ c.args.words.now c.loop-place.words c.words_in.result.now _ page c.put_unless-at.ensures.items c.put_unless-at.ensures.end
          before.here before.items c.loop-place-test.true c.index-pages-place.is c.words_in.ensures;
      fields =
          one_kept_more c.args.words.now c.args.stamps.now pages (stamps_over c.args.turn c.args.stamps.now (stamps_of pages)) c.loop-place.bases.items c.loop-place.written.items place before.fields
          (sym left ∙ sym c.piece_at.ensures.piece ∙ c.keeps_base-stays.ensures.words c.if-stays.true ∙ sym (piece-words_of pages place page at))
          (sym (piece-stamps_over c.args.turn place c.args.stamps.now (stamps_of pages)
          ∙ ap (stamps_over c.args.turn (piece place c.args.stamps.now)) here
          ∙ ap (λ xs. stamps_over c.args.turn xs (page_stamps page)) (sym c.piece_at-under.ensures.piece)
          ∙ c.keeps_base-stays.ensures.stamps c.if-stays.true
          ∙ c.piece_at-under.ensures.piece));
    }

pub is_laid-requires-clause-over : goal.is_laid-requires-clause-over
is_laid-requires-clause-over c =
    let here = stamps_here c.args.words.now c.args.stamps.now c.args.pages.now _ _ c.loop-place.place c.index-pages-place.result c.requires.fields c.requires.words c.requires.stamps c.loop-place-test.true c.index-pages-place.is in
    ap length (c.stamps_in.ensures ∙ sym here) ∙ as_long c.loop-place.place (stamps_of c.args.pages.now) c.args.stamps.now c.requires.stamps ∙ ap length (sym c.piece_at-under.ensures.piece)

pub is_laid-requires-clause-these : goal.is_laid-requires-clause-these
is_laid-requires-clause-these c =
    let here = stamps_here c.args.words.now c.args.stamps.now c.args.pages.now _ _ c.loop-place.place c.index-pages-place.result c.requires.fields c.requires.words c.requires.stamps c.loop-place-test.true c.index-pages-place.is in
    ap length (c.stamps_in-in-loop-place.ensures ∙ sym here) ∙ as_long c.loop-place.place (stamps_of c.args.pages.now) c.args.stamps.now c.requires.stamps
    ∙ ap length (sym c.piece_at-under.ensures.piece)

yes : (b : Bool) → not b ≡ false → b ≡ true
yes true is = refl
yes false is = absurd (cc)

pub loop-place-preserved : goal.loop-place-preserved
loop-place-preserved c =
    let place = c.loop-place.place in
    let pages = c.args.pages.now in
    let page = c.index-pages-place.result in
    let before = c.loop-place.invariant in
    let at = slice_get_read pages (length pages) place page refl c.loop-place-test.true c.index-pages-place.is in
    let here = stamps_here c.args.words.now c.args.stamps.now pages _ _ place page c.requires.fields c.requires.words c.requires.stamps c.loop-place-test.true c.index-pages-place.is in
    record {
      here = put_ends page_words pages place c.loop-place.at _ c.words_in.result.now page c.put_unless-at.ensures.end before.here c.loop-place-test.true c.index-pages-place.is c.words_in.ensures;
      items =
          put_more page_words pages place c.loop-place.at _ c.args.words.now c.loop-place.words c.words_in.result.now _ page c.put_unless-at.ensures.items c.put_unless-at.ensures.end
          before.here before.items c.loop-place-test.true c.index-pages-place.is c.words_in.ensures;
      fields =
          one_put_more c.args.words.now c.args.stamps.now pages (stamps_over c.args.turn c.args.stamps.now (stamps_of pages)) c.loop-place.bases.items c.loop-place.written.items place
          c.of.result page (not c.is_laid.result) before.fields at c.of.ensures
          (λ no. piece-stamps_over c.args.turn place c.args.stamps.now (stamps_of pages)
          ∙ ap (stamps_over c.args.turn (piece place c.args.stamps.now)) (here ∙ sym c.stamps_in.ensures)
          ∙ ap (λ xs. stamps_over c.args.turn xs c.stamps_in.result.now) (sym c.piece_at-under.ensures.piece)
          ∙ c.is_laid.ensures (yes c.is_laid.result no)
          ∙ c.stamps_in-in-loop-place.ensures);
    }

pub returns : goal.returns
unfolding words_of
returns c =
    let before = c.loop-place.invariant in
    let end : c.loop-place.place ≡ length c.args.pages.now = omega arith in
    let stamps = stamps_over c.args.turn c.args.stamps.now (stamps_of c.args.pages.now) in
    let size = length-stamps_over c.args.turn c.args.stamps.now (stamps_of c.args.pages.now) c.requires.stamps in
    record {
      words = put_all page_words c.args.pages.now c.loop-place.place c.loop-place.at c.args.words.now c.loop-place.words before.here before.items c.requires.words c.loop-place-test.false;
      fields =
          all_so_far c.args.words.now c.args.stamps.now c.args.pages.now stamps c.loop-place.bases.items c.loop-place.written.items
          (λ some. size ∙ c.requires.fields.all_stamps (subst (λ n. 0 < n) size some) ∙ sym c.requires.words)
          (rw (← end) before.fields);
    }
