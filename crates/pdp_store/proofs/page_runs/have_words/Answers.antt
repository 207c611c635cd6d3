use Rattle.std.proofs.Common.{rules, ◌≡◌, ◌∙◌, false, refl, sym, true}
use Rattle.pdp_store.proofs.ComparedPages.{all_compared, none_compared, page_compared, page_same, room_for_page}
use Rattle.pdp_store.proofs.page_runs.have_words.Goals as goal

pub loop-place-init : goal.loop-place-init
loop-place-init c = sym none_compared

pub piece_at-requires : goal.piece_at-requires
piece_at-requires c = λ some. room_for_page c.args.words.now c.args.pages.now c.loop-place.place c.requires c.loop-place-test.true

pub returns-then-not-are_same_words : goal.returns-then-not-are_same_words
returns-then-not-are_same_words c =
    let no : c.are_same_words.result ≡ false = search rules in (
      λ wrong. absurd (cc),
      λ same. sym no ∙ c.are_same_words.ensures.1 (
          c.piece_at.ensures.piece
          ∙ page_same c.args.words.now c.args.pages.now c.loop-place.place c.index-pages-place.result same c.loop-place-test.true c.index-pages-place.is
          ∙ sym c.words_in.ensures),
    )

pub loop-place-preserved : goal.loop-place-preserved
loop-place-preserved c =
    let same : c.are_same_words.result ≡ true = search rules in
    page_compared c.args.words.now c.args.pages.now c.loop-place.place c.index-pages-place.result c.loop-place-test.true c.index-pages-place.is c.loop-place.invariant
    (sym c.piece_at.ensures.piece ∙ c.are_same_words.ensures.0 same ∙ c.words_in.ensures)

pub returns : goal.returns
returns c = (λ yes. all_compared c.args.words.now c.args.pages.now c.loop-place.place c.requires c.loop-place-test.false c.loop-place.invariant, λ same. refl)
