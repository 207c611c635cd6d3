use Rattle.std.proofs.Common.{◌≡◌, ap, replicate}
use Rattle.pdp_store.specs.Pages.{PagedWords}
use Rattle.pdp_replay.specs.Past.Setup.{drive_words}
use Rattle.pdp_replay.proofs.past.FirstWords.{fits_blank, padded_over}
use Rattle.pdp_replay.proofs.past.image.drive_store.Goals as goal

pub fill-requires : goal.fill-requires
fill-requires c =
    let blank : c.in_ok-store.store.words ≡ replicate drive_words 0 = ap (λ (s : PagedWords). s.words) c.in_ok-store.ensures in
    (fits_blank drive_words c.args.image.now c.in_ok-store.store.words blank c.requires)

pub returns-clause-words : goal.returns-clause-words
returns-clause-words c =
    let blank : c.in_ok-store.store.words ≡ replicate drive_words 0 = ap (λ (s : PagedWords). s.words) c.in_ok-store.ensures in
    rw c.fill.ensures.words (padded_over drive_words c.args.image.now c.in_ok-store.store.words blank)
