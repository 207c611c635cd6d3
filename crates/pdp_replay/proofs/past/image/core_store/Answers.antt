use Rattle.std.proofs.Common.{◌≡◌, ◌∙◌, ◌*◌, ap, replicate}
use Rattle.pdp_store.specs.Pages.{PagedStored}
use Rattle.pdp_replay.specs.Past.Setup.{unit_words}
use Rattle.pdp_replay.proofs.past.FirstWords.{padded_over}
use Rattle.pdp_replay.proofs.past.image.core_store.Goals as goal

pub returns-clause-words : goal.returns-clause-words
returns-clause-words c =
    let size : c.from-words.result ≡ c.args.base_setup.now.units = c.from-words.ensures in
    let blank : c.in_ok-store.store.words ≡ replicate (c.from-words.result * unit_words) 0 = ap (λ (s : PagedStored). s.words) c.in_ok-store.ensures in
    rw (c.fill.ensures.words, c.deref.ensures.value) (padded_over (c.args.base_setup.now.units * unit_words) c.args.base_setup.now.core.items c.in_ok-store.store.words (blank ∙ ap (λ n. replicate (n * unit_words) 0) size))
