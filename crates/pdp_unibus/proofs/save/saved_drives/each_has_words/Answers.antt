use Rattle.std.proofs.Common.{rules, ◌≡◌, ◌∙◌, [], ap, arith, get_or, length, map, refl, sym}
use Rattle.std.proofs.lemmas.List.{length-map}
use Rattle.pdp_unibus.specs.SavedDrives.{pages_words}
use Rattle.pdp_unibus.proofs.ComparedDrives.{alike_at, all_same, as_many_seen, one_same_more}
use Rattle.pdp_unibus.proofs.save.saved_drives.each_has_words.Goals as goal

pub loop-number-init : goal.loop-number-init
loop-number-init g c =
    let count : length c.args.drives.now.items ≡ c.len-number-end.result = search rules in
    (refl, count, as_many_seen pages_words g.D.Store.words c.args.pages.now.items c.args.drives.now.items c.requires ∙ count)

pub one_has_words-requires-clause-words : goal.one_has_words-requires-clause-words
one_has_words-requires-clause-words g c =
    alike_at (map pages_words c.args.pages.now.items) (map g.D.Store.words c.args.drives.now.items) c.loop-number.number c.requires

pub returns-then-not-one_has_words : goal.returns-then-not-one_has_words
returns-then-not-one_has_words g c = (
  λ wrong. absurd (cc),
  λ same. sym c.if-not-one_has_words.true ∙ c.one_has_words.ensures.1 (ap (λ xs. get_or xs c.loop-number.number []) same),
)

pub loop-number-preserved : goal.loop-number-preserved
loop-number-preserved g c =
    let (same, as_many, as_many_pages) = c.loop-number.invariant in
    let drives = map g.D.Store.words c.args.drives.now.items in
    let pages = map pages_words c.args.pages.now.items in
    let all : length drives ≡ length c.args.drives.now.items = length-map c.args.drives.now.items g.D.Store.words in
    let listed : length pages ≡ length c.args.pages.now.items = length-map c.args.pages.now.items pages_words in (
      one_same_more drives pages c.loop-number.number (omega (arith, all, as_many, c.loop-number-test.true)) (omega (arith, all, listed, as_many, as_many_pages)) same
          (c.one_has_words.ensures.0 c.if-not-one_has_words.false),
      as_many,
      as_many_pages,
    )

pub returns : goal.returns
returns g c =
    let (same, as_many, as_many_pages) = c.loop-number.invariant in
    let drives = map g.D.Store.words c.args.drives.now.items in
    let pages = map pages_words c.args.pages.now.items in
    let all : length drives ≡ length c.args.drives.now.items = length-map c.args.drives.now.items g.D.Store.words in
    let listed : length pages ≡ length c.args.pages.now.items = length-map c.args.pages.now.items pages_words in (
      λ yes. all_same drives pages c.loop-number.number (omega (arith, all, as_many, c.loop-number-test.false)) (omega (arith, all, listed, as_many, as_many_pages)) same,
      λ is. refl,
    )
