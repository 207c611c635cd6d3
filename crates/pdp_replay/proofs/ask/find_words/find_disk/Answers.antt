use Rattle.std.proofs.Common.{◌≡◌, ◌+◌, ◌-◌, ◌∙◌, ap, arith, length}
use Rattle.std.specs.Prelude.{slice_index}
use Rattle.pdp_replay.specs.Run.States.{disk_of}
use Rattle.pdp_replay.specs.Ask.WordsFound.{fits_pattern, numbers_fitting}
use Rattle.pdp_replay.proofs.ask.WordsFound.{found_all, found_more, with_met, without_unmet}
use Rattle.pdp_replay.proofs.ask.find_words.find_disk.Goals as goal
use Rattle.pdp_replay.proofs.ask.find_words.find_disk.Goals.{then-fits+else-len+in_ok-push, else-fits}

pub returns-then-len : goal.returns-then-len
returns-then-len c =
    let before = c.loop-index.invariant in
    found_more c.args.wanted.pattern (disk_of c.args.machine.now.state.world c.args.drive) c.of.result c.loop-index.numbers.items c.args.wanted.first c.args.wanted.last
    c.loop-index.index c.fits.result c.of.ensures c.loop-index-test.true before.met (omega (arith, c.len.ensures, c.if-len.true)) before.few (c.fits.ensures ∙ ap (fits_pattern c.args.wanted.pattern) (c.disk_word-word.ensures ∙ ap (λ d. slice_index (disk_of c.args.machine.now.state.world d) (c.args.wanted.first + c.loop-index.index)) c.from-drive.ensures)) c.if-fits.true

pub loop-index-preserved : goal.loop-index-preserved
loop-index-preserved c =
    let before = c.loop-index.invariant in
    let pattern = c.args.wanted.pattern in
    let words = disk_of c.args.machine.now.state.world c.args.drive in
    let first = c.args.wanted.first in
    let index = c.loop-index.index in
    elim c.if-fits.branch [
      | then-fits+else-len+in_ok-push w ↦ record {
        met =
            with_met pattern words c.loop-index.numbers.items _ first index c.fits.result before.met
            (ap (λ v. v.items) w.numbers-is ∙ w.in_ok-push.ensures.items) (c.fits.ensures ∙ ap (fits_pattern c.args.wanted.pattern) (c.disk_word-word.ensures ∙ ap (λ d. slice_index (disk_of c.args.machine.now.state.world d) (c.args.wanted.first + c.loop-index.index)) c.from-drive.ensures)) w.if-fits.true;
        few =
            let added = ap (λ v. length v.items) w.numbers-is in
            omega (arith, added, w.in_ok-push.ensures.len, w.len.ensures, w.if-len.false);
      }
      | else-fits w ↦ record {
        met =
            without_unmet pattern words c.loop-index.numbers.items _ first index c.fits.result before.met (ap (λ v. v.items) w.numbers-is)
            (c.fits.ensures ∙ ap (fits_pattern c.args.wanted.pattern) (c.disk_word-word.ensures ∙ ap (λ d. slice_index (disk_of c.args.machine.now.state.world d) (c.args.wanted.first + c.loop-index.index)) c.from-drive.ensures)) w.if-fits.false;
        few = let same = ap (λ v. length v.items) w.numbers-is in let few = before.few in omega (arith, same, few);
      }
    ]

pub returns : goal.returns
returns c =
    let before = c.loop-index.invariant in
    let pattern = c.args.wanted.pattern in
    let words = disk_of c.args.machine.now.state.world c.args.drive in
    let first = c.args.wanted.first in
    let last = c.args.wanted.last in
    let end : c.loop-index.index ≡ last + 1 - first = omega (arith, c.loop-index-test.false, c.loop-index.auto.index-end) in
    found_all pattern words c.of-2.result c.loop-index.numbers.items first last c.of-2.ensures (before.met ∙ ap (numbers_fitting pattern words first) end)
    before.few
