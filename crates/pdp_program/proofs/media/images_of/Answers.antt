use Rattle.std.proofs.Common.{◌≡◌, Ok, sym, ◌∙◌, rules}
use Rattle.std.proofs.lemmas.Iterator.Adapters.{YieldsList-from_vec}
use Rattle.std.proofs.lemmas.Iterator.Consumers.{YieldsList-turn, YieldsList-end}
use Rattle.std.proofs.lemmas.List.{map-id}
use Rattle.std.proofs.lemmas.Result.{err_from_is_err_and}
use Rattle.pdp_session.specs.Image.{image_read}
use Rattle.pdp_program.proofs.ReadFiles.{one_more, bad_image}
use Rattle.pdp_program.proofs.media.images_of.Goals as goal

pub returns-in_err-image_of : goal.returns-in_err-image_of
returns-in_err-image_of c =
    let road = YieldsList-from_vec {s = c.into_iter-bytes-iterator.result} c.args.images.items c.into_iter-bytes-iterator.ensures.into_iter_gives.0 (search rules) in
    let turn = YieldsList-turn road c.loop-bytes.yielded c.loop-bytes.bytes-iterator c.loop-bytes.yielded_by c.next.result c.next.new.self c.in-Some.bytes c.in-Some.is c.next.ensures.steps in
    let (fault, is, same) = err_from_is_err_and c.from_residual.result c.from_residual.ensures.1 in
    rw (is, same) (bad_image c.args.images.items c.in-Some.bytes _ c.in_err-image_of.field-0.0 turn.0 turn.1 c.in_err-image_of.ensures)

pub loop-bytes-preserved : goal.loop-bytes-preserved
loop-bytes-preserved c =
    rw c.in_ok-push.ensures.items
    (one_more image_read (λ bytes. bytes.items) Ok (λ words. words.items) c.loop-bytes.yielded c.loop-bytes.drives.items c.in-Some.bytes c.in_ok-image_of.field-0
    c.loop-bytes.invariant c.in_ok-image_of.ensures)

pub returns : goal.returns
returns c =
    let road = YieldsList-from_vec {s = c.into_iter-bytes-iterator.result} c.args.images.items c.into_iter-bytes-iterator.ensures.into_iter_gives.0 (search rules) in
    let end = YieldsList-end road c.loop-bytes.yielded c.loop-bytes.bytes-iterator c.loop-bytes.yielded_by c.next.result c.next.new.self c.in-None.is c.next.ensures.steps in
    let all : c.args.images.items ≡ c.loop-bytes.yielded = sym (sym (map-id c.loop-bytes.yielded) ∙ end.0) in
    rw all c.loop-bytes.invariant
