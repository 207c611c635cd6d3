use Rattle.std.proofs.Common.{◌≡◌, ◌+◌, ◌<◌, ◌∷◌, ◌++◌, [], Ok, Err, length, take, drop, get_or, arith}
use Rattle.std.proofs.lemmas.List.{take_all}
use Rattle.std.proofs.lemmas.Result.{err_from_is_err_and}
use Rattle.pdp_session.specs.declared.streams.Failed.{Failed}
use Rattle.pdp_session.specs.History.{pasts}
use Rattle.pdp_session.proofs.Served.{then_moves, breaks_early, one_more_byte, all_bytes}
use Rattle.pdp_session.proofs.session.serving.take_bytes.Goals as goal

pub returns-in_err-take_byte : goal.returns-in_err-take_byte
returns-in_err-take_byte g c = λ past done out r.
    let i = c.loop-byte.byte-index in
    let bytes = c.args.bytes.now in
    let within : i < length bytes = omega arith in
    let before = c.loop-byte.invariant past done out r in
    let breaks = c.in_err-take_byte.ensures past (done ++ take i bytes) (out ++ before.more) before.reached in
    let (failed, is, same) = err_from_is_err_and c.from_residual.result c.from_residual.ensures.1 in
    rw (is, ← all_bytes done bytes i within)
    (breaks_early _ past ((done ++ take i bytes) ++ get_or bytes i 0 ∷ []) (drop (i + 1) bytes) out _ _
    (then_moves {T = Unit {0}} {E = Failed} _ past _ _ out c.loop-byte.held.items c.take_byte.new.held.items (pasts c.loop-byte.history) (pasts c.take_byte.new.history) _ _ _ (Err c.in_err-take_byte.field-0.0) before breaks))

pub loop-byte-preserved : goal.loop-byte-preserved
loop-byte-preserved g c =
    let i = c.loop-byte.byte-index in
    let bytes = c.args.bytes.now in
    let within : i < length bytes = omega arith in
    λ past done out r.
    let before = c.loop-byte.invariant past done out r in
    let goes = c.in_ok-take_byte.ensures past (done ++ take i bytes) (out ++ before.more) before.reached in
    rw (← one_more_byte done bytes i within)
    (then_moves {T = Unit {0}} {E = Failed} _ past _ _ out c.loop-byte.held.items c.take_byte.new.held.items (pasts c.loop-byte.history) (pasts c.take_byte.new.history) _ _ _ (Ok c.in_ok-take_byte.field-0) before goes)

pub returns : goal.returns
returns g c = λ past done out r.
    let all : take c.loop-byte.byte-index c.args.bytes.now ≡ c.args.bytes.now = take_all _ _ (omega arith) in
    rw all at (c.loop-byte.invariant past done out r)
