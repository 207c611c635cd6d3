use Rattle.std.proofs.Common.{◌∙◌, Some, ap, arith, option_map, slice_get, subst}
use Rattle.std.proofs.lemmas.Result.{IfOk-weaker}
use Rattle.pdp_unibus.specs.Handbook.LastTurn.{last_turn}
use Rattle.pdp_replay.specs.Ask.Searches.{IsFirst, IsFirstTurn}
use Rattle.pdp_replay.specs.Ask.TextParts.{comes_out, is_out_after}
use Rattle.pdp_replay.proofs.ask.TextParts.{arrives_past, byte_turn_is, later_turn_is, on_way_there}
use Rattle.pdp_replay.proofs.ask.text_part.find_byte.Goals as goal

pub returns-in-Some-clause-found : goal.returns-in-Some-clause-found
returns-in-Some-clause-found c = λ p same kept.
    let known = c.in_ok-reach.ensures.arrives.known in
    let limit = c.requires.limit in
    let first : IsFirstTurn (comes_out c.args.kind c.args.number p) 0 c.args.run.now.known c.in-Some.turn =
    byte_turn_is c.args.kind p c.args.number c.args.run.now.known c.reach.new.self (Some c.in-Some.turn) (omega (arith, known))
    (c.in_ok-reach.ensures.there p same kept) (c.reach.ensures.kept p same kept)
    (c.in-Some.ensures ∙ ap (λ bytes. option_map (λ b. b.turn) (slice_get bytes c.args.number)) c.shown.ensures) in
    let most = first.most in
    record { least = first.least; most = omega (arith, most, limit); there = first.there; none = first.none }

pub returns-in-Some-clause-arrives : goal.returns-in-Some-clause-arrives
returns-in-Some-clause-arrives c =
    let p = c.requires.run.past in
    let same = c.requires.run.same in
    let kept = c.requires.run.run in
    let known = c.in_ok-reach.ensures.arrives.known in
    let first : IsFirstTurn (comes_out c.args.kind c.args.number p) 0 c.args.run.now.known c.in-Some.turn =
    byte_turn_is c.args.kind p c.args.number c.args.run.now.known c.reach.new.self (Some c.in-Some.turn) (omega (arith, known))
    (c.in_ok-reach.ensures.there p same kept) (c.reach.ensures.kept p same kept)
    (c.in-Some.ensures ∙ ap (λ bytes. option_map (λ b. b.turn) (slice_get bytes c.args.number)) c.shown.ensures) in
    arrives_past c.args.run.now.known c.in-Some.turn c.args.run.now c.reach.new.self first.most c.in_ok-reach.ensures.arrives

pub returns-in-None-clause-found : goal.returns-in-None-clause-found
returns-in-None-clause-found c =
    let r = c.reach.new.self in
    let reached = c.in_ok-reach.ensures in
    let known = reached.arrives.known in
    IfOk-weaker c.search.result _ _
    (λ found is. λ p same kept.
    let run = c.reach.ensures.kept p same kept in
    let first = is p same (on_way_there p _ _ _ c.args.run.now r run reached.advances reached.arrives) in
    later_turn_is c.args.kind p c.args.number c.args.run.now.known last_turn r found (omega (arith, known)) (reached.there p same kept) run
    (c.in-None.ensures ∙ ap (λ bytes. option_map (λ b. b.turn) (slice_get bytes c.args.number)) c.shown.ensures)
    (subst (λ n. IsFirst (is_out_after c.args.kind c.args.number p) n last_turn found) reached.arrives.turn first))
    c.search.ensures.found
