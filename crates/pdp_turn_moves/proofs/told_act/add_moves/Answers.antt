use Rattle.std.proofs.Common.{◌∙◌, ◌<◌, ◌++◌, ap, map, refl, length, arith}
use Rattle.std.proofs.lemmas.Bool.Decides.{nat_tests}
use Rattle.pdp_turn_moves.specs.declared.act_move.ActMove.TheVariants as act
use Rattle.pdp_turn_moves.proofs.ActTold.{moves_told, told_all}
use Rattle.pdp_turn_moves.proofs.told_act.add_moves.Goals as goal

pub returns : goal.returns
returns c =
    let some : 0 < length c.args.sources.now = grind (arith, nat_tests) in
    told_all (λ cells. map (λ s. act.Of c.args.cell s) cells) refl c.args.sources.now c.loop-source.source-index c.loop-source-test.false c.loop-source.moves.items _ c.loop-source.invariant
    ∙ ap (λ more. c.args.moves.now.items ++ more) (moves_told c.args.cell c.args.sources.now some)
