use Rattle.std.proofs.Common.{rules}
use Rattle.pdp_unibus.proofs.Directs.{direct_later}
use Rattle.pdp_unibus.proofs.QuietBeginnings.{later_turn, quietly_begun}
use Rattle.pdp_unibus.proofs.bus.Bus.begin_quietly.Goals as goal

-- src/beginning.rt
pub returns-then-quiet-clause-begun : goal.returns-then-quiet-clause-begun
returns-then-quiet-clause-begun g c = λ quiet.
    quietly_begun c.args.turn c.from.result _ c.args.self.now c.self.inside.watch c.self.view_is c.from.ensures c.self.invariant.0 quiet

-- src/beginning.rt
pub invariant_of-self : goal.invariant_of-self
invariant_of-self g c = (
  search rules,
  (
    c.self.invariant.1.0,
    direct_later c.self.inside.known.direct _ _ _ _ _ _
        (later_turn c.self.inside.turn c.args.turn _ c.if-quiet.true) c.self.invariant.1.1,
  ),
)
