use Rattle.pdp_replay.proofs.run.Branches.{branch_back, branch_holds, turn_back}
use Rattle.pdp_replay.proofs.run.branch.Branch.go_back.Goals as goal

pub load-requires : goal.load-requires
load-requires c =
    let was = c.requires.earlier in
    branch_holds was.past c.args.turn c.args.saved.now c.args.self.now was.is

pub returns-clause-branch : goal.returns-clause-branch
returns-clause-branch c = λ q is.
    branch_back q c.args.turn c.args.saved.now c.args.self.now c.load.new.self is c.load.ensures.state c.load.ensures.kept_text c.load.ensures.kept_punched c.load.ensures.first_touches

pub returns-clause-turn : goal.returns-clause-turn
returns-clause-turn c =
    let was = c.requires.earlier in
    turn_back was.past c.args.turn c.args.saved.now c.args.self.now c.load.new.self was.is c.load.ensures.state
