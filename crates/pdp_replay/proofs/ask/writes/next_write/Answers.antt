use Rattle.std.proofs.Common.{◌≡◌, arith, subst}
use Rattle.pdp_replay.specs.Past.{Past}
use Rattle.pdp_replay.specs.Run.KeptRuns.{ArrivesAt, IsOnWay}
use Rattle.pdp_replay.proofs.ask.TurnWrites.{IsReadNext, read_next}
use Rattle.pdp_replay.proofs.ask.writes.next_write.Goals as goal
use Rattle.pdp_replay.proofs.ask.writes.next_write.Goals.{After-write_found}

-- the write is the first in every run whose run it is
read : (c : After-write_found) (p : Past) → p.script ≡ c.args.script.now → IsOnWay p c.args.run.now
    → IsReadNext p c.args.number c.args.run.now.machine.state.turn c.args.to c.in_ok-found.found c.search.new.run.machine.state
    c.write_found.result
read c p same on =
    let searched = c.in_ok-found.ensures in
    read_next p c.args.number c.args.run.now.machine.state.turn c.args.to c.in_ok-found.found c.search.new.run.machine.state
    c.write_found.result (searched.way p same on).here searched.arrives.turn (searched.found p same on) c.write_found.ensures

pub search-requires-clause-inside : goal.search-requires-clause-inside
search-requires-clause-inside c =
    let can = c.requires.can in
    let core = can.run.kept.built.core in
    let within = can.within in
    omega (arith, within, core)

pub returns-clause-write : goal.returns-clause-write
returns-clause-write c = λ p same on. (read (goal.at.returns-clause-write c).After-write_found p same on).0

pub returns-clause-can : goal.returns-clause-can
returns-clause-can c =
    let can = c.requires.can in
    record { past = can.past; same = can.same; run = c.in_ok-found.ensures.way can.past can.same can.run; within = can.within }

pub returns-clause-arrives : goal.returns-clause-arrives
returns-clause-arrives c =
    let can = c.requires.can in
    let is = read (goal.at.returns-clause-arrives c).After-write_found can.past can.same can.run in
    subst (λ n. ArrivesAt n c.args.run.now c.search.new.run) is.1 c.in_ok-found.ensures.arrives
