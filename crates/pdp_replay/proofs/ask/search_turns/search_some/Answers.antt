use Rattle.std.proofs.Common.{◌≡◌, ◌∙◌, ◌-◌, IfOk, ap, arith, subst, sym}
use Rattle.pdp_cpu.proofs.CalmTurns.{calm_none}
use Rattle.pdp_cpu.specs.Turns.CalmTurns.{after_calm_turns}
use Rattle.pdp_replay.specs.Ask.Searches.{IsFirst, turn_reached}
use Rattle.pdp_replay.specs.Ask.Watches.{IsFirstQuietly, IsInside, StaysQuietly, is_met_last, is_watched_at}
use Rattle.pdp_replay.proofs.run.CalmWays.{ran_calmly}
use Rattle.pdp_replay.proofs.ask.Searches.{ends_after_turn}
use Rattle.pdp_replay.proofs.ask.Watches.{first_passed, inside_calmly}
use Rattle.pdp_replay.proofs.ask.search_turns.search_some.Goals as goal
use Rattle.pdp_replay.proofs.ask.search_turns.search_some.Goals.{After-pass}

-- after the turns that it passed the machine can be watched
inside : (c : After-pass) → IsInside c.args.watch c.pass.new.machine
inside c = inside_calmly c.args.watch c.pass.result c.args.machine.now c.pass.new.machine c.pass.ensures.turns c.requires.inside

-- if it passed none it is as it was
still : (c : After-pass) → c.pass.result ≡ 0 → c.pass.new.machine ≡ c.args.machine.now
still c none = c.pass.ensures.turns ∙ ap (λ n. after_calm_turns n c.args.machine.now) none ∙ calm_none c.args.machine.now

pub last_met-requires-clause-inside : goal.last_met-requires-clause-inside
last_met-requires-clause-inside c = inside (goal.at.last_met-requires-clause-inside c).After-pass

pub search_one_by_one-requires-clause-inside : goal.search_one_by_one-requires-clause-inside
search_one_by_one-requires-clause-inside c = inside (goal.at.search_one_by_one-requires-clause-inside c).After-pass

pub returns-then-pass-gt0-clause-found : goal.returns-then-pass-gt0-clause-found
returns-then-pass-gt0-clause-found c = λ p known quiet way.
    let some = c.if-pass-gt0.true in
    let turn = c.pass.ensures.turn in
    let most = c.pass.ensures.most some in
    subst (λ found. IsFirst (is_watched_at p c.args.watch) c.args.machine.now.state.turn c.pass.new.machine.state.turn found) (sym c.last_met.ensures)
    (first_passed p c.args.watch known c.args.to c.pass.result c.args.machine.now c.pass.new.machine c.pass.ensures.turns turn some most quiet way
    c.requires.inside c.pass.ensures.none)

pub returns-then-pass-gt0-clause-ends : goal.returns-then-pass-gt0-clause-ends
returns-then-pass-gt0-clause-ends c =
    let now = c.pass.new.machine in
    let turn = c.pass.ensures.turn in
    let some = c.if-pass-gt0.true in
    subst (λ found. now.state.turn ≡ turn_reached found now.state.turn) (sym c.last_met.ensures)
    (ends_after_turn (now.state.turn - 1) now.state.turn (is_met_last c.args.watch (now.state.turn - 1) now) (omega (arith, turn, some)))

pub returns-then-pass-gt0-clause-way : goal.returns-then-pass-gt0-clause-way
returns-then-pass-gt0-clause-way c = λ p known quiet way.
    ran_calmly p known c.args.to c.pass.result c.args.machine.now c.pass.new.machine c.pass.ensures.turns
    c.requires.forward c.pass.ensures.turn c.pass.ensures.most quiet way

pub returns-then-pass-gt0-clause-runs : goal.returns-then-pass-gt0-clause-runs
returns-then-pass-gt0-clause-runs c =
    let turn = c.pass.ensures.turn in
    let counted = c.pass.ensures.counted.0 in
    let grows = c.pass.ensures.counted.1 in
    record {
      inside = inside (goal.at.returns-then-pass-gt0-clause-runs c).After-pass;
      least = omega (arith, turn);
      most = c.pass.ensures.most c.if-pass-gt0.true;
      ran = omega (arith, turn, counted, grows);
    }

pub returns-clause-found : goal.returns-clause-found
returns-clause-found c =
    let none = c.if-pass-gt0.false in
    let same = still (goal.at.returns-clause-found c).After-pass (omega (arith, none)) in
    subst (λ m. IfOk c.search_one_by_one.result (IsFirstQuietly c.args.to c.args.watch m c.search_one_by_one.new.machine)) same c.search_one_by_one.ensures.found

pub returns-clause-way : goal.returns-clause-way
returns-clause-way c =
    let none = c.if-pass-gt0.false in
    let same = still (goal.at.returns-clause-way c).After-pass (omega (arith, none)) in
    subst (λ m. StaysQuietly c.args.to m c.search_one_by_one.new.machine) same c.search_one_by_one.ensures.way

pub returns-clause-runs : goal.returns-clause-runs
returns-clause-runs c =
    let none = c.if-pass-gt0.false in
    let turn = c.pass.ensures.turn in
    let counted = c.pass.ensures.counted.0 in
    let grows = c.pass.ensures.counted.1 in
    let runs = c.search_one_by_one.ensures.runs in
    let least = runs.least in
    let ran = runs.ran in
    record {
      inside = runs.inside;
      least = omega (arith, turn, least);
      most = runs.most;
      ran = omega (arith, turn, none, counted, grows, ran);
    }
