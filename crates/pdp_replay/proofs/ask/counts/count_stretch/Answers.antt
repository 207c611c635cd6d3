use Rattle.std.proofs.Common.{◌≡◌, ◌∙◌, ap, arith, sym}
use Rattle.std.proofs.lemmas.Result.{on_ok_weaker}
use Rattle.pdp_script.specs.Entries.{events_at}
use Rattle.pdp_script.specs.Script.{ScriptData}
use Rattle.pdp_replay.specs.Past.{Past}
use Rattle.pdp_replay.specs.Run.KeptRuns.{IsWithoutEvents}
use Rattle.pdp_replay.proofs.ask.counts.count_stretch.Goals as goal
use Rattle.pdp_replay.proofs.ask.counts.count_stretch.Goals.{After-at, After-quiet_until-quiet}

-- no turn before the next one with events has any
quiet : (c : After-quiet_until-quiet) (p : Past) → p.script ≡ c.args.script.now
    → IsWithoutEvents p c.args.machine.now.state.turn c.quiet_until-quiet.result
quiet c p same =
    λ turn least below.
    ap (λ (s : ScriptData). events_at s.entries turn) same
    ∙ c.quiet_until-quiet.ensures.quiet turn (omega (arith, least, c.turns-turn.ensures)) below

-- the events are those of the machine's turn
happen : (c : After-at) (p : Past) → p.script ≡ c.args.script.now → c.at.result.now ≡ events_at p.script.entries c.args.machine.now.state.turn
happen c p same =
    c.at.ensures.events ∙ ap (events_at c.args.script.now.entries) c.turns-turn.ensures
    ∙ ap (λ (s : ScriptData). events_at s.entries c.args.machine.now.state.turn) (sym same)

pub returns-then-turn-quiet-clause-counts : goal.returns-then-turn-quiet-clause-counts
returns-then-turn-quiet-clause-counts c =
    on_ok_weaker c.count_quiet.result
    (λ counted p known same way. counted p known (quiet (goal.at.returns-then-turn-quiet-clause-counts c).After-quiet_until-quiet p same) way)
    c.count_quiet.ensures.counts

pub returns-then-turn-quiet-clause-way : goal.returns-then-turn-quiet-clause-way
returns-then-turn-quiet-clause-way c = λ p known same way.
    c.count_quiet.ensures.way p known (quiet (goal.at.returns-then-turn-quiet-clause-way c).After-quiet_until-quiet p same) way

pub returns-clause-counts : goal.returns-clause-counts
returns-clause-counts c =
    on_ok_weaker c.count_turn.result
    (λ counted p known same way. counted p known (happen (goal.at.returns-clause-counts c).After-at p same) way)
    c.count_turn.ensures.counts

pub returns-clause-way : goal.returns-clause-way
returns-clause-way c = λ p known same way.
    c.count_turn.ensures.way p known (happen (goal.at.returns-clause-way c).After-at p same) way
