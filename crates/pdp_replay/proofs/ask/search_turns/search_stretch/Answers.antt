use Rattle.std.proofs.Common.{◌≡◌, ◌∙◌, ap, arith, sym}
use Rattle.std.proofs.lemmas.Result.{IfOk-weaker}
use Rattle.pdp_script.specs.Entries.{events_at}
use Rattle.pdp_script.specs.Script.{ScriptData}
use Rattle.pdp_replay.specs.Past.{Past}
use Rattle.pdp_replay.specs.Run.KeptRuns.{IsWithoutEvents}
use Rattle.pdp_replay.specs.Ask.Watches.{IsFirstOnWay, IsFirstQuietly}
use Rattle.pdp_replay.proofs.ask.search_turns.search_stretch.Goals as goal
use Rattle.pdp_replay.proofs.ask.search_turns.search_stretch.Goals.{After-quiet_until-quiet}

-- no turn before the next one with events has any
quiet : (c : After-quiet_until-quiet) (p : Past) → p.script ≡ c.args.script.now
    → IsWithoutEvents p c.args.machine.now.state.turn c.quiet_until-quiet.result
quiet c p same =
    λ turn least below.
    ap (λ (s : ScriptData). events_at s.entries turn) same
    ∙ c.quiet_until-quiet.ensures.quiet turn (omega (arith, least, c.turns-turn.ensures)) below

pub returns-then-turn-quiet-clause-found : goal.returns-then-turn-quiet-clause-found
returns-then-turn-quiet-clause-found c =
    let m = c.args.machine.now in
    let now = c.search_quiet.new.machine in
    IfOk-weaker c.search_quiet.result (IsFirstQuietly c.quiet_until-quiet.result c.args.watch m now)
    (IsFirstOnWay c.args.script.now c.args.watch m now)
    (λ found is p known same way. is p known (quiet (goal.at.returns-then-turn-quiet-clause-found c).After-quiet_until-quiet p same) way)
    c.search_quiet.ensures.found

pub returns-then-turn-quiet-clause-way : goal.returns-then-turn-quiet-clause-way
returns-then-turn-quiet-clause-way c = λ p known same way.
    c.search_quiet.ensures.way p known (quiet (goal.at.returns-then-turn-quiet-clause-way c).After-quiet_until-quiet p same) way

pub returns-clause-found : goal.returns-clause-found
returns-clause-found c = λ p known same way.
    c.in_ok-looked.ensures.found p known
    (c.at.ensures.events ∙ ap (events_at c.args.script.now.entries) c.turns-turn.ensures
    ∙ ap (λ (s : ScriptData). events_at s.entries c.args.machine.now.state.turn) (sym same))
    way

pub returns-clause-way : goal.returns-clause-way
returns-clause-way c = λ p known same way.
    c.look.ensures.way p known
    (c.at.ensures.events ∙ ap (events_at c.args.script.now.entries) c.turns-turn.ensures
    ∙ ap (λ (s : ScriptData). events_at s.entries c.args.machine.now.state.turn) (sym same))
    way
