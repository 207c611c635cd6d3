-- What some turns made of what, turn by turn.
use Rattle.std.proofs.Common.{◌≡◌, ◌∙◌, ℕ, ◌+◌, ◌-◌, ◌≤◌, ◌++◌, ◌∷◌, [], List, add-one, ap, ap₂, arith, map, option_map, option_to_list, refl, sym}
use Rattle.std.proofs.lemmas.List.{append_assoc}
use Rattle.pdp_store.specs.CycleLogs.{KeptCycles}
use Rattle.pdp_store.specs.FirstTouches.{FirstTouches}
use Rattle.pdp_unibus.specs.Handbook.BusWorld.{BusWorld, with_log}
use Rattle.pdp_unibus.specs.declared.event.Event.{Event}
use Rattle.pdp_cpu.specs.Handbook.MachineState.{MachineState, world_with_first_touches, world_with_log}
use Rattle.pdp_made.specs.Cells.{DataCell}
use Rattle.pdp_moves.specs.CourseMoves.{sources_of_act}
use Rattle.pdp_script.specs.Entries.{events_at}
use Rattle.pdp_script.specs.Script.{ScriptData}
use Rattle.pdp_turn_moves.proofs.NotedTurns.{act_moves_alike}
use Rattle.pdp_turn_moves.specs.ActMoves.{made_in_act, moves_of_act}
use Rattle.pdp_turn_moves.specs.Beginnings.{beginning_told}
use Rattle.pdp_turn_moves.specs.declared.act_move.ActMove.{ActMove}
use Rattle.pdp_turn_moves.specs.declared.beginning_moves.BeginningMoves.{BeginningMoves}
use Rattle.pdp_turn_moves.specs.declared.turn_moves.TurnMoves.{TurnMoves}
use Rattle.pdp_replay.specs.Past.{Past}
use Rattle.pdp_replay.specs.Run.States.{state_at}
use Rattle.pdp_replay.specs.Ask.Accesses.{cycles_in}
use Rattle.pdp_replay.specs.Ask.MovesListed.{AreNotedIn, beginning_details, details_noted, move_details, moves_in, moves_in_turns}
use Rattle.pdp_replay.specs.Ask.Reads.{IsLoggedState}
use Rattle.pdp_replay.specs.declared.ask.moves.MoveDetail.{MoveDetail}
use Rattle.pdp_replay.specs.declared.ask.moves.MoveDetail.TheVariants as moved
use Rattle.pdp_replay.proofs.run.LoggedTurns.{events_of}

-- the moves of one turn more
moves_next : (p : Past) (first n : ℕ) → moves_in_turns p first (n + 1) ≡ moves_in_turns p first n ++ moves_in p (first + n)
unfolding moves_in_turns
moves_next p first n = rw add-one refl

pub moves_none : (p : Past) (first n : ℕ) → n ≡ 0 → moves_in_turns p first n ≡ []
unfolding moves_in_turns
moves_none p first n none = rw none refl

pub moves_further : (p : Past) (first turn next : ℕ) (xs ys : List MoveDetail) → first ≤ turn → next ≡ turn + 1
    → xs ≡ moves_in_turns p first (turn - first) → ys ≡ xs ++ moves_in p turn → ys ≡ moves_in_turns p first (next - first)
moves_further p first turn next xs ys least is listed more =
    let n : ℕ = turn - first in
    let here : turn ≡ first + n = omega (arith, least) in
    let now : n + 1 ≡ next - first = omega (arith, least, is) in
    more
    ∙ ap₂ (λ before one. before ++ one) listed (ap (moves_in p) here)
    ∙ sym (moves_next p first n)
    ∙ ap (moves_in_turns p first) now

-- what the beginning of a turn moves doesn't depend on a log
told_beside : (t : ℕ) (events : List Event) (b : BusWorld) (log : KeptCycles) → beginning_told t events (with_log b log) ≡ beginning_told t events b
told_beside t events b log = refl

-- what was noted of the turn of a machine in a state of the run, with a log that was put into it
pub noted_there : (p : Past) (script : ScriptData) (log : KeptCycles) (m : MachineState) (touches : FirstTouches) (noted : TurnMoves)
    → p.script ≡ script → IsLoggedState p m
    → noted.beginning ≡ beginning_told m.turn (events_at script.entries m.turn) (world_with_log m.world log).bus
    → ((c : DataCell) → sources_of_act noted.act.noted c
    ≡ made_in_act m.turn (events_at script.entries m.turn) (world_with_first_touches (world_with_log m.world log) touches) c)
    → AreNotedIn p m.turn noted
noted_there p script log m touches noted same here begun acted =
    let t = m.turn in
    let w = state_at p m.turn in
    let is = events_of p script m.turn same in
    record {
      beginning = begun
          ∙ ap₂ (λ es (s : MachineState). beginning_told t es (world_with_log s.world log).bus) is here
          ∙ told_beside t (events_at p.script.entries m.turn) w.bus log;
      act = λ c. acted c
          ∙ ap₂ (λ es (s : MachineState). made_in_act t es (world_with_first_touches (world_with_log s.world log) touches) c) is here
          ∙ act_moves_alike t (events_at p.script.entries m.turn) w log touches c;
    }

-- so its details are those of the turn
pub noted_is : (p : Past) (t turn : ℕ) (noted : TurnMoves) (after : MachineState) → turn ≡ t → AreNotedIn p t noted
    → after.world.bus.log.told ≡ cycles_in p t → details_noted turn noted after ≡ moves_in p t
noted_is p t turn noted after is so cycles =
    let begun = so.beginning in
    let acted = so.act in
    λ i. move_details (is i) (begun i) (moves_of_act (λ c. acted c i) (cycles i))

-- details in their parts, one part after another
pub beginning_listed : (old d1 d2 d3 d4 : List MoveDetail) (begun : BeginningMoves)
    → d1 ≡ old ++ option_to_list (option_map moved.Key begun.key)
    → d2 ≡ d1 ++ option_to_list (option_map moved.Switches begun.switches)
    → d3 ≡ d2 ++ option_to_list (option_map moved.Reader begun.reader)
    → d4 ≡ d3 ++ option_to_list (option_map moved.Disk begun.disk)
    → d4 ≡ old ++ beginning_details begun
beginning_listed old d1 d2 d3 d4 begun one two three four =
    let a = option_to_list (option_map moved.Key begun.key) in
    let b = option_to_list (option_map moved.Switches begun.switches) in
    let c = option_to_list (option_map moved.Reader begun.reader) in
    let d = option_to_list (option_map moved.Disk begun.disk) in
    four
    ∙ ap (λ ds. ds ++ d) (three ∙ ap (λ ds. ds ++ c) (two ∙ ap (λ ds. ds ++ b) one))
    ∙ ap (λ ds. ds ++ c ++ d) (append_assoc old a b)
    ∙ ap (λ ds. ds ++ d) (append_assoc old (a ++ b) c)
    ∙ append_assoc old (a ++ b ++ c) d

pub turn_listed : (old d1 d2 d3 : List MoveDetail) (turn : ℕ) (begun : BeginningMoves) (acted : List ActMove)
    → d1 ≡ old ++ moved.Turn turn ∷ [] → d2 ≡ d1 ++ beginning_details begun → d3 ≡ d2 ++ map moved.Act acted
    → d3 ≡ old ++ move_details turn begun acted
turn_listed old d1 d2 d3 turn begun acted one two three =
    three
    ∙ ap (λ ds. ds ++ map moved.Act acted) (two ∙ ap (λ ds. ds ++ beginning_details begun) one)
    ∙ ap (λ ds. ds ++ map moved.Act acted) (append_assoc old (moved.Turn turn ∷ []) (beginning_details begun))
    ∙ append_assoc old (moved.Turn turn ∷ beginning_details begun) (map moved.Act acted)
