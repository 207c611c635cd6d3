-- What was noted of a turn is what it makes.
use Rattle.std.proofs.Common.{◌≡◌, ◌∙◌, ℕ, List, [], ◌∷◌, None, flat_map, refl, sym, ap, append-nil}
use Rattle.pdp_word.specs.declared.codes.Codes.{Codes}
use Rattle.pdp_unibus.specs.Handbook.BusWorld.{BusWorld}
use Rattle.pdp_unibus.specs.declared.event.Event.{Event}
use Rattle.pdp_operand.specs.Phases.Course.{follow}
use Rattle.pdp_operand.specs.Phases.Phase.{Latch, State, inner_of, state_of}
use Rattle.pdp_operand.specs.Phases.World.{world}
use Rattle.pdp_operand.specs.declared.processor.Processor.{Processor}
use Rattle.pdp_cpu.specs.Handbook.Due.{course_of, due_now, due_of}
use Rattle.pdp_cpu.specs.Handbook.MachineState.{MachineWithTexts, machine_world}
use Rattle.pdp_cpu.specs.Handbook.Turn.{act_end, beginning, clear_latch, initial_state}
use Rattle.pdp_made.specs.Cells.{DataCell, Buffer, Keyboard, Reader, Switches, no_saved_codes}
use Rattle.pdp_made.specs.CourseRows.{made_along}
use Rattle.pdp_made_run.specs.BeginningRows.{made_in_beginning}
use Rattle.pdp_made_run.specs.Origins.{still_held}
use Rattle.pdp_made_run.specs.TurnRows.{made_in_turn, rows_of_due}
use Rattle.pdp_moves.specs.CourseMoves.{sources_of_act}
use Rattle.pdp_moves.specs.declared.noted_act.NotedAct.{NotedAct}
use Rattle.pdp_turn_moves.specs.Beginnings.{beginning_told, origins_told}
use Rattle.pdp_turn_moves.specs.TurnOrigins.{origins_of_turn}
use Rattle.pdp_turn_moves.specs.declared.beginning_moves.BeginningMoves.{BeginningMoves}

-- the act that was followed from a clear latch is the one of the turn
pub act_followed : (p p' : Processor) (b b' : BusWorld) (l l' : Latch) → l ≡ clear_latch
    → follow (course_of (due_now p b.io_page)) (state_of p b l) ≡ state_of p' b' l'
    → world p' b' ≡ act_end (world p b)
act_followed p p' b b' l l' clear follows =
    sym (ap (λ (s : State). s.world) follows)
    ∙ ap (λ (k : Latch). (follow (course_of (due_now p b.io_page)) (state_of p b k)).world) clear

pub act_made : (p : Processor) (b : BusWorld) (l : Latch) (saved : Codes) (c : DataCell) (sources : List DataCell) → l ≡ clear_latch
    → sources ≡ made_along (rows_of_due (due_now p b.io_page)) saved (state_of p b l) c
    → sources ≡ made_along (rows_of_due (due_of (inner_of (initial_state (world p b))))) saved (initial_state (world p b)) c
act_made p b l saved c sources clear made =
    made ∙ ap (λ (k : Latch). made_along (rows_of_due (due_now p b.io_page)) saved (state_of p b k) c) clear

pub turn_made : (m : MachineWithTexts) (es : List Event) (b : BusWorld) (t : ℕ) (begins : BeginningMoves) (noted : NotedAct) → b ≡ (machine_world m).bus → t ≡ m.state.turn
    → ((c : DataCell) → origins_told t begins c ≡ made_in_beginning t es b c)
    → ((saved : Codes) (c : DataCell) → sources_of_act noted c
    ≡ made_along (rows_of_due (due_of (inner_of (initial_state (beginning m.state.turn es (machine_world m)))))) saved (initial_state (beginning m.state.turn es (machine_world m))) c)
    → (c : DataCell) → flat_map (origins_told m.state.turn begins) (sources_of_act noted c) ≡ made_in_turn m.state.turn es (machine_world m) c
unfolding made_in_turn
turn_made m es b t begins noted bus turn begun acted c =
    let told : (d : DataCell) → origins_told m.state.turn begins d ≡ made_in_beginning m.state.turn es (machine_world m).bus d
    = λ d. ap (λ n. origins_told n begins d) (sym turn) ∙ begun d
    ∙ ap (λ n. made_in_beginning n es b d) turn ∙ ap (λ w. made_in_beginning m.state.turn es w d) bus in
    ap (λ made. flat_map made (sources_of_act noted c)) (λ i d. told d i)
    ∙ ap (flat_map (made_in_beginning m.state.turn es (machine_world m).bus)) (acted no_saved_codes c)

-- what is told of the beginning is told of the bus without its first touches
pub begun_told : (m : MachineWithTexts) (es : List Event) (b : BusWorld) (t : ℕ) (begins : BeginningMoves) → b ≡ (machine_world m).bus → t ≡ m.state.turn
    → begins ≡ beginning_told t es b → begins ≡ beginning_told m.state.turn es m.state.world.bus
begun_told m es b t begins bus turn told = told ∙ ap (λ n. beginning_told n es b) turn ∙ ap (beginning_told m.state.turn es) bus

abbrev nothing : BeginningMoves
nothing = record { key = None; switches = None; reader = None; disk = None }

nothing_told : (t : ℕ) (c : DataCell) → origins_told t nothing c ≡ still_held c
nothing_told t (Buffer Keyboard) = refl
nothing_told t (Buffer Switches) = refl
nothing_told t (Buffer Reader) = refl
nothing_told t c = refl

pub none_made : (noted : NotedAct) → ((c : DataCell) → sources_of_act noted c ≡ c ∷ []) → (t : ℕ) (c : DataCell)
    → origins_of_turn t (record { beginning = nothing; act = record { noted = noted } }) c ≡ still_held c
none_made noted none t c = ap (flat_map (origins_told t nothing)) (none c) ∙ append-nil (origins_told t nothing c) ∙ nothing_told t c
