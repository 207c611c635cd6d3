-- The run of a past is a run of the rows.
use Rattle.std.proofs.Common.{◌≡◌, ◌∙◌, ◌++◌, ◌%◌, ◌/◌, ℕ, zero, suc, refl, sym, ap, ap₂, subst, arith}
use Rattle.pdp_operand.specs.Phases.World.{World}
use Rattle.pdp_cpu.specs.Handbook.Turn.{one_turn, printed_in, punched_in}
use Rattle.pdp_replay.specs.Past.{Past}
use Rattle.pdp_replay.specs.Run.States.{first_world, punched_at, state_at, text_at}
use Rattle.pdp_made.specs.Cells.{CoreByte, DataCell, DriveByte, High, Low, Same}
use Rattle.pdp_made_run.specs.RunRows.{RunsAlike, before_turn}
use Rattle.pdp_made_run.specs.TurnRows.{data_in}
use Rattle.pdp_made_run.proofs.Outputs.{prints_tell, punches_tell}
use Rattle.pdp_made_run.proofs.Runs.{runs}
use Rattle.pdp_made_past.specs.PastRows.{DriveWordsTell, PastsTell, PunchedTextsTell, SamePrintedInputs, SamePunchedInputs, StatesAreOfRows, TextsTell, CoreWordsTell, script_events}

pub states : StatesAreOfRows
unfolding state_at before_turn
states p zero = refl
states p (suc n) = ap (one_turn n (script_events p n)) (states p n)

pub pasts : PastsTell
pasts n p q way c same =
    subst (λ w. Same (data_in (state_at q n)) (data_in w) c) (sym (states p n))
    (subst (λ v. Same (data_in v) (data_in (before_turn (script_events p) n (first_world p.setup))) c) (sym (states q n))
    (runs n (script_events p) (script_events q) (first_world p.setup) (first_world q.setup) way c same))

-- a word is its halves
joined : (a b : ℕ) → a % 256 ≡ b % 256 → a / 256 ≡ b / 256 → a ≡ b
joined a b low high = omega (arith, low, high)

pub words : CoreWordsTell
words n p q way k low high = joined _ _ (pasts n p q way (CoreByte k Low) low) (pasts n p q way (CoreByte k High) high)

pub drive_words : DriveWordsTell
drive_words n p q way drive k low high = joined _ _ (pasts n p q way (DriveByte drive k Low) low) (pasts n p q way (DriveByte drive k High) high)

pub texts : TextsTell
unfolding text_at SamePrintedInputs RunsAlike
texts zero p q way same = refl
texts (suc n) p q way same =
    let prints = prints_tell n (script_events p) (script_events q) (first_world p.setup) (first_world q.setup) way same.1 in
    ap₂ (λ xs ys. xs ++ ys) (texts n p q way.0 same.0)
    (ap (printed_in n (script_events q n)) (states q n) ∙ prints ∙ sym (ap (printed_in n (script_events p n)) (states p n)))

pub punched_texts : PunchedTextsTell
unfolding punched_at SamePunchedInputs RunsAlike
punched_texts zero p q way same = refl
punched_texts (suc n) p q way same =
    let punches = punches_tell n (script_events p) (script_events q) (first_world p.setup) (first_world q.setup) way same.1 in
    ap₂ (λ xs ys. xs ++ ys) (punched_texts n p q way.0 same.0)
    (ap (punched_in n (script_events q n)) (states q n) ∙ punches ∙ sym (ap (punched_in n (script_events p n)) (states p n)))
