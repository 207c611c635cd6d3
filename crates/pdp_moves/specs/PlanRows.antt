-- The rows of steps that are run one after the other, and what was noted of them. No rule of the
-- handbook is here.
use Rattle.std.specs.Prelude.{ℕ, ◌+◌, ◌==◌, List, [], ◌∷◌, Option, Some, None, map}
use Rattle.std.specs.Prelude.{if◌then◌else◌}
use Rattle.pdp_made.specs.PhaseRows.{PhaseRow}
use Rattle.pdp_made.specs.ReferenceRows.{Halves}
use Rattle.pdp_steps.specs.Steps.{phase_of}
use Rattle.pdp_steps.specs.declared.step.Microstep.{Microstep}
use Rattle.pdp_moves.specs.Built.{halves_written}
use Rattle.pdp_moves.specs.CellNames.{named_moves}
use Rattle.pdp_moves.specs.Moves.{Move}
use Rattle.pdp_moves.specs.StepRows.{made_of_step}
use Rattle.pdp_moves.specs.declared.noted_step.NotedStep.{NotedStep}
use Rattle.pdp_moves.specs.declared.written_word.WrittenWord.{WrittenWord}
use Rattle.pdp_moves.specs.declared.written_word.WrittenWord.TheVariants as written

-- the row of a step
abbrev pub row_of_step : Halves → Microstep → PhaseRow
row_of_step from taken = record {
  phase = λ _. phase_of taken;
  made = made_of_step from taken;
}

-- what step n writes: one step of a sequence, if any, the program status word that is saved
abbrev pub written_at : Option ℕ → ℕ → WrittenWord
written_at None n = written.Nothing
written_at (Some saving) n = if n == saving then written.SavedStatus else written.Nothing

-- the rows of steps that are numbered from n on
abbrev pub rows_from : Option ℕ → ℕ → List Microstep → List PhaseRow
rows_from saving n [] = []
rows_from saving n (s ∷ steps) =
    row_of_step (halves_written (written_at saving n)) s ∷ rows_from saving (n + 1) steps

abbrev pub rows_of_steps : Option ℕ → List Microstep → List PhaseRow
rows_of_steps saving steps = rows_from saving 0 steps

-- the steps that were noted, and the moves of each
abbrev pub steps_noted : List NotedStep → List Microstep
steps_noted noted = map (λ one. one.step) noted

abbrev pub moves_noted : List NotedStep → List (List Move)
moves_noted noted = map (λ one. named_moves one.moves.items) noted
