-- What steps that are run one after the other make, by the moves of each.
use Rattle.std.proofs.Common.{◌≡◌, ◌∙◌, ◌<◌, ◌+◌, ℕ, List, [], ◌∷◌, ◌++◌, Option, Ok, Err, length, map, take, drop, get_or, flat_map, refl, ap, sym, subst, append-nil, length-append, arith}
use Rattle.std.proofs.lemmas.Grind.{flat_map-append}
use Rattle.std.proofs.lemmas.List.{drop_more, take_more}
use Rattle.pdp_word.specs.Size.{span}
use Rattle.pdp_word.specs.declared.codes.Codes.{Codes}
use Rattle.pdp_word.specs.declared.size.Size.{Size}
use Rattle.pdp_word.specs.declared.size.Size.TheVariants.{Word, Byte}
use Rattle.pdp_operand.specs.declared.place.Fill.TheVariants as fill
use Rattle.pdp_operand.specs.Phases.Phase.{Phase, State, Stop, run, step}
use Rattle.pdp_made.specs.Cells.{DataCell}
use Rattle.pdp_made.specs.PhaseRows.{PhaseRow, made_next, made_through}
use Rattle.pdp_steps.specs.Contract.{AreReady, CanRunAt, CanRunInOrder}
use Rattle.pdp_steps.specs.Steps.{CanRun, phase_of, size_after}
use Rattle.pdp_steps.specs.declared.operand_step.OperandStep.TheVariants as operand
use Rattle.pdp_steps.specs.declared.step.Microstep.TheVariants as microstep
use Rattle.pdp_steps.specs.declared.step_latch.StepLatch.{StepLatch}
use Rattle.pdp_steps.specs.declared.step.Microstep.{Microstep}
use Rattle.pdp_moves.specs.CellNames.{named_moves}
use Rattle.pdp_moves.specs.Moves.{AreMoves, Move, sources_before, sources_in}
use Rattle.pdp_moves.specs.Built.{halves_written}
use Rattle.pdp_moves.specs.PlanRows.{moves_noted, row_of_step, rows_from, rows_of_steps, steps_noted, written_at}
use Rattle.pdp_moves.specs.StepRows.{made_of_step}
use Rattle.pdp_moves.specs.declared.noted_step.NotedStep.{NotedStep}
use Rattle.pdp_moves.specs.declared.written_word.WrittenWord.{WrittenWord}

-- Lists of lists
pub each_itself : (xs : List DataCell) → flat_map (λ c. c ∷ []) xs ≡ xs
each_itself [] = refl
each_itself (x ∷ xs) = ap (λ rest. x ∷ rest) (each_itself xs)

flat_flat : (f g : DataCell → List DataCell) (xs : List DataCell) → flat_map f (flat_map g xs) ≡ flat_map (λ x. flat_map f (g x)) xs
flat_flat f g [] = refl
flat_flat f g (x ∷ xs) = flat_map-append f (g x) (flat_map g xs) ∙ ap (λ rest. flat_map f (g x) ++ rest) (flat_flat f g xs)

pub flat_same : (f g : DataCell → List DataCell) → ((x : DataCell) → f x ≡ g x) → (xs : List DataCell) → flat_map f xs ≡ flat_map g xs
flat_same f g same [] = refl
flat_same f g same (x ∷ xs) = ap (λ first. first ++ flat_map f xs) (same x) ∙ ap (λ rest. g x ++ rest) (flat_same f g same xs)

-- the moves of one more step
one_more : (noted : List (List Move)) (moves : List Move) (c : DataCell)
    → sources_before (noted ++ moves ∷ []) c ≡ flat_map (sources_before noted) (sources_in moves c)
one_more [] moves c = append-nil (sources_in moves c) ∙ sym (each_itself (sources_in moves c))
one_more (m ∷ noted) moves c =
    ap (λ cells. flat_map (sources_in m) cells) (one_more noted moves c)
    ∙ flat_flat (sources_in m) (sources_before noted) (sources_in moves c)

-- What a row makes, and then the rows after it
goes_on : (noted : List (List Move)) (moves : List Move) (row : PhaseRow) (rows : List PhaseRow) (saved : Codes) (s t : State)
    → step (row.phase saved) s ≡ Ok t → AreMoves (row.made s) moves → (c : DataCell)
    → flat_map (sources_before noted) (made_through (row ∷ rows) saved s c) ≡ flat_map (sources_before (noted ++ moves ∷ [])) (made_through rows saved t c)
unfolding made_through
goes_on noted moves row rows saved s t is are c =
    ap (λ end. flat_map (sources_before noted) (made_next (λ v. made_through rows saved v) (row.made s) end c)) is
    ∙ flat_flat (sources_before noted) (row.made s) (made_through rows saved t c)
    ∙ flat_same (λ d. flat_map (sources_before noted) (row.made s d)) (sources_before (noted ++ moves ∷ []))
    (λ d. ap (λ cells. flat_map (sources_before noted) cells) (sym (are.told d)) ∙ sym (one_more noted moves d)) (made_through rows saved t c)

stops : (noted : List (List Move)) (row : PhaseRow) (rows : List PhaseRow) (saved : Codes) (s : State) (stop : Stop)
    → step (row.phase saved) s ≡ Err stop → (c : DataCell)
    → flat_map (sources_before noted) (made_through (row ∷ rows) saved s c) ≡ sources_before noted c
unfolding made_through
stops noted row rows saved s stop is c =
    ap (λ end. flat_map (sources_before noted) (made_next (λ v. made_through rows saved v) (row.made s) end c)) is
    ∙ append-nil (sources_before noted c)

ends : (noted : List (List Move)) (rows : List PhaseRow) (saved : Codes) (s : State) → rows ≡ [] → (c : DataCell)
    → flat_map (sources_before noted) (made_through rows saved s c) ≡ sources_before noted c
unfolding made_through
ends noted rows saved s is c = rw is (append-nil (sources_before noted c))

-- The run of a phase and of those after it
pub run_more : (p : Phase) (ps : List Phase) (s t : State) → step p s ≡ Ok t → run (p ∷ ps) s ≡ run ps t
unfolding run
run_more p ps s t is = rw is refl

pub run_stopped : (p : Phase) (ps : List Phase) (s : State) (stop : Stop) → step p s ≡ Err stop → run (p ∷ ps) s ≡ Err stop
unfolding run
run_stopped p ps s stop is = rw is refl

pub run_done : (ps : List Phase) (s : State) → ps ≡ [] → run ps s ≡ Ok s
unfolding run
run_done ps s is = rw is refl

-- How far the steps have been run
pub record IsAlong (saving : Option ℕ) (steps : List Microstep) (n : ℕ) (noted : List NotedStep) (start now : State) (result : ℕ) : Type 0 where
  pub same_run : run (map phase_of steps) start ≡ run (map phase_of (drop n steps)) now
  pub ready : AreReady (drop n steps) result
  pub told : (saved : Codes) (c : DataCell)
      → made_through (rows_of_steps saving steps) saved start c ≡ flat_map (sources_before (moves_noted noted)) (made_through (rows_from saving n (drop n steps)) saved now c)
  pub names : steps_noted noted ≡ take n steps
  pub count : length noted ≡ n

pub begins : (saving : Option ℕ) (steps : List Microstep) (start : State) (result : ℕ) (noted : List NotedStep) → noted ≡ [] → AreReady steps result
    → IsAlong saving steps 0 noted start start result
begins saving steps start result noted is ready = rw is (record {
  same_run = refl;
  ready = ready;
  told = λ saved c. sym (each_itself (made_through (rows_of_steps saving steps) saved start c));
  names = refl;
  count = refl;
})

moves_more : (noted : List NotedStep) (one : NotedStep) → moves_noted (noted ++ one ∷ []) ≡ moves_noted noted ++ named_moves one.moves.items ∷ []
moves_more [] one = refl
moves_more (first ∷ noted) one = ap (λ rest. named_moves first.moves.items ∷ rest) (moves_more noted one)

names_more : (noted : List NotedStep) (one : NotedStep) → steps_noted (noted ++ one ∷ []) ≡ steps_noted noted ++ one.step ∷ []
names_more [] one = refl
names_more (first ∷ noted) one = ap (λ rest. first.step ∷ rest) (names_more noted one)

count_more : (noted : List NotedStep) (one : NotedStep) → length (noted ++ one ∷ []) ≡ length noted + 1
count_more noted one = length-append noted (one ∷ [])

ready_more : (xs : List Microstep) (n : ℕ) (d : Microstep) (old new : ℕ) → n < length xs → AreReady (drop n xs) old
    → ((size : Size) → old < span size → new < span (size_after (get_or xs n d) size))
    → AreReady (drop (n + 1) xs) new
ready_more xs n d old new below ready fits =
    let in_order = subst (λ ys. CanRunInOrder ys ready.size) (drop_more xs n d below) ready.in_order in
    record { size = size_after (get_or xs n d) ready.size; fits = fits ready.size ready.fits; in_order = in_order.1 }

-- A step that can be run at the size of the result can be run from the latch.
fits_word : (size : Size) (result : ℕ) → result < span size → result < span Word
fits_word Word result fits = fits
fits_word Byte result fits = omega arith

runs : (s : Microstep) (latch : StepLatch) (size : Size) → latch.result < span size → CanRunAt s size → CanRun s latch
runs (microstep.Operand (operand.Write fill.Whole)) latch size fits can = fits_word size latch.result fits
runs (microstep.Operand (operand.Write fill.LowByte)) latch size fits can = subst (λ size. latch.result < span size) can fits
runs (microstep.Operand (operand.Write fill.Extended)) latch size fits can = subst (λ size. latch.result < span size) can fits
runs (microstep.Trap s) latch size fits can = can
runs s latch size fits can = tt

runs_at : (xs : List Microstep) (n : ℕ) (d : Microstep) (latch : StepLatch) → n < length xs → AreReady (drop n xs) latch.result → CanRun (get_or xs n d) latch
runs_at xs n d latch below ready =
    let in_order = subst (λ ys. CanRunInOrder ys ready.size) (drop_more xs n d below) ready.in_order in
    runs (get_or xs n d) latch ready.size ready.fits in_order.0

module _ (saving : Option ℕ) (steps : List Microstep) (n : ℕ) (d : Microstep) (noted : List NotedStep) (start now : State) (result : ℕ) (below : n < length steps)
    (along : IsAlong saving steps n noted start now result) where
  pub goes : (t : State) (new : ℕ) (one : NotedStep) (written : WrittenWord) → written ≡ written_at saving n → step (phase_of (get_or steps n d)) now ≡ Ok t
      → ((size : Size) → result < span size → new < span (size_after (get_or steps n d) size))
      → AreMoves (made_of_step (halves_written written) (get_or steps n d) now) (named_moves one.moves.items) → one.step ≡ get_or steps n d
      → IsAlong saving steps (n + 1) (noted ++ one ∷ []) start t new
  goes t new one written is_written is fits are name = record {
    same_run = along.same_run ∙ ap (λ ys. run (map phase_of ys) now) (drop_more steps n d below)
        ∙ run_more (phase_of (get_or steps n d)) (map phase_of (drop (n + 1) steps)) now t is;
    ready = ready_more steps n d result new below along.ready fits;
    told = λ saved c. along.told saved c
        ∙ ap (λ ys. flat_map (sources_before (moves_noted noted)) (made_through (rows_from saving n ys) saved now c)) (drop_more steps n d below)
        ∙ goes_on (moves_noted noted) (named_moves one.moves.items) (row_of_step (halves_written (written_at saving n)) (get_or steps n d)) (rows_from saving (n + 1) (drop (n + 1) steps)) saved now t is
        (subst (λ w. AreMoves (made_of_step (halves_written w) (get_or steps n d) now) (named_moves one.moves.items)) is_written are) c
        ∙ ap (λ moves. flat_map (sources_before moves) (made_through (rows_from saving (n + 1) (drop (n + 1) steps)) saved t c)) (sym (moves_more noted one));
    names = names_more noted one ∙ ap (λ rest. steps_noted noted ++ rest ∷ []) name ∙ ap (λ xs. xs ++ get_or steps n d ∷ []) along.names
        ∙ sym (take_more steps n d below);
    count = count_more noted one ∙ ap (λ k. k + 1) along.count;
  }

  pub can_run : (latch : StepLatch) → latch.result ≡ result → CanRun (get_or steps n d) latch
  can_run latch is = runs_at steps n d latch below (rw is along.ready)

  pub halts : (stop : Stop) → step (phase_of (get_or steps n d)) now ≡ Err stop → run (map phase_of steps) start ≡ Err stop
  halts stop is = along.same_run ∙ ap (λ ys. run (map phase_of ys) now) (drop_more steps n d below)
      ∙ run_stopped (phase_of (get_or steps n d)) (map phase_of (drop (n + 1) steps)) now stop is

  pub halts_told : (stop : Stop) → step (phase_of (get_or steps n d)) now ≡ Err stop → (saved : Codes) (c : DataCell)
      → sources_before (moves_noted noted) c ≡ made_through (rows_of_steps saving steps) saved start c
  halts_told stop is saved c = sym (along.told saved c
      ∙ ap (λ ys. flat_map (sources_before (moves_noted noted)) (made_through (rows_from saving n ys) saved now c)) (drop_more steps n d below)
      ∙ stops (moves_noted noted) (row_of_step (halves_written (written_at saving n)) (get_or steps n d)) (rows_from saving (n + 1) (drop (n + 1) steps)) saved now stop is c)

module _ (saving : Option ℕ) (steps : List Microstep) (n : ℕ) (noted : List NotedStep) (start now : State) (result : ℕ) (done : drop n steps ≡ [])
    (along : IsAlong saving steps n noted start now result) where
  pub finishes : run (map phase_of steps) start ≡ Ok now
  finishes = along.same_run ∙ run_done (map phase_of (drop n steps)) now (ap (map phase_of) done)

  pub finishes_told : (saved : Codes) (c : DataCell) → sources_before (moves_noted noted) c ≡ made_through (rows_of_steps saving steps) saved start c
  finishes_told saved c = sym (along.told saved c ∙ ends (moves_noted noted) (rows_from saving n (drop n steps)) saved now (ap (rows_from saving n) done) c)
