-- What plans that follow one another make, by what was noted of each.
use Rattle.std.proofs.Common.{◌≡◌, ◌∙◌, Bool, true, false, List, [], ◌∷◌, Result, Ok, Err, flat_map, refl, ap, sym, subst, append-nil}
use Rattle.pdp_word.specs.declared.codes.Codes.{Codes}
use Rattle.pdp_action.specs.declared.trap.Trap.{Trap}
use Rattle.pdp_operand.specs.Phases.Course.{caught_in, go_on}
use Rattle.pdp_operand.specs.Phases.Phase.{Inner, Phase, State, Stop, inner_of, run, step, stop_at}
use Rattle.pdp_made.specs.Cells.{DataCell, CoreByte, DriveByte, RegisterByte, CodeNow, Buffer, TapeByte, ValueByte, SourceByte, ResultByte, StatusByte, CodeDue, CodeSaved}
use Rattle.pdp_made.specs.CourseRows.{CourseRows, Along, Finished, Saving, codes_at, follow_rows, made_after, made_along, of_lost_plan, of_saved_codes}
use Rattle.pdp_made.specs.OperandRows.{keeps_data}
use Rattle.pdp_made.specs.PhaseRows.{PhaseRow, made_next, made_through, of_itself, phases_in}
use Rattle.pdp_moves.specs.CourseMoves.{EndAt, IsNoted, is_trap, lost_if, sources_of_plan}
use Rattle.pdp_moves.specs.Moves.{sources_before}
use Rattle.pdp_moves.specs.PlanRows.{moves_noted}
use Rattle.pdp_moves.specs.declared.noted_plan.NotedPlan.{NotedPlan}
use Rattle.pdp_moves.proofs.PlanMoves.{each_itself, flat_same, run_done, run_more, run_stopped}

-- the same sources, told otherwise
pub noted_as : (rows : CourseRows) (saved : Codes) (s t : State) (f g : DataCell → List DataCell) → IsNoted rows saved s t f → ((c : DataCell) → g c ≡ f c)
    → IsNoted rows saved s t g
noted_as rows saved s t f g noted same = record { follows = noted.follows; made = λ c. same c ∙ noted.made c }

-- nothing follows
pub finished : (saved : Codes) (s : State) → IsNoted Finished saved s s of_itself
unfolding follow_rows made_along
finished saved s = record { follows = refl; made = λ c. refl }

-- the codes of now are saved
pub saves : (rest : CourseRows) (saved : Codes) (s t : State) (sources : DataCell → List DataCell) → IsNoted rest (codes_at s) s t sources
    → IsNoted (Saving rest) saved s t (λ c. flat_map of_saved_codes (sources c))
unfolding follow_rows made_along
saves rest saved s t sources noted = record { follows = noted.follows; made = λ c. ap (flat_map of_saved_codes) (noted.made c) }

-- A plan, and what follows it
module _ (rows : List PhaseRow) (next : Inner → CourseRows) (caught : Trap → Inner → CourseRows) (saved : Codes) (s end : State) (first sources : DataCell → List DataCell) where
  abbrev gone_on : Result State Stop → State
  gone_on r = go_on (λ v. follow_rows (next (inner_of v)) saved v) (λ trap v. follow_rows (caught trap (inner_of v)) saved v) s.latch r

  abbrev made_on : Result State Stop → DataCell → List DataCell
  made_on r c = made_after (λ v. made_along (next (inner_of v)) saved v) (λ trap v. made_along (caught trap (inner_of v)) saved v) s.latch (made_through rows saved s) r c

  pub goes_on : (t : State) → run (phases_in rows saved) s ≡ Ok t → ((c : DataCell) → first c ≡ made_through rows saved s c)
      → IsNoted (next (inner_of t)) saved t end sources → IsNoted (Along rows next caught) saved s end (λ c. flat_map first (sources c))
  unfolding follow_rows made_along
  goes_on t is made noted =
      let same : first ≡ made_through rows saved s = λ i c. made c i in
      record {
        follows = ap gone_on is ∙ noted.follows;
        made = λ c. ap (λ f. flat_map f (sources c)) same ∙ ap (flat_map (made_through rows saved s)) (noted.made c) ∙ ap (λ r. made_on r c) (sym is);
      }

  pub is_caught : (trap : Trap) (t : State) → run (phases_in rows saved) s ≡ Err (stop_at trap t.world) → t.latch ≡ s.latch
      → ((c : DataCell) → first c ≡ of_lost_plan (made_through rows saved s) c)
      → IsNoted (caught trap (inner_of t)) saved t end sources → IsNoted (Along rows next caught) saved s end (λ c. flat_map first (sources c))
  unfolding follow_rows made_along
  is_caught trap t is latch made noted =
      let same : first ≡ of_lost_plan (made_through rows saved s) = λ i c. made c i in
      let v : State = caught_in s.latch (stop_at trap t.world) in
      let back : t ≡ v = λ i. record { world = t.world; latch = latch i } in
      let after : IsNoted (caught trap (inner_of v)) saved v end sources = subst (λ u. IsNoted (caught trap (inner_of u)) saved u end sources) back noted in
      record {
        follows = ap gone_on is ∙ after.follows;
        made = λ c. ap (λ f. flat_map f (sources c)) same ∙ ap (flat_map (of_lost_plan (made_through rows saved s))) (after.made c) ∙ ap (λ r. made_on r c) (sym is);
      }

-- a plan that went on, or that came to a trap, by what was noted of it
pub kept : (f made : DataCell → List DataCell) (was_lost : Bool) → was_lost ≡ false → ((c : DataCell) → f c ≡ made c) → (c : DataCell) → lost_if was_lost f c ≡ made c
kept f made was_lost is same c = ap (λ b. lost_if b f c) is ∙ same c

pub dropped : (f made : DataCell → List DataCell) (was_lost : Bool) → was_lost ≡ true → ((c : DataCell) → f c ≡ made c) → (c : DataCell)
    → lost_if was_lost f c ≡ of_lost_plan made c
dropped f made was_lost is same c = let all : f ≡ made = λ i d. same d i in ap (λ b. lost_if b f c) is ∙ ap (λ g. of_lost_plan g c) all

-- the last plan of a course
pub last_plan : (rows : List PhaseRow) (saved : Codes) (s t : State) (f : DataCell → List DataCell) (was_lost : Bool) (result : Result (Unit {0}) Trap)
    → EndAt (phases_in rows saved) s result t → was_lost ≡ is_trap result → ((c : DataCell) → f c ≡ made_through rows saved s c)
    → IsNoted (Along rows (λ _. Finished) (λ _ _. Finished)) saved s t (lost_if was_lost f)
last_plan rows saved s t f was_lost (Ok x) ends is made =
    noted_as _ _ _ _ _ _ (goes_on rows (λ _. Finished) (λ _ _. Finished) saved s t (lost_if was_lost f) of_itself t ends (kept f (made_through rows saved s) was_lost is made) (finished saved t))
    (λ c. sym (append-nil (lost_if was_lost f c)))
last_plan rows saved s t f was_lost (Err trap) ends is made =
    noted_as _ _ _ _ _ _ (is_caught rows (λ _. Finished) (λ _ _. Finished) saved s t (lost_if was_lost f) of_itself trap t ends.0 ends.1 (dropped f (made_through rows saved s) was_lost is made) (finished saved t))
    (λ c. sym (append-nil (lost_if was_lost f c)))

-- A phase that changes no data, and what follows it
keeps : (p : Phase) (saved : Codes) (s : State) (r : Result State Stop) → step p s ≡ r → (c : DataCell) → of_itself c ≡ made_through (keeps_data p ∷ []) saved s c
unfolding made_through
keeps p saved s (Ok t) is c = ap (λ r. made_next (λ v. made_through [] saved v) of_itself r c) (sym is)
keeps p saved s (Err stop) is c = ap (λ r. made_next (λ v. made_through [] saved v) of_itself r c) (sym is)

still : (c : DataCell) → of_itself c ≡ of_lost_plan of_itself c
still (CoreByte k half) = refl
still (DriveByte n k half) = refl
still (RegisterByte n half) = refl
still (CodeNow code) = refl
still (Buffer buffer) = refl
still (TapeByte k) = refl
still (ValueByte half) = refl
still (SourceByte half) = refl
still (ResultByte half) = refl
still (StatusByte half) = refl
still (CodeDue code) = refl
still (CodeSaved code) = refl

module _ (p : Phase) (next : Inner → CourseRows) (caught : Trap → Inner → CourseRows) (saved : Codes) (s t end : State) (sources : DataCell → List DataCell) where
  pub keeps_on : step p s ≡ Ok t → IsNoted (next (inner_of t)) saved t end sources → IsNoted (Along (keeps_data p ∷ []) next caught) saved s end sources
  keeps_on is noted = noted_as _ _ _ _ _ _
      (goes_on (keeps_data p ∷ []) next caught saved s end of_itself sources t (run_more p [] s t is ∙ run_done [] t refl) (keeps p saved s (Ok t) is) noted)
      (λ c. sym (each_itself (sources c)))

  pub keeps_caught : (trap : Trap) → step p s ≡ Err (stop_at trap t.world) → t.latch ≡ s.latch
      → IsNoted (caught trap (inner_of t)) saved t end sources → IsNoted (Along (keeps_data p ∷ []) next caught) saved s end sources
  keeps_caught trap is latch noted = noted_as _ _ _ _ _ _
      (is_caught (keeps_data p ∷ []) next caught saved s end of_itself sources trap t (run_stopped p [] s (stop_at trap t.world) is) latch
      (λ c. still c ∙ ap (λ f. of_lost_plan f c) (let same : of_itself ≡ made_through (keeps_data p ∷ []) saved s = λ i d. keeps p saved s (Err (stop_at trap t.world)) is d i in same)) noted)
      (λ c. sym (each_itself (sources c)))

-- No step was run
pub unchanged : (f : DataCell → List DataCell) → ((c : DataCell) → f c ≡ c ∷ []) → (xs : List DataCell) → flat_map f xs ≡ xs
unchanged f same xs = flat_same f of_itself same xs ∙ each_itself xs

pub no_step : (plan : NotedPlan) → plan.steps.items ≡ [] → plan.is_lost ≡ false → (c : DataCell) → sources_of_plan plan c ≡ c ∷ []
no_step plan empty is c = kept (sources_before (moves_noted plan.steps.items)) of_itself plan.is_lost is (λ d. ap (λ items. sources_before (moves_noted items) d) empty) c
