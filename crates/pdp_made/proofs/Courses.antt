-- Rows of courses: what follows a plan, if it goes on and if it comes to a trap.
use Rattle.std.proofs.Common.{◌≡◌, ◌∙◌, ℕ, Bool, true, List, [], ◌∷◌, Result, Ok, Err, refl, ap, sym, subst}
use Rattle.pdp_word.specs.declared.codes.Codes.{Codes}
use Rattle.pdp_action.specs.Action.{action_of}
use Rattle.pdp_action.specs.declared.trap.Trap.{Trap}
use Rattle.pdp_action.specs.declared.trap.Trap.TheVariants.{OddAddress, MappingAbort, BusTimeout, Reserved, JumpToRegister, StackLimit, Breakpoint, InputOutput, Emulator, TrapInstruction}
use Rattle.pdp_decode.specs.declared.instruction.Instr.{Instr}
use Rattle.pdp_store.specs.CycleLogs.{KeptCycles}
use Rattle.pdp_operand.specs.Phases.Course.{Go, caught_in, ends, follow, go_on, nothing_after}
use Rattle.pdp_operand.specs.Phases.Phase.{Inner, Latch, State, Stop, inner_of, run, step}
use Rattle.pdp_operand.specs.Phases.Plan.{Plan, one, phases_of, run_plan}
use Rattle.pdp_operand.specs.Handbook.Processor.{register_of}
use Rattle.pdp_operand.proofs.Flattening.{run_phases_of}
use Rattle.pdp_instruction.specs.Handbook.Action.{plan_of}
use Rattle.pdp_instruction.specs.Handbook.Instruction.{fetch_instruction, instruction, instruction_course, note_trace, trace_note_course}
use Rattle.pdp_instruction.specs.Handbook.TrapSequence.{after_trap, give_up, push_plan, red, red_plan, saved_context_of, sequence, trap_course, trap_plan, trap_vector}
use Rattle.pdp_instruction.specs.declared.saved_context.SavedContext.{SavedContext}
use Rattle.pdp_made.specs.Cells.{AreAlike, Data, DataCell, CoreByte, DriveByte, RegisterByte, CodeNow, Buffer, ValueByte, SourceByte, ResultByte, StatusByte, CodeDue, CodeSaved, TapeByte, EachSame, Same, WorldsAlike, data_at, data_left, data_of, no_saved_codes, with_data}
use Rattle.pdp_made.specs.CourseRows.{CourseRows, Along, CoursesTell, Finished, GoAlong, InstructionsTell, IsSoundCourse, NextAlike, RowsFollowInstructions, RowsFollowSequences, Saving, SequencesTell, after_trap_rows, codes_at, follow_rows, instruction_course_rows, instruction_rows, made_after, made_along, of_lost_plan, of_saved_codes, red_course_rows, sequence_rows, trap_course_rows}
use Rattle.pdp_made.specs.InstructionRows.{rows_of_action}
use Rattle.pdp_made.specs.OperandRows.{keeps_data}
use Rattle.pdp_made.specs.PhaseRows.{BothEndAlike, CellsTell, GoTheSameWay, PhaseRow, TellsEnds, made_through, phases_in}
use Rattle.pdp_made.specs.TrapRows.{give_up_row, red_rows, trap_rows, with_saved_codes}
use Rattle.pdp_made.proofs.ActionRows.{rows_phases, rows_sound}
use Rattle.pdp_made.proofs.Through.{each_of, ends_alike, through}
use Rattle.pdp_made.proofs.TrapSteps.{fetches, give_up_sound, notes_trace, red_sound, trap_sound}

-- after a course nothing is saved
left_tells : (d e : Data) (codes : Codes) → CellsTell (λ c. c ∷ []) d e (record d { saved = codes }) (record e { saved = codes })
left_tells d e codes (CoreByte k half) all = all.0
left_tells d e codes (DriveByte n k half) all = all.0
left_tells d e codes (RegisterByte n half) all = all.0
left_tells d e codes (CodeNow code) all = all.0
left_tells d e codes (Buffer buffer) all = all.0
left_tells d e codes (ValueByte half) all = all.0
left_tells d e codes (SourceByte half) all = all.0
left_tells d e codes (ResultByte half) all = all.0
left_tells d e codes (StatusByte half) all = all.0
left_tells d e codes (CodeDue code) all = all.0
left_tells d e codes (CodeSaved code) all = refl
left_tells d e codes (TapeByte k) all = all.0

-- what is saved becomes the codes of now
saved_tells : (d e : Data) → CellsTell of_saved_codes d e (record d { saved = d.bus.codes }) (record e { saved = e.bus.codes })
saved_tells d e (CoreByte k half) all = all.0
saved_tells d e (DriveByte n k half) all = all.0
saved_tells d e (RegisterByte n half) all = all.0
saved_tells d e (CodeNow code) all = all.0
saved_tells d e (Buffer buffer) all = all.0
saved_tells d e (ValueByte half) all = all.0
saved_tells d e (SourceByte half) all = all.0
saved_tells d e (ResultByte half) all = all.0
saved_tells d e (StatusByte half) all = all.0
saved_tells d e (CodeDue code) all = all.0
saved_tells d e (CodeSaved code) all = all.0
saved_tells d e (TapeByte k) all = all.0

-- at a trap the latch is the one from before the plan
module _ (first : DataCell → List DataCell) (saved other : Codes) (s u : State) (stop end : Stop)
    (tells : CellsTell first (data_of other u) (data_of saved s) (data_at other end.world) (data_at saved stop.world)) where
  lost_plan_tells : CellsTell (of_lost_plan first) (data_of other u) (data_of saved s) (data_of other (caught_in u.latch end)) (data_of saved (caught_in s.latch stop))
  lost_plan_tells (CoreByte k half) all = tells (CoreByte k half) all
  lost_plan_tells (DriveByte n k half) all = tells (DriveByte n k half) all
  lost_plan_tells (RegisterByte n half) all = tells (RegisterByte n half) all
  lost_plan_tells (CodeNow code) all = tells (CodeNow code) all
  lost_plan_tells (Buffer buffer) all = tells (Buffer buffer) all
  lost_plan_tells (CodeSaved code) all = tells (CodeSaved code) all
  lost_plan_tells (TapeByte k) all = tells (TapeByte k) all
  lost_plan_tells (ValueByte half) all = all.0
  lost_plan_tells (SourceByte half) all = all.0
  lost_plan_tells (ResultByte half) all = all.0
  lost_plan_tells (StatusByte half) all = all.0
  lost_plan_tells (CodeDue code) all = all.0

-- and both latches are alike
caught_alike : (saved other : Codes) (s u : State) (stop end : Stop) → AreAlike saved other s u → WorldsAlike stop.world end.world
    → AreAlike saved other (caught_in s.latch stop) (caught_in u.latch end)
caught_alike saved other s u stop end alike worlds = record {
  same_way = λ i. record { world = worlds.same_way i; latch = ap (λ v. v.latch) alike.same_way i };
  shape = record {
    core_size = worlds.core_size;
    drives_count = worlds.drives_count;
    words_size = worlds.words_size;
    both_due = alike.shape.both_due;
    new_mode = alike.shape.new_mode;
  };
}

-- the same states where other codes are saved
resaved : (saved other codes given : Codes) (s u : State) → AreAlike saved other s u → AreAlike codes given s u
resaved saved other codes given s u alike = record {
  same_way = alike.same_way;
  shape = record {
    core_size = alike.shape.core_size;
    drives_count = alike.shape.drives_count;
    words_size = alike.shape.words_size;
    both_due = alike.shape.both_due;
    new_mode = alike.shape.new_mode;
  };
}

-- What follows a plan
abbrev CourseTells : CourseRows → Codes → Codes → State → State → Type 0
CourseTells rows saved other s u = (c : DataCell) → EachSame (data_of other u) (data_of saved s) (made_along rows saved s c)
    → Same (data_left (follow_rows rows other u)) (data_left (follow_rows rows saved s)) c

module _ (next : Inner → CourseRows) (caught : Trap → Inner → CourseRows) (saved other : Codes) (s u : State) (alike : AreAlike saved other s u)
    (next_same : (d : Data) (log : KeptCycles) (t : State) → next (inner_of (with_data d log t)) ≡ next (inner_of t))
    (caught_same : (trap : Trap) (d : Data) (log : KeptCycles) (t : State) → caught trap (inner_of (with_data d log t)) ≡ caught trap (inner_of t))
    (next_tells : (t v : State) → AreAlike saved other t v → GoAlong (next (inner_of t)) saved other t v → CourseTells (next (inner_of t)) saved other t v)
    (caught_tells : (trap : Trap) (t v : State) → AreAlike saved other t v → GoAlong (caught trap (inner_of t)) saved other t v → CourseTells (caught trap (inner_of t)) saved other t v)
    (first : DataCell → List DataCell) where
  abbrev next_there : State → State
  next_there v = follow_rows (next (inner_of v)) other v

  abbrev caught_there : Trap → State → State
  caught_there trap v = follow_rows (caught trap (inner_of v)) other v

  same_next : (t v : State) → AreAlike saved other t v → next (inner_of v) ≡ next (inner_of t)
  same_next t v after = ap (λ w. next (inner_of w)) after.same_way ∙ next_same (data_of other v) v.world.bus.log t

  same_caught : (trap : Trap) (t v : State) → AreAlike saved other t v → caught trap (inner_of v) ≡ caught trap (inner_of t)
  same_caught trap t v after = ap (λ w. caught trap (inner_of w)) after.same_way ∙ caught_same trap (data_of other v) v.world.bus.log t

  after_plan : (one end : Result State Stop) → TellsEnds first first saved other (data_of other u) (data_of saved s) one end
      → BothEndAlike (λ _ _. Unit {0}) saved other one end
      → NextAlike (λ t v. GoAlong (next (inner_of t)) saved other t v) (λ trap t v. GoAlong (caught trap (inner_of t)) saved other t v) s.latch u.latch one end
      → (c : DataCell)
      → EachSame (data_of other u) (data_of saved s) (made_after (λ t. made_along (next (inner_of t)) saved t) (λ trap t. made_along (caught trap (inner_of t)) saved t) s.latch first one c)
      → Same (data_left (go_on next_there caught_there u.latch end)) (data_left (go_on (λ t. follow_rows (next (inner_of t)) saved t) (λ trap t. follow_rows (caught trap (inner_of t)) saved t) s.latch one)) c
  after_plan (Ok t) (Ok v) tells ends on c all =
      subst (λ rows. Same (data_left (follow_rows rows other v)) (data_left (follow_rows (next (inner_of t)) saved t)) c) (sym (same_next t v ends.0))
      (next_tells t v ends.0 on c (each_of first (data_of other u) (data_of saved s) (data_of other v) (data_of saved t) tells (made_along (next (inner_of t)) saved t c) all))
  after_plan (Err stop) (Err end) tells ends on c all =
      let t : State = caught_in s.latch stop in
      let v : State = caught_in u.latch end in
      let after : AreAlike saved other t v = caught_alike saved other s u stop end alike ends.1 in
      subst (λ trap. Same (data_left (follow_rows (caught trap (inner_of v)) other v)) (data_left (follow_rows (caught stop.trap (inner_of t)) saved t)) c) (sym ends.0)
      (subst (λ rows. Same (data_left (follow_rows rows other v)) (data_left (follow_rows (caught stop.trap (inner_of t)) saved t)) c) (sym (same_caught stop.trap t v after))
      (caught_tells stop.trap t v after on c (each_of (of_lost_plan first) (data_of other u) (data_of saved s) (data_of other v) (data_of saved t)
      (lost_plan_tells first saved other s u stop end tells) (made_along (caught stop.trap (inner_of t)) saved t c) all)))
  after_plan (Ok t) (Err end) tells ends on c all = absurd ends
  after_plan (Err stop) (Ok v) tells ends on c all = absurd ends

pub courses : CoursesTell
unfolding follow_rows made_along GoAlong
courses Finished saved other s u sound alike way = λ c all. left_tells (data_of other u) (data_of saved s) no_saved_codes c all
courses (Along rows next caught) saved other s u sound alike way =
    after_plan next caught saved other s u alike sound.3 sound.4
    (λ t v after on. courses (next (inner_of t)) saved other t v (sound.1 (inner_of t)) after on)
    (λ trap t v after on. courses (caught trap (inner_of t)) saved other t v (sound.2 trap (inner_of t)) after on)
    (made_through rows saved s) (run (phases_in rows saved) s) (run (phases_in rows other) u)
    (through rows saved other s u sound.0 alike way.0) (ends_alike rows saved other s u alike way.0) way.1
courses (Saving rest) saved other s u sound alike way =
    λ c all. courses rest (codes_at s) (codes_at u) s u sound (resaved saved other (codes_at s) (codes_at u) s u alike) way c
    (each_of of_saved_codes (data_of other u) (data_of saved s) (data_of (codes_at u) u) (data_of (codes_at s) s) (saved_tells (data_of other u) (data_of saved s)) (made_along rest (codes_at s) s c) all)

-- The rows follow the courses
module _ (f g : State → State) (c k : Trap → State → State) (same : (t : State) → f t ≡ g t) (trap_same : (trap : Trap) (t : State) → c trap t ≡ k trap t) where
  goes_on : (latch : Latch) (one : Result State Stop) → go_on f c latch one ≡ go_on g k latch one
  goes_on latch (Ok t) = same t
  goes_on latch (Err stop) = trap_same stop.trap (caught_in latch stop)

-- a list of phases that are those of a plan
followed : (rows : List PhaseRow) (plan : Plan) (saved : Codes) → phases_in rows saved ≡ phases_of plan → (s : State) → run (phases_in rows saved) s ≡ run_plan plan s
followed rows plan saved same s = ap (λ ps. run ps s) same ∙ run_phases_of plan s

pub trap_phases : (marks : Bool) (vector : ℕ) (context : SavedContext) (saved : Codes) → phases_in (trap_rows marks vector context) saved ≡ phases_of (trap_plan marks vector (with_saved_codes context saved))
unfolding trap_plan push_plan
trap_phases marks vector context saved = refl

pub red_phases : (context : SavedContext) (saved : Codes) → phases_in (red_rows context) saved ≡ phases_of (red_plan (with_saved_codes context saved))
unfolding red_plan
red_phases context saved = refl

gave_up : (context : SavedContext) (saved : Codes) (s : State) → follow_rows (Along (give_up_row context ∷ []) (λ _. Finished) (λ _ _. Finished)) saved s ≡ follow (Go (one (give_up (with_saved_codes context saved))) ends nothing_after) s
unfolding follow_rows follow
gave_up context saved s = refl

red_followed : (context : SavedContext) (saved : Codes) (s : State) → follow_rows (red_course_rows context) saved s ≡ follow (red (with_saved_codes context saved)) s
unfolding follow_rows follow red
red_followed context saved s =
    ap (λ one. go_on (λ t. t) (λ trap t. follow_rows (Along (give_up_row context ∷ []) (λ _. Finished) (λ _ _. Finished)) saved t) s.latch one) (followed (red_rows context) (red_plan (with_saved_codes context saved)) saved (red_phases context saved) s)
    ∙ goes_on (λ t. t) (λ t. t) _ _ (λ t. refl) (λ trap t. gave_up context saved t) s.latch (run_plan (red_plan (with_saved_codes context saved)) s)

pub sequence_followed : RowsFollowSequences
unfolding follow_rows follow sequence
sequence_followed marks vector context saved s =
    ap (λ one. go_on (λ t. t) (λ trap t. follow_rows (red_course_rows context) saved t) s.latch one) (followed (trap_rows marks vector context) (trap_plan marks vector (with_saved_codes context saved)) saved (trap_phases marks vector context saved) s)
    ∙ goes_on (λ t. t) (λ t. t) _ _ (λ t. refl) (λ trap t. red_followed context saved t) s.latch (run_plan (trap_plan marks vector (with_saved_codes context saved)) s)

trap_followed : (trap : Trap) (context : SavedContext) (s : State) → follow_rows (after_trap_rows trap context) context.status.codes s ≡ follow (after_trap trap context) s
trap_followed StackLimit context s = red_followed context context.status.codes s
trap_followed OddAddress context s = sequence_followed true (trap_vector OddAddress) context context.status.codes s
trap_followed MappingAbort context s = sequence_followed true (trap_vector MappingAbort) context context.status.codes s
trap_followed BusTimeout context s = sequence_followed true (trap_vector BusTimeout) context context.status.codes s
trap_followed Reserved context s = sequence_followed true (trap_vector Reserved) context context.status.codes s
trap_followed JumpToRegister context s = sequence_followed true (trap_vector JumpToRegister) context context.status.codes s
trap_followed Breakpoint context s = sequence_followed true (trap_vector Breakpoint) context context.status.codes s
trap_followed InputOutput context s = sequence_followed true (trap_vector InputOutput) context context.status.codes s
trap_followed Emulator context s = sequence_followed true (trap_vector Emulator) context context.status.codes s
trap_followed TrapInstruction context s = sequence_followed true (trap_vector TrapInstruction) context context.status.codes s

caught_followed : (saved : Codes) (trap : Trap) (s : State) → follow_rows (trap_course_rows trap (inner_of s)) saved s ≡ follow (trap_course trap (inner_of s)) s
unfolding follow_rows
caught_followed saved trap s = trap_followed trap (saved_context_of (inner_of s)) s

noted : (instr : Instr) (saved : Codes) (s : State) → follow_rows (Along (keeps_data (note_trace instr) ∷ []) (λ _. Finished) (λ _ _. Finished)) saved s ≡ follow (trace_note_course instr) s
unfolding follow_rows follow trace_note_course
noted instr saved s = refl

executed : (instr : Instr) (saved : Codes) (s : State) → follow_rows (instruction_course_rows instr) saved s ≡ follow (instruction_course instr) s
unfolding follow_rows follow instruction_course
executed instr saved s =
    ap (λ one. go_on (λ t. follow_rows (Along (keeps_data (note_trace instr) ∷ []) (λ _. Finished) (λ _ _. Finished)) saved t) (λ trap t. follow_rows (trap_course_rows trap (inner_of t)) saved t) s.latch one)
    (followed (rows_of_action (action_of instr)) (plan_of instr) saved (rows_phases saved (action_of instr)) s)
    ∙ goes_on _ _ _ _ (λ t. noted instr saved t) (λ trap t. caught_followed saved trap t) s.latch (run_plan (plan_of instr) s)

pub instruction_followed : RowsFollowInstructions
unfolding follow_rows follow instruction
instruction_followed saved s =
    goes_on (λ t. follow_rows (instruction_course_rows t.latch.instr) saved t) (λ t. follow (instruction_course t.latch.instr) t) (λ trap t. follow_rows (trap_course_rows trap (inner_of t)) saved t) (λ trap t. follow (trap_course trap (inner_of t)) t)
    (λ t. executed t.latch.instr saved t) (λ trap t. caught_followed saved trap t) s.latch (run_plan (one fetch_instruction) s)

-- and each of their rows is sound
red_course_sound : (context : SavedContext) → IsSoundCourse (red_course_rows context)
red_course_sound context = (red_sound context, λ i. tt, λ trap i. (give_up_sound context, λ i. tt, λ trap i. tt, λ d log t. refl, λ trap d log t. refl), λ d log t. refl, λ trap d log t. refl)

pub sequence_sound : (marks : Bool) (vector : ℕ) (context : SavedContext) → IsSoundCourse (sequence_rows marks vector context)
sequence_sound marks vector context = (trap_sound marks vector context, λ i. tt, λ trap i. red_course_sound context, λ d log t. refl, λ trap d log t. refl)

trap_course_sound : (trap : Trap) (i : Inner) → IsSoundCourse (trap_course_rows trap i)
trap_course_sound StackLimit i = red_course_sound (saved_context_of i)
trap_course_sound OddAddress i = sequence_sound true (trap_vector OddAddress) (saved_context_of i)
trap_course_sound MappingAbort i = sequence_sound true (trap_vector MappingAbort) (saved_context_of i)
trap_course_sound BusTimeout i = sequence_sound true (trap_vector BusTimeout) (saved_context_of i)
trap_course_sound Reserved i = sequence_sound true (trap_vector Reserved) (saved_context_of i)
trap_course_sound JumpToRegister i = sequence_sound true (trap_vector JumpToRegister) (saved_context_of i)
trap_course_sound Breakpoint i = sequence_sound true (trap_vector Breakpoint) (saved_context_of i)
trap_course_sound InputOutput i = sequence_sound true (trap_vector InputOutput) (saved_context_of i)
trap_course_sound Emulator i = sequence_sound true (trap_vector Emulator) (saved_context_of i)
trap_course_sound TrapInstruction i = sequence_sound true (trap_vector TrapInstruction) (saved_context_of i)

trap_rows_same : (trap : Trap) (d : Data) (log : KeptCycles) (t : State) → trap_course_rows trap (inner_of (with_data d log t)) ≡ trap_course_rows trap (inner_of t)
unfolding register_of
trap_rows_same StackLimit d log t = refl
trap_rows_same OddAddress d log t = refl
trap_rows_same MappingAbort d log t = refl
trap_rows_same BusTimeout d log t = refl
trap_rows_same Reserved d log t = refl
trap_rows_same JumpToRegister d log t = refl
trap_rows_same Breakpoint d log t = refl
trap_rows_same InputOutput d log t = refl
trap_rows_same Emulator d log t = refl
trap_rows_same TrapInstruction d log t = refl

pub instruction_sound : IsSoundCourse instruction_rows
instruction_sound = ((fetches, tt), λ i. (rows_sound (action_of i.latch.instr), λ j. ((notes_trace i.latch.instr, tt), λ k. tt, λ trap k. tt, λ d log t. refl, λ trap d log t. refl), trap_course_sound, λ d log t. refl, trap_rows_same), trap_course_sound, λ d log t. refl, trap_rows_same)

pub instructions : InstructionsTell
instructions s u alike way c all =
    subst (λ v. Same (data_left (follow instruction u)) (data_left v) c) (instruction_followed no_saved_codes s)
    (subst (λ v. Same (data_left v) (data_left (follow_rows instruction_rows no_saved_codes s)) c) (instruction_followed no_saved_codes u)
    (courses instruction_rows no_saved_codes no_saved_codes s u instruction_sound alike way c all))

pub sequences : SequencesTell
sequences marks vector context saved other s u alike way c all =
    subst (λ v. Same (data_left (follow (sequence marks vector (with_saved_codes context other)) u)) (data_left v) c) (sequence_followed marks vector context saved s)
    (subst (λ v. Same (data_left v) (data_left (follow_rows (sequence_rows marks vector context) saved s)) c) (sequence_followed marks vector context other u)
    (courses (sequence_rows marks vector context) saved other s u (sequence_sound marks vector context) alike way c all))

-- Each state goes the same way as itself
pub alike_itself : (saved : Codes) (s : State) → AreAlike saved saved s s
alike_itself saved s = record {
  same_way = refl;
  shape = record { core_size = refl; drives_count = refl; words_size = refl; both_due = refl; new_mode = refl };
}

module _ (rest : State → State → Type 0) (saved : Codes) (own : (t : State) → rest t t) where
  end_itself : (one : Result State Stop) → BothEndAlike rest saved saved one one
  end_itself (Ok t) = (alike_itself saved t, own t)
  end_itself (Err stop) = (refl, record { same_way = refl; core_size = refl; drives_count = refl; words_size = refl })

go_itself : (rows : List PhaseRow) (saved : Codes) (s : State) → GoTheSameWay rows saved saved s s
unfolding GoTheSameWay
go_itself [] saved s = tt
go_itself (row ∷ rows) saved s = end_itself (λ t v. GoTheSameWay rows saved saved t v) saved (λ t. go_itself rows saved t) (step (row.phase saved) s)

module _ (next : State → State → Type 0) (caught : Trap → State → State → Type 0) (latch : Latch) (own : (t : State) → next t t) (own_trap : (trap : Trap) (t : State) → caught trap t t) where
  next_itself : (one : Result State Stop) → NextAlike next caught latch latch one one
  next_itself (Ok t) = own t
  next_itself (Err stop) = own_trap stop.trap (caught_in latch stop)

pub along_itself : (rows : CourseRows) (saved : Codes) (s : State) → GoAlong rows saved saved s s
unfolding GoAlong
along_itself Finished saved s = tt
along_itself (Along rows next caught) saved s = (
  go_itself rows saved s,
  next_itself (λ t v. GoAlong (next (inner_of t)) saved saved t v) (λ trap t v. GoAlong (caught trap (inner_of t)) saved saved t v) s.latch
      (λ t. along_itself (next (inner_of t)) saved t) (λ trap t. along_itself (caught trap (inner_of t)) saved t) (run (phases_in rows saved) s),
)
along_itself (Saving rest) saved s = along_itself rest (codes_at s) s
