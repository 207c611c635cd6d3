-- A turn: its beginning, and then the course of its act.
use Rattle.std.proofs.Common.{◌≡◌, ◌∙◌, ℕ, Bool, true, false, Result, Ok, Err, refl, ap, sym, subst}
use Rattle.pdp_word.specs.declared.codes.Codes.{Codes}
use Rattle.pdp_store.specs.CycleLogs.{KeptCycles}
use Rattle.pdp_io_page.specs.Handbook.Source.{chosen_source, io_page_served, requests, vector_of}
use Rattle.pdp_io_page.specs.declared.source.Source.{Source}
use Rattle.pdp_io_page.specs.declared.source.Source.TheVariants as source
use Rattle.pdp_operand.specs.Handbook.Processor.{register_of}
use Rattle.pdp_operand.specs.Phases.Course.{follow, go_on}
use Rattle.pdp_operand.specs.Phases.Phase.{Inner, Phase, State, Stop, inner_of}
use Rattle.pdp_operand.specs.Phases.Plan.{one, run_plan}
use Rattle.pdp_operand.specs.Phases.World.{World}
use Rattle.pdp_instruction.specs.Handbook.TrapSequence.{saved_context_of, sequence}
use Rattle.pdp_cpu.specs.Handbook.Due.{course_of, due_of, serve, serving, take_stack, take_trace}
use Rattle.pdp_cpu.specs.Handbook.Turn.{at_turn, beginning, course_at, one_turn}
use Rattle.pdp_cpu.specs.declared.due.Due.{Due}
use Rattle.pdp_cpu.specs.declared.due.Due.TheVariants as due
use Rattle.pdp_made.specs.Cells.{AreAlike, Data, DataCell, CoreByte, DriveByte, RegisterByte, CodeNow, Buffer, Keyboard, Printer, Reader, Punch, Switches, TapeByte, ValueByte, SourceByte, ResultByte, StatusByte, CodeDue, CodeSaved, Same, WorldsAlike, data_left, data_of, no_saved_codes, with_data}
use Rattle.pdp_made.specs.CourseRows.{CourseRows, IsSoundCourse, Saving, follow_rows, made_along, sequence_rows}
use Rattle.pdp_made.specs.OperandRows.{keeps_data}
use Rattle.pdp_made.specs.PhaseRows.{IsSoundRow}
use Rattle.pdp_made.proofs.Courses.{courses, instruction_followed, instruction_sound, sequence_followed, sequence_sound}
use Rattle.pdp_made.proofs.Frames.{itself_tells, sound_by}
use Rattle.pdp_made_run.specs.Origins.{Events}
use Rattle.pdp_made_run.specs.TurnRows.{TurnsTell, data_in, made_in_turn, rows_of_due, serving_rows}
use Rattle.pdp_made_run.specs.BeginningRows.{made_in_beginning}
use Rattle.pdp_made_run.proofs.BeginningSteps.{beginning_tells}
use Rattle.pdp_made_run.proofs.Lists.{each_held}

-- what follows what is served
abbrev saving : Bool → ℕ → Inner → CourseRows
saving marks vector i = Saving (sequence_rows marks vector (saved_context_of i))

-- What is served changes no data
takes_trace : IsSoundRow (keeps_data take_trace)
unfolding take_trace
takes_trace = sound_by _ (λ saved s d log shape. itself_tells d (data_of saved s))

takes_stack : IsSoundRow (keeps_data take_stack)
unfolding take_stack
takes_stack = sound_by _ (λ saved s d log shape. itself_tells d (data_of saved s))

serves : (from : Source) → IsSoundRow (keeps_data (serve from))
unfolding serve io_page_served
serves source.Clock = sound_by _ (λ saved s d log shape. itself_tells d (data_of saved s))
serves source.Disk = sound_by _ (λ saved s d log shape. itself_tells d (data_of saved s))
serves source.Keyboard = sound_by _ (λ saved s d log shape. itself_tells d (data_of saved s))
serves source.Printer = sound_by _ (λ saved s d log shape. itself_tells d (data_of saved s))
serves source.Reader = sound_by _ (λ saved s d log shape. itself_tells d (data_of saved s))
serves source.Punch = sound_by _ (λ saved s d log shape. itself_tells d (data_of saved s))

-- Its rows follow its course
served : (taken : Phase) (marks : Bool) (vector : ℕ) (saved : Codes) (s : State) → follow_rows (serving_rows taken marks vector) saved s ≡ follow (serving taken marks vector) s
unfolding follow_rows follow serving
served taken marks vector saved s = after_one (run_plan (one taken) s) where
  after_one : (end : Result State Stop)
      → go_on (λ t. follow_rows (saving marks vector (inner_of t)) saved t) (λ trap t. t) s.latch end ≡ go_on (λ t. follow (sequence marks vector (saved_context_of (inner_of t))) t) (λ trap t. t) s.latch end
  after_one (Ok t) = sequence_followed marks vector (saved_context_of (inner_of t)) (saved_context_of (inner_of t)).status.codes t
  after_one (Err stop) = refl

nothing_followed : (saved : Codes) (s : State) → follow_rows (rows_of_due due.Nothing) saved s ≡ follow (course_of due.Nothing) s
unfolding follow_rows follow
nothing_followed saved s = refl

due_followed : (what : Due) (saved : Codes) (s : State) → follow_rows (rows_of_due what) saved s ≡ follow (course_of what) s
due_followed due.Instruction saved s = instruction_followed saved s
due_followed due.TraceTrap saved s = served take_trace true 0o14 saved s
due_followed due.StackTrap saved s = served take_stack false 0o4 saved s
due_followed (due.Interrupt from) saved s = served (serve from) true (vector_of from) saved s
due_followed due.Nothing saved s = nothing_followed saved s

-- and each of them is sound
context_same : (d : Data) (log : KeptCycles) (t : State) (marks : Bool) (vector : ℕ) → saving marks vector (inner_of (with_data d log t)) ≡ saving marks vector (inner_of t)
unfolding register_of
context_same d log t marks vector = refl

serving_sound : (taken : Phase) (marks : Bool) (vector : ℕ) → IsSoundRow (keeps_data taken) → IsSoundCourse (serving_rows taken marks vector)
serving_sound taken marks vector sound = ((sound, tt), λ i. sequence_sound marks vector (saved_context_of i), λ trap i. tt, λ d log t. context_same d log t marks vector, λ trap d log t. refl)

due_sound : (what : Due) → IsSoundCourse (rows_of_due what)
due_sound due.Instruction = instruction_sound
due_sound due.TraceTrap = serving_sound take_trace true 0o14 takes_trace
due_sound due.StackTrap = serving_sound take_stack false 0o4 takes_stack
due_sound (due.Interrupt from) = serving_sound (serve from) true (vector_of from) (serves from)
due_sound due.Nothing = tt

-- what is due depends on no data
due_same : (d : Data) (log : KeptCycles) (s : State) → due_of (inner_of (with_data d log s)) ≡ due_of (inner_of s)
unfolding chosen_source requests
due_same d log s = refl

-- Between two turns nothing is in the latch
between : (s u : State) (c : DataCell) → Same (data_left u) (data_left s) c → Same (data_in u.world) (data_in s.world) c
between s u (CoreByte k half) same = same
between s u (DriveByte n k half) same = same
between s u (RegisterByte n half) same = same
between s u (CodeNow code) same = same
between s u (Buffer Keyboard) same = same
between s u (Buffer Printer) same = same
between s u (Buffer Reader) same = same
between s u (Buffer Punch) same = same
between s u (Buffer Switches) same = same
between s u (TapeByte k) same = same
between s u (ValueByte half) same = refl
between s u (SourceByte half) same = refl
between s u (ResultByte half) same = refl
between s u (StatusByte half) same = refl
between s u (CodeDue code) same = refl
between s u (CodeSaved code) same = refl

-- worlds that are alike, before an act
alike_at : (t : ℕ) (given other : Events) (w v : World) → WorldsAlike (beginning t (given t) w) (beginning t (other t) v)
    → AreAlike no_saved_codes no_saved_codes (at_turn t (given t) w) (at_turn t (other t) v)
alike_at t given other w v alike = record {
  same_way = λ i. record { world = alike.same_way i; latch = (at_turn t (given t) w).latch };
  shape = record {
    core_size = alike.core_size;
    drives_count = alike.drives_count;
    words_size = alike.words_size;
    both_due = refl;
    new_mode = refl;
  };
}

pub turns : TurnsTell
unfolding made_in_turn one_turn
turns t given other w v way c all =
    let s : State = at_turn t (given t) w in
    let u : State = at_turn t (other t) v in
    let alike : AreAlike no_saved_codes no_saved_codes s u = alike_at t given other w v way.begin.act in
    let what : Due = due_of (inner_of s) in
    let same_due : due_of (inner_of u) ≡ what = ap (λ z. due_of (inner_of z)) alike.same_way ∙ due_same (data_of no_saved_codes u) u.world.bus.log s in
    between (follow (course_at s) s) (follow (course_at u) u) c
    (subst (λ z. Same (data_left (follow (course_of z) u)) (data_left (follow (course_of what) s)) c) (sym same_due)
    (subst (λ z. Same (data_left z) (data_left (follow (course_of what) s)) c) (due_followed what no_saved_codes u)
    (subst (λ z. Same (data_left (follow_rows (rows_of_due what) no_saved_codes u)) (data_left z) c) (due_followed what no_saved_codes s)
    (courses (rows_of_due what) no_saved_codes no_saved_codes s u (due_sound what) alike way.act c
    (each_held other given (made_in_beginning t (given t) w.bus) (data_in v) (data_in w) (data_in (beginning t (other t) v)) (data_in (beginning t (given t) w))
    (beginning_tells other given t w v way.begin) (made_along (rows_of_due what) no_saved_codes s c) all)))))
