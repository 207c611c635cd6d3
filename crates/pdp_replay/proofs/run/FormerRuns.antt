-- A run that meets a former run: what it takes of it, and where it is then.
use Rattle.std.proofs.Common.{◌≡◌, ◌∙◌, ◌+◌, ◌-◌, ◌*◌, ◌<◌, ◌≤◌, ◌++◌, ℕ, List, [], ◌∷◌, ap, ap₂, arith, drop, get_or, length, map, refl, replicate, subst, sym, take}
use Rattle.std.proofs.Math.Seq.{map-set_same}
use Rattle.std.proofs.lemmas.List.{drop-drop, drop-take, length-set}
use Rattle.pdp_store.specs.FirstTouches.{FirstTouches, all_first_touches_before, first_touches_after, word_touched}
use Rattle.pdp_store.specs.Overlays.{first_touches_over}
use Rattle.pdp_store.specs.TracedAccess.{TracedAccess}
use Rattle.pdp_store.specs.declared.part.Part.{Part}
use Rattle.pdp_store.specs.declared.part.Part.TheVariants.{Core, Drive}
use Rattle.pdp_unibus.specs.SavedBusData.{HasSizesOf}
use Rattle.pdp_unibus.specs.SavedTouches.{HasPagesOf}
use Rattle.pdp_operand.specs.Phases.World.{World}
use Rattle.pdp_checkpoint.specs.Formers.{FormerData, IsStateIn}
use Rattle.pdp_checkpoint.specs.declared.checkpoint.Checkpoint.{Checkpoint}
use Rattle.pdp_cpu.specs.Saved.{CanHold, SavedMachineData, SavedMeet, saved_machine, saved_over, state_on}
use Rattle.pdp_cpu.specs.SavedOutput.{TakesOutput, bytes_between}
use Rattle.pdp_cpu.specs.Handbook.MachineState.{MachineState, MachineWithTexts}
use Rattle.pdp_cpu.specs.declared.kept_text.KeptByte.{KeptByte}
use Rattle.pdp_replay.specs.Past.{Past}
use Rattle.pdp_replay.specs.Past.Setup.{drive_words, unit_words}
use Rattle.pdp_replay.specs.Run.Adoptions.{Adopts, TakesTexts}
use Rattle.pdp_replay.specs.Run.Checkpoints.{ComesAfter, IsBuiltFrom, IsFormerOf, IsKeptState, KeepsTexts, SameInputsFrom, punched_kept_at, text_kept_at}
use Rattle.pdp_replay.specs.Run.FirstTouches.{first_touches_at, untouched_all}
use Rattle.pdp_replay.specs.Run.FormerRuns.{MeetsFormer}
use Rattle.pdp_replay.specs.Run.KeptRuns.{IsOnWay, with_near}
use Rattle.pdp_replay.specs.Run.Meetings.{MeetAt, TouchesNoMore}
use Rattle.pdp_replay.specs.Run.States.{at, punched_at, text_at}
use Rattle.pdp_replay.specs.declared.run.kept_run.KeptRun.{KeptRun}
use Rattle.pdp_replay.proofs.run.Adoptions.{adopted_runs_go_on, punched_size, text_size}
use Rattle.pdp_replay.proofs.run.Formers.{holds_in}
use Rattle.pdp_replay.proofs.run.KeptTexts.{punched_kept_first, punched_kept_reaches, text_kept_first, text_kept_reaches}
use Rattle.pdp_replay.proofs.run.Meetings.{meet_again, no_more_again}
use Rattle.pdp_replay.proofs.run.Resumed.{can_hold}
use Rattle.pdp_replay.proofs.run.RunFirstTouches.{first_touches_cut, untouched_alike}
use Rattle.pdp_replay.proofs.run.SavedMeetings.{saved_machines_are_taken, they_meet}
use Rattle.pdp_replay.proofs.run.StateSizes.{at_is_built, saved_machine_fits}

-- a machine of the one past has the size that the other asks for
built_for_former : (p : Past) (f : FormerData) (m : MachineWithTexts) (is : IsFormerOf p f) → IsBuiltFrom p.setup m → IsBuiltFrom is.past.setup m
built_for_former p f m is built = record {
  tape = built.tape ∙ is.inputs.tape;
  core = built.core ∙ ap (λ n. n * unit_words) (sym is.units);
  stamps = built.stamps ∙ ap (λ n. n * unit_words) (sym is.units);
  drives = built.drives ∙ ap (λ n. replicate n drive_words) (sym is.drives);
}

pub state_fits : (p : Past) (f : FormerData) (c : Checkpoint) (m : MachineWithTexts) (is : IsFormerOf p f) → IsStateIn f.states c → IsBuiltFrom p.setup m
    → HasSizesOf c.saved.bus m.state.world.bus
state_fits p f c m is there built =
    let state = holds_in (IsKeptState is.past f.known) f.states c is.states there in
    saved_machine_fits is.past c.turn m c.saved state.saved (built_for_former p f m is built)

-- a trace touches pages that are there
touched_sizes : (part : Part) (word turn : ℕ) (f : FirstTouches) → HasPagesOf (word_touched part word turn f) f
touched_sizes Core word turn f = record { core = length-set f.core _ _; drives = refl }
touched_sizes (Drive number) word turn f = record {
  core = refl;
  drives = map-set_same length f.drives number _ [] (length-set (get_or f.drives number []) _ _);
}

pub trace_sizes : (xs : List TracedAccess) (f : FirstTouches) → HasPagesOf (first_touches_after xs f) f
unfolding first_touches_after
trace_sizes [] f = record { core = refl; drives = refl }
trace_sizes (x ∷ xs) f =
    let rest = trace_sizes xs (word_touched x.part x.word x.turn f) in
    let one = touched_sizes x.part x.word x.turn f in
    record { core = rest.core ∙ one.core; drives = rest.drives ∙ one.drives }

pub touches_fit : (p : Past) (f : FormerData) (known : ℕ) (m : MachineWithTexts) → IsFormerOf p f → KeepsTexts p known m → HasPagesOf f.output.first_touches m.first_touches
touches_fit p f known m is texts =
    let there = trace_sizes _ (untouched_all is.past.setup) in
    let here = trace_sizes _ (untouched_all p.setup) in
    let blank : untouched_all is.past.setup ≡ untouched_all p.setup = untouched_alike is.past.setup p.setup (ap (λ n. n * unit_words) is.units) is.drives in
    let over : f.output.first_touches ≡ first_touches_at is.past f.known = is.output.first_touches in
    let under : m.first_touches ≡ first_touches_at p known = texts.first_touches in
    record {
      core = ap (λ (t : FirstTouches). length t.core) over ∙ there.core ∙ ap (λ (t : FirstTouches). length t.core) blank ∙ sym here.core ∙ ap (λ (t : FirstTouches). length t.core) (sym under);
      drives = ap (λ (t : FirstTouches). map length t.drives) over ∙ there.drives ∙ ap (λ (t : FirstTouches). map length t.drives) blank ∙ sym here.drives
          ∙ ap (λ (t : FirstTouches). map length t.drives) (sym under);
    }

-- where both are equal, they meet
pub meets_here : (p : Past) (f : FormerData) (there : Checkpoint) (r : KeptRun) → IsFormerOf p f → IsOnWay p r → IsStateIn f.states there
    → there.turn ≡ r.machine.state.turn → r.known ≡ r.machine.state.turn → f.edited < r.machine.state.turn
    → SavedMeet (saved_machine r.machine.state) there.saved
    → first_touches_over r.machine.state.turn r.machine.first_touches (all_first_touches_before r.machine.state.turn f.output.first_touches) ≡ r.machine.first_touches
    → MeetsFormer p f there r
meets_here p f there r is on state turn known later meets touches =
    let c : ℕ = r.machine.state.turn in
    let q = is.past in
    let kept = holds_in (IsKeptState q f.known) f.states there is.states state in
    let inputs : SameInputsFrom c p q = record { tape = is.inputs.tape; events = λ t from. is.inputs.events t (omega (arith, from, later)) } in
    let here : saved_machine r.machine.state ≡ saved_machine (at p c) = ap saved_machine on.here in
    let other : there.saved ≡ saved_machine (at q c) = kept.saved ∙ ap (λ n. saved_machine (at q n)) turn in
    let both : SavedMeet (saved_machine (at p c)) (saved_machine (at q c)) =
    subst (λ s. SavedMeet s (saved_machine (at q c))) here (subst (SavedMeet (saved_machine r.machine.state)) other meets) in
    let within : c ≤ f.known = omega (arith, kept.within, turn) in
    let small = is.small in
    let cut : all_first_touches_before c f.output.first_touches ≡ first_touches_at q c =
    ap (all_first_touches_before c) is.output.first_touches ∙ first_touches_cut q c f.known within (omega (arith, within, small)) in
    let own : r.machine.first_touches ≡ first_touches_at p c = on.kept.texts.first_touches ∙ ap (first_touches_at p) known in
    record {
      former = is;
      way = on;
      state = state;
      turn = turn;
      known = known;
      meet = they_meet p q c inputs both;
      touches = ap₂ (first_touches_over c) (sym own) (sym cut) ∙ touches ∙ own;
    }

-- two saved machines of runs that meet
pub saved_meet : (p q : Past) (c : ℕ) → MeetAt c p q → SavedMeet (saved_machine (at p c)) (saved_machine (at q c))
saved_meet p q c meet = record {
  turn = refl;
  processor = ap (λ (w : World). w.processor) meet.world_is;
  bus = ap (λ (w : World). Rattle.pdp_unibus.specs.SavedBusData.saved_bus w.bus) meet.world_is;
  size = meet.size;
}

-- the bytes from one of two lengths to the other, of a list that leaves some out
pub between_is : (from a b : ℕ) (all : List KeptByte) → from ≤ a → a ≤ b → bytes_between from a b (drop from all) ≡ drop a (take b all)
between_is from a b all low high =
    let whole : from + (b - from) ≡ b = omega (arith, low, high) in
    let rest : from + (a - from) ≡ a = omega (arith, low) in
    ap (drop (a - from)) (sym (drop-take from (b - from) all))
    ∙ drop-drop (a - from) from (take (from + (b - from)) all)
    ∙ ap₂ (λ n m. drop n (take m all)) rest whole

-- no less came out before a later turn
texts_longer : (kept : ℕ → List KeptByte) (text : ℕ → List ℕ) → ((n : ℕ) → length (kept n) ≡ length (text n))
    → ((n known : ℕ) → n ≤ known → length (text n) ≤ length (kept known)) → (c n a b : ℕ) → c ≤ n → a ≡ length (text c) → b ≡ length (text n) → a ≤ b
texts_longer kept text sizes reaches c n a b le first last =
    let reach = reaches c n le in
    let size = sizes n in
    omega (arith, reach, size, first, last)

-- what a machine takes of the former run are its texts
pub takes_texts : (p : Past) (f : FormerData) (there next : Checkpoint) (r : KeptRun) (taking : MachineWithTexts) (meets : MeetsFormer p f there r)
    → IsStateIn f.states next → there.turn < next.turn → TakesOutput there.saved next.saved f.output r.machine taking
    → TakesTexts r.machine.state.turn next.turn meets.former.past r.machine taking
takes_texts p f there next r taking meets state later takes =
    let is = meets.former in
    let q = is.past in
    let c : ℕ = r.machine.state.turn in
    let from = holds_in (IsKeptState q f.known) f.states there is.states meets.state in
    let to = holds_in (IsKeptState q f.known) f.states next is.states state in
    let after = holds_in (ComesAfter f.output) f.states there is.after meets.state in
    let within = to.within in
    let small = is.small in
    let first : there.saved ≡ saved_machine (at q c) = from.saved ∙ ap (λ n. saved_machine (at q n)) meets.turn in
    let printed : there.saved.text_length ≡ length (text_at q c) = ap (λ (s : SavedMachineData). s.text_length) first in
    let printed_to : next.saved.text_length ≡ length (text_at q next.turn) = ap (λ (s : SavedMachineData). s.text_length) to.saved in
    let punched : there.saved.punched_length ≡ length (punched_at q c) = ap (λ (s : SavedMachineData). s.punched_length) first in
    let punched_to : next.saved.punched_length ≡ length (punched_at q next.turn) = ap (λ (s : SavedMachineData). s.punched_length) to.saved in
    let n : next.saved.turn ≡ next.turn = ap (λ (s : SavedMachineData). s.turn) to.saved in
    let turn = meets.turn in
    let le : c ≤ next.turn = omega (arith, later, turn) in
    record {
      world = ap (λ (s : MachineState). s.world) takes.state;
      text = takes.text ∙ ap (λ xs. r.machine.kept_text ++ xs) (
          ap (bytes_between f.output.text_from there.saved.text_length next.saved.text_length) is.output.text
          ∙ between_is f.output.text_from there.saved.text_length next.saved.text_length (text_kept_at q f.known) after.text (texts_longer (text_kept_at q) (text_at q) (text_size q) (text_kept_reaches q) c next.turn _ _ le printed printed_to)
          ∙ ap₂ (λ a b. drop a (take b (text_kept_at q f.known))) printed printed_to
          ∙ ap (drop (length (text_at q c))) (text_kept_first q next.turn f.known within));
      punched = takes.punched ∙ ap (λ xs. r.machine.kept_punched ++ xs) (
          ap (bytes_between f.output.punched_from there.saved.punched_length next.saved.punched_length) is.output.punched
          ∙ between_is f.output.punched_from there.saved.punched_length next.saved.punched_length (punched_kept_at q f.known) after.punched (texts_longer (punched_kept_at q) (punched_at q) (punched_size q) (punched_kept_reaches q) c next.turn _ _ le punched punched_to)
          ∙ ap₂ (λ a b. drop a (take b (punched_kept_at q f.known))) punched punched_to
          ∙ ap (drop (length (punched_at q c))) (punched_kept_first q next.turn f.known within));
      first_touches = takes.first_touches
          ∙ ap (λ k. first_touches_over c r.machine.first_touches (all_first_touches_before k f.output.first_touches)) n
          ∙ ap (first_touches_over c r.machine.first_touches)
          (ap (all_first_touches_before next.turn) is.output.first_touches ∙ first_touches_cut q next.turn f.known within (omega (arith, within, small)));
    }

-- the machine is then in a later state of its run, once it is made the saved one, and keeps its texts
pub adopted : (p : Past) (f : FormerData) (there next : Checkpoint) (r : KeptRun) (taking after : MachineWithTexts) (meets : MeetsFormer p f there r)
    → IsStateIn f.states next → there.turn < next.turn → TakesOutput there.saved next.saved f.output r.machine taking
    → after.state ≡ state_on taking (saved_over r.machine.state.turn (saved_machine r.machine.state) there.saved next.saved)
    → after.kept_text ≡ taking.kept_text → after.kept_punched ≡ taking.kept_punched → after.first_touches ≡ taking.first_touches
    → (after.state ≡ at p next.turn) × KeepsTexts p next.turn after
adopted p f there next r taking after meets state later takes loaded text punched touches =
    let is = meets.former in
    let q = is.past in
    let c : ℕ = r.machine.state.turn in
    let d : ℕ = next.turn - c in
    let turn = meets.turn in
    let there_is : d + c ≡ next.turn = omega (arith, later, turn) in
    let from = holds_in (IsKeptState q f.known) f.states there is.states meets.state in
    let to = holds_in (IsKeptState q f.known) f.states next is.states state in
    let first : there.saved ≡ saved_machine (at q c) = from.saved ∙ ap (λ n. saved_machine (at q n)) turn in
    let last : next.saved ≡ saved_machine (at q (d + c)) = to.saved ∙ ap (λ n. saved_machine (at q n)) (sym there_is) in
    let inputs : SameInputsFrom c p q = record { tape = is.inputs.tape; events = meets.meet.events } in
    let keeps : KeepsTexts p c r.machine = subst (λ k. KeepsTexts p k r.machine) meets.known meets.way.kept.texts in
    let both = saved_meet p q c meets.meet in
    let here : saved_machine r.machine.state ≡ saved_machine (at p c) = ap saved_machine meets.way.here in
    let texts : TakesTexts c (d + c) q r.machine taking =
    subst (λ n. TakesTexts c n q r.machine taking) (sym there_is) (takes_texts p f there next r taking meets state later takes) in
    let adopts : Adopts c (d + c) q r.machine taking after = record {
      texts = texts;
      state = loaded ∙ ap₂ (λ a b. state_on taking (saved_over c (saved_machine r.machine.state) a b)) first last;
      text = text;
      punched = punched;
      first_touches = touches;
    } in
    subst (λ n. (after.state ≡ at p n) × KeepsTexts p n after) there_is
    (adopted_runs_go_on p q c d r.machine taking after meets.way.here keeps inputs (subst (λ s. SavedMeet s (saved_machine (at q c))) (sym here) both) meets.touches adopts)

-- it can be made the saved one
pub can_adopt : (p : Past) (f : FormerData) (there next : Checkpoint) (r : KeptRun) (taking : MachineWithTexts) (meets : MeetsFormer p f there r)
    → IsStateIn f.states next → there.turn < next.turn → TakesOutput there.saved next.saved f.output r.machine taking
    → CanHold taking (saved_over r.machine.state.turn (saved_machine r.machine.state) there.saved next.saved)
can_adopt p f there next r taking meets state later takes =
    let is = meets.former in
    let q = is.past in
    let c : ℕ = r.machine.state.turn in
    let d : ℕ = next.turn - c in
    let turn = meets.turn in
    let there_is : d + c ≡ next.turn = omega (arith, later, turn) in
    let from = holds_in (IsKeptState q f.known) f.states there is.states meets.state in
    let to = holds_in (IsKeptState q f.known) f.states next is.states state in
    let first : there.saved ≡ saved_machine (at q c) = from.saved ∙ ap (λ n. saved_machine (at q n)) turn in
    let last : next.saved ≡ saved_machine (at q (d + c)) = to.saved ∙ ap (λ n. saved_machine (at q n)) (sym there_is) in
    let inputs : SameInputsFrom c p q = record { tape = is.inputs.tape; events = meets.meet.events } in
    let here : saved_machine r.machine.state ≡ saved_machine (at p c) = ap saved_machine meets.way.here in
    let laid : saved_over c (saved_machine r.machine.state) there.saved next.saved ≡ saved_machine (at p next.turn) =
    ap₂ (λ a b. saved_over c (saved_machine r.machine.state) a b) first last
    ∙ ap (λ s. saved_over c s (saved_machine (at q c)) (saved_machine (at q (d + c)))) here
    ∙ sym (saved_machines_are_taken p q c d inputs (saved_meet p q c meets.meet))
    ∙ ap (λ n. saved_machine (at p n)) there_is in
    let loaded : MachineWithTexts = record taking { state = state_on taking (saved_over c (saved_machine r.machine.state) there.saved next.saved) } in
    let texts = (adopted p f there next r taking loaded meets state later takes refl refl refl refl).1 in
    let kept : KeepsTexts p next.turn taking = record { text = texts.text; punched = texts.punched; first_touches = texts.first_touches } in
    let old = at_is_built p c r.machine meets.way.here in
    let built : IsBuiltFrom p.setup taking = record {
      tape = ap (λ (s : MachineState). s.world.bus.tape) takes.state ∙ old.tape;
      core = ap (λ (s : MachineState). length s.world.bus.core) takes.state ∙ old.core;
      stamps = ap (λ (s : MachineState). length s.world.bus.stamps) takes.state ∙ old.stamps;
      drives = ap (λ (s : MachineState). map length s.world.bus.drives) takes.state ∙ old.drives;
    } in
    subst (CanHold taking) (sym laid) (can_hold p next.turn next.turn taking (saved_machine (at p next.turn)) refl (omega arith) kept built)

-- and they meet there again
pub meets_on : (p : Past) (f : FormerData) (there next : Checkpoint) (r after : KeptRun) → MeetsFormer p f there r → IsStateIn f.states next → there.turn < next.turn
    → IsOnWay p after → after.machine.state.turn ≡ next.turn → after.known ≡ next.turn → MeetsFormer p f next after
meets_on p f there next r after meets state later on turn known =
    let c : ℕ = r.machine.state.turn in
    let d : ℕ = next.turn - c in
    let before = meets.turn in
    let there_is : d + c ≡ after.machine.state.turn = omega (arith, later, before, turn) in
    record {
      former = meets.former;
      way = on;
      state = state;
      turn = sym turn;
      known = known ∙ sym turn;
      meet = subst (λ n. MeetAt n p meets.former.past) there_is (meet_again p meets.former.past c d meets.meet);
      touches = subst (λ n. TouchesNoMore n p meets.former.past) there_is (no_more_again p meets.former.past c d meets.meet meets.touches);
    }

-- a run that keeps more states between its checkpoints meets the former run still
pub meets_near : (p : Past) (f : FormerData) (there : Checkpoint) (near : List Checkpoint) (r after : KeptRun) → after ≡ with_near near r → IsOnWay p after
    → MeetsFormer p f there r → MeetsFormer p f there after
meets_near p f there near r after same way meets = subst (λ a. IsOnWay p a → MeetsFormer p f there a) (sym same) (λ on. record {
  former = meets.former;
  way = on;
  state = meets.state;
  turn = meets.turn;
  known = meets.known;
  meet = meets.meet;
  touches = meets.touches;
}) way
