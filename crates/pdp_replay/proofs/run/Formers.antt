-- What is kept of former runs, as edits leave it.
use Rattle.std.proofs.Common.{◌≡◌, ◌∙◌, ◌<◌, ◌≤◌, ◌++◌, ⊎_elim, ℕ, List, ap, arith, drop, get_or, length, map, refl, subst, sym}
use Rattle.std.specs.List.{All}
use Rattle.std.proofs.lemmas.List.{get_or-map, length-map}
use Rattle.std.proofs.lemmas.Option.{get_or_from_slice_get, slice_get_within}
use Rattle.pdp_checkpoint.specs.Formers.{FormerData, IsFormerIn, IsSetAside, IsStateIn, former_edited}
use Rattle.pdp_checkpoint.specs.Ladder.{LadderData}
use Rattle.pdp_checkpoint.proofs.Checkpoints.{checkpoints_beside}
use Rattle.pdp_checkpoint.specs.declared.checkpoint.Checkpoint.{Checkpoint}
use Rattle.pdp_cpu.specs.KeptTexts.{kept_before}
use Rattle.pdp_cpu.specs.Saved.{SavedMachineData}
use Rattle.pdp_script.specs.Entries.{events_at}
use Rattle.pdp_store.specs.FirstTouches.{never}
use Rattle.pdp_replay.specs.Past.{Past}
use Rattle.pdp_replay.specs.Run.Checkpoints.{AreKept, AreStatesOf, IsFormerOf, IsKeptState, punched_kept_at, text_kept_at}
use Rattle.pdp_replay.specs.Run.KeptRuns.{AreFormersAfter, left_run}
use Rattle.pdp_replay.specs.Run.States.{punched_at, text_at}
use Rattle.pdp_replay.specs.declared.run.kept_run.KeptRun.{KeptRun}
use Rattle.pdp_replay.proofs.run.Adoptions.{punched_size, text_size}
use Rattle.pdp_replay.proofs.run.Checkpoints.{all_kept}
use Rattle.pdp_replay.proofs.run.KeptTexts.{punched_kept_before, punched_kept_reaches, text_kept_before, text_kept_reaches}

-- an item that is there has what all have
pub holds_in : (P : Checkpoint → Type 0) (xs : List Checkpoint) (c : Checkpoint) → All P xs → IsStateIn xs c → P c
holds_in P xs c all there =
    subst P (get_or_from_slice_get xs there.place c c there.state) (all there.place c (slice_get_within xs there.place c there.state))

holds_of_former : (P : FormerData → Type 0) (xs : List FormerData) (f : FormerData) → All P xs → IsFormerIn xs f → P f
holds_of_former P xs f all there =
    subst P (get_or_from_slice_get xs there.place f f there.former) (all there.place f (slice_get_within xs there.place f there.former))

all_mapped : (P Q : FormerData → Type 0) (h : FormerData → FormerData) (xs : List FormerData) → ((f : FormerData) → P f → Q (h f)) → All P xs → All Q (map h xs)
all_mapped P Q h xs step all k d inside =
    let within : k < length xs = subst (λ n. k < n) (length-map xs h) inside in
    subst Q (sym (get_or-map h xs k d d within)) (step (get_or xs k d) (all k d within))

-- a former run of one past is one of another, with the same events after the last that was edited
pub former_of_other : (p q : Past) (f : FormerData) → p.setup.tape ≡ q.setup.tape → p.setup.units ≡ q.setup.units → p.setup.drives ≡ q.setup.drives
    → ((t : ℕ) → f.edited < t → events_at p.script.entries t ≡ events_at q.script.entries t) → IsFormerOf p f → IsFormerOf q f
former_of_other p q f tape units drives later is = record {
  past = is.past;
  inputs = record {
    tape = sym tape ∙ is.inputs.tape;
    events = λ t from. sym (later t (omega (arith, from))) ∙ is.inputs.events t from;
  };
  units = is.units ∙ units;
  drives = is.drives ∙ drives;
  states = is.states;
  output = is.output;
  after = is.after;
  small = is.small;
}

-- more turns may have been edited
former_edited_on : (p : Past) (edited : ℕ) (f : FormerData) → IsFormerOf p f → IsFormerOf p (former_edited edited f)
former_edited_on p edited f is = record {
  past = is.past;
  inputs = record { tape = is.inputs.tape; events = λ t from. is.inputs.events t (omega (arith, from)) };
  units = is.units;
  drives = is.drives;
  states = is.states;
  output = is.output;
  after = is.after;
  small = is.small;
}

pub formers_edited : (p : Past) (edited : ℕ) (formers : List FormerData) → All (IsFormerOf p) formers → All (IsFormerOf p) (map (former_edited edited) formers)
formers_edited p edited formers all = all_mapped (IsFormerOf p) (IsFormerOf p) (former_edited edited) formers (former_edited_on p edited) all

pub all_edited : (edited : ℕ) (formers : List FormerData) → All (λ f. edited ≤ f.edited) (map (former_edited edited) formers)
all_edited edited formers k d inside =
    let within : k < length formers = subst (λ n. k < n) (length-map formers (former_edited edited)) inside in
    subst (λ (f : FormerData). edited ≤ f.edited) (sym (get_or-map (former_edited edited) formers k d d within)) (omega arith)

pub edited_after : (turn edited : ℕ) (before after : KeptRun) → All (λ f. edited ≤ f.edited) before.ladder.formers → AreFormersAfter turn edited before after
    → All (λ f. edited ≤ f.edited) after.ladder.formers
edited_after turn edited before after all left k d inside =
    ⊎_elim
    (λ (new : IsSetAside turn (before.ladder.kept ++ before.ladder.near) (left_run turn edited before) (get_or after.ladder.formers k d)).
    let is : (get_or after.ladder.formers k d).edited ≡ edited = ap (λ (f : FormerData). f.edited) new.is in
    omega (arith, is))
    (λ (old : IsFormerIn before.ladder.formers (get_or after.ladder.formers k d)).
    holds_of_former (λ f. edited ≤ f.edited) before.ladder.formers _ all old)
    (left k d inside)

-- the bytes that are left out are those that came out before the turn
text_left : (p : Past) (known turn n : ℕ) → turn ≤ known → turn ≤ n → length (kept_before turn (text_kept_at p known)) ≤ length (text_at p n)
text_left p known turn n le later =
    let is = ap length (text_kept_before p turn known le) in
    let first = text_size p turn in
    let reach = text_kept_reaches p turn n later in
    let all = text_size p n in
    omega (arith, is, first, reach, all)

punched_left : (p : Past) (known turn n : ℕ) → turn ≤ known → turn ≤ n → length (kept_before turn (punched_kept_at p known)) ≤ length (punched_at p n)
punched_left p known turn n le later =
    let is = ap length (punched_kept_before p turn known le) in
    let first = punched_size p turn in
    let reach = punched_kept_reaches p turn n later in
    let all = punched_size p n in
    omega (arith, is, first, reach, all)

-- what is left of a run is a former run of its past
left_is_former : (p : Past) (turn edited : ℕ) (r : KeptRun) (g : FormerData) → AreKept p r.known r.machine r.ladder → turn ≤ r.known → r.known ≤ never
    → IsSetAside turn (r.ladder.kept ++ r.ladder.near) (left_run turn edited r) g → IsFormerOf p g
left_is_former p turn edited r g kept le small aside =
    subst (IsFormerOf p) (sym aside.is) (record {
      past = p;
      inputs = record { tape = refl; events = λ t from. refl };
      units = refl;
      drives = refl;
      states = states;
      output = record {
        text = ap (drop (length (kept_before turn r.machine.kept_text))) kept.texts.text;
        punched = ap (drop (length (kept_before turn r.machine.kept_punched))) kept.texts.punched;
        first_touches = kept.texts.first_touches;
      };
      after = λ k d inside.
          let c : Checkpoint = get_or g.states k d in
          let state = states k d inside in
          let late = (aside.late k d inside).late in
          let text = text_left p r.known turn c.turn le (omega (arith, late)) in
          let punched = punched_left p r.known turn c.turn le (omega (arith, late)) in
          let printed_is : length (kept_before turn r.machine.kept_text) ≡ length (kept_before turn (text_kept_at p r.known)) = ap (λ xs. length (kept_before turn xs)) kept.texts.text in
          let punched_is : length (kept_before turn r.machine.kept_punched) ≡ length (kept_before turn (punched_kept_at p r.known)) = ap (λ xs. length (kept_before turn xs)) kept.texts.punched in
          let printed_to : c.saved.text_length ≡ length (text_at p c.turn) = ap (λ (s : SavedMachineData). s.text_length) state.saved in
          let punched_to : c.saved.punched_length ≡ length (punched_at p c.turn) = ap (λ (s : SavedMachineData). s.punched_length) state.saved in
          record { text = omega (arith, text, printed_is, printed_to); punched = omega (arith, punched, punched_is, punched_to) };
      small = small;
    })
  where
    states : All (IsKeptState p r.known) g.states
    states k d inside = holds_in (IsKeptState p r.known) (r.ladder.kept ++ r.ladder.near) _ (all_kept p r.known r.ladder kept.states) (aside.late k d inside).there

pub formers_after : (p : Past) (turn edited : ℕ) (before after : KeptRun) → AreKept p before.known before.machine before.ladder → turn ≤ before.known → before.known ≤ never
    → AreFormersAfter turn edited before after → All (IsFormerOf p) after.ladder.formers
formers_after p turn edited before after kept le small left k d inside =
    ⊎_elim
    (λ (new : IsSetAside turn (before.ladder.kept ++ before.ladder.near) (left_run turn edited before) (get_or after.ladder.formers k d)).
    left_is_former p turn edited before _ kept le small new)
    (λ (old : IsFormerIn before.ladder.formers (get_or after.ladder.formers k d)).
    holds_of_former (IsFormerOf p) before.ladder.formers _ kept.states.formers old)
    (left k d inside)

-- a ladder whose former runs may be edited up to a later turn
pub states_edited : (p : Past) (edited known : ℕ) (l now : LadderData) → now ≡ record l { formers = map (former_edited edited) l.formers } → AreStatesOf p known l → AreStatesOf p known now
states_edited p edited known l now is are = subst (AreStatesOf p known) (sym is) (record {
  states = are.states;
  checkpoints = checkpoints_beside l l.near _ are.checkpoints;
  count = are.count;
  near = are.near;
  formers = formers_edited p edited l.formers are.formers;
})
