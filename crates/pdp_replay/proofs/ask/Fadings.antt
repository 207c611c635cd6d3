-- Runs that become one: decided, once and for ever, and found between two turns.
use Rattle.std.proofs.Common.{◌≡◌, ◌∙◌, ◌+◌, ◌-◌, ◌<◌, ◌≤◌, ◌&&◌, ℕ, Bool, true, false, cond, eqb, leb, List, [], ◌∷◌, Err, IfOk, None, Ok, Option, Result, Some, ap, arith, map, max, refl, subst, sym, ⊎_elim}
use Rattle.std.specs.List.{filter}
use Rattle.std.proofs.lemmas.Bool.{cases_Bool, leb-false, lt-leb, ne_eqb}
use Rattle.pdp_unibus.specs.declared.event.Event.{Event}
use Rattle.pdp_cpu.specs.Saved.{SavedMachineData, SavedMeet, saved_machine}
use Rattle.pdp_cpu.specs.Handbook.MachineState.{MachineWithTexts}
use Rattle.pdp_script.specs.Entries.{events_at, events_from}
use Rattle.pdp_script.specs.declared.entry.Entry.{Entry}
use Rattle.pdp_script.specs.Script.{ScriptData}
use Rattle.pdp_replay.specs.Ask.Fadings.{AreJoined, IsEdge, JoinedIsDecided, JoinedStayJoined, are_joined, joined_by}
use Rattle.pdp_replay.specs.Ask.Searches.{IsFirst, first_turn_of}
use Rattle.pdp_replay.specs.Past.{Past}
use Rattle.pdp_replay.specs.Run.Branches.{AreAlikeAt, AreBeside, AreBesideAt, BranchesOff, Compares, IsBranchOf, IsBranchAt, IsKeptOfSize, KeepsBranch, SameEventsBefore}
use Rattle.pdp_replay.specs.Run.Checkpoints.{KeepsTexts, SameInputsFrom}
use Rattle.pdp_replay.specs.Run.KeptRuns.{IsUnderWay, KeepsRun}
use Rattle.pdp_replay.specs.Run.Meetings.{MeetAt}
use Rattle.pdp_replay.specs.Run.States.{at}
use Rattle.pdp_replay.specs.declared.past.base_setup.BaseSetup.{BaseSetup}
use Rattle.pdp_replay.specs.declared.run.branch.Branch.{Branch}
use Rattle.pdp_replay.specs.declared.run.branch.Likeness.TheVariants.{Apart}
use Rattle.pdp_replay.specs.declared.run.kept_run.KeptRun.{KeptRun}
use Rattle.pdp_replay.proofs.ask.Searches.{first_is}
use Rattle.pdp_replay.proofs.run.Decided.{are_same_events_tells, do_meet_tells}
use Rattle.pdp_replay.proofs.run.FormerRuns.{saved_meet}
use Rattle.pdp_replay.proofs.run.Agreeing.{Agree, same_at}
use Rattle.pdp_replay.proofs.run.Lowered.{both_true, texts_agree}
use Rattle.pdp_replay.proofs.run.Meetings.{meet_again}
use Rattle.pdp_replay.proofs.run.SavedMeetings.{they_meet}

both_hold : (x y : Bool) → x ≡ true → y ≡ true → (x && y) ≡ true
both_hold true y is other = other
both_hold false y is other = is

pub joined_is_decided : JoinedIsDecided
unfolding are_joined
joined_is_decided p q n =
    let meet = do_meet_tells (saved_machine (at p n)) (saved_machine (at q n)) in
    let events = are_same_events_tells (events_from p.script.entries n) (events_from q.script.entries n) in (
      λ told. let both = both_true _ _ told in record { state = meet.0 both.0; events = events.0 both.1 },
      λ joined. both_hold _ _ (meet.1 joined.state) (events.1 joined.events),
    )

not_true : (x : Bool) → (x ≡ true → ⊥) → x ≡ false
not_true true never = absurd (never refl)
not_true false never = refl

abbrev pair_of : Entry → ℕ × Event
pair_of e = (e.turn, e.event)

-- the later ones of the events from a turn on
later_of_later : (entries : List Entry) (n k : ℕ) → n ≤ k → events_from entries k ≡ filter (λ x. leb k x.0) (events_from entries n)
later_of_later [] n k le = refl
later_of_later (e ∷ es) n k le =
    ⊎_elim
    (λ (yes : leb n e.turn ≡ true). rw yes (
    elim (leb k e.turn) as (λ b. map pair_of (cond b (e ∷ filter (λ x. leb k x.turn) es) (filter (λ x. leb k x.turn) es)) ≡ cond b (pair_of e ∷ filter (λ x. leb k x.0) (events_from es n)) (filter (λ x. leb k x.0) (events_from es n))) [ true ↦ ap (λ l. pair_of e ∷ l) (later_of_later es n k le) | false ↦ later_of_later es n k le ]))
    (λ (no : leb n e.turn ≡ false). let early = leb-false n e.turn no in let late = lt-leb k e.turn (omega (arith, early, le)) in rw (no, late) (later_of_later es n k le))
    (cases_Bool (leb n e.turn))

-- the events of a turn, of those from a turn on
at_of_later : (entries : List Entry) (n t : ℕ) → n ≤ t → events_at entries t ≡ map (λ x. x.1) (filter (λ x. eqb x.0 t) (events_from entries n))
at_of_later [] n t le = refl
at_of_later (e ∷ es) n t le =
    ⊎_elim
    (λ (yes : leb n e.turn ≡ true). rw yes (
    elim (eqb e.turn t) as (λ b. map (λ (x : Entry). x.event) (cond b (e ∷ filter (λ x. eqb x.turn t) es) (filter (λ x. eqb x.turn t) es)) ≡ map (λ (x : ℕ × Event). x.1) (cond b (pair_of e ∷ filter (λ x. eqb x.0 t) (events_from es n)) (filter (λ x. eqb x.0 t) (events_from es n)))) [ true ↦ ap (λ l. e.event ∷ l) (at_of_later es n t le) | false ↦ at_of_later es n t le ]))
    (λ (no : leb n e.turn ≡ false).
    let early = leb-false n e.turn no in
    let other = ne_eqb e.turn t (λ is. absurd (omega (arith, early, le, is))) in
    rw (no, other) (at_of_later es n t le))
    (cases_Bool (leb n e.turn))

pub events_later : (p q : Past) (n k : ℕ) → n ≤ k → events_from p.script.entries n ≡ events_from q.script.entries n → events_from p.script.entries k ≡ events_from q.script.entries k
events_later p q n k le same =
    later_of_later p.script.entries n k le ∙ ap (filter (λ x. leb k x.0)) same ∙ sym (later_of_later q.script.entries n k le)

pub same_inputs : (p q : Past) (n : ℕ) → p.setup.tape ≡ q.setup.tape → events_from p.script.entries n ≡ events_from q.script.entries n → SameInputsFrom n p q
same_inputs p q n tape same = record {
  tape = tape;
  events = λ t le. at_of_later p.script.entries n t le ∙ ap (λ l. map (λ x. x.1) (filter (λ x. eqb x.0 t) l)) same ∙ sym (at_of_later q.script.entries n t le);
}

pub joined_stay_joined : JoinedStayJoined
joined_stay_joined p q n k tape le joined =
    let d : ℕ = k - n in
    let there : d + n ≡ k = omega (arith, le) in
    let meet : MeetAt n p q = they_meet p q n (same_inputs p q n tape joined.events) joined.state in
    record {
      state = subst (λ m. AreAlikeAt m p q) there (saved_meet p q (d + n) (meet_again p q n d meet));
      events = events_later p q n k le joined.events;
    }

-- runs that are alike after the last difference of their scripts are one, and others aren't
pub joined_if_alike : (p q : Past) (from n : ℕ) → events_from p.script.entries (from + 1) ≡ events_from q.script.entries (from + 1) → from < n
    → AreAlikeAt n p q → are_joined p q n ≡ true
joined_if_alike p q from n same later alike =
    (joined_is_decided p q n).1 (record { state = alike; events = events_later p q (from + 1) n (omega (arith, later)) same })

pub not_joined : (p q : Past) (n : ℕ) → (AreJoined n p q → ⊥) → are_joined p q n ≡ false
not_joined p q n never = not_true (are_joined p q n) (λ told. never ((joined_is_decided p q n).0 told))

-- runs that are not one yet were not one before
pub not_joined_before : (p q : Past) (n k : ℕ) → p.setup.tape ≡ q.setup.tape → k ≤ n → are_joined p q n ≡ false → are_joined p q k ≡ false
not_joined_before p q n k tape le apart =
    not_joined p q k (λ joined. let told = (joined_is_decided p q n).1 (joined_stay_joined p q k n tape le joined) in absurd cc)

-- the first of the turns up to `to`, computed
by : (p q : Past) (to : ℕ) (found : Option ℕ) → IsFirst (are_joined p q) 0 (to + 1) found → found ≡ joined_by to p q
by p q to found first =
    let whole : to + 1 - 0 ≡ to + 1 = omega arith in
    first_is (are_joined p q) 0 (to + 1) found (omega arith) first ∙ ap (first_turn_of (are_joined p q) 0) whole

pub none_joined : (p q : Past) (to : ℕ) → p.setup.tape ≡ q.setup.tape → are_joined p q to ≡ false → None ≡ joined_by to p q
none_joined p q to tape apart =
    by p q to None (λ turn least below. not_joined_before p q to turn tape (omega (arith, below)) apart)

pub edge_is_first : (p q : Past) (to t : ℕ) → p.setup.tape ≡ q.setup.tape → IsEdge to p q t → Some t ≡ joined_by to p q
edge_is_first p q to t tape edge =
    let next = edge.next in
    let most = edge.most in
    by p q to (Some t) (record {
      least = omega arith;
      most = omega (arith, most);
      there = edge.joined;
      none = λ turn least below. not_joined_before p q edge.before turn tape (omega (arith, below, next)) edge.apart;
    })

pub joined_at_once : (p q : Past) (to : ℕ) → are_joined p q 0 ≡ true → Some 0 ≡ joined_by to p q
joined_at_once p q to joined =
    by p q to (Some 0) (record { least = omega arith; most = omega arith; there = joined; none = λ turn least below. absurd (omega (arith, below)) })

-- the run and the branch stay beside each other
pub beside_after : (script : ScriptData) (r after : KeptRun) (b now : Branch) → AreBeside script r b → KeepsRun script r after → KeepsBranch b now → AreBeside script after now
beside_after script r after b now beside kept branch = record {
  past = beside.past;
  other = beside.other;
  same = beside.same;
  run = kept beside.past beside.same beside.run;
  branch = branch beside.other beside.branch;
  units = beside.units;
  drives = beside.drives;
}

pub beside_at_after : (script : ScriptData) (r after : KeptRun) (b now : Branch) (turn : ℕ) (saved : SavedMachineData) → AreBesideAt turn saved script r b → KeepsRun script r after
    → KeepsBranch b now → turn ≤ now.machine.state.turn → AreBesideAt turn saved script after now
unfolding beside_after
beside_at_after script r after b now turn saved at_turn kept branch reached = record {
  beside = beside_after script r after b now at_turn.beside kept branch;
  state = at_turn.state;
  reached = reached;
}

pub beside_apart : (script : ScriptData) (r after : KeptRun) (b now : Branch) (turn : ℕ) (there : SavedMachineData) → AreBeside script r b → KeepsRun script r after
    → KeepsBranch b now → Compares turn script r b (Apart there) → now.machine.state.turn ≡ turn → AreBesideAt turn there script after now
unfolding beside_after
beside_apart script r after b now turn there beside kept branch told here = record {
  beside = beside_after script r after b now beside kept branch;
  state = (told beside.past beside.other beside.same beside.run beside.branch).1;
  reached = omega (arith, here);
}

-- and when the branch went back
pub beside_back : (script : ScriptData) (r : KeptRun) (b now : Branch) (turn : ℕ) (saved : SavedMachineData) → AreBesideAt turn saved script r b
    → ((q : Past) → IsBranchAt q turn saved b → IsBranchAt q turn saved now) → now.machine.state.turn ≡ turn → AreBesideAt turn saved script r now
beside_back script r b now turn saved at_turn back here =
    let beside = at_turn.beside in
    record {
      beside = record {
        past = beside.past;
        other = beside.other;
        same = beside.same;
        run = beside.run;
        branch = (back beside.other (record { branch = beside.branch; state = at_turn.state; reached = at_turn.reached })).branch;
        units = beside.units;
        drives = beside.drives;
      };
      state = at_turn.state;
      reached = omega (arith, here);
    }

pub meets_itself : (s : SavedMachineData) → SavedMeet s s
meets_itself s = record { turn = refl; processor = refl; bus = refl; size = refl }

-- runs with the same events from the start on are one at once
pub one_from_the_start : (p q : Past) → p.setup ≡ q.setup → events_from p.script.entries 0 ≡ events_from q.script.entries 0 → are_joined p q 0 ≡ true
one_from_the_start p q setup same =
    let start : at p 0 ≡ at q 0 = same_at p q 0 (record { setup = setup; events = λ t low. absurd (omega (arith, low)) }) in
    (joined_is_decided p q 0).1 (record {
      state = subst (λ m. SavedMeet (saved_machine (at p 0)) (saved_machine m)) start (meets_itself (saved_machine (at p 0)));
      events = same;
    })

-- events of two pasts, and of the scripts that they have
pub of_scripts : (p q : Past) (some other : ScriptData) (n : ℕ) → p.script ≡ some → q.script ≡ other → events_from p.script.entries n ≡ events_from q.script.entries n
    → events_from some.entries n ≡ events_from other.entries n
of_scripts p q some other n same script events =
    sym (ap (λ (s : ScriptData). events_from s.entries n) same) ∙ events ∙ ap (λ (s : ScriptData). events_from s.entries n) script

pub of_pasts : (p q : Past) (some other : ScriptData) (n : ℕ) → p.script ≡ some → q.script ≡ other → events_from some.entries n ≡ events_from other.entries n
    → events_from p.script.entries n ≡ events_from q.script.entries n
of_pasts p q some other n same script events =
    ap (λ (s : ScriptData). events_from s.entries n) same ∙ events ∙ sym (ap (λ (s : ScriptData). events_from s.entries n) script)

-- runs whose scripts differ from a turn on are not one in it
pub not_joined_from : (p q : Past) (some other : ScriptData) (n : ℕ) → p.script ≡ some → q.script ≡ other → (events_from some.entries n ≡ events_from other.entries n → ⊥)
    → are_joined p q n ≡ false
not_joined_from p q some other n same script differ = not_joined p q n (λ joined. differ (of_scripts p q some other n same script joined.events))

-- scripts that differ only from a turn on leave the run the same up to it
pub agree_before : (p q : Past) (some other : ScriptData) (n from : ℕ) → p.script ≡ some → q.script ≡ other → p.setup ≡ q.setup → SameEventsBefore from some other → n ≤ from
    → Agree p q n
agree_before p q some other n from same script setup events le = record {
  setup = setup;
  events = λ t low. ap (λ (s : ScriptData). events_at s.entries t) same ∙ events t (omega (arith, low, le)) ∙ sym (ap (λ (s : ScriptData). events_at s.entries t) script);
}

pub way_of_other : (p q : Past) (n : ℕ) (m : MachineWithTexts) → Agree p q n → m.state.turn ≡ n → IsUnderWay p n m → IsUnderWay q n m
way_of_other p q n m agree there way =
    let most : max n m.state.turn ≡ n = omega (arith, there) in
    record {
      here = way.here ∙ same_at p q m.state.turn (subst (Agree p q) (sym there) agree);
      texts = subst (λ k. KeepsTexts q k m) (sym most) (texts_agree p q n m agree (subst (λ k. KeepsTexts p k m) most way.texts));
    }

-- so a branch is of each run with the other script
pub branch_of_other : (p q : Past) (base : BaseSetup) (some other : ScriptData) (r : KeptRun) (b : Branch) (n from : ℕ) → IsKeptOfSize p base some r → q.script ≡ other → p.setup ≡ q.setup
    → SameEventsBefore from some other → n ≤ from → b.machine.state.turn ≡ n → BranchesOff n base some other r b → IsBranchOf q b
branch_of_other p q base some other r b n from is script setup events le there off = record {
  script = script ∙ sym off.0;
  known = n;
  way = way_of_other p q n b.machine (agree_before p q some other n from is.same script setup events le) there (off.1 p is);
}

-- what follows from what a success says
pub if_ok_weaker : {T E : Type 0} (P Q : T → Type 0) (r : Result T E) → ((value : T) → P value → Q value) → IfOk r P → IfOk r Q
if_ok_weaker P Q (Ok value) gives is = gives value is
if_ok_weaker P Q (Err refused) gives is = tt
