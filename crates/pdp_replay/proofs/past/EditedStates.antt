-- An edit of the script leaves the events before the turn that it reaches back to, and so what is
-- kept up to there.
use Rattle.std.proofs.Common.{◌≡◌, ℕ, ◌<◌, ◌||◌, Bool, true, false, cond, eqb, Option, Some, None, Ok, Err, Result, arith, length, max, min, nat_le, nat_lt, refl, subst, sym}
use Rattle.std.specs.List.{All}
use Rattle.std.specs.Option.{option_map}
use Rattle.std.specs.Prelude.{unwrap_or}
use Rattle.pdp_checkpoint.specs.Ladder.{LadderData}
use Rattle.pdp_cpu.specs.Handbook.MachineState.{MachineWithTexts}
use Rattle.pdp_script.specs.Entries.{altered_entries, entry_of, events_at, without}
use Rattle.pdp_script.specs.declared.entry.Entry.{Entry}
use Rattle.pdp_script.specs.Refusal.{edit_answer, past_left}
use Rattle.pdp_script.specs.Script.{ScriptData, alter_edit, drop_edit, insert_edit, most_events, most_numbers, of_entry, with_event}
use Rattle.pdp_script.specs.declared.faults.Fault.{Fault}
use Rattle.pdp_script.specs.declared.faults.Fault.TheVariants.{ScriptFull, TurnTooLarge}
use Rattle.pdp_script.proofs.Events.{events_at-altered, events_at-dropped, events_at-inserted}
use Rattle.pdp_unibus.specs.Handbook.LastTurn.{last_turn}
use Rattle.pdp_unibus.specs.declared.event.Event.{Event}
use Rattle.pdp_replay.specs.Run.Checkpoints.{AreKept, IsBuiltFrom, IsFormerOf}
use Rattle.pdp_replay.specs.Past.{Past}
use Rattle.pdp_replay.proofs.run.Agreeing.{Agree}
use Rattle.pdp_replay.proofs.run.Checkpoints.{states_agree}
use Rattle.pdp_replay.proofs.run.Lowered.{texts_agree}

-- the script has the same events as another in each of these turns; so in each before this one, and
-- in each after this one
abbrev pub SameIn : (ℕ → Type 0) → ScriptData → ScriptData → Type 0
SameIn Q s now = (t : ℕ) → Q t → events_at s.entries t ≡ events_at now.entries t

abbrev pub SameBefore : ℕ → ScriptData → ScriptData → Type 0
SameBefore n = SameIn (λ t. t < n)

abbrev pub SameAfter : ℕ → ScriptData → ScriptData → Type 0
SameAfter n = SameIn (λ t. n < t)

-- this turn is none of these
abbrev IsOut : (ℕ → Type 0) → ℕ → Type 0
IsOut Q turn = (t : ℕ) → Q t → turn ≡ t → ⊥

inserted_if : (Q : ℕ → Type 0) (late full refused : Bool) (s edited : ScriptData) → SameIn Q s edited
    → SameIn Q s (past_left (cond late (Err TurnTooLarge) (cond full (Err ScriptFull) (Ok edited))) refused s)
inserted_if Q true full refused s edited same = λ t one. refl
inserted_if Q false true refused s edited same = λ t one. refl
inserted_if Q false false true s edited same = λ t one. refl
inserted_if Q false false false s edited same = same

same_in_insertion : (Q : ℕ → Type 0) (turn : ℕ) (event : Event) (refused : Bool) (s : ScriptData) → IsOut Q turn
    → SameIn Q s (past_left (insert_edit turn event s) refused s)
same_in_insertion Q turn event refused s out =
    inserted_if Q (nat_lt last_turn turn) (nat_le most_events (length s.entries) || eqb s.given most_numbers) refused s (with_event turn event s)
    (λ t one. sym (events_at-inserted s.entries _ t (out t one)))

pub same_before_insertion : (turn : ℕ) (event : Event) (refused : Bool) (s : ScriptData)
    → SameBefore turn s (past_left (insert_edit turn event s) refused s)
same_before_insertion turn event refused s = same_in_insertion (λ t. t < turn) turn event refused s (λ t below is. omega (arith, below, is))

pub same_after_insertion : (turn : ℕ) (event : Event) (refused : Bool) (s : ScriptData)
    → SameAfter turn s (past_left (insert_edit turn event s) refused s)
same_after_insertion turn event refused s = same_in_insertion (λ t. turn < t) turn event refused s (λ t above is. omega (arith, above, is))

-- the turn of an entry that was found, else this one
abbrev pub turn_or : ℕ → Option Entry → ℕ
turn_or turn found = unwrap_or (option_map (λ e. e.turn) found) turn

altered_if : (Q : ℕ → Type 0) (late : Bool) (found : Option Entry) (number turn : ℕ) (event : Event) (s : ScriptData) → entry_of s.entries number ≡ found
    → IsOut Q (turn_or turn found) → IsOut Q turn
    → SameIn Q s
    (past_left (cond late (Err TurnTooLarge) (of_entry found (λ old. altered_entries s.entries old (record { number = number; turn = turn; event = event })) s)) false s)
altered_if Q true found number turn event s is from to = λ t one. refl
altered_if Q false None number turn event s is from to = λ t one. refl
altered_if Q false (Some old) number turn event s is from to = λ t one.
    sym (events_at-altered s.entries (record { number = number; turn = turn; event = event }) old t is (from t one) (to t one))

pub same_before_alteration : (number turn : ℕ) (event : Event) (s : ScriptData)
    → SameBefore (min (turn_or turn (entry_of s.entries number)) turn) s (past_left (alter_edit number turn event s) false s)
same_before_alteration number turn event s =
    altered_if (λ t. t < min (turn_or turn (entry_of s.entries number)) turn) (nat_lt last_turn turn) (entry_of s.entries number) number turn event s refl
    (λ t below is. omega (arith, below, is)) (λ t below is. omega (arith, below, is))

pub same_after_alteration : (number turn : ℕ) (event : Event) (s : ScriptData)
    → SameAfter (max (turn_or turn (entry_of s.entries number)) turn) s (past_left (alter_edit number turn event s) false s)
same_after_alteration number turn event s =
    altered_if (λ t. max (turn_or turn (entry_of s.entries number)) turn < t) (nat_lt last_turn turn) (entry_of s.entries number) number turn event s refl
    (λ t above is. omega (arith, above, is)) (λ t above is. omega (arith, above, is))

dropped_if : (Q : ℕ → Type 0) (found : Option Entry) (number : ℕ) (s : ScriptData) → entry_of s.entries number ≡ found → IsOut Q (turn_or 0 found)
    → SameIn Q s (past_left (of_entry found (λ _. without s.entries number) s) false s)
dropped_if Q None number s is out = λ t one. refl
dropped_if Q (Some old) number s is out = λ t one. sym (events_at-dropped s.entries number old t is (out t one))

pub same_before_drop : (number : ℕ) (s : ScriptData) → SameBefore (turn_or 0 (entry_of s.entries number)) s (past_left (drop_edit number s) false s)
same_before_drop number s =
    dropped_if (λ t. t < turn_or 0 (entry_of s.entries number)) (entry_of s.entries number) number s refl (λ t below is. omega (arith, below, is))

pub same_after_drop : (number : ℕ) (s : ScriptData) → SameAfter (turn_or 0 (entry_of s.entries number)) s (past_left (drop_edit number s) false s)
same_after_drop number s =
    dropped_if (λ t. turn_or 0 (entry_of s.entries number) < t) (entry_of s.entries number) number s refl (λ t above is. omega (arith, above, is))

-- what is kept is that of each past that agrees with this one up to the known turn
pub kept_agree : (p q : Past) (known : ℕ) (m : MachineWithTexts) (l : LadderData) → Agree p q known → All (IsFormerOf q) l.formers → AreKept p known m l → AreKept q known m l
kept_agree p q known m l agree formers kept = record {
  states = states_agree p q known l agree formers kept.states;
  texts = texts_agree p q known m agree kept.texts;
  built = subst (λ s. IsBuiltFrom s m) agree.setup kept.built;
}

-- a refused edit leaves the script
pub refused_left : (due : Result ScriptData Fault) (old : ScriptData) (result : Result (Unit {0}) Fault) (fault : Fault) → result ≡ edit_answer due false tt
    → result ≡ Err fault → past_left due false old ≡ old
refused_left (Err other) old result fault answer is = refl
refused_left (Ok new) old result fault answer is = absurd (cc (answer, is))
