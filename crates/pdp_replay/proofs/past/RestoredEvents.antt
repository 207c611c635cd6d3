-- A script that gets back what it had of an event keeps the events of each turn but those of this
-- event.
use Rattle.std.proofs.Common.{◌≡◌, ◌∙◌, ℕ, Option, None, Some, Result, Ok, Err, ap, arith, cond, max, min, refl, sym}
use Rattle.std.specs.Option.{option_map}
use Rattle.std.specs.Prelude.{is_err, unwrap_or}
use Rattle.pdp_script.specs.Entries.{entry_of}
use Rattle.pdp_script.specs.Restore.{IsOfOtherTurn, script_restored, turn_before}
use Rattle.pdp_script.specs.Script.{ScriptData}
use Rattle.pdp_script.specs.declared.entry.Entry.{Entry}
use Rattle.pdp_script.specs.declared.script.EventBefore.{EventBefore}
use Rattle.pdp_script.proofs.RestoredTurns.{restored_turns}
use Rattle.pdp_replay.proofs.past.EditedStates.{SameAfter, SameBefore, turn_or}

other_was : (was : Option (ℕ × Entry)) (default t : ℕ) → (unwrap_or (option_map (λ p. p.1.turn) was) default ≡ t → ⊥) → IsOfOtherTurn t was
other_was None default t other = tt
other_was (Some p) default t other = other

other_now : (found : Option Entry) (default t : ℕ) → (turn_or default found ≡ t → ⊥) → (now : Entry) → found ≡ Some now → now.turn ≡ t → ⊥
other_now None default t other now is same = absurd cc
other_now (Some e) default t other now is same = other (let there : e ≡ now = cc in ap (λ (x : Entry). x.turn) there ∙ same)

-- the turns of the event as it is and as it was, or this turn if there is none
abbrev pub turn_now : ℕ → EventBefore → ScriptData → ℕ
turn_now default before s = turn_or default (entry_of s.entries before.number)

abbrev pub turn_then : ℕ → EventBefore → ℕ
turn_then default before = unwrap_or (turn_before before) default

pub same_before_restored : (before : EventBefore) (s : ScriptData) (low : ℕ) → SameBefore (min (turn_now low before s) (turn_then low before)) s (script_restored before s)
same_before_restored before s low t below =
    sym (restored_turns before s t (other_was before.was low t (λ is. omega (arith, below, is)))
    (other_now (entry_of s.entries before.number) low t (λ is. omega (arith, below, is))))

pub same_after_restored : (before : EventBefore) (s : ScriptData) (high : ℕ) → SameAfter (max (turn_now high before s) (turn_then high before)) s (script_restored before s)
same_after_restored before s high t above =
    sym (restored_turns before s t (other_was before.was high t (λ is. omega (arith, above, is)))
    (other_now (entry_of s.entries before.number) high t (λ is. omega (arith, above, is))))

-- what is left if memory was refused, and if it wasn't
pub left_if_refused : {X E Y : Type 0} (result : Result X E) (e : E) (old new : Y) → result ≡ Err e → cond (is_err result) old new ≡ old
left_if_refused (Ok x) e old new is = absurd cc
left_if_refused (Err other) e old new is = refl

pub left_if_done : {X E Y : Type 0} (result : Result X E) (x : X) (old new : Y) → result ≡ Ok x → cond (is_err result) old new ≡ new
left_if_done (Ok other) x old new is = refl
left_if_done (Err e) x old new is = absurd cc
