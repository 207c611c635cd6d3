-- How an edit of a script is taken back. An edit concerns the entry of one number, and how many
-- numbers were given: what the script had of both before gives it back, exactly [P].
use Rattle.std.specs.Prelude.{ℕ, ◌≡◌, ◌+◌, cond, eqb, Option, Some, None, List, [], ◌∷◌}
use Rattle.std.specs.Prelude.{Ok, insert}
use Rattle.std.specs.Option.{option_map}
use Rattle.pdp_script.specs.declared.entry.Entry.{Entry}
use Rattle.pdp_script.specs.declared.script.EventBefore.{EventBefore}
use Rattle.pdp_script.specs.declared.script.ScriptEdit.{ScriptEdit}
use Rattle.pdp_script.specs.declared.script.ScriptEdit.TheVariants.{Insert, Alter, Drop}
use Rattle.pdp_script.specs.Entries.{entry_of, events_at, without}
use Rattle.pdp_script.specs.Script.{ScriptData, IsScript, script_edited}

-- one place further on
abbrev pub one_place_on : {X : Type 0} → Option (ℕ × X) → Option (ℕ × X)
one_place_on None = None
one_place_on (Some p) = Some (p.0 + 1, p.1)

-- the place of the first entry of this number, with the entry
abbrev pub placed_entry : List Entry → ℕ → Option (ℕ × Entry)
placed_entry [] number = None
placed_entry (e ∷ es) number = cond (eqb e.number number) (Some (0, e))
    (one_place_on (placed_entry es number))

-- a list with this member put at its place again, if there was one
abbrev pub put_back : {X : Type 0} → Option (ℕ × X) → List X → List X
put_back None xs = xs
put_back (Some p) xs = insert xs p.0 p.1

-- what a script has of a number
abbrev pub event_before : ℕ → ScriptData → EventBefore
event_before number script = record {
  number = number;
  was = placed_entry script.entries number;
  given = script.given;
}

-- the turn of the event that a script had of a number
abbrev pub turn_before : EventBefore → Option ℕ
turn_before before = option_map (λ p. p.1.turn) before.was

-- the script with what it had of this number
abbrev pub script_restored : EventBefore → ScriptData → ScriptData
script_restored before script = record {
  entries = put_back before.was (without script.entries before.number);
  given = before.given;
}

-- the number that an edit concerns: a new event's, or that of the event that it names
abbrev pub number_edited : ScriptEdit → ScriptData → ℕ
number_edited (Insert turn event) script = script.given + 1
number_edited (Alter number turn event) script = number
number_edited (Drop number) script = number

-- what the script had of its number takes an edit back: entries, places, numbers, and the next
-- number
abbrev pub EditsAreTakenBack : Type 0
EditsAreTakenBack =
    (edit : ScriptEdit) (script edited : ScriptData) → IsScript script
    → script_edited edit script ≡ Ok edited
    → script_restored (event_before (number_edited edit script) script) edited ≡ script

-- and what it has of it afterwards makes it again
abbrev pub EditsAreMadeAgain : Type 0
EditsAreMadeAgain =
    (edit : ScriptEdit) (script edited : ScriptData) → IsScript script
    → script_edited edit script ≡ Ok edited
    → script_restored (event_before (number_edited edit script) edited) script ≡ edited

-- the entry that is to be put back has this number
abbrev pub HasNumber : ℕ → Option (ℕ × Entry) → Type 0
HasNumber number None = Unit {0}
HasNumber number (Some p) = p.1.number ≡ number

-- a script that got back what it had of a number gets the other back in turn
abbrev pub RestoringIsUndone : Type 0
RestoringIsUndone =
    (before : EventBefore) (script : ScriptData) → IsScript script → HasNumber before.number
    before.was
    → script_restored (event_before before.number script) (script_restored before script) ≡ script

-- the entry that is to be put back, if there is one, is of another turn
abbrev pub IsOfOtherTurn : ℕ → Option (ℕ × Entry) → Type 0
IsOfOtherTurn turn None = Unit {0}
IsOfOtherTurn turn (Some p) = p.1.turn ≡ turn → ⊥

-- it leaves the events of every turn but those of the entry that is put back and of the one that is
-- taken out
abbrev pub RestoringLeavesOtherTurns : Type 0
RestoringLeavesOtherTurns =
    (before : EventBefore) (script : ScriptData) (turn : ℕ) → IsOfOtherTurn turn before.was
    → ((old : Entry) → entry_of script.entries before.number ≡ Some old → old.turn ≡ turn → ⊥)
    → events_at (script_restored before script).entries turn ≡ events_at script.entries turn
