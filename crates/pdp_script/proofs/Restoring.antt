-- What a script had of a number gives it back.
use Rattle.std.proofs.Common.{◌≡◌, ℕ, zero, suc, ◌+◌, true, false, cond, eqb, ltb, Some, None, Ok, Err, List, [], ◌∷◌, refl, sym, ◌∙◌, ap, arith, ⊎_elim, Option, Result, Bool}
use Rattle.std.proofs.lemmas.Bool.{ne_eqb, eq-eqb, eqb-true, cond_both, cases_Bool}
use Rattle.std.specs.List.{All, insert}
use Rattle.pdp_unibus.specs.declared.event.Event.{Event}
use Rattle.pdp_script.specs.Entries.{entry_of, inserted_entries, without, changed_in_place, altered_entries}
use Rattle.pdp_script.specs.declared.entry.Entry.{Entry}
use Rattle.pdp_script.specs.declared.faults.Fault.{Fault}
use Rattle.pdp_script.specs.declared.faults.Fault.TheVariants.{TurnTooLarge, ScriptFull}
use Rattle.pdp_script.specs.declared.script.EventBefore.{EventBefore}
use Rattle.pdp_script.specs.declared.script.ScriptEdit.{ScriptEdit}
use Rattle.pdp_script.specs.declared.script.ScriptEdit.TheVariants.{Insert, Alter, Drop}
use Rattle.pdp_script.specs.EditLaws.{AreNumberedApart}
use Rattle.pdp_script.specs.Script.{ScriptData, IsScript, script_edited, with_event, of_entry}
use Rattle.pdp_script.specs.Restore.{one_place_on, placed_entry, put_back, event_before, script_restored, number_edited, HasNumber}
use Rattle.pdp_script.proofs.Others.{none_after, apart_after}

-- a member put one place further on
put_one_on : {X : Type 0} (was : Option (ℕ × X)) (x : X) (xs ys : List X) → put_back was xs ≡ ys → put_back (one_place_on was) (x ∷ xs) ≡ x ∷ ys
put_one_on None x xs ys same = ap (λ l. x ∷ l) same
put_one_on (Some p) x xs ys same = let next : p.0 + 1 ≡ suc p.0 = omega arith in rw next (ap (λ l. x ∷ l) same)

-- what a list has of a number gives it back
put_without : (es : List Entry) (n : ℕ) → put_back (placed_entry es n) (without es n) ≡ es
put_without [] n = refl
put_without (e ∷ es) n =
    ⊎_elim (λ (yes : eqb e.number n ≡ true). rw yes refl)
    (λ (no : eqb e.number n ≡ false). rw no (put_one_on (placed_entry es n) e (without es n) es (put_without es n)))
    (cases_Bool (eqb e.number n))

abbrev pub None_has : List Entry → ℕ → Type 0
None_has es n = All (λ e. e.number ≡ n → ⊥) es

rest_none : (e : Entry) (es : List Entry) (n : ℕ) → None_has (e ∷ es) n → None_has es n
rest_none e es n none k d lt = none (suc k) d (omega arith)

without-none : (es : List Entry) (n : ℕ) → None_has es n → without es n ≡ es
without-none [] n none = refl
without-none (e ∷ es) n none =
    let other = ne_eqb e.number n (none 0 e (omega arith)) in rw other (ap (λ (l : List Entry). e ∷ l) (without-none es n (rest_none e es n none)))

-- a new entry goes again
without-inserted : (es : List Entry) (entry : Entry) → None_has es entry.number → without (inserted_entries es entry) entry.number ≡ es
without-inserted [] entry none = let here = eq-eqb entry.number entry.number refl in rw here refl
without-inserted (e ∷ es) entry none =
    let here = eq-eqb entry.number entry.number refl in
    let other = ne_eqb e.number entry.number (none 0 e (omega arith)) in
    cond_both (ltb entry.turn e.turn) (entry ∷ e ∷ es) (e ∷ inserted_entries es entry) (λ l. without l entry.number ≡ e ∷ es)
    (λ _. rw here refl)
    (λ _. rw other (ap (λ (l : List Entry). e ∷ l) (without-inserted es entry (rest_none e es entry.number none))))

without-changed : (es : List Entry) (entry : Entry) → without (changed_in_place es entry) entry.number ≡ without es entry.number
without-changed [] entry = refl
without-changed (e ∷ es) entry =
    let here = eq-eqb entry.number entry.number refl in
    ⊎_elim (λ (yes : eqb e.number entry.number ≡ true). rw (yes, here) refl)
    (λ (no : eqb e.number entry.number ≡ false). rw (no, no) (ap (λ (l : List Entry). e ∷ l) (without-changed es entry)))
    (cases_Bool (eqb e.number entry.number))

none_cons : (e : Entry) (es : List Entry) (n : ℕ) → (e.number ≡ n → ⊥) → None_has es n → None_has (e ∷ es) n
none_cons e es n other none zero d lt = other
none_cons e es n other none (suc k) d lt = none k d (omega arith)

none_nil : (n : ℕ) → None_has [] n
none_nil n k d lt = absurd (omega arith)

-- no entry has a number that was taken out
none_without : (es : List Entry) (n : ℕ) → AreNumberedApart es → None_has (without es n) n
none_without [] n apart = none_nil n
none_without (e ∷ es) n apart =
    cond_both (eqb e.number n) es (e ∷ without es n) (λ l. None_has l n)
    (λ yes. none_after e es n apart yes)
    (λ no. none_cons e (without es n) n (λ same. absurd (let yes = eq-eqb e.number n same in cc)) (none_without es n (apart_after e es apart)))

without-altered : (es : List Entry) (old entry : Entry) → AreNumberedApart es → without (altered_entries es old entry) entry.number ≡ without es entry.number
without-altered es old entry apart =
    cond_both (eqb old.turn entry.turn) (changed_in_place es entry) (inserted_entries (without es entry.number) entry) (λ l. without l entry.number ≡ without es entry.number)
    (λ _. without-changed es entry)
    (λ _. without-inserted (without es entry.number) entry (none_without es entry.number apart))

fresh : (s : ScriptData) → IsScript s → None_has s.entries (s.given + 1)
fresh s is k d lt same = absurd (omega (arith, (is.numbered k d lt).1))

-- an edit leaves what isn't of its number
abbrev pub SameWithout : ℕ → ScriptData → ScriptData → Type 0
SameWithout n s s' = without s'.entries n ≡ without s.entries n

of_entry-same : (found : Option Entry) (edited : Entry → List Entry) (n : ℕ) (s s' : ScriptData) → ((old : Entry) → without (edited old) n ≡ without s.entries n)
    → of_entry found edited s ≡ Ok s' → SameWithout n s s'
of_entry-same None edited n s s' same is = absurd cc
of_entry-same (Some old) edited n s s' same is =
    let whole : record s { entries = edited old } ≡ s' = cc in
    sym (ap (λ (t : ScriptData). without t.entries n) whole) ∙ same old

with_event-same : (turn : ℕ) (event : Event) (s : ScriptData) → IsScript s → SameWithout (s.given + 1) s (with_event turn event s)
with_event-same turn event s is =
    without-inserted s.entries (record { number = s.given + 1; turn = turn; event = event }) (fresh s is)
    ∙ sym (without-none s.entries (s.given + 1) (fresh s is))

chosen : {X : Type 0} (test : Bool) (fault : Fault) (due : Result X Fault) (x : X) → cond test (Err fault) due ≡ Ok x → due ≡ Ok x
chosen true fault due x is = absurd cc
chosen false fault due x is = is

pub same_without : (edit : ScriptEdit) (s s' : ScriptData) → IsScript s → script_edited edit s ≡ Ok s' → SameWithout (number_edited edit s) s s'
same_without (Insert turn event) s s' is edited =
    let once = chosen _ TurnTooLarge _ s' edited in
    let due : Ok (with_event turn event s) ≡ Ok s' = chosen _ ScriptFull _ s' once in
    let whole : with_event turn event s ≡ s' = cc in
    sym (ap (λ (t : ScriptData). without t.entries (s.given + 1)) whole) ∙ with_event-same turn event s is
same_without (Alter number turn event) s s' is edited =
    of_entry-same (entry_of s.entries number) _ number s s' (λ old. without-altered s.entries old (record { number = number; turn = turn; event = event }) is.distinct)
    (chosen _ TurnTooLarge _ s' edited)
same_without (Drop number) s s' is edited =
    of_entry-same (entry_of s.entries number) _ number s s' (λ _. without-none (without s.entries number) number (none_without s.entries number is.distinct)) edited

script_is : (s : ScriptData) (entries : List Entry) → entries ≡ s.entries → record { entries = entries; given = s.given } ≡ s
script_is s entries same = ap (λ (l : List Entry). record s { entries = l }) same

restored-is : (n : ℕ) (s t : ScriptData) → without t.entries n ≡ without s.entries n → script_restored (event_before n s) t ≡ s
restored-is n s t same =
    script_is s _ (ap (λ (l : List Entry). put_back (placed_entry s.entries n) l) same ∙ put_without s.entries n)

pub taken_back : (edit : ScriptEdit) (s s' : ScriptData) → IsScript s → script_edited edit s ≡ Ok s'
    → script_restored (event_before (number_edited edit s) s) s' ≡ s
taken_back edit s s' is edited = restored-is (number_edited edit s) s s' (same_without edit s s' is edited)

pub made_again : (edit : ScriptEdit) (s s' : ScriptData) → IsScript s → script_edited edit s ≡ Ok s'
    → script_restored (event_before (number_edited edit s) s') s ≡ s'
made_again edit s s' is edited = restored-is (number_edited edit s) s' s (sym (same_without edit s s' is edited))

without-put : (es : List Entry) (i : ℕ) (x : Entry) (n : ℕ) → x.number ≡ n → None_has es n → without (insert es i x) n ≡ es
without-put es zero x n is none = let here = eq-eqb x.number n is in rw here refl
without-put [] (suc i) x n is none = let here = eq-eqb x.number n is in rw here refl
without-put (e ∷ es) (suc i) x n is none =
    let other = ne_eqb e.number n (none 0 e (omega arith)) in
    rw other (ap (λ (l : List Entry). e ∷ l) (without-put es i x n is (rest_none e es n none)))

without-put_back : (was : Option (ℕ × Entry)) (es : List Entry) (n : ℕ) → HasNumber n was → None_has es n → without (put_back was es) n ≡ es
without-put_back None es n is none = without-none es n none
without-put_back (Some p) es n is none = without-put es p.0 p.1 n is none

pub undone : (before : EventBefore) (s : ScriptData) → IsScript s → HasNumber before.number before.was
    → script_restored (event_before before.number s) (script_restored before s) ≡ s
undone before s is has =
    restored-is before.number s (script_restored before s)
    (without-put_back before.was (without s.entries before.number) before.number has (none_without s.entries before.number is.distinct))

-- what a script has of a number has that number
one_on_has : (n : ℕ) (was : Option (ℕ × Entry)) → HasNumber n was → HasNumber n (one_place_on was)
one_on_has n None has = has
one_on_has n (Some p) has = has

pub placed_has : (es : List Entry) (n : ℕ) → HasNumber n (placed_entry es n)
placed_has [] n = tt
placed_has (e ∷ es) n =
    ⊎_elim (λ (yes : eqb e.number n ≡ true). rw yes (eqb-true e.number n yes))
    (λ (no : eqb e.number n ≡ false). rw no (one_on_has n (placed_entry es n) (placed_has es n)))
    (cases_Bool (eqb e.number n))

-- no entry has the next number
missing : (es : List Entry) (n : ℕ) → None_has es n → placed_entry es n ≡ None
missing [] n none = refl
missing (e ∷ es) n none =
    let other = ne_eqb e.number n (none 0 e (omega arith)) in
    let rest = missing es n (rest_none e es n none) in rw (other, rest) refl

pub next_is_missing : (s : ScriptData) → IsScript s → placed_entry s.entries (s.given + 1) ≡ None
next_is_missing s is = missing s.entries (s.given + 1) (fresh s is)
