-- Which turns' events change if a script gets back what it had of a number.
use Rattle.std.proofs.Common.{◌≡◌, ℕ, zero, suc, true, false, eqb, Some, None, List, [], ◌∷◌, refl, ◌∙◌, ap, ⊎_elim, Option}
use Rattle.std.proofs.lemmas.Bool.{cases_Bool}
use Rattle.std.specs.List.{insert}
use Rattle.pdp_script.specs.Entries.{entry_of, events_at, without}
use Rattle.pdp_script.specs.declared.entry.Entry.{Entry}
use Rattle.pdp_script.specs.declared.script.EventBefore.{EventBefore}
use Rattle.pdp_script.specs.Script.{ScriptData}
use Rattle.pdp_script.specs.Restore.{put_back, script_restored, IsOfOtherTurn}
use Rattle.pdp_script.proofs.Events.{events_at-other, events_at-cons, events_at-dropped}

events_at-put : (es : List Entry) (i : ℕ) (e : Entry) (t : ℕ) → (e.turn ≡ t → ⊥) → events_at (insert es i e) t ≡ events_at es t
events_at-put es zero e t other = events_at-other e es t other
events_at-put [] (suc i) e t other = events_at-other e [] t other
events_at-put (x ∷ es) (suc i) e t other = events_at-cons x (insert es i e) es t (events_at-put es i e t other)

events_at-put_back : (was : Option (ℕ × Entry)) (es : List Entry) (t : ℕ) → IsOfOtherTurn t was → events_at (put_back was es) t ≡ events_at es t
events_at-put_back None es t other = refl
events_at-put_back (Some p) es t other = events_at-put es p.0 p.1 t other

without-missing : (es : List Entry) (n : ℕ) → entry_of es n ≡ None → without es n ≡ es
without-missing [] n none = refl
without-missing (e ∷ es) n none =
    ⊎_elim (λ (here : eqb e.number n ≡ true). absurd (let some = rw here at none in cc))
    (λ (other : eqb e.number n ≡ false). rw other (ap (λ (l : List Entry). e ∷ l) (without-missing es n (rw other at none))))
    (cases_Bool (eqb e.number n))

events_at-without : (found : Option Entry) (es : List Entry) (n t : ℕ) → entry_of es n ≡ found → ((old : Entry) → entry_of es n ≡ Some old → old.turn ≡ t → ⊥)
    → events_at (without es n) t ≡ events_at es t
events_at-without None es n t is other = ap (λ (l : List Entry). events_at l t) (without-missing es n is)
events_at-without (Some old) es n t is other = events_at-dropped es n old t is (other old is)

pub restored_turns : (before : EventBefore) (s : ScriptData) (t : ℕ) → IsOfOtherTurn t before.was
    → ((old : Entry) → entry_of s.entries before.number ≡ Some old → old.turn ≡ t → ⊥)
    → events_at (script_restored before s).entries t ≡ events_at s.entries t
restored_turns before s t other gone =
    events_at-put_back before.was (without s.entries before.number) t other
    ∙ events_at-without (entry_of s.entries before.number) s.entries before.number t refl gone
