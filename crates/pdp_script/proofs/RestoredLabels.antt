-- Labels and events of a script that gets back what it had of a number.
use Rattle.std.proofs.Common.{◌≡◌, ℕ, zero, suc, ◌+◌, ◌<◌, ◌≤◌, min, Some, None, List, [], ◌∷◌, length, get_or, refl, sym, ◌∙◌, ap, arith, ⊎_elim, Option, subst}
use Rattle.std.proofs.lemmas.Bool.{ne_eqb, eq-eqb, cases_lt}
use Rattle.std.proofs.lemmas.List.{take_all, drop_all}
use Rattle.std.proofs.Math.Nat.{min-eq_left, min-eq_right}
use Rattle.std.specs.List.{All, AllWithin, HoldsAt, insert}
use Rattle.pdp_unibus.specs.declared.event.Event.{Event}
use Rattle.pdp_unibus.specs.declared.event.Event.TheVariants.{Tick}
use Rattle.pdp_script.specs.Entries.{without}
use Rattle.pdp_script.specs.declared.entry.Entry.{Entry}
use Rattle.pdp_script.specs.declared.labels.Label.{Label}
use Rattle.pdp_script.specs.Labels.{entry_at, labelled_entries, IsKept}
use Rattle.pdp_script.specs.Script.{ScriptData, IsScript}
use Rattle.pdp_script.specs.Restore.{one_place_on, placed_entry, put_back, script_restored}
use Rattle.pdp_script.specs.declared.script.EventBefore.{EventBefore}
use Rattle.pdp_script.proofs.Labelled.{length-labelled}

pub without-no_label : (ss : List Label) (es : List Event) (n : ℕ) → All (λ x. x.number ≡ n → ⊥) ss
    → labelled_entries ss es ≡ without (labelled_entries ss es) n
without-no_label [] es n none = refl
without-no_label (x ∷ ss) [] n none = refl
without-no_label (x ∷ ss) (w ∷ es) n none =
    let other = ne_eqb x.number n (none 0 x (omega arith)) in
    rw other (ap (λ (l : List Entry). entry_at x w ∷ l) (without-no_label ss es n (λ k d a. none (suc k) d (omega arith))))

pub no_place-labelled : (ss : List Label) (es : List Event) (n : ℕ) → All (λ x. x.number ≡ n → ⊥) ss → None ≡ placed_entry (labelled_entries ss es) n
no_place-labelled [] es n none = refl
no_place-labelled (x ∷ ss) [] n none = refl
no_place-labelled (x ∷ ss) (w ∷ es) n none =
    let other = ne_eqb x.number n (none 0 x (omega arith)) in
    rw other (ap one_place_on (no_place-labelled ss es n (λ k d a. none (suc k) d (omega arith))))

one_on_at : (i : ℕ) (e : Entry) (found : Option (ℕ × Entry)) → Some (i, e) ≡ found → Some (suc i, e) ≡ one_place_on found
one_on_at i e found is = let next : suc i ≡ i + 1 = omega arith in rw next (ap one_place_on is)

pub place-labelled : (ss : List Label) (es : List Event) (i n : ℕ) (s : Label) (v : Event) → length ss ≡ length es → i < length ss
    → AllWithin (λ x. x.number ≡ n → ⊥) ss 0 i → HoldsAt (λ x. x.number ≡ n) ss i
    → Some (i, entry_at (get_or ss i s) (get_or es i v)) ≡ placed_entry (labelled_entries ss es) n
place-labelled [] es i n s v e lt below at = absurd (omega arith)
place-labelled (x ∷ ss) [] i n s v e lt below at = absurd (omega arith)
place-labelled (x ∷ ss) (w ∷ es) zero n s v e lt below at =
    let here = eq-eqb x.number n (at x) in rw here refl
place-labelled (x ∷ ss) (w ∷ es) (suc i) n s v e lt below at =
    let other = ne_eqb x.number n (below 0 x (omega arith) (omega arith)) in
    rw other (one_on_at i _ _ (place-labelled ss es i n s v (omega arith) (omega arith) (λ k d a b. below (suc k) d (omega arith) (omega arith)) (λ d. at d)))

put-labelled : (ss : List Label) (es : List Event) (i : ℕ) (s : Label) (v : Event) → length ss ≡ length es → i ≤ length ss
    → labelled_entries (insert ss i s) (insert es i v) ≡ insert (labelled_entries ss es) i (entry_at s v)
put-labelled [] [] zero s v e le = refl
put-labelled [] [] (suc i) s v e le = absurd (omega arith)
put-labelled [] (w ∷ es) i s v e le = absurd (omega arith)
put-labelled (x ∷ ss) [] i s v e le = absurd (omega arith)
put-labelled (x ∷ ss) (w ∷ es) zero s v e le = refl
put-labelled (x ∷ ss) (w ∷ es) (suc i) s v e le = ap (λ (l : List Entry). entry_at x w ∷ l) (put-labelled ss es i s v (omega arith) (omega arith))

insert_end : (xs : List Entry) (i : ℕ) (x : Entry) → length xs ≤ i → insert xs (length xs) x ≡ insert xs i x
insert_end xs i x le =
    rw (take_all (length xs) xs (omega arith), take_all i xs le, drop_all (length xs) xs (omega arith), drop_all i xs le) refl

pub put_in-labelled : (ss : List Label) (es : List Event) (i : ℕ) (s : Label) (v : Event) → length ss ≡ length es
    → labelled_entries (insert ss (min i (length ss)) s) (insert es (min i (length ss)) v) ≡ insert (labelled_entries ss es) i (entry_at s v)
put_in-labelled ss es i s v e =
    let long = length-labelled ss es e in
    ⊎_elim (λ (past : length ss < i). let is : min i (length ss) ≡ length ss = min-eq_right (omega arith) in
    rw is (put-labelled ss es (length ss) s v e (omega arith) ∙ (ap (λ (k : ℕ). insert (labelled_entries ss es) k (entry_at s v)) (sym long) ∙ insert_end (labelled_entries ss es) i (entry_at s v) (omega arith))))
    (λ (le : i ≤ length ss). let is : min i (length ss) ≡ i = min-eq_left le in rw is (put-labelled ss es i s v e le))
    (cases_lt (length ss) i)

number-labelled : (ss : List Label) (es : List Event) (k : ℕ) (d : Label) → length ss ≡ length es → (get_or (labelled_entries ss es) k (entry_at d Tick)).number ≡ (get_or ss k d).number
number-labelled [] es k d step = refl
number-labelled (x ∷ ss) [] k d step = absurd (omega arith)
number-labelled (x ∷ ss) (w ∷ es) zero d step = refl
number-labelled (x ∷ ss) (w ∷ es) (suc k) d step = number-labelled ss es k d (omega arith)

turn-labelled : (ss : List Label) (es : List Event) (k : ℕ) (d : Label) → length ss ≡ length es → (get_or (labelled_entries ss es) k (entry_at d Tick)).turn ≡ (get_or ss k d).turn
turn-labelled [] es k d step = refl
turn-labelled (x ∷ ss) [] k d step = absurd (omega arith)
turn-labelled (x ∷ ss) (w ∷ es) zero d step = refl
turn-labelled (x ∷ ss) (w ∷ es) (suc k) d step = turn-labelled ss es k d (omega arith)

-- labels and events of a script are kept as they ought to be
pub IsKept-script : (ss : List Label) (es : List Event) (given : ℕ) (s : ScriptData) → length ss ≡ length es
    → record { entries = labelled_entries ss es; given = given } ≡ s → IsScript s → IsKept ss es given
IsKept-script ss es given s step same is_script =
    let is : IsScript (record { entries = labelled_entries ss es; given = given }) = subst IsScript (sym same) is_script in
    let long = length-labelled ss es step in
    record {
      in_step = step;
      ordered = λ i j d le lt. let at = is.ordered i j (entry_at d Tick) le (omega arith) in omega (arith, at, turn-labelled ss es i d step, turn-labelled ss es j d step);
      few = omega (arith, is.few);
      in_range = λ k d lt. let at = is.in_range k (entry_at d Tick) (omega arith) in omega (arith, at, turn-labelled ss es k d step);
      numbered = λ k d lt. let at = is.numbered k (entry_at d Tick) (omega arith) in let n = number-labelled ss es k d step in (omega (arith, at.0, n), omega (arith, at.1, n));
      distinct = λ i j d le lt e. is.distinct i j (entry_at d Tick) le (omega arith) (number-labelled ss es i d step ∙ (e ∙ sym (number-labelled ss es j d step)));
    }

pub put_there : (ss : List Label) (es : List Event) (i : ℕ) (e : Entry) (was : Option (ℕ × Entry)) (ss' : List Label) (es' : List Event) (place : ℕ)
    → length ss ≡ length es → was ≡ Some (i, e) → place ≡ min i (length ss)
    → ss' ≡ insert ss place (record { number = e.number; turn = e.turn }) → es' ≡ insert es place e.event
    → labelled_entries ss' es' ≡ put_back was (labelled_entries ss es)
put_there ss es i e was ss' es' place step is at labels events =
    rw (labels, events, at, is) (put_in-labelled ss es i (record { number = e.number; turn = e.turn }) e.event step)

-- labels and events after an entry was taken out and one was put in
pub IsKept-restored : (before : EventBefore) (ss ss' : List Label) (es es' : List Event) (s : ScriptData)
    → s.entries ≡ labelled_entries ss es
    → (mid : List Entry) → mid ≡ without (labelled_entries ss es) before.number → labelled_entries ss' es' ≡ put_back before.was mid
    → length ss' ≡ length es' → IsScript (script_restored before s) → IsKept ss' es' before.given
IsKept-restored before ss ss' es es' s is mid taken put step script =
    IsKept-script ss' es' before.given (script_restored before s) step
    (ap (λ (l : List Entry). record { entries = l; given = before.given })
    (put ∙ ap (put_back before.was) (taken ∙ ap (λ (l : List Entry). without l before.number) (sym is)))) script
