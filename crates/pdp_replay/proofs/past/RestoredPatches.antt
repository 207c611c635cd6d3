-- What the patches had of a word gives it back.
use Rattle.std.proofs.Common.{◌≡◌, ℕ, zero, suc, ◌+◌, ◌<◌, true, false, cond, Some, None, [], ◌∷◌, refl, sym, ◌∙◌, ap, arith, ⊎_elim, Option, Bool, ◌++◌, length, ◌≤◌, min, slice_get, is_some, get_or}
use Rattle.std.proofs.lemmas.Bool.{cond_both, cases_Bool}
use Rattle.std.specs.List.{All, insert, remove, position_or_len, position}
use Rattle.std.specs.Option.{option_map}
use Rattle.std.specs.Prelude.{Result, Ok, Err, IsOk, IfOk}
use Rattle.std.specs.Map.{keys_of, lookup}
use Rattle.std.specs.List.{AllByRecursion, IsDistinct}
use Rattle.std.proofs.lemmas.Bool.{cases_lt}
use Rattle.std.proofs.lemmas.List.{take_all, drop_all}
use Rattle.std.proofs.Math.Nat.{min-eq_left, min-eq_right}
use Rattle.indexmap.specs.IndexMap.{insert_entry, move_index}
use Rattle.pdp_store.specs.declared.part.WordAt.{WordAt}
use Rattle.pdp_script.specs.Restore.{one_place_on}
use Rattle.pdp_replay.specs.Past.PatchedWords.{Patches, is_same_word, patch_of}
use Rattle.pdp_replay.specs.Past.Restored.{ArePatchedOnce, patch_before, patches_restored, with_patch_back}
use Rattle.pdp_replay.proofs.past.PoweredWords.{itself, same_word, taken}

abbrev removed : WordAt → Patches → Patches
removed at ps = taken ps at

put_one_on : (at : WordAt) (was : Option (ℕ × ℕ)) (p : WordAt × ℕ) (ps qs : Patches) → with_patch_back at was ps ≡ qs → with_patch_back at (one_place_on was) (p ∷ ps) ≡ p ∷ qs
put_one_on at None p ps qs same = ap (λ (l : Patches). p ∷ l) same
put_one_on at (Some w) p ps qs same = let next : w.0 + 1 ≡ suc w.0 = omega arith in rw next (ap (λ (l : Patches). p ∷ l) same)

-- what the patches have of a word gives it back
put_removed : (at : WordAt) (ps : Patches) → with_patch_back at (patch_before at ps) (removed at ps) ≡ ps
put_removed at [] = refl
put_removed at (p ∷ ps) =
    ⊎_elim (λ (yes : is_same_word at p.0 ≡ true). rw yes (ap (λ (k : WordAt). (k, p.1) ∷ ps) (same_word at p.0 yes)))
    (λ (no : is_same_word at p.0 ≡ false). rw no (put_one_on at (patch_before at ps) p (removed at ps) ps (put_removed at ps)))
    (cases_Bool (is_same_word at p.0))

removed-inserted : (at : WordAt) (word : ℕ) (ps : Patches) → removed at (insert_entry is_same_word ps at word) ≡ removed at ps
removed-inserted at word [] = let here = itself at in rw here refl
removed-inserted at word (p ∷ ps) =
    ⊎_elim (λ (yes : is_same_word at p.0 ≡ true). rw (yes, yes) refl)
    (λ (no : is_same_word at p.0 ≡ false). rw (no, no) (ap (λ (l : Patches). p ∷ l) (removed-inserted at word ps)))
    (cases_Bool (is_same_word at p.0))

none-removed : (at : WordAt) (ps : Patches) → All (λ p. at ≡ p.0 → ⊥) ps → removed at ps ≡ ps
none-removed at [] none = refl
none-removed at (p ∷ ps) none =
    ⊎_elim (λ (yes : is_same_word at p.0 ≡ true). absurd (none 0 p (omega arith) (same_word at p.0 yes)))
    (λ (no : is_same_word at p.0 ≡ false). rw no (ap (λ (l : Patches). p ∷ l) (none-removed at ps (λ k d lt. none (suc k) d (omega arith)))))
    (cases_Bool (is_same_word at p.0))

none_cons : (at : WordAt) (p : WordAt × ℕ) (ps : Patches) → (at ≡ p.0 → ⊥) → All (λ q. at ≡ q.0 → ⊥) ps → All (λ q. at ≡ q.0 → ⊥) (p ∷ ps)
none_cons at p ps other none zero d lt = other
none_cons at p ps other none (suc k) d lt = none k d (omega arith)

removed-there : (at : WordAt) (word : ℕ) (ps : Patches) (i : ℕ) → All (λ p. at ≡ p.0 → ⊥) ps → removed at (insert ps i (at, word)) ≡ ps
removed-there at word ps zero none = let here = itself at in rw here refl
removed-there at word [] (suc i) none = let here = itself at in rw here refl
removed-there at word (p ∷ ps) (suc i) none =
    ⊎_elim (λ (yes : is_same_word at p.0 ≡ true). absurd (none 0 p (omega arith) (same_word at p.0 yes)))
    (λ (no : is_same_word at p.0 ≡ false). rw no (ap (λ (l : Patches). p ∷ l) (removed-there at word ps i (λ k d lt. none (suc k) d (omega arith)))))
    (cases_Bool (is_same_word at p.0))

removed-twice : (at : WordAt) (ps : Patches) → ArePatchedOnce ps → removed at (removed at ps) ≡ removed at ps
removed-twice at [] once = refl
removed-twice at (p ∷ ps) once =
    ⊎_elim (λ (yes : is_same_word at p.0 ≡ true). rw yes (none-removed at ps (λ k d lt same. once 0 (suc k) d (omega arith) (omega arith) (sym (same_word at p.0 yes) ∙ same))))
    (λ (no : is_same_word at p.0 ≡ false). rw (no, no) (ap (λ (l : Patches). p ∷ l) (removed-twice at ps (λ i j d lt within. once (suc i) (suc j) d (omega arith) (omega arith)))))
    (cases_Bool (is_same_word at p.0))

back : (at : WordAt) (ps qs : Patches) → removed at qs ≡ removed at ps → patches_restored at (patch_before at ps) qs ≡ ps
back at ps qs same = ap (λ (l : Patches). with_patch_back at (patch_before at ps) l) same ∙ put_removed at ps

pub patch_back : (at : WordAt) (word : ℕ) (ps : Patches) → patches_restored at (patch_before at ps) (insert_entry is_same_word ps at word) ≡ ps
patch_back at word ps = back at ps (insert_entry is_same_word ps at word) (removed-inserted at word ps)

pub revert_back : (at : WordAt) (ps : Patches) → ArePatchedOnce ps → patches_restored at (patch_before at ps) (removed at ps) ≡ ps
revert_back at ps once = back at ps (removed at ps) (removed-twice at ps once)

removed-put : (at : WordAt) (was : Option (ℕ × ℕ)) (ps : Patches) → All (λ p. at ≡ p.0 → ⊥) ps → removed at (with_patch_back at was ps) ≡ ps
removed-put at None ps none = none-removed at ps none
removed-put at (Some w) ps none = removed-there at w.1 ps w.0 none

abbrev has_none : WordAt → Patches → Type 0
has_none at ps = All (λ (p : WordAt × ℕ). at ≡ p.0 → ⊥) ps

none-nil : (at : WordAt) → has_none at []
none-nil at k d lt = absurd (omega arith)

none-without : (at : WordAt) (ps : Patches) → ArePatchedOnce ps → has_none at (removed at ps)
none-without at [] once = none-nil at
none-without at (p ∷ ps) once =
    cond_both (is_same_word at p.0) ps (p ∷ removed at ps) (has_none at)
    (λ yes k d lt same. once 0 (suc k) d (omega arith) (omega arith) (sym (same_word at p.0 yes) ∙ same))
    (λ no. none_cons at p (removed at ps) (λ same. absurd (let yes = itself at in let here = ap (is_same_word at) same in cc))
    (none-without at ps (λ i j d lt within. once (suc i) (suc j) d (omega arith) (omega arith))))

pub undone : (at : WordAt) (was : Option (ℕ × ℕ)) (ps : Patches) → ArePatchedOnce ps → patches_restored at (patch_before at ps) (patches_restored at was ps) ≡ ps
undone at was ps once = back at ps (patches_restored at was ps) (removed-put at was (removed at ps) (none-without at ps once))

-- a patch that is new goes last, and is moved to its place; for any test of sameness
rest_none : (eq : WordAt → WordAt → Bool) (at : WordAt) (p : WordAt × ℕ) (ps : Patches) → eq at p.0 ≡ false → lookup (eq at) (p ∷ ps) ≡ None → lookup (eq at) ps ≡ None
rest_none eq at p ps other none = rw other at none

inserted_new : (eq : WordAt → WordAt → Bool) (at : WordAt) (word : ℕ) (ps : Patches) → lookup (eq at) ps ≡ None → insert_entry eq ps at word ≡ ps ++ (at, word) ∷ []
inserted_new eq at word [] none = refl
inserted_new eq at word (p ∷ ps) none =
    ⊎_elim (λ (here : eq at p.0 ≡ true). absurd (let some = rw here at none in cc))
    (λ (other : eq at p.0 ≡ false). rw other (ap (λ (l : Patches). p ∷ l) (inserted_new eq at word ps (rest_none eq at p ps other none))))
    (cases_Bool (eq at p.0))

place_new : (eq : WordAt → WordAt → Bool) (at : WordAt) (ps : Patches) → lookup (eq at) ps ≡ None → position_or_len (eq at) (keys_of ps) ≡ length ps
place_new eq at [] none = refl
place_new eq at (p ∷ ps) none =
    ⊎_elim (λ (here : eq at p.0 ≡ true). absurd (let some = rw here at none in cc))
    (λ (other : eq at p.0 ≡ false). let later = place_new eq at ps (rest_none eq at p ps other none) in rw other (omega (arith, later)))
    (cases_Bool (eq at p.0))

remove_last : (ps : Patches) (x : WordAt × ℕ) → remove (ps ++ x ∷ []) (length ps) ≡ ps
remove_last [] x = refl
remove_last (p ∷ ps) x = ap (λ (l : Patches). p ∷ l) (remove_last ps x)

last_there : (ps : Patches) (x : WordAt × ℕ) → slice_get (ps ++ x ∷ []) (length ps) ≡ Some x
last_there [] x = refl
last_there (p ∷ ps) x = last_there ps x

moved_last : (ps : Patches) (x : WordAt × ℕ) (i : ℕ) → move_index (ps ++ x ∷ []) (length ps) i ≡ insert ps i x
moved_last ps x i = rw (last_there ps x, remove_last ps x) refl

insert_end : (ps : Patches) (i : ℕ) (x : WordAt × ℕ) → insert ps (min i (length ps)) x ≡ insert ps i x
insert_end ps i x =
    ⊎_elim (λ (past : length ps < i). let is : min i (length ps) ≡ length ps = min-eq_right (omega arith) in
    rw (is, take_all (length ps) ps (omega arith), take_all i ps (omega arith), drop_all (length ps) ps (omega arith), drop_all i ps (omega arith)) refl)
    (λ (le : i ≤ length ps). let is : min i (length ps) ≡ i = min-eq_left le in rw is refl)
    (cases_lt (length ps) i)

pub put_there : (eq : WordAt → WordAt → Bool) (at : WordAt) (word place to : ℕ) (was : Option (ℕ × ℕ)) (ps qs : Patches)
    → qs ≡ move_index (insert_entry eq ps at word) (position_or_len (eq at) (keys_of ps)) to
    → lookup (eq at) ps ≡ None → was ≡ Some (place, word) → to ≡ min place (length ps) → qs ≡ with_patch_back at was ps
put_there eq at word place to was ps qs moved none is at_place =
    rw is (moved ∙ (rw (inserted_new eq at word ps none, place_new eq at ps none, at_place) (moved_last ps (at, word) (min place (length ps))) ∙ insert_end ps place (at, word)))

one_on_mapped : (k : ℕ) (found : Option ℕ) → one_place_on (option_map (λ (w : ℕ). (k, w)) found) ≡ option_map (λ (w : ℕ). (1 + k, w)) found
one_on_mapped k None = refl
one_on_mapped k (Some w) = let next : k + 1 ≡ 1 + k = omega arith in rw next refl

before-mapped : (at : WordAt) (ps : Patches) → patch_before at ps ≡ option_map (λ (w : ℕ). (position_or_len (is_same_word at) (keys_of ps), w)) (patch_of ps at)
before-mapped at [] = refl
before-mapped at (p ∷ ps) =
    ⊎_elim (λ (yes : is_same_word at p.0 ≡ true). rw yes refl)
    (λ (no : is_same_word at p.0 ≡ false). rw no (ap one_place_on (before-mapped at ps) ∙ one_on_mapped (position_or_len (is_same_word at) (keys_of ps)) (patch_of ps at)))
    (cases_Bool (is_same_word at p.0))

one_place : (test : Bool) (k place : ℕ) → cond test (Some k) None ≡ Some place → k ≡ place
one_place true k place is = cc
one_place false k place is = absurd cc

pub located : (at : WordAt) (ps : Patches) (place word : ℕ) → position (is_same_word at) (keys_of ps) ≡ Some place → patch_of ps at ≡ Some word
    → Some (place, word) ≡ patch_before at ps
located at ps place word index value =
    let k : position_or_len (is_same_word at) (keys_of ps) ≡ place = one_place _ _ place index in
    sym (before-mapped at ps ∙ rw (value, k) refl)

pub missing : (at : WordAt) (ps : Patches) → patch_of ps at ≡ None → None ≡ patch_before at ps
missing at ps none = sym (before-mapped at ps ∙ rw none refl)

pub none_there : (found : Option ℕ) → found ≡ None → is_some found ≡ true → ⊥
none_there None none there = absurd cc
none_there (Some w) none there = absurd cc

pub ok_gives : {X E : Type 0} (r : Result X E) (P : Type 0) → IsOk r → IfOk r (λ _. P) → P
ok_gives (Ok x) P ok gives = gives
ok_gives (Err e) P ok gives = absurd cc

-- a patch that was put in is found, if the word had none
pub found_there : (eq : WordAt → WordAt → Bool) (at : WordAt) (word i : ℕ) (ps : Patches) → eq at at ≡ true → lookup (eq at) ps ≡ None
    → lookup (eq at) (insert ps i (at, word)) ≡ Some word
found_there eq at word zero ps same none = rw same refl
found_there eq at word (suc i) [] same none = rw same refl
found_there eq at word (suc i) (p ∷ ps) same none =
    ⊎_elim (λ (here : eq at p.0 ≡ true). absurd (let some = rw here at none in cc))
    (λ (other : eq at p.0 ≡ false). rw other (found_there eq at word i ps same (rest_none eq at p ps other none)))
    (cases_Bool (eq at p.0))

-- keys that are distinct by a test by which each is itself are not equal
not_equal : (eq : WordAt → WordAt → Bool) (k : WordAt) (ps : Patches) → AllByRecursion (λ y. eq k y ≡ false) (keys_of ps) → (j : ℕ) (d : WordAt × ℕ) → j < length ps
    → eq k (get_or ps j d).0 ≡ false
not_equal eq k [] all j d lt = absurd (omega arith)
not_equal eq k (p ∷ ps) all zero d lt = all.0
not_equal eq k (p ∷ ps) all (suc j) d lt = not_equal eq k ps all.1 j d (omega arith)

pub once_of : (eq : WordAt → WordAt → Bool) → ((k : WordAt) → eq k k ≡ true) → (ps : Patches) → IsDistinct eq (keys_of ps) → ArePatchedOnce ps
unfolding IsDistinct
once_of eq self [] distinct i j d lt within same = absurd (omega arith)
once_of eq self (p ∷ ps) distinct zero zero d lt within same = absurd (omega arith)
once_of eq self (p ∷ ps) distinct zero (suc j) d lt within same =
    let other = not_equal eq p.0 ps distinct.0 j d (omega arith) in
    let here = self p.0 in
    let met = ap (eq p.0) same in absurd cc
once_of eq self (p ∷ ps) distinct (suc i) zero d lt within same = absurd (omega arith)
once_of eq self (p ∷ ps) distinct (suc i) (suc j) d lt within same = once_of eq self ps distinct.1 i j d (omega arith) (omega arith) same
