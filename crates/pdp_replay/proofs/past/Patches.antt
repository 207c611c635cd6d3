-- What holds of every patch, also after an edit.
use Rattle.std.proofs.Common.{◌≡◌, ◌<◌, ◌≤◌, ◌*◌, ℕ, suc, zero, Bool, true, false, cond, Some, subst, [], ◌∷◌, slice_get, arith, if◌then◌else◌}
use Rattle.std.specs.List.{All, insert}
use Rattle.indexmap.specs.IndexMap.{insert_entry, shift_remove_entry}
use Rattle.std.proofs.lemmas.List.Elements.{All-cons, All-tail}
use Rattle.pdp_replay.specs.Past.FirstWords.{AllThere, IsThere, PartHasWord}
use Rattle.pdp_replay.specs.Past.PatchedWords.{Patches}
use Rattle.pdp_replay.specs.Past.Setup.{SetupData}
use Rattle.pdp_store.specs.declared.part.Part.{Part}
use Rattle.pdp_store.specs.declared.part.Part.TheVariants as parts
use Rattle.pdp_store.specs.declared.part.WordAt.{WordAt}

-- what holds of every patch
module _ (Good : WordAt × ℕ → Type 0) where
  none_good : All Good []
  none_good k d lt = absurd (omega arith)

  first_good : (p : WordAt × ℕ) (ps : Patches) → All Good (p ∷ ps) → Good p
  first_good p ps good = good 0 p (omega arith)

  rest_good : (p : WordAt × ℕ) (ps : Patches) → All Good (p ∷ ps) → All Good ps
  rest_good p ps good = All-tail Good p ps good

  both_good : (p : WordAt × ℕ) (ps : Patches) → Good p → All Good ps → All Good (p ∷ ps)
  both_good p ps here good = All-cons Good p ps here good

  entry_good : (ps : Patches) (i : ℕ) (p : WordAt × ℕ) → All Good ps → slice_get ps i ≡ Some p → Good p
  entry_good [] i p good is = absurd (cc is)
  entry_good (q ∷ ps) zero p good is = let same : q ≡ p = cc is in subst Good same (first_good q ps good)
  entry_good (q ∷ ps) (suc i) p good is = entry_good ps i p (rest_good q ps good) is

  good_when : (b : Bool) (p q : WordAt × ℕ) (ps qs : Patches) → Good p → Good q → All Good ps → All Good qs
      → All Good (if b then p ∷ ps else q ∷ qs)
  good_when true p q ps qs hp hq hps hqs = both_good p ps hp hps
  good_when false p q ps qs hp hq hps hqs = both_good q qs hq hqs

  good_taken : (taken : Bool) (p : WordAt × ℕ) (ps qs : Patches) → Good p → All Good ps → All Good qs
      → All Good (cond taken ps (p ∷ qs))
  good_taken true p ps qs here good good_qs = good
  good_taken false p ps qs here good good_qs = both_good p qs here good_qs

abbrev is_there : SetupData → WordAt × ℕ → Type 0
is_there s p = IsThere s p.0

-- a patch of a word that is there keeps all patches so
pub there_inserted : (same : WordAt → WordAt → Bool) (s : SetupData) (ps : Patches) (k : WordAt) (word : ℕ) → IsThere s k → AllThere s ps
    → AllThere s (insert_entry same ps k word)
there_inserted same s [] k word here there = both_good (is_there s) (k, word) [] here (none_good (is_there s))
there_inserted same s (p ∷ ps) k word here there =
    let first : IsThere s p.0 = first_good (is_there s) p ps there in
    let rest : AllThere s ps = rest_good (is_there s) p ps there in
    good_when (is_there s) (same k p.0) (p.0, word) p ps (insert_entry same ps k word) first first rest
    (there_inserted same s ps k word here rest)

-- so does taking a patch back
pub there_removed : (s : SetupData) (test : WordAt → Bool) (ps : Patches) → AllThere s ps → AllThere s (shift_remove_entry test ps)
there_removed s test [] there = none_good (is_there s)
there_removed s test (p ∷ ps) there =
    let rest : AllThere s ps = rest_good (is_there s) p ps there in
    good_taken (is_there s) (test p.0) p ps (shift_remove_entry test ps) (first_good (is_there s) p ps there) rest (there_removed s test ps rest)

-- and putting one in at some place
pub there_put : (s : SetupData) (ps : Patches) (i : ℕ) (k : WordAt) (word : ℕ) → IsThere s k → AllThere s ps → AllThere s (insert ps i (k, word))
there_put s ps zero k word here there = both_good (is_there s) (k, word) ps here there
there_put s [] (suc i) k word here there = both_good (is_there s) (k, word) [] here (none_good (is_there s))
there_put s (p ∷ ps) (suc i) k word here there =
    both_good (is_there s) p (insert ps i (k, word)) (first_good (is_there s) p ps there)
    (there_put s ps i k word here (rest_good (is_there s) p ps there))

pub entry_there : (s : SetupData) (ps : Patches) (i : ℕ) (p : WordAt × ℕ) → AllThere s ps → slice_get ps i ≡ Some p → IsThere s p.0
entry_there s ps i p there is = entry_good (is_there s) ps i p there is

-- no part has more words than a drive
pub number_is_small : (s : SetupData) → s.units ≤ 31 → (part : Part) (number : ℕ) → PartHasWord s part number → number < 1247232
number_is_small s units parts.Core number there = let below : number < s.units * 4096 = there in omega (arith, units, below)
number_is_small s units (parts.Drive drive) number there = there.1
