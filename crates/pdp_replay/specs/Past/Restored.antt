-- How an edit of the past is taken back. An edit concerns one thing of the past: what the past had
-- of it before gives it back, exactly [P].
use Rattle.std.specs.Prelude.{ℕ, ◌≡◌, cond, Option, Some, None, List, [], ◌∷◌, insert}
use Rattle.std.specs.List.{AllPairs}
use Rattle.indexmap.specs.IndexMap.{insert_entry, shift_remove_entry}
use Rattle.pdp_io_page.specs.declared.delays.Delays.{Delays}
use Rattle.pdp_script.specs.Restore.{one_place_on, script_restored}
use Rattle.pdp_script.specs.declared.script.EventBefore.{EventBefore}
use Rattle.pdp_store.specs.declared.part.WordAt.{WordAt}
use Rattle.pdp_replay.specs.Past.PatchedWords.{Patches, is_same_word}
use Rattle.pdp_replay.specs.Past.{Past, with_script, with_setup}
use Rattle.pdp_replay.specs.declared.past.patch.WordBefore.{WordBefore}

-- the place of the patch of a word among all, with its value
abbrev pub patch_before : WordAt → Patches → Option (ℕ × ℕ)
patch_before at [] = None
patch_before at (p ∷ ps) = cond (is_same_word at p.0) (Some (0, p.1))
    (one_place_on (patch_before at ps))

-- the patches with that of a word put at its place again, if it had one
abbrev pub with_patch_back : WordAt → Option (ℕ × ℕ) → Patches → Patches
with_patch_back at None patches = patches
with_patch_back at (Some was) patches = insert patches was.0 (at, was.1)

-- the patches with what they had of a word
abbrev pub patches_restored : WordAt → Option (ℕ × ℕ) → Patches → Patches
patches_restored at was patches = with_patch_back at was
    (shift_remove_entry (is_same_word at) patches)

-- what the patches have of a word
abbrev pub word_before : WordAt → Patches → WordBefore
word_before at patches = record { at = at; was = patch_before at patches }

-- the past with what it had of a word, with what its script had of an event, or with another tape
-- or other delays
abbrev pub past_with_word_restored : WordBefore → Past → Past
past_with_word_restored before p = with_setup p (record p.setup {
  patches = patches_restored before.at before.was p.setup.patches;
})

abbrev pub past_with_event_restored : EventBefore → Past → Past
past_with_event_restored before p = with_script p (script_restored before p.script)

abbrev pub past_with_tape : List ℕ → Past → Past
past_with_tape tape p = with_setup p (record p.setup { tape = tape })

abbrev pub past_with_delays : Delays → Past → Past
past_with_delays delays p = with_setup p (record p.setup { delays = delays })

-- no word has two patches
abbrev pub ArePatchedOnce : Patches → Type 0
ArePatchedOnce patches = AllPairs (λ p q. p.0 ≡ q.0 → ⊥) patches

-- what the patches had of a word takes a patch of it back, and a patch less
abbrev pub PatchIsTakenBack : Type 0
PatchIsTakenBack =
    (at : WordAt) (word : ℕ) (patches : Patches) → patches_restored at (patch_before at patches)
    (insert_entry is_same_word patches at word) ≡ patches

abbrev pub ReversionIsTakenBack : Type 0
ReversionIsTakenBack =
    (at : WordAt) (patches : Patches) → ArePatchedOnce patches → patches_restored at
    (patch_before at patches) (shift_remove_entry (is_same_word at) patches) ≡ patches

-- patches that got back what they had of a word get the other back in turn
abbrev pub RestoredPatchesAreUndone : Type 0
RestoredPatchesAreUndone =
    (at : WordAt) (was : Option (ℕ × ℕ)) (patches : Patches) → ArePatchedOnce patches
    → patches_restored at (patch_before at patches) (patches_restored at was patches) ≡ patches
