-- What checkpoints with another value in a word keep of those before.
use Rattle.std.proofs.Common.{◌≡◌, ℕ, ◌+◌, ◌/◌, min, nat_le, List, [], length, map, take, refl, sym, ◌∙◌, arith}
use Rattle.std.specs.List.{filter}
use Rattle.std.proofs.lemmas.List.{take_min}
use Rattle.pdp_store.specs.declared.part.WordAt.{WordAt}
use Rattle.pdp_unibus.specs.PatchedPages.{IsPatchOf}
use Rattle.pdp_unibus.specs.declared.save.saved_bus.patched_page.PatchedPage.{PatchedPage}
use Rattle.pdp_checkpoint.specs.declared.checkpoint.Checkpoint.{Checkpoint}
use Rattle.pdp_checkpoint.specs.Formers.{FormerData}
use Rattle.pdp_checkpoint.specs.Ladder.{LadderData, AreCheckpoints}
use Rattle.pdp_checkpoint.specs.Patched.{checkpoint_with_word, patched_to}
use Rattle.pdp_checkpoint.proofs.Changed.{checkpoints_changed}
use Rattle.pdp_checkpoint.proofs.Checkpoints.{below_is_first, checkpoints_beside, checkpoints_cut}

-- how a ladder is after its first states got another value in a word
pub record IsPatchedTo (turn : ℕ) (at : WordAt) (value : ℕ) (before after : LadderData) : Type 0 where
  pub is : after ≡ patched_to turn at value after.formers before
  pub checkpoints : AreCheckpoints after

-- the first so many are those of turns that are not above this one
pub first_are_low : (l : LadderData) (turn : ℕ) (first : List Checkpoint) → AreCheckpoints l
    → first ≡ take (min (turn / l.stride + 1) (length l.kept)) l.kept → first ≡ filter (λ c. nat_le c.turn turn) l.kept
first_are_low l turn first checkpoints is = is ∙ take_min (turn / l.stride + 1) l.kept ∙ sym (below_is_first l turn checkpoints)

pub is_patched_to : (l : LadderData) (turn : ℕ) (at : WordAt) (value : ℕ) (first now : List Checkpoint) (formers : List FormerData)
    → AreCheckpoints l → first ≡ filter (λ c. nat_le c.turn turn) l.kept → now ≡ map (checkpoint_with_word at value) first
    → IsPatchedTo turn at value l (record l { kept = now; near = []; formers = formers })
is_patched_to l turn at value first now formers checkpoints below now_is =
    let low : first ≡ take (turn / l.stride + 1) l.kept = below ∙ below_is_first l turn checkpoints in
    let cut : AreCheckpoints (record l { kept = first }) = rw low (checkpoints_cut l (turn / l.stride + 1) checkpoints (omega arith)) in
    record {
      is = rw (now_is, below) refl;
      checkpoints = rw now_is (checkpoints_beside (record l { kept = map (checkpoint_with_word at value) first }) [] formers
          (checkpoints_changed (record l { kept = first }) (checkpoint_with_word at value) (λ c. refl) cut));
    }

-- a page for a word is put into states as the word is
pub same_change : (p : PatchedPage) (at : WordAt) (value : ℕ) (kept : List Checkpoint) → IsPatchOf at value p
    → map (checkpoint_with_word p.at p.value) kept ≡ map (checkpoint_with_word at value) kept
same_change p at value kept is = rw (is.at_is, is.value_is) refl
