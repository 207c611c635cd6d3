-- Checkpoints with another value in a word.
use Rattle.std.specs.Prelude.{ℕ, ◌≡◌, ◌<◌, List, [], nat_le, length, map, slice_index_or}
use Rattle.std.specs.List.{All, filter}
use Rattle.pdp_store.specs.declared.part.WordAt.{WordAt}
use Rattle.pdp_unibus.specs.SavedBusData.{SavedBusData}
use Rattle.pdp_unibus.specs.PatchedPages.{AreNewPages, HasPageOf}
use Rattle.pdp_unibus.specs.declared.save.saved_bus.patched_page.NewPages.{NewPages}
use Rattle.pdp_unibus.specs.declared.save.saved_bus.patched_page.PatchedPage.{PatchedPage}
use Rattle.pdp_cpu.specs.Saved.{saved_machine_with_word}
use Rattle.pdp_checkpoint.specs.declared.checkpoint.Checkpoint.{Checkpoint}
use Rattle.pdp_checkpoint.specs.Formers.{FormerData}
use Rattle.pdp_checkpoint.specs.Ladder.{LadderData}

-- a state with this value in a word
abbrev pub checkpoint_with_word : WordAt → ℕ → Checkpoint → Checkpoint
checkpoint_with_word at value c = record c { saved = saved_machine_with_word at value c.saved }

-- the checkpoints of turns that are not above this one, each with this value in the word, no state
-- between them, and these former runs
abbrev pub patched_to : ℕ → WordAt → ℕ → List FormerData → LadderData → LadderData
patched_to turn at value formers l = record l {
  kept = map (checkpoint_with_word at value) (filter (λ c. nat_le c.turn turn) l.kept);
  near = [];
  formers = formers;
}

-- these states have the page of this word alike: there each has the words of one saved bus, and in
-- core its last stamps
pub record HavePageAlike (at : WordAt) (kept : List Checkpoint) : Type 0 where
  pub content : SavedBusData
  pub all : All (λ c. HasPageOf at content c.saved.bus) kept

-- for each of these states, in their order, what takes the place of its page
pub record AreNewPagesFor (p : PatchedPage) (kept : List Checkpoint) (pages : List NewPages) : Type
    0 where
  pub count : length pages ≡ length kept
  pub each : (k : ℕ) (c : Checkpoint) (new : NewPages) → k < length kept → AreNewPages p
      (slice_index_or kept k c).saved.bus (slice_index_or pages k new)
