-- One patched page for states that have the page alike.
use Rattle.std.proofs.Common.{◌≡◌, ◌∙◌, ℕ, ◌/◌, ◌%◌, ◌<◌, All, List, ap, get_or, length, slice_set, subst, sym}
use Rattle.pdp_store.specs.Pieces.{piece}
use Rattle.pdp_store.specs.declared.part.WordAt.{WordAt}
use Rattle.pdp_unibus.specs.SavedBusData.{SavedBusData, SavedBusHasWord, saved_words}
use Rattle.pdp_unibus.specs.PatchedPages.{HasPageOf, IsPatchIn, IsPatchOf, saved_stamps}
use Rattle.pdp_unibus.specs.declared.save.saved_bus.patched_page.PatchedPage.{PatchedPage}
use Rattle.pdp_cpu.specs.Saved.{HasWord as SavedHasWord}
use Rattle.pdp_checkpoint.specs.Patched.{HavePageAlike}
use Rattle.pdp_checkpoint.specs.declared.checkpoint.Checkpoint.{Checkpoint}

-- a page that is patched in one saved bus is so in each that has the page alike
patch_alike : (at : WordAt) (value : ℕ) (other b c : SavedBusData) (p : PatchedPage) → IsPatchOf at value p → IsPatchIn b p
    → HasPageOf at other b → HasPageOf at other c → SavedBusHasWord at c → IsPatchIn c p
patch_alike at value other b c p made here first alike there =
    let words : piece (p.at.number / 256) (saved_words p.at.part b) ≡ piece (p.at.number / 256) (saved_words p.at.part c) =
    rw made.at_is (first.words ∙ sym alike.words) in
    let stamps : piece (p.at.number / 256) (saved_stamps p.at.part b) ≡ piece (p.at.number / 256) (saved_stamps p.at.part c) =
    rw made.at_is (first.stamps ∙ sym alike.stamps) in
    record {
      there = rw made.at_is there;
      page = record {
        changed = here.page.changed ∙ ap (λ xs. slice_set xs (p.at.number % 256) p.value) words;
        stamps = here.page.stamps ∙ stamps;
      };
    }

pub patch_for_all : (at : WordAt) (value : ℕ) (kept : List Checkpoint) (first : Checkpoint) (p : PatchedPage) → 0 < length kept
    → first ≡ get_or kept 0 first → All (λ c. SavedHasWord at c.saved) kept → HavePageAlike at kept
    → IsPatchOf at value p → IsPatchIn first.saved.bus p → All (λ c. IsPatchIn c.saved.bus p) kept
unfolding SavedHasWord
patch_for_all at value kept first p some is there alike made here = λ k d below.
    patch_alike at value alike.content first.saved.bus (get_or kept k d).saved.bus p made here
    (subst (λ (c : Checkpoint). HasPageOf at alike.content c.saved.bus) (sym is) (alike.all 0 first some))
    (alike.all k d below) (there k d below)
