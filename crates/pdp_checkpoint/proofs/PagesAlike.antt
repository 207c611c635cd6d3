-- When checkpoints have a page alike.
use Rattle.std.proofs.Common.{◌≡◌, ◌∙◌, ℕ, zero, suc, ◌+◌, ◌-◌, ◌*◌, ◌/◌, ◌<◌, List, [], ◌∷◌, None}
use Rattle.std.proofs.Common.{ap, arith, drop, get_or, length, min, nat_le, refl, subst, sym, take}
use Rattle.std.specs.List.{filter}
use Rattle.std.specs.Prelude.{slice_index_or}
use Rattle.std.proofs.Math.Nat.{zero-div}
use Rattle.std.proofs.lemmas.List.Elements.{All-filter}
use Rattle.std.proofs.lemmas.List.{ext_get_or, get_or-drop, get_or-take, length-drop, length-take}
use Rattle.pdp_store.specs.Parts.{SameWords}
use Rattle.pdp_store.specs.Pieces.{piece}
use Rattle.pdp_store.specs.declared.part.WordAt.{WordAt}
use Rattle.pdp_unibus.specs.SavedBusData.{SavedBusData, saved_words}
use Rattle.pdp_unibus.specs.PatchedPages.{HasPageOf, saved_stamps}
use Rattle.pdp_checkpoint.specs.Ladder.{AreCheckpoints, LadderData}
use Rattle.pdp_checkpoint.specs.Patched.{HavePageAlike}
use Rattle.pdp_checkpoint.specs.declared.checkpoint.Checkpoint.{Checkpoint}
use Rattle.pdp_checkpoint.proofs.Checkpoints.{below_is_first}

-- lists of one length with the same items in a page have the same page
same_piece : {X : Type 0} (place : ℕ) (d : X) (xs ys : List X) → length xs ≡ length ys
    → ((k : ℕ) → k / 256 ≡ place → get_or xs k d ≡ get_or ys k d) → piece place xs ≡ piece place ys
unfolding piece
same_piece place d xs ys size same =
    let from = place * 256 in
    let left : length (drop from xs) ≡ length (drop from ys) =
    length-drop from xs ∙ ap (λ n. n - from) size ∙ sym (length-drop from ys) in
    let as_many : length (take 256 (drop from xs)) ≡ length (take 256 (drop from ys)) =
    length-take 256 (drop from xs) ∙ ap (min 256) left ∙ sym (length-take 256 (drop from ys)) in
    ext_get_or d (take 256 (drop from xs)) (take 256 (drop from ys)) as_many (λ i below.
    let small : i < 256 = omega (arith, below, length-take 256 (drop from xs)) in
    get_or-take 256 (drop from xs) i d small ∙ get_or-drop from xs i d ∙ same (from + i) (omega arith)
    ∙ sym (get_or-take 256 (drop from ys) i d small ∙ get_or-drop from ys i d))

-- a saved bus of the same sizes, with the same words in the page and the same last stamps, has the
-- page of the other
pub has_page : (at : WordAt) (other c : SavedBusData)
    → length (saved_words at.part c) ≡ length (saved_words at.part other)
    → SameWords (at.number / 256) (saved_words at.part c) (saved_words at.part other)
    → length (saved_stamps at.part c) ≡ length (saved_stamps at.part other)
    → ((k : ℕ) → k / 256 ≡ at.number / 256 → slice_index_or (saved_stamps at.part c) k None ≡ slice_index_or (saved_stamps at.part other) k None)
    → HasPageOf at other c
has_page at other c size words count stamps = record {
  words = same_piece (at.number / 256) 0 (saved_words at.part c) (saved_words at.part other) size words;
  stamps = same_piece (at.number / 256) None (saved_stamps at.part c) (saved_stamps at.part other) count stamps;
}

-- the state of turn 0 alone has each page alike
alone_alike : (at : WordAt) (kept : List Checkpoint) → 0 < length kept → HavePageAlike at (take 1 kept)
alone_alike at [] some = absurd (omega (arith, some))
alone_alike at (c ∷ cs) some = record {
  content = c.saved.bus;
  all = λ k d below. by k d below;
}
  where
    by : (k : ℕ) (d : Checkpoint) → k < 1 → HasPageOf at c.saved.bus (get_or (c ∷ []) k d).saved.bus
    by zero d below = record { words = refl; stamps = refl }
    by (suc k) d below = absurd (omega (arith, below))

pub first_alone_alike : (at : WordAt) (l : LadderData) → AreCheckpoints l → HavePageAlike at (filter (λ c. nat_le c.turn 0) l.kept)
first_alone_alike at l checkpoints =
    let one : 0 / l.stride + 1 ≡ 1 = ap (λ n. n + 1) (zero-div l.stride) in
    let is : take 1 l.kept ≡ filter (λ c. nat_le c.turn 0) l.kept = sym (below_is_first l 0 checkpoints ∙ ap (λ n. take n l.kept) one) in
    subst (HavePageAlike at) is (alone_alike at l.kept checkpoints.some)

-- and so has a checkpoint that is alone
pub one_alike : (at : WordAt) (turn : ℕ) (c : Checkpoint) (kept : List Checkpoint) → kept ≡ c ∷ []
    → HavePageAlike at (filter (λ x. nat_le x.turn turn) kept)
one_alike at turn c kept is = rw is (record {
  content = c.saved.bus;
  all = All-filter (λ x. nat_le x.turn turn) (λ x. HasPageOf at c.saved.bus x.saved.bus) (c ∷ []) (λ k d below. by k d below);
})
  where
    by : (k : ℕ) (d : Checkpoint) → k < 1 → HasPageOf at c.saved.bus (get_or (c ∷ []) k d).saved.bus
    by zero d below = record { words = refl; stamps = refl }
    by (suc k) d below = absurd (omega (arith, below))
