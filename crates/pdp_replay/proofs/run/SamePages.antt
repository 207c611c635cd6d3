-- Up to the first touch of a page the checkpoints of a run have it alike.
use Rattle.std.proofs.Common.{◌≡◌, ◌∙◌, ℕ, suc, ◌/◌, ◌≤◌, Bool, true, false, if◌then◌else◌, List, [], ◌∷◌, arith, nat_le, refl, subst, sym}
use Rattle.std.specs.List.{All, filter}
use Rattle.std.proofs.lemmas.Bool.{leb-true}
use Rattle.std.proofs.lemmas.List.Elements.{All-nil, All-cons}
use Rattle.pdp_store.specs.declared.part.Part.TheVariants as parts
use Rattle.pdp_store.specs.Parts.{word_at}
use Rattle.pdp_store.specs.declared.part.Part.{Part}
use Rattle.pdp_unibus.specs.PatchedPages.{HasPageOf}
use Rattle.pdp_cpu.specs.Saved.{SavedMachineData, saved_machine}
use Rattle.pdp_checkpoint.proofs.PagesAlike.{has_page}
use Rattle.pdp_checkpoint.specs.Ladder.{LadderData}
use Rattle.pdp_checkpoint.specs.Patched.{HavePageAlike}
use Rattle.pdp_checkpoint.specs.declared.checkpoint.Checkpoint.{Checkpoint}
use Rattle.pdp_replay.specs.Run.FirstTouches.{IsAsAtPowerUp, first_touch}
use Rattle.pdp_replay.specs.Run.Checkpoints.{AreStatesOf}
use Rattle.pdp_replay.specs.Past.{Past}
use Rattle.pdp_replay.specs.Run.States.{at}
use Rattle.pdp_replay.proofs.run.AlikePages.{pages_alike}
use Rattle.pdp_replay.proofs.ask.LastWrites.{stamps_keep_size}
use Rattle.pdp_replay.proofs.run.Untouched.{part_keeps_size}

-- two states of turns up to the first touch
alike_states : (part : Part) (word : ℕ) (p : Past) (n m : ℕ) → IsAsAtPowerUp p part (word / 256) n
    → IsAsAtPowerUp p part (word / 256) m
    → HasPageOf (word_at part word) (saved_machine (at p n)).bus (saved_machine (at p m)).bus
alike_states parts.Core word p n m one other =
    has_page (word_at parts.Core word) (saved_machine (at p n)).bus (saved_machine (at p m)).bus (part_keeps_size parts.Core p m ∙ sym (part_keeps_size parts.Core p n))
    (λ k inside. sym (other.words k inside) ∙ one.words k inside)
    (stamps_keep_size p m ∙ sym (stamps_keep_size p n))
    (λ k inside. other.unstamped refl k inside ∙ sym (one.unstamped refl k inside))
alike_states (parts.Drive number) word p n m one other =
    has_page (word_at (parts.Drive number) word) (saved_machine (at p n)).bus (saved_machine (at p m)).bus
    (part_keeps_size (parts.Drive number) p m ∙ sym (part_keeps_size (parts.Drive number) p n))
    (λ k inside. sym (other.words k inside) ∙ one.words k inside) refl (λ k inside. refl)

pub states_have_page : (part : Part) (word : ℕ) (p : Past) (n m known : ℕ) → n ≤ first_touch p part (word / 256) known
    → m ≤ first_touch p part (word / 256) known
    → HasPageOf (word_at part word) (saved_machine (at p n)).bus (saved_machine (at p m)).bus
states_have_page part word p n m known low also =
    alike_states part word p n m (pages_alike p part (word / 256) n known low) (pages_alike p part (word / 256) m known also)

-- what holds of each that is kept, by whether it is
all_filtered : (P Q : Checkpoint → Type 0) (keep : Checkpoint → Bool) → ((c : Checkpoint) → keep c ≡ true → P c → Q c)
    → (cs : List Checkpoint) → All P cs → All Q (filter keep cs)
all_filtered P Q keep step [] all = All-nil Q
all_filtered P Q keep step (c ∷ cs) all =
    by (keep c) refl (all_filtered P Q keep step cs (λ k d below. all (suc k) d (omega arith)))
  where
    by : (b : Bool) → keep c ≡ b → All Q (filter keep cs) → All Q (if b then c ∷ filter keep cs else filter keep cs)
    by true is rest = All-cons Q c _ (step c is (all 0 c (omega arith))) rest
    by false is rest = rest

-- so have the checkpoints up to the first touch
pub kept_have_page : (part : Part) (word : ℕ) (p : Past) (known k : ℕ) (l : LadderData) → AreStatesOf p known l
    → k ≤ first_touch p part (word / 256) known → HavePageAlike (word_at part word) (filter (λ c. nat_le c.turn k) l.kept)
kept_have_page part word p known k l are low = record {
  content = (saved_machine (at p 0)).bus;
  all = all_filtered (λ c. c.saved ≡ saved_machine (at p c.turn)) (λ c. HasPageOf (word_at part word) (saved_machine (at p 0)).bus c.saved.bus) (λ c. nat_le c.turn k)
      (λ c kept saved.
      let below : c.turn ≤ first_touch p part (word / 256) known = omega (arith, leb-true c.turn k kept, low) in
      subst (λ (s : SavedMachineData). HasPageOf (word_at part word) (saved_machine (at p 0)).bus s.bus) (sym saved)
      (states_have_page part word p 0 c.turn known (omega arith) below))
      l.kept are.states;
}
