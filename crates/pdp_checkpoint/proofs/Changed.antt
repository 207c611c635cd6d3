-- What a ladder keeps if its states are changed, but not their turns.
use Rattle.std.proofs.Common.{◌≡◌, ℕ, ◌*◌, List, [], ◌∷◌, length, map, refl, sym, ap, ◌∙◌, arith}
use Rattle.std.proofs.lemmas.List.{length-map}
use Rattle.pdp_checkpoint.specs.declared.checkpoint.Checkpoint.{Checkpoint}
use Rattle.pdp_checkpoint.specs.Ladder.{LadderData, steps_from, AreCheckpoints}
use Rattle.pdp_checkpoint.proofs.Steps.{turns_of}

turns_stay : (change : Checkpoint → Checkpoint) → ((c : Checkpoint) → (change c).turn ≡ c.turn) → (cs : List Checkpoint)
    → turns_of (map change cs) ≡ turns_of cs
turns_stay change same [] = refl
turns_stay change same (c ∷ cs) =
    ap (λ (t : ℕ). t ∷ turns_of (map change cs)) (same c) ∙ ap (λ (ts : List ℕ). c.turn ∷ ts) (turns_stay change same cs)

pub checkpoints_changed : (l : LadderData) (change : Checkpoint → Checkpoint) → ((c : Checkpoint) → (change c).turn ≡ c.turn)
    → AreCheckpoints l → AreCheckpoints (record l { kept = map change l.kept })
checkpoints_changed l change same checkpoints =
    let size : length (map change l.kept) ≡ length l.kept = length-map l.kept change in
    let reach : length (map change l.kept) * l.stride ≡ length l.kept * l.stride = ap (λ n. n * l.stride) size in
    record {
      turns = turns_stay change same l.kept ∙ checkpoints.turns ∙ ap (steps_from l.stride 0) (sym size);
      some = omega (arith, checkpoints.some);
      few = omega (arith, checkpoints.few);
      positive = checkpoints.positive;
      widest = checkpoints.widest;
      within = omega (arith, checkpoints.within);
    }
