use Rattle.pdp_replay.proofs.past.RestoredPatches.{patch_back, revert_back, undone}
use Rattle.pdp_replay.proofs.laws.patches_are_taken_back.Goals as goal

pub returns : goal.returns
returns c = record { patched = patch_back; reverted = revert_back; undone = undone }
