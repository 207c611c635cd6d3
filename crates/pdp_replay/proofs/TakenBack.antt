-- What the patches had of a word takes an edit of its patch back.
use Rattle.pdp_replay.specs.Past.Restored.{PatchIsTakenBack, ReversionIsTakenBack, RestoredPatchesAreUndone}
use Rattle.pdp_replay.proofs.past.RestoredPatches.{patch_back, revert_back, undone}

pub patch_taken_back : PatchIsTakenBack
patch_taken_back = patch_back

pub reversion_taken_back : ReversionIsTakenBack
reversion_taken_back = revert_back

pub patches_undone : RestoredPatchesAreUndone
patches_undone = undone
