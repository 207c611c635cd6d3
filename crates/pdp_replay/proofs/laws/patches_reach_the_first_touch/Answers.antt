use Rattle.pdp_replay.proofs.run.Untouched.{patched_until}
use Rattle.pdp_replay.proofs.laws.patches_reach_the_first_touch.Goals as goal

pub returns : goal.returns
returns c = λ part i word n k p s is within low. patched_until part i word n k p s is within low
