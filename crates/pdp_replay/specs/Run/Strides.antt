-- How far apart checkpoints are.
use Rattle.std.specs.Prelude.{◌≡◌, ℕ, ◌*◌, ◌^◌, ◌<◌, ◌≤◌}

-- the stride: the starting one, doubled the fewest times such that the highest known turn so far,
-- divided by it, is below 256
pub record IsStride (start highest stride : ℕ) : Type 0 where
  pub doublings : ℕ
  pub is : stride ≡ start * 2 ^ doublings
  pub enough : highest < 256 * stride
  pub least : 0 < doublings → 128 * stride ≤ highest
