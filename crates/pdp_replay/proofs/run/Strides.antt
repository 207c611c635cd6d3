-- The stride that belongs to the highest turn known, if that grows.
use Rattle.std.proofs.Common.{◌≡◌, ◌∙◌, ℕ, ◌+◌, ◌*◌, ◌^◌, ◌<◌, ◌≤◌, max, add-one, ap, arith, mul_assoc, sym}
use Rattle.std.proofs.Math.Nat.{pow-suc}
use Rattle.pdp_replay.specs.Run.Strides.{IsStride}

pub stride_stays : (start high known now stride : ℕ) → IsStride start (max high known) stride → known ≤ now → now < 256 * stride → IsStride start (max high now) stride
stride_stays start high known now stride is le below =
    let enough = is.enough in
    record {
      doublings = is.doublings;
      is = is.is;
      enough = omega (arith, enough, below);
      least = λ some. let least = is.least some in omega (arith, least, le);
    }

pub stride_doubles : (start high known now stride : ℕ) → IsStride start (max high known) stride → now ≡ 256 * stride → IsStride start (max high now) (stride * 2)
stride_doubles start high known now stride is there =
    let enough = is.enough in
    record {
      doublings = is.doublings + 1;
      is = ap (λ s. s * 2) is.is ∙ twice start is.doublings;
      enough = omega (arith, enough, there);
      least = λ some. omega (arith, there);
    }
  where
    twice : (start d : ℕ) → start * 2 ^ d * 2 ≡ start * 2 ^ (d + 1)
    twice start d = mul_assoc start (2 ^ d) 2 ∙ ap (λ n. start * n) (sym (rw add-one (pow-suc 2 d)))
