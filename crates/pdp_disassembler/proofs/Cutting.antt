-- A text cut where a test first fails.
use Rattle.std.proofs.Common.{◌≡◌, ℕ, Bool, true, false, List, [], ◌∷◌, ◌++◌, length, take, drop, refl, ap, ◌∙◌, arith}
use Rattle.std.proofs.Math.Seq.{take-append_seam, drop-append_seam}
use Rattle.std.specs.Prelude.{not}
use Rattle.std.specs.List.{list_all, prefix_len}
use Rattle.std.proofs.lemmas.Bool.{and_parts}
use Rattle.pdp_disassembler.specs.Reading.{front, beyond}

-- the test fails at once, or there is no byte
abbrev pub stops : (ℕ → Bool) → List ℕ → Bool
stops passes [] = true
stops passes (byte ∷ bytes) = not (passes byte)

fails : (passes : Bool) → not passes ≡ true → passes ≡ false
fails true h = cc
fails false h = refl

prefix_length : (passes : ℕ → Bool) (first second : List ℕ) → list_all passes first ≡ true → stops passes second ≡ true
    → prefix_len passes (first ++ second) ≡ length first
prefix_length passes [] [] h s = refl
prefix_length passes [] (byte ∷ bytes) h s = let e = fails (passes byte) s in rw e refl
prefix_length passes (byte ∷ bytes) second h s =
    let parts = and_parts (passes byte) (list_all passes bytes) h in
    let rest = prefix_length passes bytes second parts.1 s in
    rw (parts.0, rest) (omega arith)

pub front-append : (passes : ℕ → Bool) (first second : List ℕ) → list_all passes first ≡ true → stops passes second ≡ true
    → front passes (first ++ second) ≡ first
front-append passes first second h s =
    ap (λ count. take count (first ++ second)) (prefix_length passes first second h s) ∙ take-append_seam first second

pub beyond-append : (passes : ℕ → Bool) (first second : List ℕ) → list_all passes first ≡ true → stops passes second ≡ true
    → beyond passes (first ++ second) ≡ second
beyond-append passes first second h s =
    ap (λ count. drop count (first ++ second)) (prefix_length passes first second h s) ∙ drop-append_seam first second
