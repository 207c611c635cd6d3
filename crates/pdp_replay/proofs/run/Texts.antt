-- What was printed and punched only grows.
use Rattle.std.proofs.Common.{◌≡◌, ℕ, zero, suc, ◌+◌, ◌++◌, List, [], length, take, refl, sym, ◌∙◌, ap, append_assoc, append-nil, arith}
use Rattle.std.proofs.Math.Seq.{take-append_seam}
use Rattle.pdp_cpu.specs.Handbook.Turn.{printed_in, punched_in}
use Rattle.pdp_script.specs.Entries.{events_at}
use Rattle.pdp_replay.specs.Past.{Past}
use Rattle.pdp_replay.specs.Run.States.{state_at, text_at, punched_at, Begins}

-- one list is another with some after it
abbrev Extends : List ℕ → List ℕ → Type 0
Extends first whole = (rest : List ℕ) × (whole ≡ first ++ rest)

begins : (xs ys : List ℕ) → Extends xs ys → Begins xs ys
begins xs ys e = sym (ap (take (length xs)) e.1 ∙ take-append_seam xs e.0)

-- what gets something appended at each step
grown : (f more : ℕ → List ℕ) → ((n : ℕ) → f (suc n) ≡ f n ++ more n) → (n k : ℕ) → Extends (f n) (f (n + k))
grown f more step n zero = ([], ap f (omega arith) ∙ sym (append-nil (f n)))
grown f more step n (suc k) =
    let before : Extends (f n) (f (n + k)) = grown f more step n k in (
      before.0 ++ more (n + k),
      ap f (omega arith) ∙ step (n + k) ∙ ap (λ xs. xs ++ more (n + k)) before.1 ∙ append_assoc (f n) before.0 (more (n + k)),
    )

text_next : (p : Past) (n : ℕ) → text_at p (suc n) ≡ text_at p n ++ printed_in n (events_at p.script.entries n) (state_at p n)
unfolding text_at
text_next p n = refl

punched_next : (p : Past) (n : ℕ) → punched_at p (suc n) ≡ punched_at p n ++ punched_in n (events_at p.script.entries n) (state_at p n)
unfolding punched_at
punched_next p n = refl

pub text_grows : (p : Past) (n k : ℕ) → Begins (text_at p n) (text_at p (n + k))
text_grows p n k =
    begins (text_at p n) (text_at p (n + k))
    (grown (text_at p) (λ m. printed_in m (events_at p.script.entries m) (state_at p m)) (text_next p) n k)

pub punched_grows : (p : Past) (n k : ℕ) → Begins (punched_at p n) (punched_at p (n + k))
punched_grows p n k =
    begins (punched_at p n) (punched_at p (n + k))
    (grown (punched_at p) (λ m. punched_in m (events_at p.script.entries m) (state_at p m)) (punched_next p) n k)
