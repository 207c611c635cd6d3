-- The bytes that were printed and punched in a run, kept with their turns.
use Rattle.std.proofs.Common.{◌≡◌, ◌∙◌, ℕ, ◌+◌, ◌≤◌, List, ap, length, max, refl, take}
use Rattle.pdp_cpu.specs.KeptTexts.{kept_before, kept_over, without_turns}
use Rattle.pdp_cpu.specs.Handbook.MachineState.{MachineWithTexts}
use Rattle.pdp_cpu.specs.Handbook.Turn.{printed_in, punched_in}
use Rattle.pdp_script.specs.Entries.{events_at}
use Rattle.pdp_replay.specs.Run.Checkpoints.{KeepsTexts, ShowsTexts, text_kept_at, punched_kept_at}
use Rattle.pdp_replay.specs.Past.{Past}
use Rattle.pdp_replay.specs.Run.States.{state_at, text_at, punched_at}
use Rattle.pdp_replay.proofs.run.KeptBytes.{KeepsAll, text_is, first_is, before_is, length_reaches, over_is}

-- what is printed in a turn of a run, and what is punched
abbrev pub printed_of : Past → ℕ → List ℕ
printed_of p n = printed_in n (events_at p.script.entries n) (state_at p n)

abbrev pub punched_of : Past → ℕ → List ℕ
punched_of p n = punched_in n (events_at p.script.entries n) (state_at p n)

pub text_keeps : (p : Past) → KeepsAll (text_kept_at p) (text_at p) (printed_of p)
unfolding text_kept_at text_at
text_keeps p = record { none = refl; empty = refl; next = λ n. refl; grows = λ n. refl }

pub punched_keeps : (p : Past) → KeepsAll (punched_kept_at p) (punched_at p) (punched_of p)
unfolding punched_kept_at punched_at
punched_keeps p = record { none = refl; empty = refl; next = λ n. refl; grows = λ n. refl }

-- what was printed
pub text_kept_is : (p : Past) (n : ℕ) → without_turns (text_kept_at p n) ≡ text_at p n
text_kept_is p n = text_is (text_kept_at p) (text_at p) (printed_of p) (text_keeps p) n

pub text_kept_first : (p : Past) (n known : ℕ) → n ≤ known → take (length (text_at p n)) (text_kept_at p known) ≡ text_kept_at p n
text_kept_first p n known le = first_is (text_kept_at p) (text_at p) (printed_of p) (text_keeps p) n known le

pub text_shown : (p : Past) (n known : ℕ) → n ≤ known → without_turns (take (length (text_at p n)) (text_kept_at p known)) ≡ text_at p n
text_shown p n known le = ap without_turns (text_kept_first p n known le) ∙ text_kept_is p n

pub text_kept_reaches : (p : Past) (n known : ℕ) → n ≤ known → length (text_at p n) ≤ length (text_kept_at p known)
text_kept_reaches p n known le = length_reaches (text_kept_at p) (text_at p) (printed_of p) (text_keeps p) n known le

pub text_kept_before : (p : Past) (n known : ℕ) → n ≤ known → kept_before n (text_kept_at p known) ≡ text_kept_at p n
text_kept_before p n known le = before_is (text_kept_at p) (text_at p) (printed_of p) (text_keeps p) n known le

pub text_kept_over : (p : Past) (n known : ℕ) → n ≤ known
    → kept_over n (printed_in n (events_at p.script.entries n) (state_at p n)) (length (text_at p n)) (text_kept_at p known) ≡ text_kept_at p (max known (n + 1))
text_kept_over p n known le = over_is (text_kept_at p) (text_at p) (printed_of p) (text_keeps p) n known le

-- what was punched
pub punched_kept_is : (p : Past) (n : ℕ) → without_turns (punched_kept_at p n) ≡ punched_at p n
punched_kept_is p n = text_is (punched_kept_at p) (punched_at p) (punched_of p) (punched_keeps p) n

pub punched_kept_first : (p : Past) (n known : ℕ) → n ≤ known → take (length (punched_at p n)) (punched_kept_at p known) ≡ punched_kept_at p n
punched_kept_first p n known le = first_is (punched_kept_at p) (punched_at p) (punched_of p) (punched_keeps p) n known le

pub punched_shown : (p : Past) (n known : ℕ) → n ≤ known → without_turns (take (length (punched_at p n)) (punched_kept_at p known)) ≡ punched_at p n
punched_shown p n known le = ap without_turns (punched_kept_first p n known le) ∙ punched_kept_is p n

pub punched_kept_reaches : (p : Past) (n known : ℕ) → n ≤ known → length (punched_at p n) ≤ length (punched_kept_at p known)
punched_kept_reaches p n known le = length_reaches (punched_kept_at p) (punched_at p) (punched_of p) (punched_keeps p) n known le

pub punched_kept_before : (p : Past) (n known : ℕ) → n ≤ known → kept_before n (punched_kept_at p known) ≡ punched_kept_at p n
punched_kept_before p n known le = before_is (punched_kept_at p) (punched_at p) (punched_of p) (punched_keeps p) n known le

pub punched_kept_over : (p : Past) (n known : ℕ) → n ≤ known
    → kept_over n (punched_in n (events_at p.script.entries n) (state_at p n)) (length (punched_at p n)) (punched_kept_at p known) ≡ punched_kept_at p (max known (n + 1))
punched_kept_over p n known le = over_is (punched_kept_at p) (punched_at p) (punched_of p) (punched_keeps p) n known le

-- a machine that keeps the texts of a turn shows them, without the turns of their bytes
pub texts_shown : (p : Past) (known : ℕ) (m : MachineWithTexts) → KeepsTexts p known m → ShowsTexts p known m
texts_shown p known m keeps = record {
  text = ap without_turns keeps.text ∙ text_kept_is p known;
  punched = ap without_turns keeps.punched ∙ punched_kept_is p known;
}
