-- What is saved of two runs that meet, and the bytes that are kept of them.
use Rattle.std.specs.Prelude.{ℕ, ◌≡◌, ◌+◌, ◌++◌, drop, length}
use Rattle.pdp_cpu.specs.Saved.{SavedMeet, saved_machine, saved_over}
use Rattle.pdp_replay.specs.Past.{Past}
use Rattle.pdp_replay.specs.Run.Checkpoints.{SameInputsFrom, punched_kept_at, text_kept_at}
use Rattle.pdp_replay.specs.Run.States.{at}

-- each saved machine of the run of q from where both meet on is, laid over that of p, one of the
-- run of p
abbrev pub SavedMachinesAreTaken : Type 0
SavedMachinesAreTaken =
    (p q : Past) (c d : ℕ) → SameInputsFrom c p q
    → SavedMeet (saved_machine (at p c)) (saved_machine (at q c))
    → saved_machine (at p (d + c))
    ≡ saved_over c (saved_machine (at p c)) (saved_machine (at q c)) (saved_machine (at q (d + c)))

-- and the bytes of q from there on, with their turns, come after those of p before it
abbrev pub KeptBytesAreTaken : Type 0
KeptBytesAreTaken =
    (p q : Past) (c d : ℕ) → SameInputsFrom c p q
    → SavedMeet (saved_machine (at p c)) (saved_machine (at q c))
    → (text_kept_at p (d + c)
    ≡ text_kept_at p c ++ drop (length (text_kept_at q c)) (text_kept_at q (d + c)))
    × (punched_kept_at p (d + c)
    ≡ punched_kept_at p c ++ drop (length (punched_kept_at q c)) (punched_kept_at q (d + c)))
