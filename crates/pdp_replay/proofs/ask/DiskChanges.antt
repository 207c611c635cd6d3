-- The turns that change a word of a drive.
use Rattle.std.proofs.Common.{◌≡◌, ◌∙◌, ℕ, zero, suc, ◌+◌, ◌-◌, ◌<◌, ◌≤◌, ◌==◌, Bool, false, true, List, [], ◌∷◌, None, Option, Some, ⊎_elim, ap, arith, length, map, not, refl, slice_index_or, subst, sym}
use Rattle.std.proofs.lemmas.Bool.{cases_lt, eqb-true}
use Rattle.pdp_cpu.proofs.DriveSizes.{turn_keeps_drives}
use Rattle.pdp_cpu.specs.Handbook.MachineState.{MachineState, MachineWithTexts, after_turn}
use Rattle.pdp_unibus.specs.declared.event.Event.{Event}
use Rattle.pdp_replay.specs.Past.{Past}
use Rattle.pdp_replay.specs.Past.Setup.{drive_words}
use Rattle.pdp_replay.specs.Run.Checkpoints.{IsBuiltFrom}
use Rattle.pdp_replay.specs.Run.States.{disk_of, state_at}
use Rattle.pdp_replay.specs.Ask.DiskChanges.{word_changes, word_on}
use Rattle.pdp_replay.specs.Ask.Searches.{HoldsNowhere, IsFirst}
use Rattle.pdp_replay.specs.Ask.Watches.{is_watched_at}
use Rattle.pdp_replay.specs.declared.ask.watch.Watchpoint.TheVariants.{Change}
use Rattle.pdp_replay.proofs.run.DriveSizes.{length_of_drive}

-- drives of the same sizes have as many words by each number
pub same_length : (xs ys : List (List ℕ)) (i : ℕ) → map length xs ≡ map length ys → length (slice_index_or xs i []) ≡ length (slice_index_or ys i [])
same_length [] [] i is = refl
same_length [] (y ∷ ys) i is = absurd (cc is)
same_length (x ∷ xs) [] i is = absurd (cc is)
same_length (x ∷ xs) (y ∷ ys) zero is = cc is
same_length (x ∷ xs) (y ∷ ys) (suc i) is = same_length xs ys i (cc is)

-- a word is on its drive in a machine of a run, and stays there
pub word_inside : (p : Past) (drive number : ℕ) (m : MachineWithTexts) → IsBuiltFrom p.setup m → drive < p.setup.drives → number < drive_words
    → number < length (disk_of m.state.world drive)
word_inside p drive number m built there within =
    let size = length_of_drive m.state.world.bus.drives p.setup.drives drive_words drive built.drives there in omega (arith, size, within)

pub word_stays : (drive number : ℕ) (events : List Event) (before after : MachineState) → after ≡ after_turn events before
    → number < length (disk_of before.world drive) → number < length (disk_of after.world drive)
word_stays drive number events before after is below =
    let sizes = ap (λ (m : MachineState). map length m.world.bus.drives) is ∙ turn_keeps_drives before.turn events before.world in
    let size = same_length after.world.bus.drives before.world.bus.drives drive sizes in
    omega (arith, size, below)

unchanged : (b : Bool) → not b ≡ false → b ≡ true
unchanged true is = refl
unchanged false is = absurd (cc is)

-- while no turn left another word than the first, the word is that one
word_so_far : (p : Past) (drive number word from t : ℕ) → word ≡ word_on drive number (state_at p from) → from ≤ t
    → HoldsNowhere (is_watched_at p (Change drive number word)) from t → word ≡ word_on drive number (state_at p t)
word_so_far p drive number word from t is order none =
    ⊎_elim
    (λ later.
    let last : t - 1 + 1 ≡ t = omega (arith, later) in
    subst (λ n. word ≡ word_on drive number (state_at p n)) last
    (eqb-true word (word_on drive number (state_at p (t - 1 + 1)))
    (unchanged (word == word_on drive number (state_at p (t - 1 + 1))) (none (t - 1) (omega (arith, later)) (omega (arith, later))))))
    (λ here. let same : from ≡ t = omega (arith, order, here) in subst (λ n. word ≡ word_on drive number (state_at p n)) same is)
    (cases_lt from t)

-- so the next turn changes it if it leaves another
changes_if_other : (p : Past) (drive number word from t : ℕ) → word ≡ word_on drive number (state_at p from) → from ≤ t
    → HoldsNowhere (is_watched_at p (Change drive number word)) from t
    → word_changes drive number p t ≡ is_watched_at p (Change drive number word) t
changes_if_other p drive number word from t is order none =
    sym (ap (λ w. not (w == word_on drive number (state_at p (t + 1)))) (word_so_far p drive number word from t is order none))

-- the first turn that leaves another word than the first is the first that changes the word
pub first_change : (p : Past) (drive number word from to : ℕ) (found : Option ℕ) → word ≡ word_on drive number (state_at p from)
    → IsFirst (is_watched_at p (Change drive number word)) from to found → IsFirst (word_changes drive number p) from to found
first_change p drive number word from to (Some t) is first =
    record {
      least = first.least;
      most = first.most;
      there = changes_if_other p drive number word from t is first.least first.none ∙ first.there;
      none = λ turn least below.
          changes_if_other p drive number word from turn is least (λ u from_on earlier. first.none u from_on (omega (arith, earlier, below)))
          ∙ first.none turn least below;
    }
first_change p drive number word from to None is none =
    λ turn least below.
    changes_if_other p drive number word from turn is least (λ u from_on earlier. none u from_on (omega (arith, earlier, below)))
    ∙ none turn least below
