-- What searches find in two runs that are one from a turn on [P].
use Rattle.std.specs.Prelude.{ℕ, ◌≡◌, ◌≤◌, None, Ok, Option, Some}
use Rattle.pdp_kt11.specs.declared.mode.Mode.{Mode}
use Rattle.pdp_replay.specs.Ask.Accesses.{accesses_end, details_in_turns}
use Rattle.pdp_replay.specs.Ask.Backwards.{last_of_turns}
use Rattle.pdp_replay.specs.Ask.Counts.{counts_in_turns}
use Rattle.pdp_replay.specs.Ask.DiskChanges.{word_changes}
use Rattle.pdp_replay.specs.Ask.DiskCompletions.{completions_in_turns}
use Rattle.pdp_replay.specs.Ask.Fadings.{fading}
use Rattle.pdp_replay.specs.Ask.MovesListed.{moves_in_turns}
use Rattle.pdp_replay.specs.Ask.Reads.{reads_in_turns}
use Rattle.pdp_replay.specs.Ask.Searches.{first_turn_of}
use Rattle.pdp_replay.specs.Ask.SoughtTurns.{is_sought_at}
use Rattle.pdp_replay.specs.Ask.Writes.{writes_in_turns}
use Rattle.pdp_replay.specs.Past.{Past}
use Rattle.pdp_replay.specs.Past.Edit.{past_edit}
use Rattle.pdp_replay.specs.declared.ask.sought.Sought.{Sought}
use Rattle.pdp_replay.specs.declared.past.past_edit.PastEdit.{PastEdit}

-- of n turns from this one on both runs have the same first and last turn that is sought, the same
-- writes and reads of each word of core, the same first change of each word of a drive, the same
-- completions of the disk, the same counts of instructions, the same details, listed up to the same
-- turn, and the same moves
pub record SearchesAlike (from n : ℕ) (p q : Past) : Type 0 where
  pub first : (sought : Sought)
      → first_turn_of (is_sought_at p sought) from n ≡ first_turn_of (is_sought_at q sought) from n
  pub last : (sought : Sought)
      → last_of_turns (is_sought_at p sought) from n ≡ last_of_turns (is_sought_at q sought) from n
  pub writes : (number : ℕ) → writes_in_turns p number from n ≡ writes_in_turns q number from n
  pub reads : (number : ℕ) → reads_in_turns p number from n ≡ reads_in_turns q number from n
  pub changes : (drive number : ℕ) → first_turn_of (word_changes drive number p) from n
      ≡ first_turn_of (word_changes drive number q) from n
  pub completions : completions_in_turns p from n ≡ completions_in_turns q from n
  pub counts : (mode : Mode) (address count : ℕ)
      → counts_in_turns p mode address count from n ≡ counts_in_turns q mode address count from n
  pub details : details_in_turns p from n ≡ details_in_turns q from n
  pub details_end : (to : ℕ) → accesses_end p from to ≡ accesses_end q from to
  pub moves : moves_in_turns p from n ≡ moves_in_turns q from n

-- from the turn on that was found, if one was, the edit changes nothing that a search finds
abbrev pub ChangesNoSearch : PastEdit → Past → Option ℕ → Type 0
ChangesNoSearch edit p None = Unit {0}
ChangesNoSearch edit p (Some t) =
    (q : Past) (from n : ℕ) → past_edit edit p ≡ Ok q → t ≤ from → SearchesAlike from n p q

-- so it is with the turn by which an edit fades
abbrev pub FadedEditsChangeNoSearch : Type 0
FadedEditsChangeNoSearch =
    (edit : PastEdit) (to : ℕ) (p : Past) (found : Option ℕ) → fading edit to p ≡ Ok found
    → ChangesNoSearch edit p found
