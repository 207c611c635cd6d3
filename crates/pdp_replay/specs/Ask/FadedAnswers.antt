-- What the answers to a question about two pasts have to do with each other, if the runs are one
-- from a turn on [P].
use Rattle.std.specs.Prelude.{ℕ, ◌≡◌, ◌≤◌, ◌/◌, ◌++◌, ◌↔◌, List, None, Ok, Option, Some}
use Rattle.pdp_replay.specs.Ask.Answer.{answer, first_turn_needed, question_checked}
use Rattle.pdp_replay.specs.Ask.Fadings.{fading}
use Rattle.pdp_replay.specs.Ask.LastWrites.{last_write_at}
use Rattle.pdp_replay.specs.Past.{Past}
use Rattle.pdp_replay.specs.Past.Edit.{past_edit}
use Rattle.pdp_replay.specs.Run.States.{punched_at, text_at}
use Rattle.pdp_replay.specs.declared.ask.last_write.LastWrite.{LastWrite}
use Rattle.pdp_replay.specs.declared.ask.question.Question.{Question}
use Rattle.pdp_replay.specs.declared.ask.question.Question.TheVariants as question
use Rattle.pdp_replay.specs.declared.past.past_edit.PastEdit.{PastEdit}

-- two texts grew by the same bytes
pub record GrowAlike (one other one_later other_later : List ℕ) : Type 0 where
  pub added : List ℕ
  pub one_is : one_later ≡ one ++ added
  pub other_is : other_later ≡ other ++ added

-- a write of turn t or of a later turn is the last one in both pasts, or in neither
abbrev pub IsLastInBoth : ℕ → Option LastWrite → Option LastWrite → Type 0
IsLastInBoth t one other =
    (write : LastWrite) → t ≤ write.turn → (one ≡ Some write) ↔ (other ≡ Some write)

-- The answers are the same. But what came out before turn t may differ, and what was written last
-- before it: from then on both texts grow alike, and each later write is in both.
abbrev pub AnswersAlike : ℕ → Question → Past → Past → Type 0
AnswersAlike t (question.Text turn) p q =
    GrowAlike (text_at p t) (text_at q t) (text_at p turn) (text_at q turn)
AnswersAlike t (question.Punched turn) p q =
    GrowAlike (punched_at p t) (punched_at q t) (punched_at p turn) (punched_at q turn)
AnswersAlike t (question.Last turn address) p q =
    IsLastInBoth t (last_write_at p turn (address / 2)) (last_write_at q turn (address / 2))
AnswersAlike t asked p q = answer asked p ≡ answer asked q

-- from the turn on that was found, if one was, the edit changes no answer that needs no earlier
-- turn
abbrev pub ChangesNoAnswer : PastEdit → Past → Option ℕ → Type 0
ChangesNoAnswer edit p None = Unit {0}
ChangesNoAnswer edit p (Some t) =
    (q : Past) (asked : Question) → past_edit edit p ≡ Ok q → t ≤ first_turn_needed asked
    → AnswersAlike t asked p q

-- so it is with the turn by which an edit fades
abbrev pub FadedEditsChangeNoAnswer : Type 0
FadedEditsChangeNoAnswer =
    (edit : PastEdit) (to : ℕ) (p : Past) (found : Option ℕ) → fading edit to p ≡ Ok found
    → ChangesNoAnswer edit p found

-- and whether it fades or not, the same questions can be asked, and the others are refused alike
abbrev pub EditsLeaveWhatCanBeAsked : Type 0
EditsLeaveWhatCanBeAsked =
    (edit : PastEdit) (p q : Past) (asked : Question) → past_edit edit p ≡ Ok q
    → question_checked asked p ≡ question_checked asked q
