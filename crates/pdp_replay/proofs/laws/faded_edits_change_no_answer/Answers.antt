use Rattle.pdp_replay.proofs.ask.FadedAnswers.{edits_leave_what_can_be_asked, faded_edits_change_no_answer}
use Rattle.pdp_replay.proofs.ask.FadedSearches.{faded_edits_change_no_search}
use Rattle.pdp_replay.proofs.laws.faded_edits_change_no_answer.Goals as goal

pub returns-clause-answers : goal.returns-clause-answers
returns-clause-answers c = λ edit to p found is. faded_edits_change_no_answer edit to p found is

pub returns-clause-asked : goal.returns-clause-asked
returns-clause-asked c = λ edit p q asked made. edits_leave_what_can_be_asked edit p q asked made

pub returns-clause-searches : goal.returns-clause-searches
returns-clause-searches c = λ edit to p found is. faded_edits_change_no_search edit to p found is
