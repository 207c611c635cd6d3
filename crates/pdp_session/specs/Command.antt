-- What a command of the session language is answered, and the past that it leaves [P].
use Rattle.std.specs.Prelude.{Bool, Result, Ok, Err}
use Rattle.pdp_script.specs.Refusal.{edit_answer, question_answer, past_left}
use Rattle.pdp_script.specs.declared.faults.Fault.{Fault}
use Rattle.pdp_replay.specs.Ask.Answer.{answer_to}
use Rattle.pdp_replay.specs.Past.Edit.{drives_edit}
use Rattle.pdp_replay.specs.Past.{Past}
use Rattle.pdp_replay.specs.declared.ask.question.Value.{Value}
use Rattle.pdp_session.specs.declared.command.Command.{Command}
use Rattle.pdp_session.specs.declared.command.Command.TheVariants.{Edit, UseEightDrives}
use Rattle.pdp_session.specs.declared.command.Command.TheVariants.{ListPatches, Ask}
use Rattle.pdp_session.specs.declared.reply.Reply.{Reply}
use Rattle.pdp_session.specs.declared.reply.Reply.TheVariants.{Shown, Listed, Refused}
use Rattle.pdp_session.specs.Edit.{edit_leaves, edit_reply, reply_to_edit}

-- of a question's result
abbrev pub ask_reply : Result Value Fault → Reply
ask_reply (Ok value) = Shown value
ask_reply (Err fault) = Refused fault

abbrev pub command_reply : Command → Bool → Past → Reply
command_reply (Edit edit) refused past = reply_to_edit edit refused past
command_reply UseEightDrives refused past = edit_reply {X = Unit {0}} (edit_answer
    (drives_edit past) refused tt)
command_reply ListPatches refused past = Listed
command_reply (Ask question) refused past = ask_reply (question_answer (answer_to question past)
    refused)

abbrev pub command_leaves : Command → Bool → Past → Past
command_leaves (Edit edit) refused past = edit_leaves edit refused past
command_leaves UseEightDrives refused past = past_left (drives_edit past) refused past
command_leaves ListPatches refused past = past
command_leaves (Ask question) refused past = past
