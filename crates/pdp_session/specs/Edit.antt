-- Edits of the past: what a line that is one is answered, and the past that it leaves [P]. Whether it
-- is out of memory comes in as a flag: it is told only if nothing else refuses the edit.
use Rattle.std.specs.Prelude.{Bool, true, false, ℕ, ◌+◌, Result, Ok, Err}
use Rattle.pdp_script.specs.Refusal.{edit_answer, past_left}
use Rattle.pdp_script.specs.declared.faults.Fault.{Fault}
use Rattle.pdp_script.specs.declared.faults.Fault.TheVariants.{NoMemory}
use Rattle.pdp_script.specs.declared.script.ScriptEdit.{ScriptEdit}
use Rattle.pdp_script.specs.declared.script.ScriptEdit.TheVariants.{Insert, Alter, Drop}
use Rattle.pdp_replay.specs.Past.Edit.{patch_edit, past_edit, revert_edit, tape_edit, delay_edit}
use Rattle.pdp_replay.specs.Past.Edit.{event_insertion, event_alteration, event_drop}
use Rattle.pdp_replay.specs.Past.{Past}
use Rattle.pdp_replay.specs.declared.past.past_edit.PastEdit.{PastEdit}
use Rattle.pdp_replay.specs.declared.past.past_edit.PastEdit.TheVariants.{Script, Word}
use Rattle.pdp_session.specs.declared.edit.Edit.{Edit}
use Rattle.pdp_session.specs.declared.edit.Edit.TheVariants as edit
use Rattle.pdp_session.specs.declared.reply.Reply.{Reply}
use Rattle.pdp_session.specs.declared.reply.Reply.TheVariants.{Done, Inserted, Refused}

-- what an edit makes of the past, memory allowing
abbrev pub edit_due : Edit → Past → Result Past Fault
edit_due (edit.Past past_edited) past = past_edit past_edited past
edit_due (edit.RevertCore address) past = revert_edit address past
edit_due (edit.SetTape tape) past = tape_edit tape.items past
edit_due (edit.SetDelay device turns) past = delay_edit device turns past

-- of an edit's result
abbrev pub edit_reply : {X : Type 0} → Result X Fault → Reply
edit_reply (Ok x) = Done
edit_reply (Err fault) = Refused fault

-- of an insertion's result
abbrev pub insertion_reply : Result ℕ Fault → Reply
insertion_reply (Ok number) = Inserted number
insertion_reply (Err fault) = Refused fault

-- of an edit of the script; only an insertion takes memory
abbrev pub script_edit_reply : ScriptEdit → Bool → Past → Reply
script_edit_reply (Insert turn event) refused past = insertion_reply (edit_answer
    (event_insertion turn event past) refused (past.script.given + 1))
script_edit_reply (Alter number turn event) refused past = edit_reply (event_alteration number turn
    event past)
script_edit_reply (Drop number) refused past = edit_reply (event_drop number past)

-- of an edit that can also be asked about
abbrev pub past_edit_reply : PastEdit → Bool → Past → Reply
past_edit_reply (Script edit) refused past = script_edit_reply edit refused past
past_edit_reply (Word patch) refused past = edit_reply {X = Unit {0}} (edit_answer
    (patch_edit patch past) refused tt)

-- of any edit
abbrev pub reply_to_edit : Edit → Bool → Past → Reply
reply_to_edit (edit.Past past_edited) refused past = past_edit_reply past_edited refused past
reply_to_edit (edit.RevertCore address) refused past = edit_reply {X = Unit {0}} (edit_answer
    (revert_edit address past) refused tt)
reply_to_edit (edit.SetTape tape) refused past = edit_reply {X = Unit {0}} (edit_answer
    (tape_edit tape.items past) refused tt)
reply_to_edit (edit.SetDelay device turns) refused past = edit_reply (delay_edit device turns past)

abbrev pub script_edit_leaves : ScriptEdit → Bool → Past → Past
script_edit_leaves (Insert turn event) refused past = past_left (event_insertion turn event past)
    refused past
script_edit_leaves (Alter number turn event) refused past = past_left (event_alteration number turn
    event past) false past
script_edit_leaves (Drop number) refused past = past_left (event_drop number past) false past

abbrev pub past_edit_leaves : PastEdit → Bool → Past → Past
past_edit_leaves (Script edit) refused past = script_edit_leaves edit refused past
past_edit_leaves (Word patch) refused past = past_left (patch_edit patch past) refused past

abbrev pub edit_leaves : Edit → Bool → Past → Past
edit_leaves (edit.Past past_edited) refused past = past_edit_leaves past_edited refused past
edit_leaves (edit.RevertCore address) refused past = past_left (revert_edit address past) refused
    past
edit_leaves (edit.SetTape tape) refused past = past_left (tape_edit tape.items past) refused past
edit_leaves (edit.SetDelay device turns) refused past = past_left (delay_edit device turns past)
    false past

-- was this line refused as out of memory?
abbrev pub wants_memory : Reply → Bool
wants_memory (Refused NoMemory) = true
wants_memory _ = false
