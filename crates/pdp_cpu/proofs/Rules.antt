-- What attributes cite: lemmas by their subject, and definitions that are opened together, as an
-- `unfolding` of a name opens all that stands on the name's own line.
use Rattle.pdp_operand.specs.Phases.Course.{follow}
use Rattle.pdp_operand.specs.Phases.Phase.{run}
use Rattle.pdp_cpu.proofs.CalmDrives.{drives_stay_none}
use Rattle.pdp_cpu.proofs.CalmTurns.{calm_later, calm_start, instructs_next}
use Rattle.pdp_cpu.proofs.KeptTexts.{kept_one, length_before, text_and_one, text_before}
use Rattle.pdp_cpu.proofs.TurnLaws.{turn_keeps_stamps, turn_keeps_words}
use Rattle.pdp_cpu.specs.Handbook.Due.{serve, serving, take_stack, take_trace}
use Rattle.pdp_cpu.specs.Handbook.Turn.{one_turn, printed_in, punched_in, turn_act}
use Rattle.pdp_cpu.specs.Handbook.TurnDisk.{disk_begun}
use Rattle.pdp_cpu.specs.Handbook.TurnTrap.{turn_trap}

-- for goals on a burst, before its first turn and after each
pub ruleset bursts = (calm_start, calm_later)

-- for goals on a burst of which more is known: that its turns are instructions and leave the drives
pub ruleset calm_bursts = (instructs_next, drives_stay_none)

-- for goals on a text with a byte more
pub ruleset longer_texts = (kept_one, text_and_one)

-- for goals on a text without its later bytes
pub ruleset shorter_texts = (text_before, length_before)

-- for goals on how many words and stamps a turn leaves
pub ruleset sizes = (turn_keeps_words, turn_keeps_stamps)

-- opens what a turn prints and punches
unfoldable pub texts_of_turn : Type 0
unfolding printed_in punched_in
texts_of_turn = Unit {0}

-- opens a turn
unfoldable pub whole_turn : Type 0
unfolding one_turn turn_act printed_in punched_in
whole_turn = Unit {0}

-- opens what is due in a turn
unfoldable pub what_is_due : Type 0
unfolding serving take_trace take_stack serve run follow
what_is_due = Unit {0}

-- opens a turn and its trap
unfoldable pub whole_turn_with_trap : Type 0
unfolding one_turn turn_act turn_trap printed_in punched_in
whole_turn_with_trap = Unit {0}

-- opens a turn and its disk
unfoldable pub whole_turn_with_disk : Type 0
unfolding one_turn turn_act disk_begun printed_in punched_in
whole_turn_with_disk = Unit {0}
