-- Edits that are never refused as out of memory.
use Rattle.std.proofs.Common.{◌≡◌, ℕ, Bool, true, false, cond, refl, ◌∙◌, Option, None, Some, Result, Ok, Err, List, length, nat_le, nat_lt}
use Rattle.pdp_script.specs.Entries.{entry_of, altered_entries, without}
use Rattle.pdp_script.specs.declared.entry.Entry.{Entry}
use Rattle.pdp_script.specs.Refusal.{for_memory, result_map}
use Rattle.pdp_script.specs.Script.{ScriptData, of_entry}
use Rattle.pdp_unibus.specs.Handbook.LastTurn.{last_turn}
use Rattle.pdp_script.specs.declared.faults.Fault.{Fault}
use Rattle.pdp_script.specs.declared.faults.Fault.TheVariants.{NoMemory, OutsideCore, OddAddress, OutsideDisk, NoSuchEvent, ScriptFull, TurnTooLarge, CountOutOfRange, NoSuchPatch, BadLine, LineTooLong, Input, Output, BadImage, BadSetup, NoSuchDrive}
use Rattle.pdp_unibus.specs.declared.event.Event.{Event}
use Rattle.pdp_io_page.specs.declared.delays.DelayedDevice.{DelayedDevice}
use Rattle.pdp_replay.specs.Past.Edit.{event_alteration, event_drop, tape_edit, delay_edit}
use Rattle.pdp_replay.specs.Past.{Past}
use Rattle.pdp_replay.specs.Past.Setup.{SetupData, tape_bytes}

mapped : {X Y : Type 0} (f : X → Y) (r : Result X Fault) → for_memory (result_map f r) ≡ for_memory r
mapped f (Ok x) = refl
mapped f (Err NoMemory) = refl
mapped f (Err OutsideCore) = refl
mapped f (Err OddAddress) = refl
mapped f (Err OutsideDisk) = refl
mapped f (Err NoSuchEvent) = refl
mapped f (Err ScriptFull) = refl
mapped f (Err TurnTooLarge) = refl
mapped f (Err CountOutOfRange) = refl
mapped f (Err NoSuchPatch) = refl
mapped f (Err BadLine) = refl
mapped f (Err LineTooLong) = refl
mapped f (Err Input) = refl
mapped f (Err Output) = refl
mapped f (Err BadImage) = refl
mapped f (Err BadSetup) = refl
mapped f (Err NoSuchDrive) = refl

entry_edit : (found : Option Entry) (edited : Entry → List Entry) (script : ScriptData) → for_memory (of_entry found edited script) ≡ false
entry_edit None edited script = refl
entry_edit (Some entry) edited script = refl

late_or_entry : (late : Bool) (found : Option Entry) (edited : Entry → List Entry) (script : ScriptData)
    → for_memory (cond late (Err TurnTooLarge) (of_entry found edited script)) ≡ false
late_or_entry true found edited script = refl
late_or_entry false found edited script = entry_edit found edited script

pub alteration_needs_none : (number turn : ℕ) (event : Event) (p : Past) → for_memory (event_alteration number turn event p) ≡ false
unfolding event_alteration
alteration_needs_none number turn event p =
    mapped _ _ ∙ late_or_entry (nat_lt last_turn turn) (entry_of p.script.entries number)
    (λ old. altered_entries p.script.entries old (record { number = number; turn = turn; event = event })) p.script

pub drop_needs_none : (number : ℕ) (p : Past) → for_memory (event_drop number p) ≡ false
unfolding event_drop
drop_needs_none number p = mapped _ _ ∙ entry_edit (entry_of p.script.entries number) (λ _. without p.script.entries number) p.script

short_or_bad : (short : Bool) (s : SetupData) → for_memory (cond short (Ok s) (Err BadImage)) ≡ false
short_or_bad true s = refl
short_or_bad false s = refl

pub tape_needs_none : (tape : List ℕ) (p : Past) → for_memory (tape_edit tape p) ≡ false
unfolding tape_edit
tape_needs_none tape p = mapped _ _ ∙ short_or_bad (nat_le (length tape) tape_bytes) _

early_or_large : (early : Bool) (s : SetupData) → for_memory (cond early (Ok s) (Err TurnTooLarge)) ≡ false
early_or_large true s = refl
early_or_large false s = refl

pub delay_needs_none : (device : DelayedDevice) (delay : ℕ) (p : Past) → for_memory (delay_edit device delay p) ≡ false
unfolding delay_edit
delay_needs_none device delay p = mapped _ _ ∙ early_or_large (nat_le delay last_turn) _

-- what the law of edits cites
pub ruleset needs_no_memory = (alteration_needs_none, drop_needs_none, tape_needs_none, delay_needs_none)
