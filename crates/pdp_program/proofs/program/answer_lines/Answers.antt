-- A session ends by a fault of its start or of its streams.
use Rattle.std.proofs.Common.{ℕ, List, Option, Bool, true, false, Result, Ok, Err, rules, if◌then◌else◌}
use Rattle.pdp_script.specs.declared.faults.Fault.{Fault}
use Rattle.pdp_script.specs.declared.faults.Fault.TheVariants.{NoMemory, OutsideCore, OddAddress, OutsideDisk, NoSuchEvent, ScriptFull, TurnTooLarge, CountOutOfRange, NoSuchPatch, BadLine, LineTooLong, Input, Output, BadImage, BadSetup, NoSuchDrive}
use Rattle.pdp_script.specs.Refusal.{result_map}
use Rattle.pdp_replay.specs.Past.{past_without_events, starting_past}
use Rattle.pdp_replay.specs.Past.Setup.{SetupData, given_setup, setup_checked, has_good_images, has_good_numbers}
use Rattle.pdp_session.specs.Language.{Language}
use Rattle.pdp_session.specs.Pasts.{Pasts, pasts_begun}
use Rattle.pdp_session.specs.Session.{Ends, Session, SessionEnds}
use Rattle.pdp_session.specs.Streams.{StreamsData}
use Rattle.pdp_program.specs.Exit.{CanEnd}
use Rattle.pdp_program.proofs.program.answer_lines.Goals as goal

ends_good : (l : Language) (p : Pasts) (read out : List ℕ) (rest : Option (List ℕ)) (r : Result (Unit {0}) Fault) → SessionEnds l p read out rest r → CanEnd r
ends_good l p read out rest (Ok x) h = tt
ends_good l p read out rest (Err NoMemory) h = tt
ends_good l p read out rest (Err Input) h = tt
ends_good l p read out rest (Err Output) h = tt
ends_good l p read out rest (Err BadImage) h = tt
ends_good l p read out rest (Err BadSetup) h = tt
ends_good l p read out rest (Err OutsideCore) h = absurd h
ends_good l p read out rest (Err OddAddress) h = absurd h
ends_good l p read out rest (Err OutsideDisk) h = absurd h
ends_good l p read out rest (Err NoSuchEvent) h = absurd h
ends_good l p read out rest (Err ScriptFull) h = absurd h
ends_good l p read out rest (Err TurnTooLarge) h = absurd h
ends_good l p read out rest (Err CountOutOfRange) h = absurd h
ends_good l p read out rest (Err NoSuchPatch) h = absurd h
ends_good l p read out rest (Err BadLine) h = absurd h
ends_good l p read out rest (Err LineTooLong) h = absurd h
ends_good l p read out rest (Err NoSuchDrive) h = absurd h

ends_started : (l : Language) (b c : Bool) (s : SetupData) (read out : List ℕ) (rest : Option (List ℕ)) (r : Result (Unit {0}) Fault)
    → Ends l (result_map past_without_events (if b then if c then Ok s else Err BadImage else Err BadSetup)) read out rest r → CanEnd r
ends_started l true true s read out rest r h = ends_good l (pasts_begun (past_without_events s)) read out rest r h
ends_started l true false s read out rest r h = rw h.0 tt
ends_started l false c s read out rest r h = rw h.0 tt

can_end : (l : Language) (s : SetupData) (read out : List ℕ) (rest : Option (List ℕ)) (r : Result (Unit {0}) Fault) → Ends l (starting_past s) read out rest r → CanEnd r
unfolding setup_checked
can_end l s read out rest r h = ends_started l (has_good_numbers s) (has_good_images s) s read out rest r h

session_can_end : (l : Language) (s : SetupData) (before after : StreamsData) (r : Result (Unit {0}) Fault) → Session l (starting_past s) before after r → CanEnd r
session_can_end l s before after r session = can_end l s session.read session.out after.input.unread r session.ends

pub returns-clause-failed : goal.returns-clause-failed
returns-clause-failed g c =
    let ends : CanEnd c.run.result = session_can_end _ (given_setup c.setup_of-setup.result) _ _ _ c.run.ensures.session in
    search rules
