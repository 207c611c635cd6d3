-- Conditions on a turn: on the state of the machine before it, and on its act [P].
use Rattle.std.specs.Prelude.{ℕ, ◌≡◌, ◌<◌, ◌/◌, ◌==◌, Bool, true, false, not, nat_lt, bit_and, List}
use Rattle.std.specs.Prelude.{[], ◌∷◌, Option, None, Some, slice_get, Result, Ok}
use Rattle.std.specs.Prelude.{if◌then◌else◌}
use Rattle.std.specs.List.{list_all}
use Rattle.std.specs.Option.{option_or}
use Rattle.pdp_kt11.specs.Handbook.Mode.{mode_bits}
use Rattle.pdp_operand.specs.Handbook.Processor.{register_of}
use Rattle.pdp_operand.specs.Handbook.RegisterId.{stack_of}
use Rattle.pdp_operand.specs.Phases.World.{World}
use Rattle.pdp_operand.specs.declared.processor.RegisterId.TheVariants as register
use Rattle.pdp_io_page.specs.Handbook.Status.{status_word}
use Rattle.pdp_cpu.specs.Turns.CalmTurns.{after_calm_turns}
use Rattle.pdp_cpu.specs.Handbook.MachineState.{MachineWithTexts}
use Rattle.pdp_cpu.specs.declared.act.Act.{Act}
use Rattle.pdp_cpu.specs.declared.act.Act.TheVariants.{Instr}
use Rattle.pdp_script.specs.Refusal.{result_map}
use Rattle.pdp_script.specs.declared.faults.Fault.{Fault}
use Rattle.pdp_replay.specs.Past.Edit.{core_word_at}
use Rattle.pdp_replay.specs.Past.Setup.{SetupData}
use Rattle.pdp_replay.specs.Ask.Writes.{then_checked}
use Rattle.pdp_replay.specs.declared.ask.turn_condition.Comparand.{Comparand}
use Rattle.pdp_replay.specs.declared.ask.turn_condition.Comparand.TheVariants as comparand
use Rattle.pdp_replay.specs.declared.ask.turn_condition.Quantity.{Quantity}
use Rattle.pdp_replay.specs.declared.ask.turn_condition.Quantity.TheVariants as quantity
use Rattle.pdp_replay.specs.declared.ask.turn_condition.Relation.{Relation}
use Rattle.pdp_replay.specs.declared.ask.turn_condition.Relation.TheVariants as relation
use Rattle.pdp_replay.specs.declared.ask.turn_condition.TurnCondition.{TurnCondition}
use Rattle.pdp_replay.specs.declared.ask.turn_condition.TurnCondition.TheVariants as condition

-- the word of a quantity in a world; None for a word past the end of core
abbrev pub quantity_in : Quantity → World → Option ℕ
quantity_in quantity.R0 w = Some (register_of w.processor register.R0)
quantity_in quantity.R1 w = Some (register_of w.processor register.R1)
quantity_in quantity.R2 w = Some (register_of w.processor register.R2)
quantity_in quantity.R3 w = Some (register_of w.processor register.R3)
quantity_in quantity.R4 w = Some (register_of w.processor register.R4)
quantity_in quantity.R5 w = Some (register_of w.processor register.R5)
quantity_in quantity.KernelStack w = Some (register_of w.processor register.KernelStack)
quantity_in quantity.UserStack w = Some (register_of w.processor register.UserStack)
quantity_in quantity.Stack w = Some (register_of w.processor (stack_of
    w.bus.io_page.status.mode))
quantity_in quantity.ProgramCounter w = Some (register_of w.processor register.ProgramCounter)
quantity_in quantity.ProgramStatus w = Some (status_word w.bus.io_page.status)
quantity_in (quantity.CoreWord address) w = slice_get w.bus.core (address / 2)

-- is one number in this relation to another?
abbrev pub is_related : Relation → ℕ → ℕ → Bool
is_related relation.Equal a b = a == b
is_related relation.Unequal a b = not (a == b)
is_related relation.Below a b = nat_lt a b
is_related relation.Above a b = nat_lt b a

-- are two words there, and in this relation?
abbrev pub are_related : Relation → Option ℕ → Option ℕ → Bool
are_related relation None second = false
are_related relation (Some a) None = false
are_related relation (Some a) (Some b) = is_related relation a b

-- the word that a quantity is compared with
abbrev pub comparand_in : Comparand → World → Option ℕ
comparand_in (comparand.Number word) w = Some word
comparand_in (comparand.Other quantity) w = quantity_in quantity w

-- is a word there, and has it the property?
abbrev pub is_there_with : (ℕ → Bool) → Option ℕ → Bool
is_there_with holds None = false
is_there_with holds (Some word) = holds word

-- does the world before a turn meet a condition?
abbrev pub is_met_in : TurnCondition → World → Bool
is_met_in (condition.Compared quantity relation comparand) w =
    are_related relation (quantity_in quantity w) (comparand_in comparand w)
is_met_in (condition.Masked quantity mask word) w =
    is_there_with (λ now. bit_and now mask == word) (quantity_in quantity w)
is_met_in (condition.At address) w = register_of w.processor register.ProgramCounter == address
is_met_in (condition.InMode mode) w = mode_bits w.bus.io_page.status.mode == mode_bits mode

-- is an act an instruction?
abbrev pub is_instruction : Act → Bool
is_instruction Instr = true
is_instruction _ = false

-- is an act as a condition asks? One on the address of an instruction asks for an instruction
abbrev pub fits : TurnCondition → Act → Bool
fits (condition.At address) act = is_instruction act
fits _ act = true

-- the same of conditions that may be missing, and of all of some
abbrev pub is_met_if_there : Option TurnCondition → World → Bool
is_met_if_there None w = true
is_met_if_there (Some condition) w = is_met_in condition w

abbrev pub fits_if_there : Option TurnCondition → Act → Bool
fits_if_there None act = true
fits_if_there (Some condition) act = fits condition act

abbrev pub all_met_in : List (Option TurnCondition) → World → Bool
all_met_in conditions w = list_all (λ condition. is_met_if_there condition w) conditions

abbrev pub all_fit : List (Option TurnCondition) → Act → Bool
all_fit conditions act = list_all (λ condition. fits_if_there condition act) conditions

-- the address of the instruction that a condition asks for, if it is on one
abbrev pub address_if_there : Option TurnCondition → Option ℕ
address_if_there (Some (condition.At address)) = Some address
address_if_there _ = None

-- that of the first of some that is on one
unfoldable pub address_asked : List (Option TurnCondition) → Option ℕ
address_asked [] = None
address_asked (condition ∷ others) = option_or (address_if_there condition) (address_asked others)

-- the number of the core word that a condition is on, if it is on one; of two quantities either may
-- change
abbrev pub word_of_quantity : Quantity → Option ℕ
word_of_quantity (quantity.CoreWord address) = Some (address / 2)
word_of_quantity _ = None

abbrev pub word_compared : Comparand → Quantity → Option ℕ
word_compared (comparand.Number word) quantity = word_of_quantity quantity
word_compared (comparand.Other other) quantity = None

abbrev pub word_of_condition : TurnCondition → Option ℕ
word_of_condition (condition.Compared quantity relation comparand) =
    word_compared comparand quantity
word_of_condition (condition.Masked quantity mask word) = word_of_quantity quantity
word_of_condition _ = None

-- the same, if there is a condition and a world doesn't meet it: until the word changes none does
abbrev pub unmet_word_if_there : Option TurnCondition → World → Option ℕ
unmet_word_if_there None w = None
unmet_word_if_there (Some condition) w =
    if is_met_in condition w then None else word_of_condition condition

-- that of the first of some
unfoldable pub unmet_word : List (Option TurnCondition) → World → Option ℕ
unmet_word [] w = None
unmet_word (condition ∷ others) w =
    option_or (unmet_word_if_there condition w) (unmet_word others w)

-- is a quantity there? A word of core is if it is in core, and its address even
abbrev pub quantity_checked : Quantity → SetupData → Result (Unit {0}) Fault
quantity_checked (quantity.CoreWord address) s = result_map (λ _. tt) (core_word_at address s)
quantity_checked _ s = Ok tt

-- is what a quantity is compared with there?
abbrev pub comparand_checked : Comparand → SetupData → Result (Unit {0}) Fault
comparand_checked (comparand.Number word) s = Ok tt
comparand_checked (comparand.Other quantity) s = quantity_checked quantity s

-- can a condition be asked?
abbrev pub condition_checked : TurnCondition → SetupData → Result (Unit {0}) Fault
condition_checked (condition.Compared quantity relation comparand) s =
    then_checked (quantity_checked quantity s) (comparand_checked comparand s)
condition_checked (condition.Masked quantity mask word) s = quantity_checked quantity s
condition_checked _ s = Ok tt

abbrev pub checked_if_there : Option TurnCondition → SetupData → Result (Unit {0}) Fault
checked_if_there None s = Ok tt
checked_if_there (Some condition) s = condition_checked condition s

-- can all of some be asked? The first that can't is told
unfoldable pub conditions_checked : List (Option TurnCondition) → SetupData
    → Result (Unit {0}) Fault
conditions_checked [] s = Ok tt
conditions_checked (condition ∷ others) s =
    then_checked (checked_if_there condition s) (conditions_checked others s)

-- a machine meets them before none of its next n turns without events
abbrev pub AreUnmet : List (Option TurnCondition) → ℕ → MachineWithTexts → Type 0
AreUnmet conditions n m =
    (k : ℕ) → k < n → all_met_in conditions (after_calm_turns k m).state.world ≡ false
