-- Conditions on a register, which a burst tests before each turn. No rule of the handbook is here.
use Rattle.std.specs.Prelude.{ℕ, ◌==◌, ◌&&◌, Bool, true, false, bit_and, List, [], ◌∷◌, Option}
use Rattle.std.specs.Prelude.{None, Some, is_none, if◌then◌else◌}
use Rattle.std.specs.List.{list_all}
use Rattle.std.specs.Option.{option_or}
use Rattle.pdp_operand.specs.Handbook.Processor.{register_of}
use Rattle.pdp_operand.specs.Phases.World.{World}
use Rattle.pdp_operand.specs.declared.processor.RegisterId.{RegisterId}
use Rattle.pdp_operand.specs.declared.processor.RegisterId.TheVariants as register
use Rattle.pdp_replay.specs.Ask.TurnConditions.{is_met_in, is_related, word_of_condition}
use Rattle.pdp_replay.specs.declared.ask.register_test.RegisterTest.{RegisterTest}
use Rattle.pdp_replay.specs.declared.ask.register_test.WordTest.{WordTest}
use Rattle.pdp_replay.specs.declared.ask.register_test.WordTest.TheVariants.{Masked, Related}
use Rattle.pdp_replay.specs.declared.ask.turn_condition.Comparand.TheVariants as comparand
use Rattle.pdp_replay.specs.declared.ask.turn_condition.Quantity.{Quantity}
use Rattle.pdp_replay.specs.declared.ask.turn_condition.Quantity.TheVariants as quantity
use Rattle.pdp_replay.specs.declared.ask.turn_condition.TurnCondition.{TurnCondition}
use Rattle.pdp_replay.specs.declared.ask.turn_condition.TurnCondition.TheVariants as condition

-- is a word as a test asks?
abbrev pub word_passes : WordTest → ℕ → Bool
word_passes (Related relation word) now = is_related relation now word
word_passes (Masked mask word) now = bit_and now mask == word

-- does the world before a turn meet the test of a register?
abbrev pub is_test_met : RegisterTest → World → Bool
is_test_met t w = word_passes t.test (register_of w.processor t.register)

-- the register that a quantity is in each state, if it is one: SP is one or another by the mode
abbrev pub register_of_quantity : Quantity → Option RegisterId
register_of_quantity quantity.R0 = Some register.R0
register_of_quantity quantity.R1 = Some register.R1
register_of_quantity quantity.R2 = Some register.R2
register_of_quantity quantity.R3 = Some register.R3
register_of_quantity quantity.R4 = Some register.R4
register_of_quantity quantity.R5 = Some register.R5
register_of_quantity quantity.KernelStack = Some register.KernelStack
register_of_quantity quantity.UserStack = Some register.UserStack
register_of_quantity quantity.ProgramCounter = Some register.ProgramCounter
register_of_quantity quantity.Stack = None
register_of_quantity quantity.ProgramStatus = None
register_of_quantity (quantity.CoreWord address) = None

-- a test of the register, if there is one
abbrev pub test_with : WordTest → Option RegisterId → Option RegisterTest
test_with test None = None
test_with test (Some id) = Some (record { register = id; test = test })

-- the test of a register that a condition is, if it is one
abbrev pub test_of : TurnCondition → Option RegisterTest
test_of (condition.Compared quantity relation (comparand.Number word)) =
    test_with (Related relation word) (register_of_quantity quantity)
test_of (condition.Compared quantity relation (comparand.Other other)) = None
test_of (condition.Masked quantity mask word) =
    test_with (Masked mask word) (register_of_quantity quantity)
test_of (condition.At address) = None
test_of (condition.InMode mode) = None

-- the same, if there is a condition and a world doesn't meet it
abbrev pub unmet_test_if_there : Option TurnCondition → World → Option RegisterTest
unmet_test_if_there None w = None
unmet_test_if_there (Some condition) w = if is_met_in condition w then None else test_of condition

-- that of the first of some
unfoldable pub unmet_register : List (Option TurnCondition) → World → Option RegisterTest
unmet_register [] w = None
unmet_register (condition ∷ others) w =
    option_or (unmet_test_if_there condition w) (unmet_register others w)

-- is a condition, if there is one, on neither the address of an instruction nor a word of core nor
-- a register? A search for such conditions alone looks at each turn
abbrev pub is_stepped_if_there : Option TurnCondition → Bool
is_stepped_if_there None = true
is_stepped_if_there (Some (condition.At address)) = false
is_stepped_if_there (Some other) = is_none (word_of_condition other) && is_none (test_of other)

abbrev pub all_stepped : List (Option TurnCondition) → Bool
all_stepped conditions = list_all is_stepped_if_there conditions
