-- The conditions of a search for turns [P]: words in octal, and relations, each a word of its own.
use Rattle.std.specs.Prelude.{ℕ, if◌then◌else◌, List, [], ◌∷◌, codes, Option, None, Some}
use Rattle.std.specs.Option.{option_map, option_or}
use Rattle.std.specs.Str.{bytes_eq}
use Rattle.pdp_word.specs.Number.{number_of}
use Rattle.pdp_kt11.specs.declared.mode.Mode.TheVariants.{Kernel, User}
use Rattle.pdp_replay.specs.declared.ask.turn_condition.Comparand.{Comparand}
use Rattle.pdp_replay.specs.declared.ask.turn_condition.Comparand.TheVariants.{Number, Other}
use Rattle.pdp_replay.specs.declared.ask.turn_condition.Quantity.{Quantity}
use Rattle.pdp_replay.specs.declared.ask.turn_condition.Quantity.TheVariants as quantity
use Rattle.pdp_replay.specs.declared.ask.turn_condition.Relation.{Relation}
use Rattle.pdp_replay.specs.declared.ask.turn_condition.Relation.TheVariants as relation
use Rattle.pdp_replay.specs.declared.ask.turn_condition.TurnCondition.{TurnCondition}
use Rattle.pdp_replay.specs.declared.ask.turn_condition.TurnCondition.TheVariants as condition
use Rattle.pdp_session.specs.Grammar.Arguments.{◌>>=◌, first_of, word_named}

-- a register, by its name
unfoldable pub register_named : List ℕ → Option Quantity
register_named name =
    if bytes_eq name (codes "R0") then Some quantity.R0
    else if bytes_eq name (codes "R1") then Some quantity.R1
    else if bytes_eq name (codes "R2") then Some quantity.R2
    else if bytes_eq name (codes "R3") then Some quantity.R3
    else if bytes_eq name (codes "R4") then Some quantity.R4
    else if bytes_eq name (codes "R5") then Some quantity.R5
    else if bytes_eq name (codes "KSP") then Some quantity.KernelStack
    else if bytes_eq name (codes "USP") then Some quantity.UserStack
    else if bytes_eq name (codes "SP") then Some quantity.Stack
    else if bytes_eq name (codes "PC") then Some quantity.ProgramCounter
    else if bytes_eq name (codes "PS") then Some quantity.ProgramStatus
    else None

unfoldable pub relation_named : List ℕ → Option Relation
relation_named name =
    if bytes_eq name (codes "=") then Some relation.Equal
    else if bytes_eq name (codes "!=") then Some relation.Unequal
    else if bytes_eq name (codes "<") then Some relation.Below
    else if bytes_eq name (codes ">") then Some relation.Above
    else None

-- `core A` or the name of a register, with the words after it
unfoldable pub quantity_first : List (List ℕ) → Option (Quantity × List (List ℕ))
quantity_first words = do
  (name, others) ← first_of words
  if bytes_eq name (codes "core") then
      (do
        (number, after) ← first_of others
        address ← number_of 8 number
        Some (quantity.CoreWord address, after))
      else option_map (λ register. (register, others)) (register_named name)

-- `W`, with the words after it
abbrev pub number_first : List (List ℕ) → Option (Comparand × List (List ℕ))
number_first words = do
  (number, after) ← first_of words
  word ← word_named number
  Some (Number word, after)

-- `W`, or a quantity
unfoldable pub comparand_first : List (List ℕ) → Option (Comparand × List (List ℕ))
comparand_first words = option_or (number_first words)
    (option_map (λ found. (Other found.0, found.1)) (quantity_first words))

-- `= W`, `= X` and so on
abbrev pub compared_first : Quantity → List (List ℕ) → Option (TurnCondition × List (List ℕ))
compared_first quantity words = do
  (name, others) ← first_of words
  relation ← relation_named name
  (comparand, after) ← comparand_first others
  Some (condition.Compared quantity relation comparand, after)

-- `W = W`
unfoldable pub masked_first : Quantity → List (List ℕ) → Option (TurnCondition × List (List ℕ))
masked_first quantity words = do
  (bits, others) ← first_of words
  (equals, rest) ← first_of others
  (number, after) ← first_of rest
  mask ← word_named bits
  word ← word_named number
  if bytes_eq equals (codes "=") then Some (condition.Masked quantity mask word, after) else None

-- `X = W`, `X != W`, `X < W`, `X > W`, with a quantity in place of W too; `X & W = W`
unfoldable pub comparison_first : List (List ℕ) → Option (TurnCondition × List (List ℕ))
comparison_first words = do
  (quantity, others) ← quantity_first words
  (sign, rest) ← first_of others
  if bytes_eq sign (codes "&") then masked_first quantity rest else compared_first quantity others

-- `A`, the address of an instruction
abbrev pub address_first : List (List ℕ) → Option (TurnCondition × List (List ℕ))
address_first words = do
  (number, others) ← first_of words
  address ← word_named number
  Some (condition.At address, others)

-- a condition, with the words after it
unfoldable pub condition_first : List (List ℕ) → Option (TurnCondition × List (List ℕ))
condition_first words = do
  (name, others) ← first_of words
  if bytes_eq name (codes "at") then address_first others
      else if bytes_eq name (codes "kernel") then Some (condition.InMode Kernel, others)
      else if bytes_eq name (codes "user") then Some (condition.InMode User, others)
      else comparison_first words

-- `and C`, with the words after it; nothing where the words end
unfoldable pub and_condition_first : List (List ℕ) → Option (Option TurnCondition × List (List ℕ))
and_condition_first [] = Some (None, [])
and_condition_first (word ∷ words) =
    if bytes_eq word (codes "and") then
    option_map (λ found. (Some found.0, found.1)) (condition_first words)
    else None

-- what the words gave, if none is left
abbrev pub if_at_end : List (List ℕ) → List (Option TurnCondition)
    → Option (List (Option TurnCondition))
if_at_end [] conditions = Some conditions
if_at_end (word ∷ words) conditions = None

-- `C`, `C and C` and so on, up to four
abbrev pub conditions_named : List (List ℕ) → Option (List (Option TurnCondition))
conditions_named words = do
  (first, after_first) ← condition_first words
  (second, after_second) ← and_condition_first after_first
  (third, after_third) ← and_condition_first after_second
  (fourth, after_fourth) ← and_condition_first after_third
  if_at_end after_fourth (Some first ∷ second ∷ third ∷ fourth ∷ [])
