-- Conditions that a turn can't meet whose PC is elsewhere, or before which a word of core is as it was.
use Rattle.std.proofs.Common.{◌≡◌, ℕ, ◌<◌, ◌/◌, ◌==◌, ◌&&◌, ◌∙◌, Bool, true, List, [], ◌∷◌, Ok, Option, None, Some, ap, arith, false, get_or, if◌then◌else◌, length, refl, subst, sym}
use Rattle.std.specs.Option.{option_or}
use Rattle.std.specs.Prelude.{bit_and, slice_get}
use Rattle.std.proofs.lemmas.Bool.{and_right}
use Rattle.std.proofs.lemmas.Option.{slice_get-get_or}
use Rattle.pdp_operand.specs.Handbook.Processor.{register_of}
use Rattle.pdp_operand.specs.Phases.World.{World}
use Rattle.pdp_operand.specs.declared.processor.RegisterId.TheVariants.{ProgramCounter}
use Rattle.pdp_cpu.specs.Turns.CalmTurns.{PassesNone, WordStays, after_calm_turns}
use Rattle.pdp_cpu.proofs.CalmTurns.{size_stays}
use Rattle.pdp_cpu.specs.Handbook.MachineState.{MachineWithTexts}
use Rattle.pdp_replay.specs.Ask.TurnConditions.{AreUnmet, address_asked, all_met_in, are_related, checked_if_there, conditions_checked, is_met_in, is_there_with, quantity_in, unmet_word, word_of_condition, word_of_quantity}
use Rattle.pdp_replay.specs.Ask.Writes.{then_checked}
use Rattle.pdp_replay.specs.Past.Setup.{SetupData}
use Rattle.pdp_replay.specs.declared.ask.turn_condition.Comparand.TheVariants as comparand
use Rattle.pdp_replay.specs.declared.ask.turn_condition.Quantity.{Quantity}
use Rattle.pdp_replay.specs.declared.ask.turn_condition.Quantity.TheVariants as quantity
use Rattle.pdp_replay.specs.declared.ask.turn_condition.TurnCondition.{TurnCondition}
use Rattle.pdp_replay.specs.declared.ask.turn_condition.TurnCondition.TheVariants as condition

same_address : (a b : ℕ) → ◌≡◌ {A = Option ℕ} (Some a) (Some b) → a ≡ b
same_address a b is = cc is

-- a world with PC elsewhere than at the address asked for doesn't meet all conditions
unmet_elsewhere : (conditions : List (Option TurnCondition)) (address : ℕ) (w : World) → address_asked conditions ≡ Some address
    → (register_of w.processor ProgramCounter == address) ≡ false → all_met_in conditions w ≡ false
unfolding address_asked
unmet_elsewhere [] address w asked elsewhere = absurd (cc asked)
unmet_elsewhere (None ∷ others) address w asked elsewhere = unmet_elsewhere others address w asked elsewhere
unmet_elsewhere (Some (condition.At there) ∷ others) address w asked elsewhere =
    ap (λ met. met && all_met_in others w)
    (subst (λ a. (register_of w.processor ProgramCounter == a) ≡ false) (sym (same_address there address asked)) elsewhere)
unmet_elsewhere (Some (condition.Compared quantity relation comparand) ∷ others) address w asked elsewhere =
    and_right (is_met_in (condition.Compared quantity relation comparand) w) (all_met_in others w) (unmet_elsewhere others address w asked elsewhere)
unmet_elsewhere (Some (condition.Masked quantity mask word) ∷ others) address w asked elsewhere =
    and_right (is_met_in (condition.Masked quantity mask word) w) (all_met_in others w) (unmet_elsewhere others address w asked elsewhere)
unmet_elsewhere (Some (condition.InMode mode) ∷ others) address w asked elsewhere =
    and_right (is_met_in (condition.InMode mode) w) (all_met_in others w) (unmet_elsewhere others address w asked elsewhere)

pc_of : (w : World) → register_of w.processor ProgramCounter ≡ w.processor.counter
unfolding register_of
pc_of w = refl

pub none_unmet : (conditions : List (Option TurnCondition)) (address n : ℕ) (m : MachineWithTexts) → address_asked conditions ≡ Some address
    → PassesNone address n m → AreUnmet conditions n m
none_unmet conditions address n m asked none =
    λ k below.
    let w : World = (after_calm_turns k m).state.world in
    unmet_elsewhere conditions address w asked (ap (λ pc. pc == address) (pc_of w) ∙ none k below)

-- a quantity that is a word of core is the same in worlds in which that word is
same_quantity : (q : Quantity) (number : ℕ) (v w : World) → word_of_quantity q ≡ Some number
    → slice_get w.bus.core number ≡ slice_get v.bus.core number → quantity_in q w ≡ quantity_in q v
same_quantity quantity.R0 number v w on same = absurd (cc on)
same_quantity quantity.R1 number v w on same = absurd (cc on)
same_quantity quantity.R2 number v w on same = absurd (cc on)
same_quantity quantity.R3 number v w on same = absurd (cc on)
same_quantity quantity.R4 number v w on same = absurd (cc on)
same_quantity quantity.R5 number v w on same = absurd (cc on)
same_quantity quantity.KernelStack number v w on same = absurd (cc on)
same_quantity quantity.UserStack number v w on same = absurd (cc on)
same_quantity quantity.Stack number v w on same = absurd (cc on)
same_quantity quantity.ProgramCounter number v w on same = absurd (cc on)
same_quantity quantity.ProgramStatus number v w on same = absurd (cc on)
same_quantity (quantity.CoreWord address) number v w on same =
    subst (λ k. slice_get w.bus.core k ≡ slice_get v.bus.core k) (sym (same_address (address / 2) number on)) same

-- so a condition on it is met in both or in none
same_met : (c : TurnCondition) (number : ℕ) (v w : World) → word_of_condition c ≡ Some number
    → slice_get w.bus.core number ≡ slice_get v.bus.core number → is_met_in c w ≡ is_met_in c v
same_met (condition.Compared q relation (comparand.Number word)) number v w on same =
    ap (λ now. are_related relation now (Some word)) (same_quantity q number v w on same)
same_met (condition.Compared q relation (comparand.Other other)) number v w on same = absurd (cc on)
same_met (condition.Masked q mask word) number v w on same =
    ap (is_there_with (λ now. bit_and now mask == word)) (same_quantity q number v w on same)
same_met (condition.At there) number v w on same = absurd (cc on)
same_met (condition.InMode mode) number v w on same = absurd (cc on)

-- the word that is first of those of two, of which the first is by a condition that may be met
unmet_first : (c : TurnCondition) (others : List (Option TurnCondition)) (number : ℕ) (v w : World) (met : Bool) → is_met_in c v ≡ met
    → option_or (if met then None else word_of_condition c) (unmet_word others v) ≡ Some number
    → slice_get w.bus.core number ≡ slice_get v.bus.core number
    → (unmet_word others v ≡ Some number → all_met_in others w ≡ false)
    → (is_met_in c w && all_met_in others w) ≡ false
unmet_first c others number v w true here is same later = and_right (is_met_in c w) (all_met_in others w) (later is)
unmet_first c others number v w false here is same later = by (word_of_condition c) refl
  where
    by : (o : Option ℕ) → word_of_condition c ≡ o → (is_met_in c w && all_met_in others w) ≡ false
    by None on = and_right (is_met_in c w) (all_met_in others w) (later (subst (λ o. option_or o (unmet_word others v) ≡ Some number) on is))
    by (Some k) on =
        let found = subst (λ o. option_or o (unmet_word others v) ≡ Some number) on is in
        let its = on ∙ ap Some (same_address k number found) in
        ap (λ met. met && all_met_in others w) (same_met c number v w its same ∙ here)

-- a world with the same word in core doesn't meet all conditions
unmet_with_word : (conditions : List (Option TurnCondition)) (number : ℕ) (v w : World) → unmet_word conditions v ≡ Some number
    → slice_get w.bus.core number ≡ slice_get v.bus.core number → all_met_in conditions w ≡ false
unfolding unmet_word
unmet_with_word [] number v w is same = absurd (cc is)
unmet_with_word (None ∷ others) number v w is same = unmet_with_word others number v w is same
unmet_with_word (Some c ∷ others) number v w is same =
    unmet_first c others number v w (is_met_in c v) refl is same (λ later. unmet_with_word others number v w later same)

-- a word that stays is the same where core has it
same_word : (number n k : ℕ) (m : MachineWithTexts) → number < length m.state.world.bus.core → WordStays number n m → k < n
    → slice_get (after_calm_turns k m).state.world.bus.core number ≡ slice_get m.state.world.bus.core number
same_word number n k m inside stays below =
    let size = size_stays k m in
    slice_get-get_or (after_calm_turns k m).state.world.bus.core number 0 (omega (arith, size, inside))
    ∙ ap Some (stays k below) ∙ sym (slice_get-get_or m.state.world.bus.core number 0 inside)

pub none_unmet_while_same : (conditions : List (Option TurnCondition)) (number n : ℕ) (m : MachineWithTexts)
    → unmet_word conditions m.state.world ≡ Some number → number < length m.state.world.bus.core → WordStays number n m
    → AreUnmet conditions n m
none_unmet_while_same conditions number n m asked inside stays =
    λ k below. unmet_with_word conditions number m.state.world (after_calm_turns k m).state.world asked (same_word number n k m inside stays below)

-- four conditions can be asked if each can
pub four_checked : (conditions : List (Option TurnCondition)) (s : SetupData) → length conditions ≡ 4
    → conditions_checked conditions s
    ≡ then_checked (checked_if_there (get_or conditions 0 None) s) (then_checked (checked_if_there (get_or conditions 1 None) s)
    (then_checked (checked_if_there (get_or conditions 2 None) s) (then_checked (checked_if_there (get_or conditions 3 None) s) (Ok tt))))
unfolding conditions_checked
four_checked (a ∷ b ∷ c ∷ d ∷ []) s four = refl
four_checked (a ∷ b ∷ c ∷ d ∷ e ∷ others) s four = absurd (omega (arith, four))
four_checked (a ∷ b ∷ c ∷ []) s four = absurd (omega (arith, four))
four_checked (a ∷ b ∷ []) s four = absurd (omega (arith, four))
four_checked (a ∷ []) s four = absurd (omega (arith, four))
four_checked [] s four = absurd (omega (arith, four))
