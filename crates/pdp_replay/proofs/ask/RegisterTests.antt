-- Conditions on a register that no turn of a burst meets.
use Rattle.std.proofs.Common.{◌≡◌, ℕ, ◌==◌, ◌&&◌, ◌∙◌, Bool, true, List, [], ◌∷◌, Option, None, Some, ap, false, if◌then◌else◌, refl, subst, sym}
use Rattle.std.specs.Option.{option_or}
use Rattle.std.specs.Prelude.{bit_and}
use Rattle.std.proofs.lemmas.Bool.{and_right}
use Rattle.pdp_operand.specs.Handbook.Processor.{register_of}
use Rattle.pdp_operand.specs.Phases.World.{World}
use Rattle.pdp_operand.specs.declared.processor.RegisterId.{RegisterId}
use Rattle.pdp_cpu.specs.Turns.CalmTurns.{PassesFor, after_calm_turns}
use Rattle.pdp_cpu.specs.Handbook.MachineState.{MachineWithTexts}
use Rattle.pdp_replay.specs.Ask.RegisterTests.{is_test_met, register_of_quantity, test_of, test_with, unmet_register, word_passes}
use Rattle.pdp_replay.specs.Ask.TurnConditions.{AreUnmet, all_met_in, are_related, is_met_in, is_there_with, quantity_in}
use Rattle.pdp_replay.specs.declared.ask.register_test.RegisterTest.{RegisterTest}
use Rattle.pdp_replay.specs.declared.ask.register_test.WordTest.{WordTest}
use Rattle.pdp_replay.specs.declared.ask.register_test.WordTest.TheVariants.{Masked, Related}
use Rattle.pdp_replay.specs.declared.ask.turn_condition.Comparand.TheVariants as comparand
use Rattle.pdp_replay.specs.declared.ask.turn_condition.Quantity.{Quantity}
use Rattle.pdp_replay.specs.declared.ask.turn_condition.Quantity.TheVariants as quantity
use Rattle.pdp_replay.specs.declared.ask.turn_condition.TurnCondition.{TurnCondition}
use Rattle.pdp_replay.specs.declared.ask.turn_condition.TurnCondition.TheVariants as condition

same : {A : Type 0} (a b : A) → ◌≡◌ {A = Option A} (Some a) (Some b) → a ≡ b
same a b is = cc is

-- a quantity that is a register is its word
read_register : (q : Quantity) (id : RegisterId) (w : World) → register_of_quantity q ≡ Some id
    → quantity_in q w ≡ Some (register_of w.processor id)
read_register quantity.R0 id w is = ap (λ r. Some (register_of w.processor r)) (same _ id is)
read_register quantity.R1 id w is = ap (λ r. Some (register_of w.processor r)) (same _ id is)
read_register quantity.R2 id w is = ap (λ r. Some (register_of w.processor r)) (same _ id is)
read_register quantity.R3 id w is = ap (λ r. Some (register_of w.processor r)) (same _ id is)
read_register quantity.R4 id w is = ap (λ r. Some (register_of w.processor r)) (same _ id is)
read_register quantity.R5 id w is = ap (λ r. Some (register_of w.processor r)) (same _ id is)
read_register quantity.KernelStack id w is = ap (λ r. Some (register_of w.processor r)) (same _ id is)
read_register quantity.UserStack id w is = ap (λ r. Some (register_of w.processor r)) (same _ id is)
read_register quantity.ProgramCounter id w is = ap (λ r. Some (register_of w.processor r)) (same _ id is)
read_register quantity.Stack id w is = absurd (cc is)
read_register quantity.ProgramStatus id w is = absurd (cc is)
read_register (quantity.CoreWord address) id w is = absurd (cc is)

-- so a comparison of it is its test
compared : (q : Quantity) (test : WordTest) (t : RegisterTest) (w : World) (holds : Option ℕ → Bool)
    → ((now : ℕ) → holds (Some now) ≡ word_passes test now) → test_with test (register_of_quantity q) ≡ Some t
    → holds (quantity_in q w) ≡ is_test_met t w
compared q test t w holds means is = by (register_of_quantity q) refl
  where
    by : (o : Option RegisterId) → register_of_quantity q ≡ o → holds (quantity_in q w) ≡ is_test_met t w
    by None on = absurd (cc (sym (ap (test_with test) on) ∙ is))
    by (Some id) on =
        let its : record { register = id; test = test } ≡ t = same _ t (sym (ap (test_with test) on) ∙ is) in
        ap holds (read_register q id w on) ∙ means (register_of w.processor id) ∙ ap (λ t. is_test_met t w) its

-- a condition that is the test of a register is met as the test is
tested : (c : TurnCondition) (t : RegisterTest) (w : World) → test_of c ≡ Some t → is_met_in c w ≡ is_test_met t w
tested (condition.Compared q relation (comparand.Number word)) t w is =
    compared q (Related relation word) t w (λ now. are_related relation now (Some word)) (λ now. refl) is
tested (condition.Compared q relation (comparand.Other other)) t w is = absurd (cc is)
tested (condition.Masked q mask word) t w is =
    compared q (Masked mask word) t w (is_there_with (λ now. bit_and now mask == word)) (λ now. refl) is
tested (condition.At address) t w is = absurd (cc is)
tested (condition.InMode mode) t w is = absurd (cc is)

-- the test that is first of those of two, of which the first is by a condition that may be met
unmet_first : (c : TurnCondition) (others : List (Option TurnCondition)) (t : RegisterTest) (v w : World) (met : Bool)
    → option_or (if met then None else test_of c) (unmet_register others v) ≡ Some t → is_test_met t w ≡ false
    → (unmet_register others v ≡ Some t → all_met_in others w ≡ false) → (is_met_in c w && all_met_in others w) ≡ false
unmet_first c others t v w true is unmet later = and_right (is_met_in c w) (all_met_in others w) (later is)
unmet_first c others t v w false is unmet later = by (test_of c) refl
  where
    by : (o : Option RegisterTest) → test_of c ≡ o → (is_met_in c w && all_met_in others w) ≡ false
    by None on = and_right (is_met_in c w) (all_met_in others w) (later (subst (λ o. option_or o (unmet_register others v) ≡ Some t) on is))
    by (Some first) on =
        let found = subst (λ o. option_or o (unmet_register others v) ≡ Some t) on is in
        let its = on ∙ ap Some (same first t found) in
        ap (λ met. met && all_met_in others w) (tested c t w its ∙ unmet)

-- a world that doesn't meet the test of a register doesn't meet all conditions
unmet_with_register : (conditions : List (Option TurnCondition)) (t : RegisterTest) (v w : World) → unmet_register conditions v ≡ Some t
    → is_test_met t w ≡ false → all_met_in conditions w ≡ false
unfolding unmet_register
unmet_with_register [] t v w is unmet = absurd (cc is)
unmet_with_register (None ∷ others) t v w is unmet = unmet_with_register others t v w is unmet
unmet_with_register (Some c ∷ others) t v w is unmet =
    unmet_first c others t v w (is_met_in c v) is unmet (λ later. unmet_with_register others t v w later unmet)

pub none_unmet_while_tested : (conditions : List (Option TurnCondition)) (t : RegisterTest) (n : ℕ) (m : MachineWithTexts)
    → unmet_register conditions m.state.world ≡ Some t → PassesFor (λ w. is_test_met t w ≡ false) n m → AreUnmet conditions n m
none_unmet_while_tested conditions t n m asked passes =
    λ k below. unmet_with_register conditions t m.state.world (after_calm_turns k m).state.world asked (passes k below)
