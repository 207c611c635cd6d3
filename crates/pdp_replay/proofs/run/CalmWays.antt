-- A machine on its way through a run, after turns without events.
use Rattle.std.proofs.Common.{◌≡◌, ℕ, ◌+◌, ◌<◌, ◌≤◌, zero, suc, refl, subst, sym, arith, []}
use Rattle.pdp_cpu.specs.Turns.CalmTurns.{after_calm_turn, after_calm_turns}
use Rattle.pdp_cpu.specs.Handbook.MachineState.{MachineWithTexts}
use Rattle.pdp_replay.specs.Run.KeptRuns.{IsUnderWay, IsWithoutEvents}
use Rattle.pdp_replay.specs.Past.{Past}
use Rattle.pdp_replay.proofs.run.UnderWay.{way_on}

pub turn_after : (n : ℕ) (m : MachineWithTexts) → (after_calm_turns n m).state.turn ≡ m.state.turn + n
unfolding after_calm_turns
turn_after zero m = omega arith
turn_after (suc n) m = let is = turn_after n m in omega (arith, is)

-- turns without events, up to a turn
pub way_on_calmly : (p : Past) (known to n : ℕ) (m : MachineWithTexts) → m.state.turn + n ≤ to
    → IsWithoutEvents p m.state.turn to → IsUnderWay p known m → IsUnderWay p known (after_calm_turns n m)
unfolding after_calm_turns
way_on_calmly p known to zero m within quiet way = way
way_on_calmly p known to (suc n) m within quiet way =
    let before : MachineWithTexts = after_calm_turns n m in
    let turn : before.state.turn ≡ m.state.turn + n = turn_after n m in
    way_on p known before (after_calm_turn before) []
    (way_on_calmly p known to n m (omega (arith, within)) quiet way)
    (sym (quiet before.state.turn (omega (arith, turn)) (omega (arith, turn, within))))
    refl refl refl refl

-- a machine that ran some turns, or none, is at most at the turn that they were to end before
pub ran_within : (n turn to now : ℕ) → turn < to → now ≡ turn + n → (0 < n → now ≤ to) → turn + n ≤ to
ran_within zero turn to now before is most = omega (arith, before)
ran_within (suc n) turn to now before is most = let at_most = most (omega arith) in omega (arith, is, at_most)

-- the same for a machine that ran some
pub ran_calmly : (p : Past) (known to n : ℕ) (m now : MachineWithTexts) → now ≡ after_calm_turns n m
    → m.state.turn < to → now.state.turn ≡ m.state.turn + n → (0 < n → now.state.turn ≤ to)
    → IsWithoutEvents p m.state.turn to → IsUnderWay p known m → IsUnderWay p known now
ran_calmly p known to n m now is before turn most quiet way =
    subst (IsUnderWay p known) (sym is)
    (way_on_calmly p known to n m (ran_within n m.state.turn to now.state.turn before turn most) quiet way)
