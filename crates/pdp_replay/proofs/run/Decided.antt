-- A decision is yes exactly if what it decides holds.
use Rattle.std.proofs.Common.{◌≡◌, ℕ, List, refl, sym, true}
use Rattle.std.proofs.Math.Bool.{true≢false}
use Rattle.std.specs.Prelude.{◌↔◌}
use Rattle.pdp_unibus.specs.declared.event.Event.{Event}
use Rattle.pdp_cpu.specs.Saved.{SavedMachineData, SavedMeet}
use Rattle.pdp_replay.specs.Run.Decided.{are_same_events, do_meet}
use Rattle.pdp_replay.specs.Run.Discrete.{is_yes}

decision_tells : {P : Type 0} → (d : Dec P) → (is_yes d ≡ true) ↔ P
decision_tells (yes p) = (λ _. p, λ _. refl)
decision_tells (no not_p) = (λ is. absurd (true≢false (sym is)), λ p. absurd (not_p p))

pub do_meet_tells : (here there : SavedMachineData) → (do_meet here there ≡ true) ↔ SavedMeet here there
unfolding do_meet
do_meet_tells here there = decision_tells _

pub are_same_events_tells : (some other : List (ℕ × Event)) → (are_same_events some other ≡ true) ↔ (some ≡ other)
unfolding are_same_events
are_same_events_tells some other = decision_tells _
