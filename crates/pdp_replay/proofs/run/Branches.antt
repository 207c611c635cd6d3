-- A run and a branch beside each other: what both keep, and what their comparison tells.
use Rattle.std.proofs.Common.{◌≡◌, ◌∙◌, ◌-◌, ◌*◌, ◌≤◌, ℕ, ap, arith, length, map, max, refl, replicate, subst, sym}
use Rattle.pdp_unibus.specs.SavedBusData.{HasSizesOf}
use Rattle.pdp_cpu.specs.Saved.{CanHold, SavedMachineData, saved_machine, state_on}
use Rattle.pdp_cpu.specs.Handbook.MachineState.{MachineState, MachineWithTexts}
use Rattle.pdp_replay.specs.Past.{Past}
use Rattle.pdp_replay.specs.Past.Setup.{drive_words, unit_words}
use Rattle.pdp_replay.specs.Run.Branches.{IsBranchOf, IsBranchAt, IsLookedAt}
use Rattle.pdp_replay.specs.Run.Checkpoints.{KeepsTexts}
use Rattle.pdp_replay.specs.Run.KeptRuns.{Advances, CountsTurns, IsKeptRun, MetersTurns}
use Rattle.pdp_replay.specs.Run.States.{at}
use Rattle.pdp_replay.specs.declared.run.branch.Branch.{Branch}
use Rattle.pdp_replay.specs.declared.run.kept_run.KeptRun.{KeptRun}
use Rattle.pdp_replay.proofs.run.Resumed.{can_hold, resumes}
use Rattle.pdp_replay.proofs.run.StateSizes.{at_is_built}

-- a state of a run of a machine of the same size fits
pub fits_beside : (p q : Past) (k n : ℕ) (m : MachineWithTexts) (saved : SavedMachineData) → q.setup.units ≡ p.setup.units → q.setup.drives ≡ p.setup.drives
    → m.state ≡ at p k → saved ≡ saved_machine (at q n) → HasSizesOf saved.bus m.state.world.bus
fits_beside p q k n m saved units drives here is =
    let mine = at_is_built p k m here in
    let theirs = at_is_built q n (record m { state = at q n }) refl in
    record {
      core = ap (λ (s : SavedMachineData). length s.bus.core) is ∙ theirs.core ∙ ap (λ u. u * unit_words) units ∙ sym mine.core;
      stamps = ap (λ (s : SavedMachineData). length s.bus.stamps) is ∙ theirs.stamps ∙ ap (λ u. u * unit_words) units ∙ sym mine.stamps;
      drives = ap (λ (s : SavedMachineData). map length s.bus.drives) is ∙ theirs.drives ∙ ap (λ n. replicate n drive_words) drives ∙ sym mine.drives;
    }

-- what is kept of a run stays so whatever its meter counts
pub kept_metered : (p : Past) (r : KeptRun) (counted : ℕ) → IsKeptRun p r → IsKeptRun p (record r { meter = counted })
kept_metered p r counted run = record { kept = run.kept; current = run.current }

-- a meter that counted turns grows
pub meter_grows : (turns before after : ℕ) → MetersTurns turns before after → before ≤ after
meter_grows turns before after ran = omega (arith, ran)

-- a meter that grew, counted the turns from one to another, and then grew
pub counts_on : (from came to before metered counted after : ℕ) → before ≤ metered → came ≡ to → MetersTurns (came - from) metered counted → counted ≤ after
    → CountsTurns (to - from) before after
counts_on from came to before metered counted after grew there ran more = omega (arith, grew, there, ran, more)

-- the state of a branch that came to a turn
pub state_of_branch : (q : Past) (b : Branch) (turn : ℕ) (saved : SavedMachineData) → IsBranchOf q b → b.machine.state.turn ≡ turn
    → saved ≡ saved_machine b.machine.state → saved ≡ saved_machine (at q turn)
state_of_branch q b turn saved branch there is = is ∙ ap saved_machine (branch.way.here ∙ ap (at q) there)

-- a run that went on was looked at
pub looked_at : (from to most : ℕ) (before after : KeptRun) → Advances from to before after → to ≤ most → IsLookedAt most before after
looked_at from to most before after advances le =
    let high = advances.known_most in
    record {
      known_least = advances.known_least;
      known_most = omega (arith, high, le);
      stride = advances.stride;
      counted = advances.counted;
    }

pub looked_further : (mid to : ℕ) (before after : KeptRun) → IsLookedAt mid before after → mid ≤ to → IsLookedAt to before after
looked_further mid to before after looked le =
    let high = looked.known_most in
    record { known_least = looked.known_least; known_most = omega (arith, high, le); stride = looked.stride; counted = looked.counted }

pub looked_on : (to : ℕ) (before r after : KeptRun) → IsLookedAt to before r → IsLookedAt to r after → IsLookedAt to before after
looked_on to before r after first then =
    let low = first.known_least in
    let low' = then.known_least in
    let high = first.known_most in
    let high' = then.known_most in
    let a = first.counted in
    let b = then.counted in
    record {
      known_least = omega (arith, low, low');
      known_most = omega (arith, high, high');
      stride = λ start h is. then.stride start h (first.stride start h is);
      counted = omega (arith, a, b);
    }

pub looked_nowhere : (to : ℕ) (r : KeptRun) → IsLookedAt to r r
looked_nowhere to r = record { known_least = omega arith; known_most = omega arith; stride = λ start high is. is; counted = omega arith }

-- and also if its meter counted more turns
pub looked_metered : (to counted : ℕ) (before r : KeptRun) → IsLookedAt to before r → r.meter ≤ counted → IsLookedAt to before (record r { meter = counted })
looked_metered to counted before r looked more =
    let a = looked.counted in
    record { known_least = looked.known_least; known_most = looked.known_most; stride = looked.stride; counted = omega (arith, a, more) }

-- a branch can go back to a state that it came to
pub branch_holds : (q : Past) (turn : ℕ) (saved : SavedMachineData) (b : Branch) → IsBranchAt q turn saved b → CanHold b.machine saved
branch_holds q turn saved b is =
    let branch = is.branch in
    let reached = is.reached in
    can_hold q turn (max branch.known b.machine.state.turn) b.machine saved is.state (omega (arith, reached)) branch.way.texts
    (at_is_built q b.machine.state.turn b.machine branch.way.here)

pub branch_back : (q : Past) (turn : ℕ) (saved : SavedMachineData) (b : Branch) (now : MachineWithTexts) → IsBranchAt q turn saved b
    → now.state ≡ state_on b.machine saved → now.kept_text ≡ b.machine.kept_text → now.kept_punched ≡ b.machine.kept_punched
    → now.first_touches ≡ b.machine.first_touches → IsBranchAt q turn saved (record b { machine = now })
branch_back q turn saved b now is loaded text punched touches =
    let branch = is.branch in
    let reached = is.reached in
    let known : ℕ = max branch.known b.machine.state.turn in
    let there : now.state ≡ at q turn =
    loaded ∙ resumes q turn known b.machine saved is.state (omega (arith, reached)) branch.way.texts (at_is_built q b.machine.state.turn b.machine branch.way.here) in
    let here : now.state.turn ≡ turn = ap (λ (s : MachineState). s.turn) there in
    let most : known ≡ max known now.state.turn = omega (arith, reached, here) in
    let texts : KeepsTexts q known now = record { text = text ∙ branch.way.texts.text; punched = punched ∙ branch.way.texts.punched; first_touches = touches ∙ branch.way.texts.first_touches } in
    record {
      branch = record { script = branch.script; known = known; way = record { here = there ∙ ap (at q) (sym here); texts = subst (λ n. KeepsTexts q n now) most texts } };
      state = is.state;
      reached = omega (arith, here);
    }

-- so it is at that turn then
pub turn_back : (q : Past) (turn : ℕ) (saved : SavedMachineData) (b : Branch) (now : MachineWithTexts) → IsBranchAt q turn saved b
    → now.state ≡ state_on b.machine saved → now.state.turn ≡ turn
turn_back q turn saved b now is loaded = ap (λ (s : MachineState). s.turn) loaded ∙ ap (λ (s : SavedMachineData). s.turn) is.state
