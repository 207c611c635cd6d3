-- Where a run goes on from: the machine, or the best checkpoint.
use Rattle.std.proofs.Common.{◌≡◌, ◌∙◌, ℕ, ◌+◌, ◌-◌, ◌*◌, ◌/◌, ◌<◌, ◌≤◌, ◌&&◌, if◌then◌else◌, Bool, ap, arith, false, ltb-false, ltb-true, max, min, nat_le, nat_lt, refl, subst, sym, true}
use Rattle.std.proofs.Math.Nat.{div-eq_of_lt-le, lt-div-mul-add}
use Rattle.std.proofs.lemmas.Bool.{leb-false, leb-true}
use Rattle.pdp_checkpoint.specs.Ladder.{best_of, next_of}
use Rattle.pdp_replay.specs.Run.KeptRuns.{Advances, ComesTo, IsSomeRun, is_current_by, resumed_at, resumed_turn}
use Rattle.pdp_replay.specs.Run.Checkpoints.{AreStatesOf}
use Rattle.pdp_replay.specs.Ask.Known.{IsCome, RunsFrom, next_kept}
use Rattle.pdp_replay.specs.Past.{Past}
use Rattle.pdp_replay.specs.Timeline.{Timeline}
use Rattle.pdp_replay.specs.declared.run.kept_run.KeptRun.{KeptRun}
use Rattle.pdp_replay.proofs.run.Checkpoints.{lesser_quotient}
use Rattle.pdp_replay.proofs.run.OnWay.{known_below_next}

-- is a machine in a state of a run, of a turn between two?
abbrev pub says_between : KeptRun → ℕ → ℕ → Bool
says_between r first last = nat_le first r.machine.state.turn && is_current_by r last

both_hold : (a b : Bool) → a ≡ true → b ≡ true → (a && b) ≡ false → ⊥
both_hold true true first second is = cc is
both_hold true false first second is = cc second
both_hold false b first second is = cc first

-- otherwise a run goes on from a state that is kept, of the turn of the best checkpoint or a later
-- one
pub resumed_kept : (r : KeptRun) (to kept : ℕ) → best_of r.ladder (min to r.known) * r.ladder.stride ≤ kept → says_between r kept to ≡ false
    → resumed_turn r to ≤ kept
resumed_kept r to kept least earlier = by (nat_le best turn) (is_current_by r to) refl refl
  where
    best : ℕ
    best = best_of r.ladder (min to r.known) * r.ladder.stride

    turn : ℕ
    turn = r.machine.state.turn

    by : (above stays : Bool) → nat_le best turn ≡ above → is_current_by r to ≡ stays → (if above && stays then turn else best) ≤ kept
    by true true above stays = late (nat_le kept turn) refl
      where
        late : (reaches : Bool) → nat_le kept turn ≡ reaches → turn ≤ kept
        late true reaches = absurd (both_hold (nat_le kept turn) (is_current_by r to) reaches stays earlier)
        late false reaches = let below = leb-false kept turn reaches in omega (arith, below)
    by true false above stays = least
    by false true above stays = least
    by false false above stays = least

-- the known turn is below the next one whose state is to be kept
pub known_is_below : (r : KeptRun) → IsSomeRun r → r.known < next_of r.ladder
known_is_below r some = known_below_next some.past r.known r.ladder some.run.kept.states

-- the turn of the best checkpoint, by the known turn and the stride alone
kept_turn_is : (p : Past) (r : KeptRun) (to : ℕ) → AreStatesOf p r.known r.ladder → best_of r.ladder (min to r.known) ≡ min to r.known / r.ladder.stride
kept_turn_is p r to are =
    let count = are.count in
    let less : min to r.known / r.ladder.stride < r.known / r.ladder.stride + 1 =
    lesser_quotient r.ladder.stride r.known (min to r.known) are.checkpoints.positive (omega arith) in
    omega (arith, count, less)

pub resumed_is : (p : Past) (r : KeptRun) (to : ℕ) → AreStatesOf p r.known r.ladder
    → resumed_turn r to ≡ resumed_at r.is_current r.machine.state.turn (min to r.known / r.ladder.stride * r.ladder.stride) to
resumed_is p r to are = ap (λ n. resumed_at r.is_current r.machine.state.turn (n * r.ladder.stride) to) (kept_turn_is p r to are)

-- a run goes on from the best checkpoint or from a later turn
resumed_least : (r : KeptRun) (to : ℕ) → best_of r.ladder (min to r.known) * r.ladder.stride ≤ resumed_turn r to
resumed_least r to = by (nat_le best r.machine.state.turn) (is_current_by r to) refl
  where
    best : ℕ
    best = best_of r.ladder (min to r.known) * r.ladder.stride

    by : (above stays : Bool) → nat_le best r.machine.state.turn ≡ above → best ≤ (if above && stays then r.machine.state.turn else best)
    by true true above = leb-true best r.machine.state.turn above
    by true false above = omega arith
    by false stays above = omega arith

-- that is less than a stride before a known turn
pub resumed_near : (r : KeptRun) (to : ℕ) → IsSomeRun r → to ≤ r.known → to < resumed_turn r to + r.ladder.stride
resumed_near r to some known =
    let states = some.run.kept.states in
    let all : min to r.known ≡ to = omega (arith, known) in
    let best = ap (λ n. n * r.ladder.stride) (kept_turn_is some.past r to states ∙ ap (λ n. n / r.ladder.stride) all) in
    let least = resumed_least r to in
    let over : to < to / r.ladder.stride * r.ladder.stride + r.ladder.stride = lt-div-mul-add states.checkpoints.positive in
    omega (arith, best, least, over)

-- and at that turn or later, if it is a multiple of the stride
pub resumed_there : (r : KeptRun) (k to : ℕ) → IsSomeRun r → to ≡ k * r.ladder.stride → to ≤ r.known → to ≤ resumed_turn r to
resumed_there r k to some is known =
    let states = some.run.kept.states in
    let positive = states.checkpoints.positive in
    let all : min to r.known ≡ to = omega (arith, known) in
    let quotient : to / r.ladder.stride ≡ k = div-eq_of_lt-le r.ladder.stride (omega (arith, is)) (omega (arith, is, positive)) in
    let best = ap (λ n. n * r.ladder.stride) (kept_turn_is some.past r to states ∙ ap (λ n. n / r.ladder.stride) all ∙ quotient) in
    let least = resumed_least r to in
    omega (arith, best, least, is)

-- the known turn, by whether the machine is in a state of the run
known_as : (current : Bool) (known before turn next : ℕ) → current ≡ nat_lt turn next → turn ≤ next → known ≡ max before (min turn (next - 1))
    → known ≡ max before (if current then turn else turn - 1)
known_as true known before turn next is within at = let below : turn < next = ltb-true turn next (sym is) in omega (arith, below, at)
known_as false known before turn next is within at = let above : next ≤ turn = ltb-false turn next (sym is) in omega (arith, above, within, at)

-- where a run came to, as a contract of an engine tells it
pub come_is : (before after : KeptRun) (t now : Timeline) → ComesTo before after → t.known ≡ before.known → now.known ≡ after.known
    → now.turn ≡ after.machine.state.turn → now.current ≡ after.is_current → next_kept now ≡ next_of after.ladder → IsCome t now
come_is before after t now come known_before known turn current next = record {
  known = rw (turn, current, known_before, known) (known_as after.is_current after.known before.known after.machine.state.turn (next_of after.ladder) come.current come.within come.known);
  current = rw (next, turn, current) come.current;
}

-- an engine over this past with this run
abbrev pub timeline_of : Past → ℕ → KeptRun → Timeline
timeline_of p highest r = record {
  past = p;
  known = r.known;
  highest = highest;
  stride = r.ladder.stride;
  turns = r.meter;
  turn = r.machine.state.turn;
  current = r.is_current;
}

-- where a run went on from and what it came to, whether memory was refused or not, as a contract of an engine tells it
pub runs_from : (p : Past) (highest to first : ℕ) (r after : KeptRun) (now : Timeline) → AreStatesOf p r.known r.ladder
    → AreStatesOf p after.known after.ladder → Advances (resumed_turn r first) to r after → now.turns ≡ after.meter
    → now.turn ≡ after.machine.state.turn → now.known ≡ after.known → now.current ≡ after.is_current → now.stride ≡ after.ladder.stride
    → RunsFrom first (timeline_of p highest r) now
runs_from p highest to first r after now states left on turns turn known current stride =
    let ran = subst (λ n. after.meter + n ≤ r.meter + after.machine.state.turn) (resumed_is p r first states) on.ran in
    record {
      resumed = rw (turns, turn) ran;
      come = come_is r after (timeline_of p highest r) now on.come refl known turn current
          (rw (known, stride) (ap (λ n. n * after.ladder.stride) (sym left.count)));
    }
