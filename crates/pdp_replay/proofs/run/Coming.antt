-- How far a run came: nowhere yet, and one part after another.
use Rattle.std.proofs.Common.{◌≡◌, ◌∙◌, Bool, List, ℕ, ◌+◌, ◌-◌, ◌<◌, ◌≤◌, ap, arith, max, min, nat_lt, refl, subst, sym, true}
use Rattle.std.proofs.lemmas.Bool.{lt-ltb}
use Rattle.pdp_checkpoint.specs.Ladder.{LadderData, next_of}
use Rattle.pdp_checkpoint.specs.declared.checkpoint.Checkpoint.{Checkpoint}
use Rattle.pdp_cpu.specs.Handbook.MachineState.{MachineWithTexts}
use Rattle.pdp_replay.specs.Run.KeptRuns.{Advances, ArrivesAt, CanGoOn, ComesTo, KeepsStride, with_near}
use Rattle.pdp_replay.specs.Run.Strides.{IsStride}
use Rattle.pdp_replay.specs.declared.run.kept_run.KeptRun.{KeptRun}

-- a machine that is in a state of a run, of a turn before the next one to keep, is so as the turns say
in_state_before : (current : Bool) (turn next : ℕ) → current ≡ true → turn < next → current ≡ nat_lt turn next
in_state_before current turn next stands short = stands ∙ sym (lt-ltb turn next short)

-- and a run that came to such a turn has its machine in a state of it
pub in_state : (before after : KeptRun) → ComesTo before after → after.machine.state.turn < next_of after.ladder → after.is_current ≡ true
in_state before after come short = come.current ∙ lt-ltb after.machine.state.turn (next_of after.ladder) short

-- a run that can go on came to where its machine is
comes_nowhere : (r : KeptRun) → CanGoOn r → ComesTo r r
comes_nowhere r ready =
    let reached = ready.reached in
    let short = ready.short in
    record {
      within = omega (arith, short);
      known = omega (arith, reached);
      ahead = omega arith;
      current = in_state_before r.is_current r.machine.state.turn (next_of r.ladder) ready.current short;
    }

pub advances_nowhere : (r : KeptRun) (to : ℕ) → CanGoOn r → r.machine.state.turn ≤ to → Advances r.machine.state.turn to r r
advances_nowhere r to ready below = record {
  come = comes_nowhere r ready;
  turn_most = below;
  known_least = omega arith;
  known_most = omega arith;
  stride = λ start high is. is;
  ran = omega arith;
  counted = omega arith;
}

pub arrives_nowhere : (r : KeptRun) → CanGoOn r → ArrivesAt r.machine.state.turn r r
arrives_nowhere r ready =
    let reached = ready.reached in
    record { turn = refl; short = ready.short; known = omega (arith, reached) }

-- and so it did to that turn by another name
pub arrives_where : (to : ℕ) (before after : KeptRun) → ArrivesAt to before after → ArrivesAt after.machine.state.turn before after
arrives_where to before after there = subst (λ n. ArrivesAt n before after) (sym there.turn) there

-- a run that came to a turn can go on
pub can_go_on : (from most to : ℕ) (before after : KeptRun) → Advances from most before after → ArrivesAt to before after → CanGoOn after
can_go_on from most to before after on there =
    let turn = there.turn in
    let known = there.known in
    record {
      reached = omega (arith, turn, known);
      short = there.short;
      current = in_state before after on.come there.short;
    }

-- a run that came to a turn and then on to another came there
comes_on : (before r after : KeptRun) → ComesTo before r → ComesTo r after → r.known ≡ max before.known r.machine.state.turn
    → r.machine.state.turn < next_of r.ladder → r.machine.state.turn ≤ after.machine.state.turn → ComesTo before after
comes_on before r after first then known short on =
    let ahead = first.ahead in
    let further = then.ahead in
    let within = then.within in
    let known_then = then.known in
    record {
      within = within;
      known = omega (arith, known_then, known, short, on, within, further);
      ahead = omega (arith, ahead, further);
      current = then.current;
    }

pub advances_on : (from most between to : ℕ) (before r after : KeptRun) → Advances from most before r → ArrivesAt between before r
    → Advances r.machine.state.turn to r after → Advances from to before after
advances_on from most between to before r after first there then =
    let turn = there.turn in
    let known = there.known in
    let turn_most = then.turn_most in
    let known_most = then.known_most in
    let least_first = first.known_least in
    let least_then = then.known_least in
    let ran_first = first.ran in
    let ran_then = then.ran in
    let counted_first = first.counted in
    let counted_then = then.counted in
    let on : r.machine.state.turn ≤ after.machine.state.turn = omega (arith, ran_then, counted_then) in
    record {
      come = comes_on before r after first.come then.come (omega (arith, known, turn)) there.short on;
      turn_most = turn_most;
      known_least = omega (arith, least_first, least_then);
      known_most = omega (arith, known_most, known, turn, on, turn_most);
      stride = λ start high is. then.stride start high (first.stride start high is);
      ran = omega (arith, ran_first, ran_then);
      counted = omega (arith, counted_first, counted_then);
    }

-- and towards a later turn too
pub advances_further : (from mid to : ℕ) (before after : KeptRun) → Advances from mid before after → mid ≤ to → Advances from to before after
advances_further from mid to before after on le =
    let turn_most = on.turn_most in
    let known_most = on.known_most in
    record {
      come = on.come;
      turn_most = omega (arith, turn_most, le);
      known_least = on.known_least;
      known_most = omega (arith, known_most, le);
      stride = on.stride;
      ran = on.ran;
      counted = on.counted;
    }

pub arrives_on : (between to : ℕ) (before r after : KeptRun) → ArrivesAt between before r → ArrivesAt to r after → between ≤ to
    → ArrivesAt to before after
arrives_on between to before r after first then on =
    let known_first = first.known in
    let known_then = then.known in
    record { turn = then.turn; short = then.short; known = omega (arith, known_first, known_then, on) }

-- a run whose machine first was taken to another turn, while the rest of it stayed
pub advances_from : (from mid to : ℕ) (before r after : KeptRun) → r.known ≡ before.known → r.ladder ≡ before.ladder
    → r.meter + from ≤ before.meter + r.machine.state.turn → before.meter ≤ r.meter
    → Advances r.machine.state.turn mid r after → mid ≤ to → Advances from to before after
advances_from from mid to before r after known ladder ran counted then le =
    let come = then.come in
    let known_then = come.known in
    let turn_most = then.turn_most in
    let known_least = then.known_least in
    let known_most = then.known_most in
    let ran_then = then.ran in
    let counted_then = then.counted in
    record {
      come = record {
        within = come.within;
        known = subst (λ k. after.known ≡ max k (min after.machine.state.turn (next_of after.ladder - 1))) known known_then;
        ahead = subst (λ l. next_of l ≤ next_of after.ladder) ladder come.ahead;
        current = come.current;
      };
      turn_most = omega (arith, turn_most, le);
      known_least = omega (arith, known, known_least);
      known_most = omega (arith, known, known_most, le);
      stride = λ start high is.
          then.stride start high
          (subst (λ k. IsStride start (max high k) r.ladder.stride) (sym known)
          (subst (λ (l : LadderData). IsStride start (max high before.known) l.stride) (sym ladder) is));
      ran = omega (arith, ran, ran_then);
      counted = omega (arith, counted, counted_then);
    }

pub arrives_from : (to : ℕ) (before r after : KeptRun) → r.known ≡ before.known → ArrivesAt to r after → ArrivesAt to before after
arrives_from to before r after known then = record {
  turn = then.turn;
  short = then.short;
  known = subst (λ k. after.known ≡ max k to) known then.known;
}

-- a run that settled at the turn of its machine is as far on, once all is kept there
pub advances_settled : (before after : KeptRun) → after.machine ≡ before.machine → after.meter ≡ before.meter
    → after.known ≡ max before.known before.machine.state.turn → before.machine.state.turn < next_of after.ladder
    → next_of before.ladder ≤ next_of after.ladder → after.is_current ≡ true → KeepsStride before after
    → Advances before.machine.state.turn before.machine.state.turn before after
advances_settled before after same meter known short ahead current stride =
    let turn : after.machine.state.turn ≡ before.machine.state.turn = ap (λ (m : MachineWithTexts). m.state.turn) same in
    record {
      come = record {
        within = omega (arith, turn, short);
        known = omega (arith, known, turn, short);
        ahead = ahead;
        current = in_state_before after.is_current after.machine.state.turn (next_of after.ladder) current (omega (arith, turn, short));
      };
      turn_most = omega (arith, turn);
      known_least = omega (arith, known);
      known_most = omega (arith, known);
      stride = stride;
      ran = omega (arith, turn, meter);
      counted = omega (arith, meter);
    }

-- states that are kept between the checkpoints are no matter of how far a run came
pub advances_near : (from to : ℕ) (near : List Checkpoint) (before r after : KeptRun) → after ≡ with_near near r → Advances from to before r
    → Advances from to before after
advances_near from to near before r after is on =
    let come = on.come in
    rw is (record {
      come = record { within = come.within; known = come.known; ahead = come.ahead; current = come.current };
      turn_most = on.turn_most;
      known_least = on.known_least;
      known_most = on.known_most;
      stride = on.stride;
      ran = on.ran;
      counted = on.counted;
    })

pub arrives_near : (to : ℕ) (near : List Checkpoint) (before r after : KeptRun) → after ≡ with_near near r → ArrivesAt to before r → ArrivesAt to before after
arrives_near to near before r after is there = rw is (record { turn = there.turn; short = there.short; known = there.known })
