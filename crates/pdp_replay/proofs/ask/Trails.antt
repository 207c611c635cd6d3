-- Trails, turn by turn.
use Rattle.std.proofs.Common.{◌≡◌, ℕ, ◌+◌, ◌-◌, ◌<◌, List, [], ◌∷◌, ◌++◌, length, length-append, refl, sym, add-one, arith, ap, ◌∙◌}
use Rattle.circular_buffer.specs.Buffer.{keep_last}
use Rattle.pdp_cpu.specs.Handbook.MachineState.{MachineState, after_turn}
use Rattle.pdp_script.specs.Entries.{events_at}
use Rattle.pdp_script.specs.Script.{ScriptData}
use Rattle.pdp_replay.specs.Past.{Past}
use Rattle.pdp_replay.specs.Run.States.{at, state_at}
use Rattle.pdp_replay.specs.Ask.Trails.{trail_entry, trail_of}
use Rattle.pdp_replay.specs.declared.ask.trail.TrailEntry.{TrailEntry}
use Rattle.pdp_replay.proofs.run.States.{at_next}

pub trail_none : (p : Past) (first : ℕ) → trail_of p first 0 ≡ []
unfolding trail_of
trail_none p first = refl

trail_next : (p : Past) (first n : ℕ)
    → trail_of p first (n + 1) ≡ trail_of p first n ++ trail_entry (first + n) (events_at p.script.entries (first + n)) (state_at p (first + n)) ∷ []
unfolding trail_of
trail_next p first n = rw add-one refl

-- if there is room nothing is overwritten
pushed_in_room : {X : Type 0} (capacity : ℕ) (xs : List X) (x : X) → length xs < capacity → keep_last capacity (xs ++ x ∷ []) ≡ xs ++ x ∷ []
pushed_in_room capacity xs x room =
    let none : length (xs ++ x ∷ []) - capacity ≡ 0 = simp length-append (omega arith) in
    rw none refl

pub length_pushed : {X : Type 0} (capacity : ℕ) (xs : List X) (x : X) → length xs < capacity → length (keep_last capacity (xs ++ x ∷ [])) ≡ length xs + 1
length_pushed capacity xs x room = ap length (pushed_in_room capacity xs x room) ∙ simp length-append

-- the machine after one more turn
pub reached_next : (p : Past) (script : ScriptData) (first n : ℕ) (before after : MachineState) → p.script ≡ script
    → before ≡ at p (first + n) → after ≡ after_turn (events_at script.entries (first + n)) before → after ≡ at p (first + (n + 1))
reached_next p script first n before after same here is =
    let next : after ≡ at p (first + n + 1) = is ∙ rw (here, ← same) (sym (at_next p (first + n))) in
    next ∙ ap (at p) (omega arith)

-- the trail with one more turn
pub listed_next : (p : Past) (script : ScriptData) (first n capacity : ℕ) (before : MachineState) (entry : TrailEntry) (xs : List TrailEntry) → p.script ≡ script
    → before ≡ at p (first + n) → entry ≡ trail_entry (first + n) (events_at script.entries (first + n)) before.world
    → xs ≡ trail_of p first n → length xs < capacity → keep_last capacity (xs ++ entry ∷ []) ≡ trail_of p first (n + 1)
listed_next p script first n capacity before entry xs same here is listed room =
    let entry_is : entry ≡ trail_entry (first + n) (events_at p.script.entries (first + n)) (state_at p (first + n)) = rw (is, here, same) refl in
    pushed_in_room capacity xs entry room ∙ rw (listed, entry_is) (sym (trail_next p first n))
