-- What the checkpoint of turn 0 with other delays keeps of the states before.
use Rattle.std.proofs.Common.{◌≡◌, ◌+◌, ◌/◌, ◌<◌, nat_le, List, [], ◌∷◌, length, map, take, slice_set, get_or, refl, ap, ◌∙◌, arith}
use Rattle.std.specs.List.{filter}
use Rattle.std.proofs.Math.Nat.{zero-div}
use Rattle.std.proofs.lemmas.List.{length-map}
use Rattle.pdp_io_page.specs.declared.delays.Delays.{Delays}
use Rattle.pdp_cpu.specs.Saved.{SavedMachineData, saved_machine_with_delays}
use Rattle.pdp_checkpoint.specs.declared.checkpoint.Checkpoint.{Checkpoint}
use Rattle.pdp_checkpoint.specs.Ladder.{LadderData, AreCheckpoints}
use Rattle.pdp_checkpoint.specs.Delayed.{checkpoint_with_delays, ladder_with_delays}
use Rattle.pdp_checkpoint.proofs.Changed.{checkpoints_changed}
use Rattle.pdp_checkpoint.proofs.Checkpoints.{below_is_first, checkpoints_beside, checkpoints_cut}

-- how a ladder is after its first state got other delays, and the others were dropped
pub record IsDelayed (delays : Delays) (before after : LadderData) : Type 0 where
  pub is : after ≡ ladder_with_delays delays before
  pub count : length after.kept ≡ 1
  pub checkpoints : AreCheckpoints after

one_is_left : (cs : List Checkpoint) → 0 < length cs → length (take 1 cs) ≡ 1
one_is_left [] some = absurd (omega arith)
one_is_left (c ∷ cs) some = refl

-- the first of the states is replaced by itself with these delays, and it is the only one
first_is_delayed : (delays : Delays) (cs : List Checkpoint) (first : Checkpoint) → 0 < length cs → first ≡ get_or (take 1 cs) 0 first
    → slice_set (take 1 cs) 0 (checkpoint_with_delays delays first) ≡ map (checkpoint_with_delays delays) (take 1 cs)
first_is_delayed delays [] first some is = absurd (omega arith)
first_is_delayed delays (c ∷ cs) first some is = ap (λ (d : Checkpoint). checkpoint_with_delays delays d ∷ []) is

delayed_is : (l : LadderData) (delays : Delays) (now : List Checkpoint)
    → AreCheckpoints l → now ≡ map (checkpoint_with_delays delays) (take 1 l.kept) → IsDelayed delays l (record l { kept = now; near = []; formers = [] })
delayed_is l delays now checkpoints now_is =
    let first : 0 / l.stride + 1 ≡ 1 = ap (λ n. n + 1) (zero-div l.stride) in
    let below : filter (λ c. nat_le c.turn 0) l.kept ≡ take 1 l.kept = below_is_first l 0 checkpoints ∙ ap (λ n. take n l.kept) first in
    let cut : AreCheckpoints (record l { kept = take 1 l.kept }) = checkpoints_cut l 1 checkpoints (omega arith) in
    record {
      is = rw (now_is, below) refl;
      count = rw now_is (length-map (take 1 l.kept) (checkpoint_with_delays delays) ∙ one_is_left l.kept checkpoints.some);
      checkpoints = rw now_is (checkpoints_beside (record l { kept = map (checkpoint_with_delays delays) (take 1 l.kept) }) [] []
          (checkpoints_changed (record l { kept = take 1 l.kept }) (checkpoint_with_delays delays) (λ c. refl) cut));
    }

pub is_delayed : (l : LadderData) (delays : Delays) (left : List Checkpoint) (first : Checkpoint) (saved : SavedMachineData)
    → AreCheckpoints l → left ≡ take 1 l.kept → first ≡ get_or left 0 first → saved ≡ saved_machine_with_delays delays first.saved
    → IsDelayed delays l (record l { kept = slice_set left 0 (record { turn = first.turn; saved = saved }); near = []; formers = [] })
is_delayed l delays left first saved checkpoints left_is first_is saved_is =
    delayed_is l delays _ checkpoints (rw (saved_is, left_is) (first_is_delayed delays l.kept first checkpoints.some (rw (← left_is) first_is)))
