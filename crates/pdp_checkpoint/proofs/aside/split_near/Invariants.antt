use Rattle.std.proofs.Common.{◌≡◌, ◌+◌, ◌++◌, ◌≤◌, drop, length, nat_le, take}
use Rattle.std.specs.List.{All, filter}
use Rattle.pdp_checkpoint.specs.Formers.{IsAbove}
use Rattle.pdp_checkpoint.proofs.aside.split_near.Given as goal

abbrev pub invariant-loop-place : goal.invariant-loop-place
invariant-loop-place l = record {
  near : l.near.items ≡ take l.place l.initial.near.items ++ filter (λ c. nat_le c.turn l.turn) (drop l.place l.initial.near.items);
  within : l.place ≤ length l.initial.near.items;
  late : All (IsAbove l.turn l.initial.near.items) l.late.items;
  few : length l.late.items + l.place ≤ length l.initial.near.items;
}

abbrev pub decreases-loop-place : goal.decreases-loop-place
decreases-loop-place l = l.place
