use Rattle.std.proofs.Common.{◌≡◌, ◌++◌, drop, map, take}
use Rattle.pdp_checkpoint.specs.Formers.{former_edited}
use Rattle.pdp_checkpoint.proofs.aside.edit_each.Given as goal

abbrev pub invariant-loop-place : goal.invariant-loop-place
invariant-loop-place l =
    l.formers.items ≡ map (former_edited l.turn) (take l.place l.initial.formers.items) ++ drop l.place l.initial.formers.items
