use Rattle.std.proofs.Common.{rules, ◌≡◌, All, ap, arith, length, length-take, nat_le, subst, sym, take, ◌∙◌}
use Rattle.std.specs.List.{filter}
use Rattle.std.proofs.lemmas.List.Elements.{All-take}
use Rattle.std.specs.Vec.{with_items}
use Rattle.pdp_store.proofs.PagedTakes.{rewrapped}
use Rattle.pdp_unibus.specs.PatchedPages.{IsPatchOf}
use Rattle.pdp_cpu.specs.Saved.{HasWord}
use Rattle.pdp_checkpoint.specs.declared.checkpoint.Checkpoint.{Checkpoint}
use Rattle.pdp_checkpoint.specs.Ladder.{LadderData}
use Rattle.pdp_checkpoint.proofs.PatchedCheckpoints.{IsPatchedTo, first_are_low, is_patched_to, same_change}
use Rattle.pdp_checkpoint.specs.Patched.{AreNewPagesFor, HavePageAlike}
use Rattle.pdp_checkpoint.proofs.ladder.Ladder.patch.Goals as goal

pub new-requires-clause-some : goal.new-requires-clause-some
new-requires-clause-some c = omega (arith, c.self.invariant.checkpoints.some, length-take c.min-count.result c.deref.result.now)

pub new-requires-clause-there : goal.new-requires-clause-there
new-requires-clause-there c =
    let there : Checkpoint → Type 0 = λ x. HasWord c.args.at x.saved in
    All-take there c.min-count.result c.deref.result.now
    (subst (All there) (sym (ap (λ (l : LadderData). l.kept) c.self.view_is) ∙ sym c.deref.ensures.value) c.requires.there)

pub new-requires-clause-alike : goal.new-requires-clause-alike
new-requires-clause-alike c =
    let l : LadderData = record { kept = c.self.inside.kept.items; stride = c.self.inside.stride; near = c.self.inside.near.items; formers = c.self.inside.formers.items } in
    let low = first_are_low l c.args.turn (take c.min-count.result c.deref.result.now) c.self.invariant.checkpoints (cc) in
    let alike = HavePageAlike c.args.at in
    subst alike (sym low) (subst (λ (x : LadderData). alike (filter (λ s. nat_le s.turn c.args.turn) x.kept)) (sym c.self.view_is) c.requires.alike)

-- what is left of the checkpoints are those up to the turn
low : (c : goal.After-self-1) → c.deref_mut.result.now ≡ filter (λ s. nat_le s.turn c.args.turn) c.self.inside.kept.items
low c =
    c.deref_mut.ensures.value ∙ ap (λ (l : LadderData). l.kept) c.self-2.view_is ∙ c.set_aside.ensures.kept
    ∙ ap (λ (l : LadderData). filter (λ s. nat_le s.turn c.args.turn) l.kept) (sym c.self.view_is)

after : (c : goal.After-self-1)
    → IsPatchedTo c.args.turn c.args.at c.args.value (record { kept = c.self.inside.kept.items; stride = c.self.inside.stride; near = c.self.inside.near.items; formers = c.self.inside.formers.items })
    (record { kept = (with_items c.self-2.inside.kept c.put.new.kept).items; stride = c.self-2.inside.stride; near = c.clear.new.self.items; formers = c.self-2.inside.formers.items })
after c =
    let l : LadderData = record { kept = c.self.inside.kept.items; stride = c.self.inside.stride; near = c.self.inside.near.items; formers = c.self.inside.formers.items } in
    let as_many : length c.put.new.kept ≡ c.self-2.inside.kept.len = search rules in
    let made : IsPatchOf c.args.at c.args.value c.in_ok-patch.patch.page = c.in_ok-patch.ensures.patch in
    let stride : c.self-2.inside.stride ≡ l.stride = ap (λ (x : LadderData). x.stride) c.self-2.view_is ∙ c.set_aside.ensures.stride ∙ ap (λ (x : LadderData). x.stride) (sym c.self.view_is) in
    rw (c.clear.ensures.items, stride) (is_patched_to l c.args.turn c.args.at c.args.value c.deref_mut.result.now _ c.self-2.inside.formers.items c.self.invariant.checkpoints (low c)
    (rewrapped c.put.new.kept c.self-2.inside.kept.items c.self-2.inside.kept.len as_many ∙ c.put.ensures
    ∙ same_change c.in_ok-patch.patch.page c.args.at c.args.value c.deref_mut.result.now made))

pub put-requires : goal.put-requires
put-requires c =
    let l : LadderData = record { kept = c.self.inside.kept.items; stride = c.self.inside.stride; near = c.self.inside.near.items; formers = c.self.inside.formers.items } in
    let first = first_are_low l c.args.turn (take c.min-count.result c.deref.result.now) c.self.invariant.checkpoints (cc) in
    let left : c.deref_mut.result.now ≡ filter (λ s. nat_le s.turn c.args.turn) l.kept =
    c.deref_mut.ensures.value ∙ ap (λ (l : LadderData). l.kept) c.self-2.view_is ∙ c.set_aside.ensures.kept
    ∙ ap (λ (l : LadderData). filter (λ s. nat_le s.turn c.args.turn) l.kept) (sym c.self.view_is) in
    subst (λ xs. AreNewPagesFor c.in_ok-patch.patch.page xs c.in_ok-patch.patch.pages.items) (first ∙ sym left) c.in_ok-patch.ensures.pages

pub invariant_of-self : goal.invariant_of-self
invariant_of-self c = record {
  checkpoints = (after c).checkpoints;
  near = let none = ap length c.clear.ensures.items in omega (arith, none);
  formers = c.self-2.invariant.formers;
}

pub returns-clause-kept : goal.returns-clause-kept
returns-clause-kept c = rw (← c.self.view_is) (after c).is

pub returns-clause-checkpoints : goal.returns-clause-checkpoints
returns-clause-checkpoints c = (after c).checkpoints
