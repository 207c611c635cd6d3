use Rattle.std.proofs.Common.{rules, ◌≡◌, ◌<◌, ◌+◌, ◌++◌, ℕ, List, map, take, drop, length, get_or, slice_set, arith}
use Rattle.pdp_store.specs.FirstTouches.{first_before}
use Rattle.pdp_store.proofs.FirstTouches.{forgotten_more}
use Rattle.pdp_store.proofs.touches.StoreTouches.forget.Goals as goal

preserved : (f : ℕ → ℕ) (xs items : List ℕ) (page read now : ℕ) → page < length xs → items ≡ map f (take page xs) ++ drop page xs → read ≡ get_or items page read → now ≡ f read
    → slice_set items page now ≡ map f (take (page + 1) xs) ++ drop (page + 1) xs
preserved f xs items page read now below is here left = rw (left, is) (forgotten_more f page read xs below (rw is at here))

pub loop-page-preserved : goal.loop-page-preserved
loop-page-preserved c =
    let end : c.len-page-end.result ≡ length c.args.self.now = search rules in
    preserved (first_before c.args.turn) c.args.self.now c.loop-page.self-inside.first_touches.items c.loop-page.page c.index.result.now _ (omega (arith, c.loop-page-test.true, end)) c.loop-page.invariant c.index.ensures c.kept_before.ensures
