use Rattle.std.proofs.Common.{rules, ◌≡◌, get_or, length, refl, subst}
use Rattle.pdp_checkpoint.proofs.PutPages.{put_at}
use Rattle.pdp_checkpoint.proofs.patched.ReadyPatch.put.Goals as goal

pub loop-new-preserved : goal.loop-new-preserved
loop-new-preserved c =
    let kept = c.loop-new.kept in
    let rest = c.pop.new.self.items in
    let place : c.len.result ≡ length rest = search rules in
    let state = get_or kept c.len.result c.index-kept-len.result in
    let there : state ≡ get_or kept c.len.result state = subst (λ s. state ≡ get_or kept c.len.result s) c.index-kept-len.is refl in
    put_at c.args.self.page c.args.kept.now kept c.loop-new.pages.items rest c.in-Some.new c.len.result state c.put_pages.new.self
    c.loop-new.invariant c.in-Some.ensures.items place there c.put_pages.ensures
