use Rattle.std.proofs.Common.{◌≡◌, ◌∙◌, ap, subst, sym}
use Rattle.pdp_cpu.specs.Saved.{CanHold, state_on}
use Rattle.pdp_cpu.specs.Handbook.MachineState.{MachineWithTexts}
use Rattle.pdp_replay.proofs.run.PatchedBranches.{branch_patched, has_word, patch_held, saved_is, turn_of_patch}
use Rattle.pdp_replay.proofs.run.branch.Branch.set_word.Goals as goal

pub patched_page-requires : goal.patched_page-requires
patched_page-requires c =
    let was = c.requires.untouched in
    has_word c.args.at c.args.turn was.past c.args.self.now c.in_ok-here.here was.is c.in_ok-here.ensures.saved

pub load-requires : goal.load-requires
load-requires c =
    let was = c.requires.untouched in
    let same : c.patched_page.new.machine ≡ c.args.self.now.machine = c.patched_page.ensures.same ∙ c.save.ensures.same in
    let saved = saved_is c.args.at c.args.word c.args.turn was.past c.args.self.now c.in_ok-here.here c.put_pages.new.self c.in_ok-page.page was.is c.in_ok-here.ensures.saved
    c.in_ok-page.ensures.patch c.put_pages.ensures in
    subst (λ m. CanHold m c.put_pages.new.self) (sym same) (patch_held c.args.at c.args.word c.args.turn was.past c.args.self.now c.put_pages.new.self was.is saved)

pub returns-clause-branch : goal.returns-clause-branch
returns-clause-branch c = λ q is.
    let same : c.patched_page.new.machine ≡ c.args.self.now.machine = c.patched_page.ensures.same ∙ c.save.ensures.same in
    let saved = saved_is c.args.at c.args.word c.args.turn q c.args.self.now c.in_ok-here.here c.put_pages.new.self c.in_ok-page.page is c.in_ok-here.ensures.saved
    c.in_ok-page.ensures.patch c.put_pages.ensures in
    branch_patched c.args.at c.args.word c.args.turn q c.args.self.now c.put_pages.new.self c.load.new.self is saved
    (c.load.ensures.state ∙ ap (λ m. state_on m c.put_pages.new.self) same)
    (c.load.ensures.kept_text ∙ ap (λ (m : MachineWithTexts). m.kept_text) same)
    (c.load.ensures.kept_punched ∙ ap (λ (m : MachineWithTexts). m.kept_punched) same)
    (c.load.ensures.first_touches ∙ ap (λ (m : MachineWithTexts). m.first_touches) same)

pub returns-clause-turn : goal.returns-clause-turn
returns-clause-turn c =
    let was = c.requires.untouched in
    let same : c.patched_page.new.machine ≡ c.args.self.now.machine = c.patched_page.ensures.same ∙ c.save.ensures.same in
    let saved = saved_is c.args.at c.args.word c.args.turn was.past c.args.self.now c.in_ok-here.here c.put_pages.new.self c.in_ok-page.page was.is c.in_ok-here.ensures.saved
    c.in_ok-page.ensures.patch c.put_pages.ensures in
    turn_of_patch c.args.at c.args.word c.args.turn was.past c.args.self.now c.put_pages.new.self c.load.new.self saved
    (c.load.ensures.state ∙ ap (λ m. state_on m c.put_pages.new.self) same)
