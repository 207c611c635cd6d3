use Rattle.std.proofs.Common.{◌<◌, ◌∙◌, ap, length, subst}
use Rattle.std.proofs.lemmas.Result.{IfOk-weaker}
use Rattle.pdp_cpu.specs.Handbook.MachineState.{MachineState}
use Rattle.pdp_replay.specs.Ask.DiskChanges.{word_on}
use Rattle.pdp_replay.specs.Ask.Searches.{IsFirst}
use Rattle.pdp_replay.specs.Ask.Watches.{is_watched_at}
use Rattle.pdp_replay.specs.Run.States.{disk_of}
use Rattle.pdp_replay.specs.declared.ask.watch.Watchpoint.TheVariants.{Change}
use Rattle.pdp_replay.proofs.ask.DiskChanges.{first_change, word_inside}
use Rattle.pdp_replay.proofs.ask.TextParts.{on_way_there}
use Rattle.pdp_replay.proofs.ask.disk_change.find_change.Goals as goal
use Rattle.pdp_replay.proofs.ask.disk_change.find_change.Goals.{After-reach}

-- the word is on its drive
inside : (c : After-reach) → c.args.number < length (disk_of c.reach.new.self.machine.state.world c.args.drive)
inside c =
    let can = c.requires.can in
    word_inside can.past c.args.drive c.args.number c.reach.new.self.machine (c.reach.ensures.kept can.past can.same can.run).kept.built can.there can.within

pub disk_word-word-requires : goal.disk_word-word-requires
disk_word-word-requires c = inside (goal.at.disk_word-word-requires c).After-reach

pub search-requires-clause-inside : goal.search-requires-clause-inside
search-requires-clause-inside c = inside (goal.at.search-requires-clause-inside c).After-reach

pub returns-clause-found : goal.returns-clause-found
returns-clause-found c =
    let r = c.reach.new.self in
    let reached = c.in_ok-reach.ensures in
    IfOk-weaker c.search.result _ _
    (λ found is. λ p same kept.
    let run = c.reach.ensures.kept p same kept in
    let word = c.disk_word-word.ensures ∙ ap (λ (s : MachineState). word_on c.args.drive c.args.number s.world) (reached.there p same kept) in
    first_change p c.args.drive c.args.number c.disk_word-word.result c.args.from c.args.to found word
    (subst (λ n. IsFirst (is_watched_at p (Change c.args.drive c.args.number c.disk_word-word.result)) n c.args.to found) reached.arrives.turn
    (is p same (on_way_there p _ _ _ c.args.run.now r run reached.advances reached.arrives))))
    c.search.ensures.found
