use Rattle.std.proofs.Common.{◌∙◌, ◌+◌, ◌*◌, ap, slice_get, slice_index, sym}
use Rattle.pdp_cpu.specs.Handbook.MachineState.{MachineState}
use Rattle.pdp_replay.specs.declared.ask.disk_completions.DiskTurn.{DiskTurn}
use Rattle.pdp_store.specs.CycleLogs.{without_cycles}
use Rattle.pdp_replay.proofs.ask.TurnReads.{disk_there, first_there, read_there, read_told}
use Rattle.pdp_replay.proofs.run.LoggedTurns.{core_stays, goes_on_logging, kind_stays}
use Rattle.pdp_replay.proofs.run.logged_branch.LoggedBranch.first_read.Goals as goal

pub returns-then-is_read_by_disk-clause-read : goal.returns-then-is_read_by_disk-clause-read
returns-then-is_read_by_disk-clause-read c = λ p same here.
    let m = c.args.self.now.machine.state in
    let d = c.in_ok-passed.passed.disk in
    let log = without_cycles m.world.bus.log in
    read_there p c.args.number m.turn c.word-word.result _ d _
    (disk_there p c.args.script.now log m d same here c.in_ok-passed.ensures.disk)
    (sym c.is_read_by_disk.ensures ∙ c.if-is_read_by_disk.true)
    (c.word-word.ensures ∙ ap (λ (s : MachineState). slice_index s.world.bus.core c.args.number) here)
    (first_there p c.args.script.now log (c.args.number * 2) m c.pass.new.self.machine.state same here c.requires.log c.in_ok-passed.ensures.state)

pub returns-then-is_read_by_disk-clause-way : goal.returns-then-is_read_by_disk-clause-way
returns-then-is_read_by_disk-clause-way c = λ p same here.
    goes_on_logging p c.args.script.now _ c.args.self.now.machine.state c.pass.new.self.machine.state same here c.in_ok-passed.ensures.state

pub returns-then-is_read_by_disk-clause-size : goal.returns-then-is_read_by_disk-clause-size
returns-then-is_read_by_disk-clause-size c = core_stays c.args.script.now _ c.args.self.now.machine.state c.pass.new.self.machine.state c.in_ok-passed.ensures.state

pub returns-then-is_read_by_disk-clause-log : goal.returns-then-is_read_by_disk-clause-log
returns-then-is_read_by_disk-clause-log c = kind_stays c.args.script.now c.args.self.now.machine.state c.pass.new.self.machine.state c.in_ok-passed.ensures.state

pub returns-clause-read : goal.returns-clause-read
returns-clause-read c = λ p same here.
    let m = c.args.self.now.machine.state in
    let d = c.in_ok-passed.passed.disk in
    let log = without_cycles m.world.bus.log in
    c.processor_read.ensures
    ∙ read_there p c.args.number m.turn c.word-word.result _ d _
    (disk_there p c.args.script.now log m d same here c.in_ok-passed.ensures.disk)
    (sym c.is_read_by_disk.ensures ∙ c.if-is_read_by_disk.false)
    (c.word-word.ensures ∙ ap (λ (s : MachineState). slice_index s.world.bus.core c.args.number) here)
    (ap (λ xs. slice_get xs 0) c.cycles.ensures
    ∙ first_there p c.args.script.now log (c.args.number * 2) m c.pass.new.self.machine.state same here c.requires.log c.in_ok-passed.ensures.state)

pub returns-clause-way : goal.returns-clause-way
returns-clause-way c = λ p same here.
    goes_on_logging p c.args.script.now _ c.args.self.now.machine.state c.pass.new.self.machine.state same here c.in_ok-passed.ensures.state

pub returns-clause-size : goal.returns-clause-size
returns-clause-size c = core_stays c.args.script.now _ c.args.self.now.machine.state c.pass.new.self.machine.state c.in_ok-passed.ensures.state

pub returns-clause-log : goal.returns-clause-log
returns-clause-log c = kind_stays c.args.script.now c.args.self.now.machine.state c.pass.new.self.machine.state c.in_ok-passed.ensures.state

-- the turn after the one that the disk is told of
pub returns-then-is_read_by_disk-clause-ends : goal.returns-then-is_read_by_disk-clause-ends
returns-then-is_read_by_disk-clause-ends c =
    ap (λ (s : MachineState). s.turn) c.in_ok-passed.ensures.state ∙ ap (λ (d : DiskTurn). d.turn + 1) (sym c.in_ok-passed.ensures.disk)

pub returns-clause-ends : goal.returns-clause-ends
returns-clause-ends c =
    rw c.processor_read.ensures
    (read_told c.in_ok-passed.passed.disk.turn c.pass.new.self.machine.state.turn _
    (ap (λ (s : MachineState). s.turn) c.in_ok-passed.ensures.state ∙ ap (λ (d : DiskTurn). d.turn + 1) (sym c.in_ok-passed.ensures.disk)))
