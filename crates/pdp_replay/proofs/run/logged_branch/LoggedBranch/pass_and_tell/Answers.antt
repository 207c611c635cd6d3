use Rattle.std.proofs.Common.{◌≡◌, ◌∙◌, ap}
use Rattle.pdp_store.specs.CycleLogs.{without_cycles}
use Rattle.pdp_cpu.specs.Handbook.MachineState.{MachineState}
use Rattle.pdp_cpu.specs.Handbook.Regs.{regs_of}
use Rattle.pdp_script.specs.Entries.{events_at}
use Rattle.pdp_replay.specs.Run.States.{state_at}
use Rattle.pdp_replay.specs.Ask.Accesses.{turn_head}
use Rattle.pdp_replay.specs.declared.ask.disk_completions.DiskTurn.{DiskTurn}
use Rattle.pdp_replay.proofs.ask.TurnAccesses.{act_there, after_there, details_alike, kept_length, printed_there, punched_there}
use Rattle.pdp_replay.proofs.ask.TurnReads.{disk_there}
use Rattle.pdp_replay.proofs.run.LoggedTurns.{events_of, goes_on_logging, kind_stays}
use Rattle.pdp_replay.proofs.run.logged_branch.LoggedBranch.pass_and_tell.Goals as goal

pub returns-clause-details : goal.returns-clause-details
returns-clause-details c = λ p same here.
    let m = c.args.self.now.machine.state in
    let now = c.pass.new.self.machine.state in
    let script = c.args.script.now in
    let log = without_cycles m.world.bus.log in
    let passed = c.in_ok-passed.passed in
    let turn : passed.disk.turn ≡ m.turn = ap (λ (d : DiskTurn). d.turn) c.in_ok-passed.ensures.disk in
    let mode = c.mode-mode.ensures ∙ ap (λ (s : MachineState). s.world.bus.io_page.status.mode) here in
    let pc = c.pc-pc.ensures ∙ ap (λ (s : MachineState). (regs_of s.world).pc) here in
    let act = act_there p script log m passed.act same here c.in_ok-passed.ensures.act in
    let after = after_there p script log m now same here c.requires.log c.in_ok-passed.ensures.state in
    let printed = kept_length c.text-printed.result.now m.text c.text-printed.ensures.bytes in
    let punched = kept_length c.punched-punched.result.now m.punched c.punched-punched.ensures.bytes in
    let head : record { turn = passed.disk.turn; mode = c.mode-mode.result; pc = c.pc-pc.result; act = passed.act }
    ≡ turn_head m.turn (events_at p.script.entries m.turn) (state_at p m.turn) =
    λ i. record { turn = turn i; mode = mode i; pc = pc i; act = act i } in
    details_alike head (events_of p script m.turn same) (printed_there p m now _ here printed after) (punched_there p m now _ here punched after)
    (disk_there p script log m passed.disk same here c.in_ok-passed.ensures.disk) (ap (λ (s : MachineState). s.world.bus.log.told) after)

pub returns-clause-cycles : goal.returns-clause-cycles
returns-clause-cycles c = λ p same here.
    let m = c.args.self.now.machine.state in
    ap (λ (s : MachineState). s.world.bus.log.told)
    (after_there p c.args.script.now (without_cycles m.world.bus.log) m c.pass.new.self.machine.state same here c.requires.log c.in_ok-passed.ensures.state)

pub returns-clause-way : goal.returns-clause-way
returns-clause-way c = λ p same here.
    goes_on_logging p c.args.script.now _ c.args.self.now.machine.state c.pass.new.self.machine.state same here c.in_ok-passed.ensures.state

pub returns-clause-log : goal.returns-clause-log
returns-clause-log c =
    kind_stays c.args.script.now c.args.self.now.machine.state c.pass.new.self.machine.state c.in_ok-passed.ensures.state ∙ c.requires.log
