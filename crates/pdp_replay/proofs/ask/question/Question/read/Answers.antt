use Rattle.std.proofs.Common.{◌+◌, ◌<◌, ◌≤◌, length}
use Rattle.pdp_replay.specs.Past.Setup.{drive_words}
use Rattle.pdp_replay.proofs.run.DriveSizes.{drive_is_whole}
use Rattle.pdp_replay.proofs.ask.question.Question.read.Goals as goal

pub read_disk-requires : goal.read_disk-requires
read_disk-requires c =
    let drives = c.args.run.now.machine.state.world.bus.drives in
    let within : (c.in-Disk.drive < length drives) × (c.in-Disk.first + c.in-Disk.count ≤ drive_words) = rw c.in-Disk.is at c.requires.can.within in
    rw (drive_is_whole drives c.in-Disk.drive c.requires.can.drives within.0) within.1

pub find_disk-requires-clause-whole : goal.find_disk-requires-clause-whole
find_disk-requires-clause-whole c =
    let drives = c.args.run.now.machine.state.world.bus.drives in
    let wanted = c.in-FindDisk.wanted in
    let within : (c.in-FindDisk.drive < length drives) × (wanted.first ≤ wanted.last) × (wanted.last < drive_words) = rw c.in-FindDisk.is at c.requires.can.within in
    drive_is_whole drives c.in-FindDisk.drive c.requires.can.drives within.0
