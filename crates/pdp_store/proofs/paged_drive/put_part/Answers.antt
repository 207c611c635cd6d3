use Rattle.pdp_store.proofs.DriveBackings.{rewrapped}
use Rattle.pdp_store.proofs.paged_drive.put_part.Goals as goal

pub returns : goal.returns
returns c = rewrapped c.args.place c.args.own.now.len c.args.part.now _ c.args.own.now.items _ c.deref_mut.ensures.value c.copy_from_slice.ensures.after c.args.own.now.ok.0 c.requires.part c.requires.place
