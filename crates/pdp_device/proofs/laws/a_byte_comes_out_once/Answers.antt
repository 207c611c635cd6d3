use Rattle.pdp_device.proofs.TransmitterLaws.{bytes_come_out_once}
use Rattle.pdp_device.proofs.laws.a_byte_comes_out_once.Goals as goal

-- src/laws.rt
pub returns : goal.returns
returns c = bytes_come_out_once
