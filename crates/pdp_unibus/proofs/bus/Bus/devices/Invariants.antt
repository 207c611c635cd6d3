use Rattle.std.proofs.Common.{◌≡◌, length, take}
use Rattle.pdp_unibus.specs.Handbook.Shown.{devices_of}
use Rattle.pdp_unibus.specs.declared.show.device_registers.TheConstants.{SHOWN_REGISTERS}
use Rattle.pdp_unibus.proofs.bus.Bus.devices.Given as goal

abbrev pub invariant-loop-index : goal.invariant-loop-index
invariant-loop-index g l = record {
  long : length l.words ≡ SHOWN_REGISTERS;
  words : take l.index l.words ≡ take l.index (devices_of l.self).words;
}
