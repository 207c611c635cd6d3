-- The machine as one plain record, but for the number of its turn. No rule of the handbook is here.
use Rattle.pdp_unibus.specs.Handbook.BusWorld.{BusWorld}
use Rattle.pdp_operand.specs.declared.processor.Processor.{Processor}

-- the processor, and the bus with all that is on it
pub record World : Type 0 where
  pub processor : Processor
  pub bus : BusWorld

abbrev pub world : Processor → BusWorld → World
world processor bus = record { processor = processor; bus = bus }
