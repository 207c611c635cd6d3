-- A run as an example. No rule of the handbook is here.
use Rattle.std.specs.Prelude.{ℕ, zero, suc, [], ◌∷◌}
use Rattle.pdp_io_page.specs.Handbook.Delays.{standard_delays}
use Rattle.pdp_unibus.specs.declared.event.Event.TheVariants as event
use Rattle.pdp_operand.specs.Phases.World.{World}
use Rattle.pdp_cpu.specs.Handbook.MachineState.{world_at_power_up}
use Rattle.pdp_made_run.specs.Origins.{Events}

-- the switches are set to a word in turn 0
abbrev pub switches_set_to : ℕ → Events
switches_set_to word zero = event.Switches word ∷ []
switches_set_to word (suc n) = []

-- a core of five words: MOV @#177570,R0 and MOV R0,@#10, so that the switches come to its last word
abbrev pub keeps_switches : World
keeps_switches = world_at_power_up 0 (0o013700 ∷ 0o177570 ∷ 0o010037 ∷ 0o10 ∷ 0 ∷ []) [] [] []
    standard_delays
