-- Logs of the processor's bus cycles. No rule of the handbook is here.
use Rattle.std.specs.Prelude.{ℕ, Bool, true, false, ◌==◌, ◌&&◌, ◌++◌, List, [], ◌∷◌, Option, Some}
use Rattle.std.specs.Prelude.{None, length, nat_lt, if◌then◌else◌}
use Rattle.pdp_store.specs.declared.cycle_log.BusCycle.{BusCycle}
use Rattle.pdp_store.specs.declared.cycle_log.CycleKind.{CycleKind}
use Rattle.pdp_store.specs.declared.cycle_log.CycleKind.TheVariants.{Read, Write, WriteByte}

-- a log: which reads alone it keeps, if not every cycle; for how many cycles it has room; and those
-- that it has, in their order
pub record KeptCycles : Type 0 where
  pub reads_of : Option ℕ
  pub room : ℕ
  pub told : List BusCycle

-- no log, which keeps nothing
abbrev pub no_log : KeptCycles
no_log = record { reads_of = None; room = 0; told = [] }

abbrev pub is_read : CycleKind → Bool
is_read Read = true
is_read Write = false
is_read WriteByte = false

-- the cycles that a log keeps: all, or the reads at one physical byte address
abbrev pub keeps : Option ℕ → BusCycle → Bool
keeps None cycle = true
keeps (Some address) cycle = is_read cycle.kind && cycle.address == address

-- the log after this cycle: it is put at the end while there is room
abbrev pub log_with : BusCycle → KeptCycles → KeptCycles
log_with cycle log =
    if keeps log.reads_of cycle && nat_lt (length log.told) log.room
    then record log { told = log.told ++ cycle ∷ [] } else log

-- the log without the cycles that it has
abbrev pub without_cycles : KeptCycles → KeptCycles
without_cycles log = record log { told = [] }
