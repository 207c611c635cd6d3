-- What a run is made of: its turns, back to the events and to what the machine held as of power-up.
-- No rule of the handbook is here.
use Rattle.std.specs.Prelude.{ℕ, zero, suc, ◌≡◌, List, flat_map}
use Rattle.pdp_operand.specs.Phases.World.{World}
use Rattle.pdp_cpu.specs.Handbook.Turn.{one_turn, printed_in, punched_in}
use Rattle.pdp_made.specs.Cells.{DataCell, Buffer, Printer, Punch, Same}
use Rattle.pdp_made_run.specs.Origins.{EachOrigin, Events, Origin, back_through, still_held}
use Rattle.pdp_made_run.specs.TurnRows.{TurnsAlike, data_in, made_in_turn}

-- the world before turn n of a run with these events, from this world as of power-up
unfoldable pub before_turn : Events → ℕ → World → World
before_turn events zero w = w
before_turn events (suc n) w = one_turn n (events n) (before_turn events n w)

-- of which inputs each cell before turn n is made
unfoldable pub made_before_turn : Events → ℕ → World → DataCell → List Origin
made_before_turn events zero w c = still_held c
made_before_turn events (suc n) w c = flat_map (back_through (made_before_turn events n w))
    (made_in_turn n (events n) (before_turn events n w) c)

-- Two runs go the same way before turn n: each turn before it does.
unfoldable pub RunsAlike : Events → Events → ℕ → World → World → Type 0
RunsAlike given other zero w v = Unit {0}
RunsAlike given other (suc n) w v = RunsAlike given other n w v × TurnsAlike n (given n) (other n)
    (before_turn given n w) (before_turn other n v)

-- The law of a run: take any other run whose inputs of these names are the same, and which goes the
-- same way before turn n. Then the cell is the same there.
abbrev pub RunsTell : Type 0
RunsTell = (n : ℕ) (given other : Events) (w v : World) → RunsAlike given other n w v
    → (c : DataCell) → EachOrigin other given (data_in v) (data_in w) (made_before_turn given n w
    c)
    → Same (data_in (before_turn other n v)) (data_in (before_turn given n w)) c

-- of which inputs a byte is made that comes out of the printer in turn n, or out of the punch: of
-- those of TPB, or PPB, before it [6.59] [6.60]
abbrev pub made_of_printed : Events → ℕ → World → List Origin
made_of_printed events n w = made_before_turn events n w (Buffer Printer)

abbrev pub made_of_punched : Events → ℕ → World → List Origin
made_of_punched events n w = made_before_turn events n w (Buffer Punch)

-- The law of what comes out: take any other run whose inputs of these names are the same, and which
-- goes the same way up to turn n. Then the same bytes come out in it.
abbrev pub PrintsTell : Type 0
PrintsTell = (n : ℕ) (given other : Events) (w v : World) → RunsAlike given other (suc n) w v
    → EachOrigin other given (data_in v) (data_in w) (made_of_printed given n w)
    → printed_in n (other n) (before_turn other n v)
    ≡ printed_in n (given n) (before_turn given n w)

abbrev pub PunchesTell : Type 0
PunchesTell = (n : ℕ) (given other : Events) (w v : World) → RunsAlike given other (suc n) w v
    → EachOrigin other given (data_in v) (data_in w) (made_of_punched given n w)
    → punched_in n (other n) (before_turn other n v)
    ≡ punched_in n (given n) (before_turn given n w)
