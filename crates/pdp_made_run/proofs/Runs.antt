-- A run: turn by turn.
use Rattle.std.proofs.Common.{zero, suc}
use Rattle.pdp_made_run.specs.RunRows.{RunsAlike, RunsTell, before_turn, made_before_turn}
use Rattle.pdp_made_run.specs.TurnRows.{data_in, made_in_turn}
use Rattle.pdp_made_run.proofs.Lists.{each_origin}
use Rattle.pdp_made_run.proofs.Turns.{turns}

pub runs : RunsTell
unfolding before_turn made_before_turn RunsAlike
runs zero given other w v way c all = all.0
runs (suc n) given other w v way c all =
    turns n given other (before_turn given n w) (before_turn other n v) way.1 c
    (each_origin other given (made_before_turn given n w) (data_in v) (data_in w) (data_in (before_turn other n v)) (data_in (before_turn given n w))
    (runs n given other w v way.0) (made_in_turn n (given n) (before_turn given n w) c) all)
