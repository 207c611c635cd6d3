-- What a fresh engine keeps.
use Rattle.std.proofs.Common.{◌≡◌, ℕ, ◌<◌, List, [], arith, refl, subst, sym}
use Rattle.std.specs.declared.hash.BuildHasherDefault.{BuildHasherDefault}
use Rattle.std.specs.declared.hash.FoldHasher.{FoldHasher}
use Rattle.indexmap.specs.IndexMap.{IndexMap}
use Rattle.pdp_script.specs.Script.{ScriptData}
use Rattle.pdp_io_page.specs.Handbook.Delays.{standard_delays}
use Rattle.pdp_io_page.specs.declared.delays.Delays.{Delays}
use Rattle.pdp_replay.specs.Past.FirstWords.{AllThere}
use Rattle.pdp_replay.specs.Run.KeptRuns.{IsKeptRun}
use Rattle.pdp_replay.specs.Past.{past_from, past_without_events}
use Rattle.pdp_replay.specs.Past.Setup.{IsGood, SetupData, first_setup}
use Rattle.pdp_replay.specs.Run.Strides.{IsStride}
use Rattle.pdp_replay.specs.Timeline.{IsEngine}
use Rattle.pdp_replay.specs.declared.run.kept_run.KeptRun.{KeptRun}
use Rattle.pdp_replay.specs.declared.past.base_setup.BaseSetup.{BaseSetup}
use Rattle.pdp_store.specs.declared.part.WordAt.{WordAt}

-- the starting stride, not doubled yet, belongs to turn 0
starting_stride : (start : ℕ) → 0 < start → IsStride start 0 start
starting_stride start some = record {
  doublings = 0;
  is = omega arith;
  enough = omega (arith, some);
  least = λ none. absurd (omega arith);
}

-- no word has a patch
none_there : (s : SetupData) → AllThere s []
none_there s i p below = absurd (omega arith)

-- the engine of a run as of power-up
powered_engine : (base_setup : BaseSetup) (tape : List ℕ) (r : KeptRun) → IsGood (first_setup base_setup tape)
    → IsKeptRun (past_without_events (first_setup base_setup tape)) r → r.ladder.stride ≡ base_setup.stride → r.known ≡ 0
    → IsEngine (past_without_events (first_setup base_setup tape)) 0 r
powered_engine base_setup tape r good run stride none_known = record {
  good = good;
  there = none_there (first_setup base_setup tape);
  reached = omega (arith, none_known);
  limit = omega arith;
  stride = rw stride (starting_stride base_setup.stride good.some);
  run = run;
}

-- its past is that of the setup alone
past_powered : (base_setup : BaseSetup) (tape : List ℕ) (r : KeptRun) (delays : Delays)
    (patches : IndexMap WordAt ℕ (BuildHasherDefault FoldHasher)) (script : ScriptData)
    → IsKeptRun (past_without_events (first_setup base_setup tape)) r → delays ≡ standard_delays → patches.entries ≡ [] → script.entries ≡ [] → script.given ≡ 0
    → past_from base_setup r.machine.state.world.bus.tape delays patches script ≡ past_without_events (first_setup base_setup tape)
past_powered base_setup tape r delays patches script run standard none empty first = rw (run.kept.built.tape, standard, none, empty, first) refl

-- an engine as it is made
pub fresh_engine : (base_setup : BaseSetup) (tape : List ℕ) (r : KeptRun) (delays : Delays)
    (patches : IndexMap WordAt ℕ (BuildHasherDefault FoldHasher)) (script : ScriptData) → IsGood (first_setup base_setup tape)
    → IsKeptRun (past_without_events (first_setup base_setup tape)) r → r.ladder.stride ≡ base_setup.stride → r.known ≡ 0
    → delays ≡ standard_delays → patches.entries ≡ [] → script.entries ≡ [] → script.given ≡ 0
    → IsEngine (past_from base_setup r.machine.state.world.bus.tape delays patches script) 0 r
fresh_engine base_setup tape r delays patches script good run stride none_known standard none empty first =
    subst (λ p. IsEngine p 0 r) (sym (past_powered base_setup tape r delays patches script run standard none empty first))
    (powered_engine base_setup tape r good run stride none_known)
