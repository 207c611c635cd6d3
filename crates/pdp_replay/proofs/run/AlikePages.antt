-- Up to the first touch of a page each state of a run has in it the words of power-up and, in core,
-- no stamp.
use Rattle.std.proofs.Common.{◌≡◌, ◌≢◌, ◌∙◌, ℕ, zero, suc, ◌/◌, ◌≤◌, ◌==◌, ◌&&◌, if◌then◌else◌, Bool, true, false, List, [], ◌∷◌, Option, Some, None, ap, refl, arith, length, nat_lt, slice_index_or, ltb-true, ltb-false}
use Rattle.std.proofs.lemmas.Bool.{eqb-true}
use Rattle.pdp_store.proofs.Traces.{Avoids-first, Avoids-second}
use Rattle.pdp_store.specs.TracedAccess.{Avoids, TracedAccess, is_core, last_write, stamp_of}
use Rattle.pdp_store.specs.declared.part.Part.{Part}
use Rattle.pdp_store.specs.declared.part.Part.TheVariants as parts
use Rattle.pdp_store.specs.declared.Stamp.{Stamp}
use Rattle.pdp_unibus.specs.Page.{SamePage, words_of_part, bus_with_words}
use Rattle.pdp_cpu.proofs.TurnLaws.{turn_undisturbed}
use Rattle.pdp_cpu.specs.Handbook.Turn.{turn_trace}
use Rattle.pdp_script.specs.Entries.{events_at}
use Rattle.pdp_replay.specs.Run.FirstTouches.{IsAsAtPowerUp, UntouchedPagesAreAlike}
use Rattle.pdp_replay.specs.Past.{Past}
use Rattle.pdp_replay.specs.Past.Setup.{core_size}
use Rattle.pdp_replay.specs.Run.States.{first_world, state_at, trace_at}
use Rattle.pdp_replay.proofs.ask.LastWrites.{stamps_are, stamps_keep_size}
use Rattle.pdp_replay.proofs.run.Untouched.{untouched_until}

-- the words of a page stay if no access before turn n is to it
words_stay : (p : Past) (part : Part) (page n : ℕ) → Avoids part page (trace_at p n)
    → SamePage part page (first_world p.setup).bus (state_at p n).bus
unfolding state_at trace_at
words_stay p part page zero avoids = λ k inside. refl
words_stay p part page (suc n) avoids =
    let events = events_at p.script.entries n in
    let w = state_at p n in
    let before = Avoids-first part page (trace_at p n) (turn_trace n events w) avoids in
    let turn = turn_undisturbed part page n events w.processor w.bus (bus_with_words part (words_of_part part w.bus) w.bus)
    (record { words = words_of_part part w.bus; is = refl; alike = record { size = refl; words = λ k outside. refl } })
    (Avoids-second part page (trace_at p n) (turn_trace n events w) avoids) in
    λ k inside. words_stay p part page n before k inside ∙ turn.page_of_one k inside

-- nothing is written to a word whose page is avoided
core_is : (part : Part) → is_core part ≡ true → part ≡ parts.Core
core_is parts.Core is = refl
core_is (parts.Drive number) is = absurd (cc)

leaves_stamp : (page k : ℕ) (x : TracedAccess) (before : Option Stamp) → (x.part ≡ parts.Core → x.word / 256 ≢ page) → k / 256 ≡ page
    → (if x.writes && is_core x.part && x.word == k then Some (stamp_of x) else before) ≡ before
leaves_stamp page k x before avoids inside = by x.writes (is_core x.part) (x.word == k) refl refl where
  by : (writes core same : Bool) → is_core x.part ≡ core → (x.word == k) ≡ same
      → (if writes && core && same then Some (stamp_of x) else before) ≡ before
  by true true true is same = absurd (avoids (core_is x.part is) (ap (λ n. n / 256) (eqb-true x.word k same) ∙ inside))
  by true true false is same = refl
  by true false same is also = refl
  by false core same is also = refl

never_written : (page k : ℕ) (xs : List TracedAccess) (before : Option Stamp) → Avoids parts.Core page xs → k / 256 ≡ page
    → last_write xs k before ≡ before
never_written page k [] before avoids inside = refl
never_written page k (x ∷ xs) before avoids inside =
    never_written page k xs _ avoids.1 inside ∙ leaves_stamp page k x before avoids.0 inside

past_last : (stamps : List (Option Stamp)) (k : ℕ) → length stamps ≤ k → slice_index_or stamps k None ≡ None
past_last [] k past = refl
past_last (x ∷ stamps) zero past = absurd (omega (arith, past))
past_last (x ∷ stamps) (suc k) past = past_last stamps k (omega (arith, past))

no_stamp : (p : Past) (page n k : ℕ) → Avoids parts.Core page (trace_at p n) → k / 256 ≡ page
    → slice_index_or (state_at p n).bus.stamps k None ≡ None
no_stamp p page n k avoids inside = by (nat_lt k (core_size p.setup)) refl where
  by : (below : Bool) → nat_lt k (core_size p.setup) ≡ below → slice_index_or (state_at p n).bus.stamps k None ≡ None
  by true is = stamps_are p n k (ltb-true k (core_size p.setup) is) ∙ never_written page k (trace_at p n) None avoids inside
  by false is =
      past_last (state_at p n).bus.stamps k (omega (arith, stamps_keep_size p n, ltb-false k (core_size p.setup) is))

as_at_power_up : (p : Past) (part : Part) (page n : ℕ) → Avoids part page (trace_at p n) → IsAsAtPowerUp p part page n
as_at_power_up p parts.Core page n avoids = record {
  words = words_stay p parts.Core page n avoids;
  unstamped = λ core k inside. no_stamp p page n k avoids inside;
}
as_at_power_up p (parts.Drive number) page n avoids = record {
  words = words_stay p (parts.Drive number) page n avoids;
  unstamped = λ core k inside. absurd (cc);
}

pub pages_alike : UntouchedPagesAreAlike
pages_alike p part page n known low = as_at_power_up p part page n (untouched_until p part page known n low)
