-- What is saved of a run is taken over by a run that meets it.
use Rattle.std.proofs.Common.{◌≡◌, ◌∙◌, ℕ, ◌+◌, ◌-◌, List, ◌++◌, sym, ap, ap₂, length, drop, length-append}
use Rattle.std.proofs.lemmas.List.{length-drop}
use Rattle.pdp_store.specs.CycleLogs.{no_log}
use Rattle.pdp_store.specs.FirstTouches.{no_first_touches}
use Rattle.pdp_unibus.specs.Handbook.BusWorld.{BusWorld, with_stamps}
use Rattle.pdp_unibus.specs.SavedBusData.{bus_of, saved_bus}
use Rattle.pdp_operand.specs.Phases.World.{World, world}
use Rattle.pdp_cpu.specs.Saved.{SavedMachineData, saved_machine}
use Rattle.pdp_replay.specs.Past.{Past}
use Rattle.pdp_replay.specs.Run.Checkpoints.{SameInputsFrom, punched_kept_at, text_kept_at, with_turn}
use Rattle.pdp_replay.specs.Run.Meetings.{MeetAt, world_over}
use Rattle.pdp_replay.specs.Run.SavedMeetings.{KeptBytesAreTaken, SavedMachinesAreTaken}
use Rattle.pdp_cpu.specs.Saved.{SavedMeet}
use Rattle.pdp_replay.specs.Run.States.{at, punched_at, state_at, text_at}
use Rattle.pdp_replay.proofs.run.Bare.{state_is_bare, state_is_unlogged}
use Rattle.pdp_replay.proofs.run.GrowingTexts.{grow_alike}
use Rattle.pdp_replay.proofs.run.KeptTexts.{printed_of, punched_keeps, punched_of, text_keeps}
use Rattle.pdp_replay.proofs.run.Meetings.{punched_meet, texts_meet, turns_meet, worlds_meet}
use Rattle.pdp_replay.proofs.run.StateSizes.{tape_stays}

-- a bus from what is saved of it
rebuilt : (b : BusWorld) (tape : List ℕ) → b.tape ≡ tape → b.first_touches ≡ no_first_touches → b.log ≡ no_log
    → b ≡ bus_of tape (saved_bus b)
rebuilt b tape is none unlogged = λ i. record b { tape = is i; first_touches = none i; log = unlogged i }

bus_is : (p : Past) (n : ℕ) → (state_at p n).bus ≡ bus_of p.setup.tape (saved_bus (state_at p n).bus)
bus_is p n = rebuilt (state_at p n).bus p.setup.tape (tape_stays p n) (state_is_bare p n) (state_is_unlogged p n)

pub they_meet : (p q : Past) (c : ℕ) → SameInputsFrom c p q → SavedMeet (saved_machine (at p c)) (saved_machine (at q c)) → MeetAt c p q
they_meet p q c same meets =
    let stamps = (state_at p c).bus.stamps in
    record {
      world_is = ap₂ world meets.processor
          (bus_is p c ∙ ap₂ bus_of same.tape meets.bus ∙ ap (λ b. with_stamps b stamps) (sym (bus_is q c)));
      size = meets.size;
      events = same.events;
    }

-- what is saved, piece by piece
abbrev saved_of : ℕ → World → ℕ → ℕ → SavedMachineData
saved_of n w printed punched = record {
  turn = n;
  processor = w.processor;
  bus = saved_bus w.bus;
  text_length = printed;
  punched_length = punched;
}

same_saved : (n : ℕ) (w v : World) (a b x y : ℕ) → w ≡ v → a ≡ b → x ≡ y → saved_of n w a x ≡ saved_of n v b y
same_saved n w v a b x y worlds printed punched = λ i. saved_of n (worlds i) (printed i) (punched i)

as_long : (xs ys zs whole : List ℕ) → whole ≡ xs ++ drop (length ys) zs → length whole ≡ length xs + (length zs - length ys)
as_long xs ys zs whole is = ap length is ∙ length-append xs (drop (length ys) zs) ∙ ap (λ n. length xs + n) (length-drop (length ys) zs)

pub saved_machines_are_taken : SavedMachinesAreTaken
saved_machines_are_taken p q c d same meets =
    let meet = they_meet p q c same meets in
    same_saved (d + c) (state_at p (d + c)) (world_over c (state_at p c) (state_at q (d + c))) _ _ _ _
    (worlds_meet c d p q meet)
    (as_long (text_at p c) (text_at q c) (text_at q (d + c)) (text_at p (d + c)) (texts_meet c d p q meet))
    (as_long (punched_at p c) (punched_at q c) (punched_at q (d + c)) (punched_at p (d + c)) (punched_meet c d p q meet))

pub kept_bytes_are_taken : KeptBytesAreTaken
kept_bytes_are_taken p q c d same meets =
    let meet = they_meet p q c same meets in (
      grow_alike (text_kept_at p) (text_kept_at q) (λ n. with_turn n (printed_of p n)) (λ n. with_turn n (printed_of q n)) (text_keeps p).next (text_keeps q).next c
          (λ k. ap (with_turn (k + c)) (turns_meet c k p q meet).printed) d,
      grow_alike (punched_kept_at p) (punched_kept_at q) (λ n. with_turn n (punched_of p n)) (λ n. with_turn n (punched_of q n)) (punched_keeps p).next (punched_keeps q).next c
          (λ k. ap (with_turn (k + c)) (turns_meet c k p q meet).punched) d,
    )
