-- A machine that is made a saved machine of another run, which its own run meets, is in its own run.
use Rattle.std.proofs.Common.{◌≡◌, ◌∙◌, ℕ, ◌+◌, List, ◌++◌, refl, sym, ap, ap₂, subst, length, map, drop, arith}
use Rattle.pdp_store.specs.FirstTouches.{FirstTouches}
use Rattle.pdp_store.specs.Overlays.{first_touches_over}
use Rattle.pdp_operand.specs.Phases.World.{World}
use Rattle.pdp_cpu.specs.Saved.{SavedMachineData, SavedMeet, saved_machine, saved_over, state_on}
use Rattle.pdp_cpu.specs.Handbook.MachineState.{MachineWithTexts}
use Rattle.pdp_cpu.specs.declared.kept_text.KeptByte.{KeptByte}
use Rattle.pdp_replay.specs.Past.{Past}
use Rattle.pdp_replay.specs.Past.Setup.{SetupData}
use Rattle.pdp_replay.specs.Run.Adoptions.{AdoptedRunsGoOn}
use Rattle.pdp_replay.specs.Run.Checkpoints.{IsBuiltFrom, KeepsTexts, punched_kept_at, text_kept_at}
use Rattle.pdp_replay.specs.Run.FirstTouches.{first_touches_at}
use Rattle.pdp_replay.specs.Run.States.{at, punched_at, text_at}
use Rattle.pdp_replay.proofs.run.KeptBytes.{length_is}
use Rattle.pdp_replay.proofs.run.KeptTexts.{printed_of, punched_keeps, punched_of, text_keeps}
use Rattle.pdp_replay.proofs.run.Meetings.{first_touches_are_taken}
use Rattle.pdp_replay.proofs.run.Resumed.{resumes}
use Rattle.pdp_replay.proofs.run.SavedMeetings.{kept_bytes_are_taken, saved_machines_are_taken, they_meet}
use Rattle.pdp_replay.proofs.run.StateSizes.{at_is_built}

pub text_size : (q : Past) (n : ℕ) → length (text_kept_at q n) ≡ length (text_at q n)
text_size q n = length_is (text_kept_at q) (text_at q) (printed_of q) (text_keeps q) n

pub punched_size : (q : Past) (n : ℕ) → length (punched_kept_at q n) ≡ length (punched_at q n)
punched_size q n = length_is (punched_kept_at q) (punched_at q) (punched_of q) (punched_keeps q) n

-- a machine of the same world has what no turn changes
still_built : (s : SetupData) (m now : MachineWithTexts) → now.state.world ≡ m.state.world → IsBuiltFrom s m → IsBuiltFrom s now
still_built s m now same built = record {
  tape = ap (λ (w : World). w.bus.tape) same ∙ built.tape;
  core = ap (λ (w : World). length w.bus.core) same ∙ built.core;
  stamps = ap (λ (w : World). length w.bus.stamps) same ∙ built.stamps;
  drives = ap (λ (w : World). map length w.bus.drives) same ∙ built.drives;
}

-- bytes after those of one length, and after those of another
after_as_many : (xs ys zs : List KeptByte) (m n : ℕ) → xs ≡ ys → m ≡ n → xs ++ drop m zs ≡ ys ++ drop n zs
after_as_many xs ys zs m n same many = ap₂ (λ l k. l ++ drop k zs) same many

pub adopted_runs_go_on : AdoptedRunsGoOn
adopted_runs_go_on p q c d before taking after here keeps inputs meets none adopts =
    let same : saved_machine before.state ≡ saved_machine (at p c) = ap saved_machine here in
    let meets_p : SavedMeet (saved_machine (at p c)) (saved_machine (at q c))
    = subst (λ (s : SavedMachineData). SavedMeet s (saved_machine (at q c))) same meets in
    let bytes = kept_bytes_are_taken p q c d inputs meets_p in
    let saved = saved_machines_are_taken p q c d inputs meets_p in
    let texts : KeepsTexts p (d + c) taking = record {
      text = adopts.texts.text
          ∙ after_as_many before.kept_text (text_kept_at p c) (text_kept_at q (d + c)) _ _ keeps.text (sym (text_size q c))
          ∙ sym bytes.0;
      punched = adopts.texts.punched
          ∙ after_as_many before.kept_punched (punched_kept_at p c) (punched_kept_at q (d + c)) _ _ keeps.punched (sym (punched_size q c))
          ∙ sym bytes.1;
      first_touches = adopts.texts.first_touches
          ∙ ap (λ (f : FirstTouches). first_touches_over c f (first_touches_at q (d + c))) keeps.first_touches
          ∙ sym (first_touches_are_taken p q c d (they_meet p q c inputs meets_p) none);
    } in
    let built = still_built p.setup before taking adopts.texts.world (at_is_built p c before here) in
    let over = ap (λ (s : SavedMachineData). saved_over c s (saved_machine (at q c)) (saved_machine (at q (d + c)))) same in (
      adopts.state ∙ ap (state_on taking) (over ∙ sym saved)
          ∙ resumes p (d + c) (d + c) taking (saved_machine (at p (d + c))) refl (omega arith) texts built,
      record {
        text = adopts.text ∙ texts.text;
        punched = adopts.punched ∙ texts.punched;
        first_touches = adopts.first_touches ∙ texts.first_touches;
      },
    )
