-- A run that gets seven drives more and begins anew.
use Rattle.std.proofs.Common.{◌≡◌, ◌∙◌, ℕ, zero, suc, ◌+◌, ◌<◌, ◌≤◌, ◌++◌, ◌&&◌, Bool, true, false, List, [], ◌∷◌, ◌/◌, None, ap, ap₂, arith, get_or, length, length-append, length-set, map, nat_eq, refl, replicate, subst, sym, take}
use Rattle.std.specs.List.{range_with_len}
use Rattle.std.proofs.lemmas.Bool.{eqb-true}
use Rattle.std.proofs.lemmas.List.{length-replicate, map-append}
use Rattle.std.proofs.lemmas.List.Elements.{All-tail}
use Rattle.std.proofs.lemmas.List.FromFn.{map-range_with_len_more}
use Rattle.std.proofs.Math.Seq.{take-append_seam}
use Rattle.pdp_checkpoint.specs.Ladder.{checkpoint_of}
use Rattle.pdp_cpu.specs.KeptTexts.{kept_before}
use Rattle.pdp_cpu.specs.Saved.{state_cut}
use Rattle.pdp_cpu.specs.Handbook.MachineState.{MachineState, MachineWithTexts, machine_at_power_up}
use Rattle.pdp_store.specs.FirstTouches.{FirstTouches, all_first_touches_before, first_touches_after, first_touches_before, first_touches_of, word_touched}
use Rattle.pdp_store.specs.TracedAccess.{TracedAccess}
use Rattle.pdp_store.specs.Parts.{is_same_part, word_at}
use Rattle.pdp_store.specs.declared.part.Part.{Part}
use Rattle.pdp_store.specs.declared.part.Part.TheVariants as parts
use Rattle.pdp_store.specs.Stored.{no_touch_in}
use Rattle.pdp_replay.specs.Past.Edit.{with_eight_drives}
use Rattle.pdp_replay.specs.Run.FirstTouches.{first_touches_at, untouched_all}
use Rattle.pdp_replay.specs.Past.FirstWords.{AllThere, IsThere, PartHasWord, core_words, disk_words, drives_words}
use Rattle.pdp_replay.specs.Past.Image.{more_drives, padded_drive}
use Rattle.pdp_replay.specs.Run.KeptRuns.{BeginsAnew, IsKeptRun, IsOnWay, with_more_drives, with_more_first_touches}
use Rattle.pdp_replay.specs.Run.Checkpoints.{AreKept, KeepsTexts, punched_kept_at, text_kept_at}
use Rattle.pdp_replay.specs.Past.{Past}
use Rattle.pdp_replay.specs.Past.PatchedWords.{Patches, is_same_word, patch_of}
use Rattle.pdp_replay.specs.Past.Setup.{IsGood, SetupData, core_size, drive_words}
use Rattle.pdp_replay.specs.Run.States.{at, first_world, first_state, punched_at, text_at, trace_at}
use Rattle.pdp_replay.specs.Run.Strides.{IsStride}
use Rattle.pdp_replay.specs.Timeline.{IsEngine}
use Rattle.pdp_replay.specs.declared.run.kept_run.KeptRun.{KeptRun}
use Rattle.pdp_store.specs.declared.part.WordAt.{WordAt}
use Rattle.pdp_replay.proofs.past.FirstWords.{drive_is_padded, image_fits, one_drive}
use Rattle.pdp_replay.proofs.run.Checkpoints.{states_first}
use Rattle.pdp_replay.proofs.run.KeptTexts.{text_kept_before, punched_kept_before}
use Rattle.pdp_replay.proofs.run.Lowered.{cut_after}
use Rattle.pdp_replay.proofs.run.RunFirstTouches.{blank_stays, drives_stay, first_touches_cut}
use Rattle.pdp_replay.proofs.run.StateSizes.{at_is_built}
use Rattle.pdp_replay.proofs.run.States.{at_first}

-- no word of a drive that isn't there has a patch
not_same : (drive other : ℕ) → other < drive → (same : Bool) → nat_eq drive other ≡ same → same ≡ false
not_same drive other below true is = let same = eqb-true drive other is in absurd (omega (arith, same, below))
not_same drive other below false is = refl

other_drive : (s : SetupData) (drive number : ℕ) (part : Part) → s.drives ≤ drive → PartHasWord s part number → is_same_part (parts.Drive drive) part ≡ false
other_drive s drive number parts.Core past there = refl
other_drive s drive number (parts.Drive d) past there =
    let below = there.0 in
    not_same drive d (omega (arith, past, below)) (nat_eq drive d) refl

other_word : (s : SetupData) (drive number : ℕ) (k : WordAt) → s.drives ≤ drive → IsThere s k → is_same_word (word_at (parts.Drive drive) number) k ≡ false
other_word s drive number k past there = ap (λ same. same && nat_eq number k.number) (other_drive s drive k.number k.part past there)

unpatched : (s : SetupData) (ps : Patches) (drive number : ℕ) → s.drives ≤ drive → AllThere s ps → patch_of ps (word_at (parts.Drive drive) number) ≡ None
unpatched s [] drive number past there = refl
unpatched s (p ∷ ps) drive number past there =
    let other : is_same_word (word_at (parts.Drive drive) number) p.0 ≡ false = other_word s drive number p.0 past (there 0 p (omega arith)) in
    let later : patch_of ps (word_at (parts.Drive drive) number) ≡ None = unpatched s ps drive number past (All-tail (λ q. IsThere s q.0) p ps there) in
    simp other later

-- so each of them is its padded image
padded_from : (s : SetupData) → IsGood s → AllThere s s.patches → (first count : ℕ) → s.drives ≤ first
    → map (disk_words s) (range_with_len first count) ≡ map (padded_drive s.disks) (range_with_len first count)
padded_from s good there first zero past = refl
padded_from s good there first (suc count) past =
    ap₂ (λ words drives. words ∷ drives)
    (sym (drive_is_padded s first (image_fits s.disks first good.disks) (λ number. unpatched s s.patches first number past there)))
    (padded_from s good there (first + 1) count (omega (arith, past)))

-- eight drives as of power-up are the one and these seven
eight_are : (s : SetupData) → IsGood s → AllThere s s.patches → s.drives ≡ 1
    → drives_words (with_eight_drives s) ≡ drives_words s ++ more_drives s.disks
unfolding drives_words disk_words more_drives
eight_are s good there one =
    ap (λ drives. disk_words s 0 ∷ drives) (padded_from s good there 1 7 (omega (arith, one)))
    ∙ sym (ap (λ drives. drives ++ more_drives s.disks) (one_drive s one))

-- a machine as of power-up over these drives
abbrev powered_with : SetupData → List (List ℕ) → MachineState
powered_with s drives = machine_at_power_up s.start (core_words s) (replicate (core_size s) None) drives s.tape s.delays

powered_more : (s : SetupData) → IsGood s → AllThere s s.patches → s.drives ≡ 1
    → with_more_drives (more_drives s.disks) (first_state s) ≡ first_state (with_eight_drives s)
unfolding first_world core_words
powered_more s good there one = ap (powered_with s) (sym (eight_are s good there one))

widened_in : (s : SetupData) (part : Part) (number : ℕ) → s.drives ≡ 1 → PartHasWord s part number → PartHasWord (with_eight_drives s) part number
widened_in s parts.Core n one there = there
widened_in s (parts.Drive d) n one there = let below = there.0 in (omega (arith, one, below), there.1)

widened : (s : SetupData) (k : WordAt) → s.drives ≡ 1 → IsThere s k → IsThere (with_eight_drives s) k
widened s k one there = widened_in s k.part k.number one there

-- a run whose machine is in its state of turn 0
is_first_state : (p : Past) (r : KeptRun) → IsOnWay p r → r.machine.state.turn ≡ 0 → r.machine.state ≡ first_state p.setup
is_first_state p r on start = on.here ∙ ap (at p) start ∙ at_first p

-- with seven drives more it is in the first state of the run with eight
begun_anew : (p q : Past) (before : KeptRun) → IsGood p.setup → AllThere p.setup p.setup.patches → IsOnWay p before
    → before.machine.state.turn ≡ 0 → p.setup.drives ≡ 1 → q.setup ≡ with_eight_drives p.setup
    → with_more_drives (more_drives p.setup.disks) before.machine.state ≡ at q 0
begun_anew p q before good there on start one setup =
    ap (with_more_drives (more_drives p.setup.disks)) (is_first_state p before on start)
    ∙ powered_more p.setup good there one
    ∙ ap first_state (sym setup)
    ∙ sym (at_first q)

-- before turn 0 nothing came out, so nothing is cut
none_cut : (q : Past) (printed punched : ℕ) → state_cut printed punched (at q 0) ≡ at q 0
unfolding text_at punched_at
none_cut q printed punched = cut_after q 0 printed punched (omega arith) (omega arith)

-- the pages of seven drives, of which none is touched
abbrev seven_untouched : List (List ℕ)
seven_untouched = replicate 7 (no_touch_in drive_words)

-- before turn 0 no page is touched, and none of those drives
untouched_with : (p q : Past) (known : ℕ) → p.setup.drives ≡ 1 → q.setup ≡ with_eight_drives p.setup
    → all_first_touches_before 0 (with_more_first_touches seven_untouched (first_touches_at p known)) ≡ first_touches_at q 0
unfolding trace_at first_touches_after untouched_all
untouched_with p q known one setup =
    let f : FirstTouches = first_touches_at p known in
    let cut : all_first_touches_before 0 f ≡ first_touches_at p 0 = first_touches_cut p 0 known (omega arith) (omega arith) in
    let blank : first_touches_before 0 (no_touch_in drive_words) ≡ no_touch_in drive_words = blank_stays 0 ((drive_words + 255) / 256) in
    ap (first_touches_of (first_touches_before 0 f.core)) (map-append (first_touches_before 0) f.drives seven_untouched)
    ∙ ap (λ drives. first_touches_of (first_touches_before 0 f.core) (map (first_touches_before 0) f.drives ++ drives)) (drives_stay 0 (no_touch_in drive_words) 7 blank)
    ∙ ap (with_more_first_touches seven_untouched) cut
    ∙ ap (λ count. first_touches_of (no_touch_in (core_size p.setup)) (replicate count (no_touch_in drive_words) ++ seven_untouched)) one
    ∙ ap untouched_all (sym setup)

-- so it is for a machine that keeps what was printed, punched and touched of a run
texts_begun : (p q : Past) (known : ℕ) (m now : MachineWithTexts) → KeepsTexts p known m → p.setup.drives ≡ 1
    → q.setup ≡ with_eight_drives p.setup → now.kept_text ≡ kept_before 0 m.kept_text → now.kept_punched ≡ kept_before 0 m.kept_punched
    → now.first_touches ≡ all_first_touches_before 0 (with_more_first_touches seven_untouched m.first_touches) → KeepsTexts q 0 now
unfolding text_kept_at punched_kept_at
texts_begun p q known m now keeps one setup text punched first_touches = record {
  text = text ∙ ap (kept_before 0) keeps.text ∙ text_kept_before p 0 known (omega arith);
  punched = punched ∙ ap (kept_before 0) keeps.punched ∙ punched_kept_before p 0 known (omega arith);
  first_touches = first_touches ∙ ap (λ f. all_first_touches_before 0 (with_more_first_touches seven_untouched f)) keeps.first_touches ∙ untouched_with p q known one setup;
}

-- the first touches of a run are of as many drives as there are
drives_after : (xs : List TracedAccess) (f : FirstTouches) → length (first_touches_after xs f).drives ≡ length f.drives
unfolding first_touches_after
drives_after [] f = refl
drives_after (x ∷ xs) f = drives_after xs (word_touched x.part x.word x.turn f) ∙ one_touched x.part x.word x.turn f where
  one_touched : (part : Part) (word turn : ℕ) (f : FirstTouches) → length (word_touched part word turn f).drives ≡ length f.drives
  one_touched parts.Core word turn f = refl
  one_touched (parts.Drive d) word turn f = length-set f.drives d _

pub first_touches_counted : (p : Past) (known : ℕ) (m : MachineWithTexts) → KeepsTexts p known m → length m.first_touches.drives ≡ p.setup.drives
unfolding untouched_all
first_touches_counted p known m keeps =
    ap (λ (f : FirstTouches). length f.drives) keeps.first_touches
    ∙ drives_after (trace_at p known) (untouched_all p.setup)
    ∙ length-replicate p.setup.drives (no_touch_in drive_words)

-- which is kept, and nothing else
kept_begun : (p q : Past) (drives : List (List ℕ)) (before after : KeptRun) → AreKept p before.known before.machine before.ladder
    → p.setup.drives ≡ 1 → q.setup ≡ with_eight_drives p.setup
    → with_more_drives drives before.machine.state ≡ at q 0 → BeginsAnew drives seven_untouched before after → IsKeptRun q after
kept_begun p q drives before after kept one setup first anew =
    let known = anew.known in
    let here : after.machine.state ≡ at q 0 =
    anew.state
    ∙ ap (state_cut (length after.machine.kept_text) (length after.machine.kept_punched)) first
    ∙ none_cut q (length after.machine.kept_text) (length after.machine.kept_punched) in
    let turn : after.machine.state.turn ≡ 0 = ap (λ (s : MachineState). s.turn) here in
    record {
      kept = rw known (record {
        states = states_first q after.ladder (anew.kept ∙ ap (λ m. checkpoint_of m ∷ []) first) anew.near anew.formers anew.checkpoints;
        texts = texts_begun p q before.known before.machine after.machine kept.texts one setup anew.text anew.punched anew.first_touches;
        built = at_is_built q 0 after.machine here;
      });
      current = λ yes. record { here = here ∙ ap (at q) (sym turn); reached = omega (arith, turn) };
    }

-- an engine that was given them
pub engine_begun : (p q : Past) (highest : ℕ) (first before after : KeptRun) → IsEngine p highest first → IsOnWay p before
    → before.machine.state.turn ≡ 0 → before.ladder ≡ first.ladder → p.setup.drives ≡ 1 → q.setup ≡ with_eight_drives p.setup
    → BeginsAnew (more_drives p.setup.disks) seven_untouched before after → after.ladder.stride ≡ before.ladder.stride → IsEngine q highest after
engine_begun p q highest first before after engine on start ladder one setup anew stride =
    let good : IsGood (with_eight_drives p.setup) =
    record { units = engine.good.units; some = engine.good.some; widest = engine.good.widest; core = engine.good.core; disks = engine.good.disks } in
    let there : AllThere (with_eight_drives p.setup) p.setup.patches =
    λ i d below. widened p.setup (get_or p.setup.patches i d).0 one (engine.there i d below) in
    record {
      good = subst IsGood (sym setup) good;
      there = subst (λ (s : SetupData). AllThere s s.patches) (sym setup) there;
      reached = rw anew.known (omega arith);
      limit = engine.limit;
      stride = subst (λ (s : SetupData). IsStride s.stride highest after.ladder.stride) (sym setup) (rw (stride, ladder) engine.stride);
      run = kept_begun p q (more_drives p.setup.disks) before after on.kept one setup (begun_anew p q before engine.good engine.there on start one setup) anew;
    }

-- an engine whose run is still that of its past, up to a known turn that isn't above the one before
pub engine_of : (p : Past) (highest : ℕ) (before after : KeptRun) → IsEngine p highest before → after.known ≤ before.known
    → after.ladder.stride ≡ before.ladder.stride → IsKeptRun p after → IsEngine p highest after
engine_of p highest before after engine known stride run =
    let reached = engine.reached in
    record {
      good = engine.good;
      there = engine.there;
      reached = omega (arith, reached, known);
      limit = engine.limit;
      stride = rw stride engine.stride;
      run = run;
    }

-- one drive more over its image
pub one_more : {X : Type 0} (words : X → List ℕ) (value : ℕ → List ℕ) (xs now : List X) (x : X) (number : ℕ) → length xs + 1 ≡ number
    → words x ≡ value number → now ≡ xs ++ x ∷ [] → map words xs ≡ map value (range_with_len 1 (length xs))
    → map words now ≡ map value (range_with_len 1 (length now))
one_more words value xs now x number next is pushed before =
    let long : length now ≡ length xs + 1 = ap length pushed ∙ length-append xs (x ∷ []) in
    ap (map words) pushed
    ∙ map-append words xs (x ∷ [])
    ∙ ap₂ (λ drives drive. drives ++ drive ∷ []) before is
    ∙ sym (map-range_with_len_more value 1 (length xs) number (omega (arith, next)))
    ∙ ap (λ n. map value (range_with_len 1 n)) (sym long)

-- all have the same
pub all_alike : {X Y : Type 0} (pages : X → Y) (xs now : List X) (x : X) (blank : Y) → pages x ≡ blank → now ≡ xs ++ x ∷ []
    → map pages xs ≡ replicate (length xs) blank → map pages now ≡ replicate (length now) blank
all_alike {X} {Y} pages xs now x blank is pushed before =
    ap (map pages) pushed ∙ each xs before ∙ ap (λ (ys : List X). replicate (length ys) blank) (sym pushed) where
      each : (ys : List X) → map pages ys ≡ replicate (length ys) blank → map pages (ys ++ x ∷ []) ≡ replicate (length (ys ++ x ∷ [])) blank
      each [] same = ap (λ words. words ∷ []) is
      each (y ∷ ys) same = ap₂ (λ words rest. words ∷ rest) (cc same) (each ys (cc same))

-- if there is one drive, it alone is kept of more
pub one_kept : (drives more : List (List ℕ)) → length drives ≡ 1 → take 1 (drives ++ more) ≡ drives
one_kept drives more one = ap (λ n. take n (drives ++ more)) (sym one) ∙ take-append_seam drives more
