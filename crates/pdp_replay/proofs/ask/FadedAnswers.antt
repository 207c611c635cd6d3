-- What an edit that fades leaves of the answers.
use Rattle.std.proofs.Common.{◌≡◌, ◌∙◌, ◌+◌, ◌-◌, ◌*◌, ◌/◌, ◌<◌, ◌≤◌, ◌==◌, ◌&&◌, ◌++◌, ℕ, zero, suc, Bool, true, false, List, [], ◌∷◌, Option, Some, None, Result, Ok, Err, if◌then◌else◌, ap, ap₂, arith, drop, length, nat_le, refl, slice_index, subst, sym, ⊎_elim}
use Rattle.std.specs.Prelude.{◌↔◌}
use Rattle.std.specs.List.{All}
use Rattle.std.proofs.lemmas.Bool.{cases_lt}
use Rattle.std.proofs.lemmas.List.{take-append-drop}
use Rattle.pdp_kt11.specs.declared.mode.Mode.{Mode}
use Rattle.pdp_kt11.specs.declared.place.Abort.{Abort}
use Rattle.pdp_store.specs.TracedAccess.{TracedAccess, is_core, last_write, stamp_of}
use Rattle.pdp_store.specs.Overlays.{IsBefore}
use Rattle.pdp_store.specs.Parts.{word_at}
use Rattle.pdp_store.specs.declared.Stamp.{Stamp}
use Rattle.pdp_store.specs.declared.part.Part.TheVariants as part
use Rattle.pdp_store.specs.declared.part.WordAt.{WordAt}
use Rattle.pdp_store.proofs.Traces.{last_write-append}
use Rattle.pdp_unibus.specs.Handbook.BusWorld.{BusWorld, with_stamps}
use Rattle.pdp_unibus.specs.Handbook.Cycle.{Slave, Core, Device, Nobody, slave_at}
use Rattle.pdp_unibus.specs.Handbook.LastTurn.{last_turn}
use Rattle.pdp_unibus.specs.Handbook.Shown.{devices_of, page_registers_of}
use Rattle.pdp_unibus.specs.Touched.{IsOfTurn}
use Rattle.pdp_operand.specs.Phases.World.{World}
use Rattle.pdp_cpu.proofs.Carried.{stamps_disturb_nothing}
use Rattle.pdp_cpu.proofs.TurnLaws.{turn_touches}
use Rattle.pdp_cpu.specs.Handbook.MachineState.{world_with_stamps}
use Rattle.pdp_cpu.specs.Handbook.Regs.{regs_of}
use Rattle.pdp_cpu.specs.declared.act.Act.{Act}
use Rattle.pdp_script.specs.Entries.{events_at}
use Rattle.pdp_script.specs.Refusal.{question_answer}
use Rattle.pdp_script.specs.Script.{ScriptData, script_edited}
use Rattle.pdp_script.specs.declared.faults.Fault.{Fault}
use Rattle.pdp_script.specs.declared.faults.Fault.TheVariants.{TurnTooLarge}
use Rattle.pdp_replay.specs.Ask.Answer.{answer, disk_range_checked, first_turn_needed, question_checked, range_checked, range_rule, turn_asked, words_from}
use Rattle.pdp_replay.specs.Ask.FadedAnswers.{AnswersAlike, EditsLeaveWhatCanBeAsked, FadedEditsChangeNoAnswer, GrowAlike, IsLastInBoth}
use Rattle.pdp_replay.specs.Ask.Fadings.{are_joined, fading, joined_by}
use Rattle.pdp_replay.specs.Ask.LastWrites.{last_write_at, last_write_of}
use Rattle.pdp_replay.specs.Ask.Searches.{first_turn_of, or_turn}
use Rattle.pdp_replay.specs.Ask.Trails.{trail_entry, trail_of}
use Rattle.pdp_replay.specs.Ask.VirtualReads.{core_word_at_place, core_word_of, place_of_read, virtual_checked, virtual_word, virtual_words, with_next_word}
use Rattle.pdp_replay.specs.Ask.WordsFound.{core_search_checked, disk_search_checked, words_found}
use Rattle.pdp_replay.specs.Past.{Past, of_script, of_setup, with_script, with_setup}
use Rattle.pdp_replay.specs.Past.Edit.{core_edit, core_word_at, disk_edit, disk_word_at, edited_at, past_edit, setup_with_patch, with_patch}
use Rattle.pdp_replay.specs.Past.Setup.{SetupData}
use Rattle.pdp_replay.specs.Run.FirstTouches.{trace_of_turn}
use Rattle.pdp_replay.specs.Run.Meetings.{MeetAt}
use Rattle.pdp_replay.specs.Run.States.{Begins, disk_of, punched_at, state_at, text_at, trace_at}
use Rattle.pdp_replay.specs.declared.ask.last_write.LastWrite.{LastWrite}
use Rattle.pdp_replay.specs.declared.ask.question.Question.{Question}
use Rattle.pdp_replay.specs.declared.ask.question.Question.TheVariants as question
use Rattle.pdp_replay.specs.declared.ask.question.Value.TheVariants as value
use Rattle.pdp_replay.specs.declared.ask.trail.TrailEntry.{TrailEntry}
use Rattle.pdp_replay.specs.declared.past.past_edit.PastEdit.{PastEdit}
use Rattle.pdp_replay.specs.declared.past.past_edit.PastEdit.TheVariants.{Script, Word}
use Rattle.pdp_replay.specs.declared.past.patch.Patch.TheVariants as patch
use Rattle.pdp_replay.proofs.ask.FadingEdits.{fading_is, too_large}
use Rattle.pdp_replay.proofs.ask.Fadings.{joined_is_decided, same_inputs}
use Rattle.pdp_replay.proofs.run.Meetings.{meet_again, punched_meet, texts_meet, turns_meet}
use Rattle.pdp_replay.proofs.run.SavedMeetings.{they_meet}
use Rattle.pdp_replay.proofs.run.Texts.{punched_grows, text_grows}

-- the state before a turn from the one on in which both meet: only the stamps differ
pub state_alike : (p q : Past) (t n : ℕ) → MeetAt t p q → t ≤ n → state_at p n ≡ world_with_stamps (state_at q n) (state_at p n).bus.stamps
state_alike p q t n meet le =
    let d : ℕ = n - t in
    let there : d + t ≡ n = omega (arith, le) in
    (subst (λ m. MeetAt m p q) there (meet_again p q t d meet)).world_is

-- words at virtual addresses, whatever stamps there are
by_slave : (slave : Slave) (b : BusWorld) (stamps : List (Option Stamp)) → core_word_of slave (with_stamps b stamps) ≡ core_word_of slave b
by_slave (Core number) b stamps = refl
by_slave (Device register) b stamps = refl
by_slave Nobody b stamps = refl

at_place : (place : Result ℕ Abort) (b : BusWorld) (stamps : List (Option Stamp)) → core_word_at_place place (with_stamps b stamps) ≡ core_word_at_place place b
at_place (Ok physical) b stamps = by_slave (slave_at (length b.core) physical) b stamps
at_place (Err abort) b stamps = refl

word_restamped : (mode : Mode) (address : ℕ) (b : BusWorld) (stamps : List (Option Stamp)) → virtual_word mode address (with_stamps b stamps) ≡ virtual_word mode address b
unfolding virtual_word
word_restamped mode address b stamps = at_place (place_of_read mode address b) b stamps

words_restamped : (mode : Mode) (address n : ℕ) (b : BusWorld) (stamps : List (Option Stamp)) → virtual_words mode address n (with_stamps b stamps) ≡ virtual_words mode address n b
unfolding virtual_words
words_restamped mode address zero b stamps = refl
words_restamped mode address (suc n) b stamps =
    ap₂ (λ read word. with_next_word read (address + 2 * n) word) (words_restamped mode address n b stamps) (word_restamped mode (address + 2 * n) b stamps)

-- trails
abbrev entry_of : ℕ → ℕ → Act → TrailEntry
entry_of turn pc act = record { turn = turn; pc = pc; act = act }

entry_alike : (p q : Past) (t n : ℕ) → MeetAt t p q → t ≤ n
    → trail_entry n (events_at p.script.entries n) (state_at p n) ≡ trail_entry n (events_at q.script.entries n) (state_at q n)
entry_alike p q t n meet le =
    let w = state_at q n in
    let es = events_at q.script.entries n in
    ap₂ (trail_entry n) (meet.events n le) (state_alike p q t n meet le)
    ∙ ap (entry_of n (regs_of w).pc) (stamps_disturb_nothing n es w (state_at p n).bus.stamps).act

trails_alike : (p q : Past) (t first n : ℕ) → MeetAt t p q → t ≤ first → trail_of p first n ≡ trail_of q first n
unfolding trail_of
trails_alike p q t first zero meet le = refl
trails_alike p q t first (suc n) meet le =
    ap₂ (λ (xs : List TrailEntry) (x : TrailEntry). xs ++ x ∷ []) (trails_alike p q t first n meet le) (entry_alike p q t (first + n) meet (omega (arith, le)))

-- texts
grown : (first whole : List ℕ) → Begins first whole → whole ≡ first ++ drop (length first) whole
grown first whole begins = sym (take-append-drop (length first) whole) ∙ ap (λ xs. xs ++ drop (length first) whole) (sym begins)

texts_alike : (p q : Past) (t n : ℕ) → MeetAt t p q → t ≤ n → GrowAlike (text_at p t) (text_at q t) (text_at p n) (text_at q n)
texts_alike p q t n meet le =
    let d : ℕ = n - t in
    let there : d + t ≡ n = omega (arith, le) in
    let from : t + d ≡ n = omega (arith, le) in
    record {
      added = drop (length (text_at q t)) (text_at q n);
      one_is = subst (λ m. text_at p m ≡ text_at p t ++ drop (length (text_at q t)) (text_at q m)) there (texts_meet t d p q meet);
      other_is = grown (text_at q t) (text_at q n) (subst (λ m. Begins (text_at q t) (text_at q m)) from (text_grows q t d));
    }

punched_alike : (p q : Past) (t n : ℕ) → MeetAt t p q → t ≤ n → GrowAlike (punched_at p t) (punched_at q t) (punched_at p n) (punched_at q n)
punched_alike p q t n meet le =
    let d : ℕ = n - t in
    let there : d + t ≡ n = omega (arith, le) in
    let from : t + d ≡ n = omega (arith, le) in
    record {
      added = drop (length (punched_at q t)) (punched_at q n);
      one_is = subst (λ m. punched_at p m ≡ punched_at p t ++ drop (length (punched_at q t)) (punched_at q m)) there (punched_meet t d p q meet);
      other_is = grown (punched_at q t) (punched_at q n) (subst (λ m. Begins (punched_at q t) (punched_at q m)) from (punched_grows q t d));
    }

-- last writes: a stamp of turn c or of a later turn is the last one in both traces, or in neither
abbrev SameLate : ℕ → Option Stamp → Option Stamp → Type 0
SameLate c one other = (stamp : Stamp) → c ≤ stamp.turn → (one ≡ Some stamp) ↔ (other ≡ Some stamp)

late_after : (c k : ℕ) (xs : List TracedAccess) (one other : Option Stamp) → SameLate c one other → SameLate c (last_write xs k one) (last_write xs k other)
late_after c k [] one other same = same
late_after c k (x ∷ xs) one other same =
    late_after c k xs (if x.writes && is_core x.part && x.word == k then Some (stamp_of x) else one)
    (if x.writes && is_core x.part && x.word == k then Some (stamp_of x) else other) (by (x.writes && is_core x.part && x.word == k))
  where
    by : (b : Bool) → SameLate c (if b then Some (stamp_of x) else one) (if b then Some (stamp_of x) else other)
    by true = λ stamp le. (λ is. is, λ is. is)
    by false = same

before_after : (n words k : ℕ) (xs : List TracedAccess) (last : Option Stamp) → All (IsOfTurn n words) xs → IsBefore (suc n) last → IsBefore (suc n) (last_write xs k last)
before_after n words k [] last all early = early
before_after n words k (x ∷ xs) last all early =
    before_after n words k xs (if x.writes && is_core x.part && x.word == k then Some (stamp_of x) else last)
    (λ i d below. all (suc i) d (omega (arith, below))) (by (x.writes && is_core x.part && x.word == k))
  where
    by : (b : Bool) → IsBefore (suc n) (if b then Some (stamp_of x) else last)
    by true = let is = (all zero x (omega arith)).turn_is in omega (arith, is)
    by false = early

before_next : (n : ℕ) (last : Option Stamp) → IsBefore n last → IsBefore (suc n) last
before_next n None early = tt
before_next n (Some stamp) early = omega (arith, early)

-- the last write before a turn is of a turn before it
last_is_before : (p : Past) (n k : ℕ) → IsBefore n (last_write (trace_at p n) k None)
unfolding trace_at
last_is_before p zero k = tt
last_is_before p (suc n) k =
    subst (IsBefore (suc n)) (sym (last_write-append (trace_at p n) (trace_of_turn p n) k None))
    (before_after n (length (state_at p n).bus.core) k (trace_of_turn p n) (last_write (trace_at p n) k None)
    (turn_touches n (events_at p.script.entries n) (state_at p n)) (before_next n (last_write (trace_at p n) k None) (last_is_before p n k)))

not_late : (c : ℕ) (last : Option Stamp) (stamp : Stamp) → c ≤ stamp.turn → IsBefore c last → last ≡ Some stamp → ⊥
not_late c last stamp le early is = let low : stamp.turn < c = subst (IsBefore c) is early in omega (arith, le, low)

none_late : (c : ℕ) (one other : Option Stamp) → IsBefore c one → IsBefore c other → SameLate c one other
none_late c one other early too = λ stamp le. (λ is. absurd (not_late c one stamp le early is), λ is. absurd (not_late c other stamp le too is))

late_next : (p q : Past) (c n k : ℕ) → trace_of_turn p n ≡ trace_of_turn q n → SameLate c (last_write (trace_at p n) k None) (last_write (trace_at q n) k None)
    → SameLate c (last_write (trace_at p (suc n)) k None) (last_write (trace_at q (suc n)) k None)
unfolding trace_at
late_next p q c n k trace same =
    let one = last_write (trace_at p n) k None in
    let other = last_write (trace_at q n) k None in
    let here = last_write-append (trace_at p n) (trace_of_turn p n) k None ∙ ap (λ xs. last_write xs k one) trace in
    let there = last_write-append (trace_at q n) (trace_of_turn q n) k None in
    subst (λ x. SameLate c x (last_write (trace_at q n ++ trace_of_turn q n) k None)) (sym here)
    (subst (SameLate c (last_write (trace_of_turn q n) k one)) (sym there) (late_after c k (trace_of_turn q n) one other same))

late_alike : (p q : Past) (c d k : ℕ) → MeetAt c p q → SameLate c (last_write (trace_at p (d + c)) k None) (last_write (trace_at q (d + c)) k None)
late_alike p q c zero k meet =
    let e : zero + c ≡ c = omega arith in
    rw e (none_late c (last_write (trace_at p c) k None) (last_write (trace_at q c) k None) (last_is_before p c k) (last_is_before q c k))
late_alike p q c (suc d) k meet =
    let e : suc d + c ≡ suc (d + c) = omega arith in
    rw e (late_next p q c (d + c) k (turns_meet c d p q meet).trace (late_alike p q c d k meet))

abbrev turn_written : Option LastWrite → ℕ
turn_written None = 0
turn_written (Some write) = write.turn

one_way : (t : ℕ) (one other : Option Stamp) (x y : ℕ) (write : LastWrite) → x ≡ y → t ≤ write.turn
    → ((stamp : Stamp) → t ≤ stamp.turn → one ≡ Some stamp → other ≡ Some stamp) → last_write_of one x ≡ Some write → last_write_of other y ≡ Some write
one_way t None other x y write same le over is = absurd cc
one_way t (Some stamp) other x y write same le over is =
    let turn : stamp.turn ≡ write.turn = ap turn_written is in
    let there : other ≡ Some stamp = over stamp (omega (arith, le, turn)) refl in
    ap (λ (last : Option Stamp). last_write_of last y) there ∙ ap (last_write_of (Some stamp)) (sym same) ∙ is

writes_alike : (t : ℕ) (one other : Option Stamp) (x y : ℕ) → x ≡ y → SameLate t one other → IsLastInBoth t (last_write_of one x) (last_write_of other y)
writes_alike t one other x y same late = λ write le. (
  one_way t one other x y write same le (λ stamp high. (late stamp high).0),
  one_way t other one y x write (sym same) le (λ stamp high. (late stamp high).1),
)

lasts_alike : (p q : Past) (t n k : ℕ) → MeetAt t p q → t ≤ n → IsLastInBoth t (last_write_at p n k) (last_write_at q n k)
lasts_alike p q t n k meet le =
    let d : ℕ = n - t in
    let there : d + t ≡ n = omega (arith, le) in
    writes_alike t (last_write (trace_at p n) k None) (last_write (trace_at q n) k None) (slice_index (state_at p n).bus.core k) (slice_index (state_at q n).bus.core k)
    (ap (λ (w : World). slice_index w.bus.core k) (state_alike p q t n meet le))
    (subst (λ m. SameLate t (last_write (trace_at p m) k None) (last_write (trace_at q m) k None)) there (late_alike p q t d k meet))

-- so it is with each question
pub answers_alike : (t : ℕ) (asked : Question) (p q : Past) → MeetAt t p q → t ≤ first_turn_needed asked → AnswersAlike t asked p q
unfolding answer devices_of page_registers_of
answers_alike t (question.Regs turn) p q meet le = ap (λ (w : World). value.Regs (regs_of w)) (state_alike p q t turn meet le)
answers_alike t (question.Core turn address count) p q meet le = ap (λ (w : World). value.Core (words_from (address / 2) count w.bus.core)) (state_alike p q t turn meet le)
answers_alike t (question.Disk turn drive first count) p q meet le = ap (λ (w : World). value.Disk (words_from first count (disk_of w drive))) (state_alike p q t turn meet le)
answers_alike t (question.Text turn) p q meet le = texts_alike p q t turn meet le
answers_alike t (question.Punched turn) p q meet le = punched_alike p q t turn meet le
answers_alike t (question.Devices turn) p q meet le = ap (λ (w : World). value.Devices (devices_of w.bus)) (state_alike p q t turn meet le)
answers_alike t (question.Pages turn) p q meet le = ap (λ (w : World). value.Pages (page_registers_of w.bus)) (state_alike p q t turn meet le)
answers_alike t (question.Last turn address) p q meet le = lasts_alike p q t turn (address / 2) meet le
answers_alike t (question.Trail turn count) p q meet le = ap value.Trail (trails_alike p q t (turn - count) count meet le)
answers_alike t (question.Translate turn mode address) p q meet le = ap (λ (w : World). value.Translation (place_of_read mode address w.bus)) (state_alike p q t turn meet le)
answers_alike t (question.Virtual turn words) p q meet le =
    ap (λ (w : World). value.Virtual (virtual_words words.mode words.address words.count w.bus)) (state_alike p q t turn meet le)
    ∙ ap value.Virtual (words_restamped words.mode words.address words.count (state_at q turn).bus (state_at p turn).bus.stamps)
answers_alike t (question.FindCore turn wanted) p q meet le =
    ap (λ (w : World). value.FoundCore (words_found wanted.pattern (wanted.first / 2) (wanted.last / 2) w.bus.core)) (state_alike p q t turn meet le)
answers_alike t (question.FindDisk turn drive wanted) p q meet le =
    ap (λ (w : World). value.FoundDisk (words_found wanted.pattern wanted.first wanted.last (disk_of w drive))) (state_alike p q t turn meet le)

-- an edit that can be asked about leaves all of the setup but the patches
abbrev OnlyPatchesDiffer : Past → Past → Type 0
OnlyPatchesDiffer p q = q.setup ≡ record p.setup { patches = q.setup.patches }

of_script_edit : (p q : Past) (due : Result ScriptData Fault) → of_script p due ≡ Ok q → OnlyPatchesDiffer p q
of_script_edit p q (Ok script) is = let same : with_script p script ≡ q = cc in subst (OnlyPatchesDiffer p) same refl
of_script_edit p q (Err fault) is = absurd cc

of_word_edit : (p q : Past) (word : ℕ) (at : ℕ → WordAt) (due : Result ℕ Fault) → of_setup p (edited_at due (λ number. with_patch word p.setup (at number))) ≡ Ok q
    → OnlyPatchesDiffer p q
of_word_edit p q word at (Ok number) is = let same : with_setup p (setup_with_patch word p.setup (at number)) ≡ q = cc in subst (OnlyPatchesDiffer p) same refl
of_word_edit p q word at (Err fault) is = absurd cc

only_patches : (edit : PastEdit) (p q : Past) → past_edit edit p ≡ Ok q → OnlyPatchesDiffer p q
unfolding core_edit disk_edit
only_patches (Script edit) p q made = of_script_edit p q (script_edited edit p.script) made
only_patches (Word (patch.Core address word)) p q made = of_word_edit p q word (word_at part.Core) (core_word_at address p.setup) made
only_patches (Word (patch.Disk drive number word)) p q made =
    of_word_edit p q word (word_at (part.Drive drive)) (disk_word_at drive number p.setup) made

-- a turn that was found has the property
found_by : (holds : ℕ → Bool) (turn t : ℕ) (before : Option ℕ) (there : Bool) → (before ≡ Some t → holds t ≡ true) → holds turn ≡ there → or_turn before there turn ≡ Some t
    → holds t ≡ true
found_by holds turn t (Some found) there earlier here is = earlier is
found_by holds turn t None true earlier here is = let same : turn ≡ t = cc in subst (λ n. holds n ≡ true) same here
found_by holds turn t None false earlier here is = absurd cc

found_holds : (holds : ℕ → Bool) (from n t : ℕ) → first_turn_of holds from n ≡ Some t → holds t ≡ true
unfolding first_turn_of
found_holds holds from zero t is = absurd cc
found_holds holds from (suc n) t is = found_by holds (from + n) t (first_turn_of holds from n) (holds (from + n)) (found_holds holds from n t) refl is

joined_there : (edit : PastEdit) (to t : ℕ) (p q : Past) → fading edit to p ≡ Ok (Some t) → past_edit edit p ≡ Ok q → joined_by to p q ≡ Some t
joined_there edit to t p q is made =
    ⊎_elim
    (λ (late : last_turn < to). absurd (let refused = too_large edit to p late in cc))
    (λ (within : to ≤ last_turn). let told = fading_is edit to p q within made in cc)
    (cases_lt last_turn to)

-- the runs meet in the turn by which an edit fades
pub meet_there : (edit : PastEdit) (to t : ℕ) (p q : Past) → fading edit to p ≡ Ok (Some t) → past_edit edit p ≡ Ok q → MeetAt t p q
meet_there edit to t p q is made =
    let joined = (joined_is_decided p q t).0 (found_holds (are_joined p q) 0 (to + 1) t (joined_there edit to t p q is made)) in
    let tape : p.setup.tape ≡ q.setup.tape = sym (ap (λ (s : SetupData). s.tape) (only_patches edit p q made)) in
    they_meet p q t (same_inputs p q t tape joined.events) joined.state

pub faded_edits_change_no_answer : FadedEditsChangeNoAnswer
faded_edits_change_no_answer edit to p None is = tt
faded_edits_change_no_answer edit to p (Some t) is = λ q asked made le. answers_alike t asked p q (meet_there edit to t p q is made) le

pub answer_told : (due : Result (Option ℕ) Fault) (found : Option ℕ) → Ok found ≡ question_answer due false → due ≡ Ok found
answer_told (Ok found) told is = sym is
answer_told (Err fault) told is = absurd cc

-- what can be asked is no matter of patches
rule_stays : (asked : Question) (s v : SetupData) → range_rule asked (record s { patches = v.patches }) ≡ range_rule asked s
unfolding range_checked disk_range_checked core_word_at virtual_checked core_search_checked disk_search_checked
rule_stays (question.Regs turn) s v = refl
rule_stays (question.Core turn address count) s v = refl
rule_stays (question.Disk turn drive first count) s v = refl
rule_stays (question.Text turn) s v = refl
rule_stays (question.Punched turn) s v = refl
rule_stays (question.Devices turn) s v = refl
rule_stays (question.Pages turn) s v = refl
rule_stays (question.Last turn address) s v = refl
rule_stays (question.Trail turn count) s v = refl
rule_stays (question.Translate turn mode address) s v = refl
rule_stays (question.Virtual turn words) s v = refl
rule_stays (question.FindCore turn wanted) s v = refl
rule_stays (question.FindDisk turn drive wanted) s v = refl

pub edits_leave_what_can_be_asked : EditsLeaveWhatCanBeAsked
unfolding question_checked
edits_leave_what_can_be_asked edit p q asked made =
    let same = only_patches edit p q made in
    ap (λ (rule : Result (Unit {0}) Fault). if nat_le (turn_asked asked) last_turn then rule else Err TurnTooLarge)
    (sym (rule_stays asked p.setup q.setup) ∙ ap (range_rule asked) (sym same))
