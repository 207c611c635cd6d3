-- What some turns have in them, turn by turn.
use Rattle.std.proofs.Common.{suc, ◌≡◌, ◌∙◌, ℕ, ◌+◌, ◌-◌, ◌<◌, ◌≤◌, ◌++◌, ◌∷◌, [], true, false, List, length, drop, map, take, get_or, nat_le, add-one, ap, ap₂, arith, if◌then◌else◌, option_to_list, refl, sym}
use Rattle.std.proofs.Math.Seq.{drop-append_seam, take-suc}
use Rattle.std.proofs.lemmas.Bool.{le-leb, lt-leb}
use Rattle.std.proofs.lemmas.List.{append_assoc, drop-map, get_or-map, length-drop, length-map, take_all}
use Rattle.pdp_store.specs.CycleLogs.{KeptCycles}
use Rattle.pdp_store.specs.declared.cycle_log.BusCycle.{BusCycle}
use Rattle.pdp_unibus.specs.declared.event.Event.{Event}
use Rattle.pdp_cpu.proofs.Logged.{logs_disturb_nothing}
use Rattle.pdp_cpu.specs.KeptTexts.{without_turns}
use Rattle.pdp_cpu.specs.declared.kept_text.KeptByte.{KeptByte}
use Rattle.pdp_cpu.specs.Handbook.MachineState.{MachineState, after_turn, state_with_log, world_with_log}
use Rattle.pdp_cpu.specs.Handbook.Turn.{printed_in, punched_in, turn_act}
use Rattle.pdp_cpu.specs.declared.act.Act.{Act}
use Rattle.pdp_script.specs.Entries.{events_at}
use Rattle.pdp_script.specs.Script.{ScriptData}
use Rattle.pdp_replay.specs.Past.{Past}
use Rattle.pdp_replay.specs.Run.States.{at, state_at}
use Rattle.pdp_replay.specs.Ask.Accesses.{completion_detail_if, cycles_in, details_in, details_in_turns, details_of, log_of_all, turns_within}
use Rattle.pdp_replay.specs.Ask.DiskCompletions.{has_completion}
use Rattle.pdp_replay.specs.Ask.Reads.{IsLoggedState}
use Rattle.pdp_replay.specs.declared.ask.accesses.TurnDetail.{TurnDetail}
use Rattle.pdp_replay.specs.declared.ask.accesses.TurnDetail.TheVariants as detail
use Rattle.pdp_replay.specs.declared.ask.accesses.TurnHead.{TurnHead}
use Rattle.pdp_replay.specs.declared.ask.disk_completions.DiskTurn.{DiskTurn}
use Rattle.pdp_replay.specs.declared.ask.text_part.TextKind.{TextKind}
use Rattle.pdp_replay.specs.declared.ask.text_part.TextKind.TheVariants.{Printed, Punched}
use Rattle.pdp_replay.proofs.run.LoggedTurns.{events_of, logged_turn, same_with_log}

-- one more of some things, each as a detail, after those that were there
pub one_more : {A B : Type 0} (as_detail : A → B) (before : List B) (things : List A) (i : ℕ) (d : A) → i < length things
    → (before ++ take i (map as_detail things)) ++ as_detail (get_or things i d) ∷ [] ≡ before ++ take (i + 1) (map as_detail things)
one_more as_detail before things i d below =
    append_assoc before (take i (map as_detail things)) (as_detail (get_or things i d) ∷ [])
    ∙ sym (rw add-one (ap (λ ds. before ++ ds) (take-suc (map as_detail things) i (as_detail d) (rw length-map below)
    ∙ ap (λ it. take i (map as_detail things) ++ it ∷ []) (get_or-map as_detail things i d (as_detail d) below))))

-- details in their parts, one part after another
regroup : {X : Type 0} (o a b c d e : List X) (h : X) → o ++ h ∷ [] ++ a ++ b ++ c ++ d ++ e ≡ o ++ (h ∷ (a ++ b ++ c ++ d ++ e))
regroup o a b c d e h =
    ap (λ xs. xs ++ b ++ c ++ d ++ e) (append_assoc o (h ∷ []) a)
    ∙ ap (λ xs. xs ++ c ++ d ++ e) (append_assoc o (h ∷ a) b)
    ∙ ap (λ xs. xs ++ d ++ e) (append_assoc o (h ∷ (a ++ b)) c)
    ∙ ap (λ xs. xs ++ e) (append_assoc o (h ∷ (a ++ b ++ c)) d)
    ∙ append_assoc o (h ∷ (a ++ b ++ c ++ d)) e

pub details_listed : (old d1 d2 d3 d4 d5 d6 : List TurnDetail) (head : TurnHead) (events : List Event) (printed punched : List ℕ) (disk : DiskTurn) (cycles : List BusCycle)
    → d1 ≡ old ++ detail.Head head ∷ [] → d2 ≡ d1 ++ map detail.Event events → d3 ≡ d2 ++ map (detail.Output Printed) printed
    → d4 ≡ d3 ++ map (detail.Output Punched) punched → d5 ≡ d4 ++ option_to_list (completion_detail_if (has_completion disk) disk)
    → d6 ≡ d5 ++ map detail.Cycle cycles → d6 ≡ old ++ details_of head events printed punched disk cycles
details_listed old d1 d2 d3 d4 d5 d6 head events printed punched disk cycles one two three four five six =
    six
    ∙ ap (λ ds. ds ++ map detail.Cycle cycles)
    (five ∙ ap (λ ds. ds ++ option_to_list (completion_detail_if (has_completion disk) disk))
    (four ∙ ap (λ ds. ds ++ map (detail.Output Punched) punched)
    (three ∙ ap (λ ds. ds ++ map (detail.Output Printed) printed)
    (two ∙ ap (λ ds. ds ++ map detail.Event events) one))))
    ∙ regroup old (map detail.Event events) (map (detail.Output Printed) printed) (map (detail.Output Punched) punched)
    (option_to_list (completion_detail_if (has_completion disk) disk)) (map detail.Cycle cycles) (detail.Head head)

-- bytes that are kept, from one on to the end, without their turns
pub bytes_left : (kept : List KeptByte) (n : ℕ) (text : List ℕ) → without_turns kept ≡ text
    → without_turns (take (length kept - n) (drop n kept)) ≡ drop n text
bytes_left kept n text is =
    let size = length-drop n kept in
    ap without_turns (take_all (length kept - n) (drop n kept) (omega (arith, size)))
    ∙ sym (drop-map (λ b. b.byte) n kept)
    ∙ ap (drop n) is

pub kept_length : (kept : List KeptByte) (text : List ℕ) → without_turns kept ≡ text → length kept ≡ length text
kept_length kept text is = rw (← is, length-map) refl

-- one more byte that came out
pub one_more_byte : (kind : TextKind) (before : List TurnDetail) (kept : List KeptByte) (i : ℕ) (d : KeptByte) → i < length kept
    → (before ++ take i (map (detail.Output kind) (without_turns kept))) ++ detail.Output kind (get_or kept i d).byte ∷ []
    ≡ before ++ take (i + 1) (map (detail.Output kind) (without_turns kept))
one_more_byte kind before kept i d below =
    ap (λ byte. (before ++ take i (map (detail.Output kind) (without_turns kept))) ++ detail.Output kind byte ∷ []) (sym (get_or-map (λ b. b.byte) kept i d d.byte below))
    ∙ one_more (detail.Output kind) before (without_turns kept) i d.byte (rw length-map below)

-- the details of one turn more
details_next : (p : Past) (first n : ℕ) → details_in_turns p first (n + 1) ≡ details_in_turns p first n ++ details_in p (first + n)
unfolding details_in_turns
details_next p first n = rw add-one refl

pub details_none : (p : Past) (first n : ℕ) → n ≡ 0 → details_in_turns p first n ≡ []
unfolding details_in_turns
details_none p first n none = rw none refl

pub details_further : (p : Past) (first turn next : ℕ) (xs ys : List TurnDetail) → first ≤ turn → next ≡ turn + 1
    → xs ≡ details_in_turns p first (turn - first) → ys ≡ xs ++ details_in p turn → ys ≡ details_in_turns p first (next - first)
details_further p first turn next xs ys least is listed more =
    let n : ℕ = turn - first in
    let here : turn ≡ first + n = omega (arith, least) in
    let now : n + 1 ≡ next - first = omega (arith, least, is) in
    more
    ∙ ap₂ (λ before one. before ++ one) listed (ap (details_in p) here)
    ∙ sym (details_next p first n)
    ∙ ap (details_in_turns p first) now

-- no turn is left
pub within_none : (room : ℕ) (p : Past) (turn to : ℕ) → to ≤ turn → turns_within room p turn (to - turn) ≡ 0
unfolding turns_within
within_none room p turn to all = let none : to - turn ≡ 0 = omega (arith, all) in rw none refl

within_suc : (room : ℕ) (p : Past) (turn n : ℕ) → turns_within room p turn (suc n)
    ≡ (if nat_le (length (cycles_in p turn)) room then suc (turns_within (room - length (cycles_in p turn)) p (turn + 1) n) else 0)
unfolding turns_within
within_suc room p turn n = refl

-- a turn that has too many cycles ends the list
pub within_past : (room : ℕ) (p : Past) (turn to : ℕ) → turn < to → nat_le (length (cycles_in p turn)) room ≡ false → turns_within room p turn (to - turn) ≡ 0
within_past room p turn to left long =
    let more : to - turn ≡ suc (to - (turn + 1)) = omega (arith, left) in
    ap (turns_within room p turn) more ∙ within_suc room p turn (to - (turn + 1)) ∙ rw long refl

-- any other is listed, and the rest of the room is for those after it
pub within_more : (room : ℕ) (p : Past) (turn to : ℕ) → turn < to → nat_le (length (cycles_in p turn)) room ≡ true
    → turns_within room p turn (to - turn) ≡ suc (turns_within (room - length (cycles_in p turn)) p (turn + 1) (to - (turn + 1)))
within_more room p turn to left fits =
    let more : to - turn ≡ suc (to - (turn + 1)) = omega (arith, left) in
    ap (turns_within room p turn) more ∙ within_suc room p turn (to - (turn + 1)) ∙ rw fits refl

-- the turn before which turns are listed, with one turn more; and if there is no room for that
pub ends_more : (room count : ℕ) (p : Past) (turn next to : ℕ) → turn < to → next ≡ turn + 1 → count ≡ length (cycles_in p turn) → count ≤ room
    → turn + turns_within room p turn (to - turn) ≡ next + turns_within (room - count) p next (to - next)
ends_more room count p turn next to left is same fits =
    let ok : nat_le (length (cycles_in p turn)) room ≡ true = le-leb (length (cycles_in p turn)) room (omega (arith, same, fits)) in
    let rest : ℕ = turns_within (room - length (cycles_in p turn)) p (turn + 1) (to - (turn + 1)) in
    let on : turn + suc rest ≡ turn + 1 + rest = omega arith in
    ap (λ n. turn + n) (within_more room p turn to left ok)
    ∙ on
    ∙ ap₂ (λ n k. n + turns_within (room - k) p n (to - n)) (sym is) (sym same)

pub ends_past : (room count : ℕ) (p : Past) (turn to : ℕ) → turn < to → count ≡ length (cycles_in p turn) → room < count
    → turn + turns_within room p turn (to - turn) ≡ turn
ends_past room count p turn to left same over =
    let none : turns_within room p turn (to - turn) ≡ 0
    = within_past room p turn to left (lt-leb (length (cycles_in p turn)) room (omega (arith, same, over))) in
    omega (arith, none)

-- a state after the next turn, of a machine in a state of the run, with a log that was put into it
pub after_there : (p : Past) (script : ScriptData) (log : KeptCycles) (m now : MachineState) → p.script ≡ script → IsLoggedState p m
    → log ≡ log_of_all → now ≡ logged_turn (events_at script.entries m.turn) log m
    → now ≡ after_turn (events_at p.script.entries m.turn) (state_with_log log_of_all (at p m.turn))
after_there p script log m now same here kind is =
    is ∙ ap₂ (λ es s. after_turn es s) (events_of p script m.turn same)
    (same_with_log p log m here ∙ ap (λ l. state_with_log l (at p m.turn)) kind)

-- the bytes that came out in it
pub printed_there : (p : Past) (m now : MachineState) (count : ℕ) → IsLoggedState p m → count ≡ length m.text
    → now ≡ after_turn (events_at p.script.entries m.turn) (state_with_log log_of_all (at p m.turn))
    → drop count now.text ≡ printed_in m.turn (events_at p.script.entries m.turn) (state_at p m.turn)
printed_there p m now count here is after =
    let events = events_at p.script.entries m.turn in
    ap₂ drop (is ∙ ap (λ (s : MachineState). length s.text) here) (ap (λ (s : MachineState). s.text) after)
    ∙ drop-append_seam (at p m.turn).text _
    ∙ (logs_disturb_nothing m.turn events (state_at p m.turn) log_of_all).printed

pub punched_there : (p : Past) (m now : MachineState) (count : ℕ) → IsLoggedState p m → count ≡ length m.punched
    → now ≡ after_turn (events_at p.script.entries m.turn) (state_with_log log_of_all (at p m.turn))
    → drop count now.punched ≡ punched_in m.turn (events_at p.script.entries m.turn) (state_at p m.turn)
punched_there p m now count here is after =
    let events = events_at p.script.entries m.turn in
    ap₂ drop (is ∙ ap (λ (s : MachineState). length s.punched) here) (ap (λ (s : MachineState). s.punched) after)
    ∙ drop-append_seam (at p m.turn).punched _
    ∙ (logs_disturb_nothing m.turn events (state_at p m.turn) log_of_all).punched

-- and its act
pub act_there : (p : Past) (script : ScriptData) (log : KeptCycles) (m : MachineState) (act : Act) → p.script ≡ script → IsLoggedState p m
    → act ≡ turn_act m.turn (events_at script.entries m.turn) (world_with_log m.world log)
    → act ≡ turn_act m.turn (events_at p.script.entries m.turn) (state_at p m.turn)
act_there p script log m act same here is =
    is ∙ ap₂ (λ es (s : MachineState). turn_act m.turn es s.world) (events_of p script m.turn same) (same_with_log p log m here)
    ∙ (logs_disturb_nothing m.turn (events_at p.script.entries m.turn) (state_at p m.turn) log).act

-- details are alike whose parts are
pub details_alike : {h g : TurnHead} {es fs : List Event} {a b c d : List ℕ} {x y : DiskTurn} {u v : List BusCycle}
    → h ≡ g → es ≡ fs → a ≡ b → c ≡ d → x ≡ y → u ≡ v → details_of h es a c x u ≡ details_of g fs b d y v
details_alike head events printed punched disk cycles =
    λ i. details_of (head i) (events i) (printed i) (punched i) (disk i) (cycles i)
