-- Turns that a search passes, and the turn that it looks at.
use Rattle.std.proofs.Common.{◌≡◌, ◌∙◌, ℕ, zero, suc, ◌+◌, ◌-◌, ◌<◌, ◌≤◌, ◌&&◌, ◌==◌, Bool, List, None, ap, arith, length, nat_lt, not, slice_index_or, subst, sym}
use Rattle.std.proofs.lemmas.Bool.{eq-eqb, le-ltb}
use Rattle.pdp_store.specs.TracedAccess.{last_write}
use Rattle.pdp_unibus.specs.declared.event.Event.{Event}
use Rattle.pdp_cpu.proofs.CalmDrives.{drive_sizes_stay}
use Rattle.pdp_cpu.proofs.CalmTurns.{size_stays}
use Rattle.pdp_cpu.proofs.TurnLaws.{turn_keeps_words}
use Rattle.pdp_cpu.specs.Turns.CalmTurns.{StampStays, after_calm_turns, word_stamp}
use Rattle.pdp_cpu.specs.Handbook.MachineState.{MachineState, MachineWithTexts, after_turn}
use Rattle.pdp_cpu.specs.KeptTexts.{without_turns}
use Rattle.pdp_cpu.specs.declared.turn_trap.ActWithTrap.{ActWithTrap}
use Rattle.pdp_cpu.specs.declared.kept_text.KeptByte.{KeptByte}
use Rattle.pdp_script.specs.Entries.{events_at}
use Rattle.pdp_replay.specs.Past.{Past}
use Rattle.pdp_replay.specs.Run.KeptRuns.{IsUnderWay, IsWithoutEvents}
use Rattle.pdp_replay.specs.Run.States.{at, disk_of, state_at, trace_at}
use Rattle.pdp_replay.specs.Ask.DiskChanges.{word_on}
use Rattle.pdp_replay.specs.Ask.Searches.{HoldsNowhere, IsFirst, or_turn}
use Rattle.pdp_replay.specs.Ask.SoughtTurns.{act_with_trap, is_act_sought, turn_is_sought}
use Rattle.pdp_replay.specs.Ask.TextParts.{bytes_at}
use Rattle.pdp_replay.specs.Ask.Watches.{IsInside, PassesTo, bytes_of, is_act_watched, is_met, is_met_last, is_possible, is_watched_at}
use Rattle.pdp_replay.specs.declared.ask.text_part.TextKind.{TextKind}
use Rattle.pdp_replay.specs.declared.ask.text_part.TextKind.TheVariants.{Printed, Punched}
use Rattle.pdp_replay.specs.declared.ask.watch.Watchpoint.{Watchpoint}
use Rattle.pdp_replay.specs.declared.ask.watch.Watchpoint.TheVariants as watch
use Rattle.pdp_replay.proofs.run.CalmWays.{turn_after, way_on_calmly}
use Rattle.pdp_replay.proofs.run.CoreSizes.{core_keeps_size}
use Rattle.pdp_replay.proofs.run.KeptBytes.{as_long}
use Rattle.pdp_replay.proofs.ask.DiskChanges.{same_length, word_stays}
use Rattle.pdp_replay.proofs.ask.LastWrites.{stamps_are}
use Rattle.pdp_replay.proofs.ask.Searches.{first_on, first_turn}
use Rattle.pdp_replay.proofs.ask.SoughtTurns.{passed_calmly}
use Rattle.pdp_replay.proofs.ask.TextParts.{bytes_grow}
use Rattle.pdp_replay.proofs.ask.TurnWrites.{not_written, written_if}

-- a machine can be watched in the same state, after its next turn, and after turns without events
pub inside_same : (watching : Watchpoint) (before after : MachineWithTexts) → after.state ≡ before.state → IsInside watching before
    → IsInside watching after
inside_same (watch.Act sought) before after same inside = tt
inside_same (watch.Write number) before after same inside =
    let size = ap (λ (s : MachineState). length s.world.bus.core) same in omega (arith, size, inside)
inside_same (watch.Output kind number) before after same inside = tt
inside_same (watch.Change drive number word) before after same inside =
    let size = ap (λ (s : MachineState). length (disk_of s.world drive)) same in omega (arith, size, inside)

pub inside_turn : (watching : Watchpoint) (events : List Event) (before ready after : MachineWithTexts) → ready.state ≡ before.state
    → after.state ≡ after_turn events ready.state → IsInside watching before → IsInside watching after
inside_turn (watch.Act sought) events before ready after same is inside = tt
inside_turn (watch.Write number) events before ready after same is inside =
    let size = ap (λ (s : MachineState). length s.world.bus.core) is ∙ turn_keeps_words ready.state.turn events ready.state.world in
    let was = ap (λ (s : MachineState). length s.world.bus.core) same in
    omega (arith, size, was, inside)
inside_turn (watch.Output kind number) events before ready after same is inside = tt
inside_turn (watch.Change drive number word) events before ready after same is inside =
    let was = ap (λ (s : MachineState). length (disk_of s.world drive)) same in
    word_stays drive number events ready.state after.state is (omega (arith, was, inside))

pub inside_calmly : (watching : Watchpoint) (n : ℕ) (before after : MachineWithTexts) → after ≡ after_calm_turns n before
    → IsInside watching before → IsInside watching after
inside_calmly (watch.Act sought) n before after is inside = tt
inside_calmly (watch.Write number) n before after is inside =
    let size = ap (λ (m : MachineWithTexts). length m.state.world.bus.core) is ∙ size_stays n before in
    omega (arith, size, inside)
inside_calmly (watch.Output kind number) n before after is inside = tt
inside_calmly (watch.Change drive number word) n before after is inside =
    let here = ap (λ (m : MachineWithTexts). length (disk_of m.state.world drive)) is in
    let size = same_length (after_calm_turns n before).state.world.bus.drives before.state.world.bus.drives drive (drive_sizes_stay n before) in
    omega (arith, here, size, inside)

-- the stamp of a word in a state of a run
stamp_there : (p : Past) (number n : ℕ) (m : MachineWithTexts) → m.state ≡ at p n → number < length m.state.world.bus.core
    → word_stamp number m ≡ last_write (trace_at p n) number None
stamp_there p number n m here below =
    let size = ap (λ (s : MachineState). length s.world.bus.core) here ∙ core_keeps_size p n in
    ap (λ (s : MachineState). slice_index_or s.world.bus.stamps number None) here ∙ stamps_are p n number (omega (arith, size, below))

-- the bytes of a state of a run
bytes_there : (kind : TextKind) (p : Past) (n : ℕ) (m : MachineState) → m ≡ at p n → bytes_of kind m ≡ bytes_at kind p n
bytes_there Printed p n m here = ap (λ (s : MachineState). s.text) here
bytes_there Punched p n m here = ap (λ (s : MachineState). s.punched) here

-- a text has as many bytes as are shown of it with their turns
pub count_is : (shown : List KeptByte) (bytes : List ℕ) → without_turns shown ≡ bytes → length shown ≡ length bytes
count_is shown bytes is = sym (as_long shown) ∙ ap length is

-- turns in which nothing comes out leave as few bytes out as there were
same_bytes : (kind : TextKind) (m now : MachineState) → now.text ≡ m.text → now.punched ≡ m.punched → bytes_of kind now ≡ bytes_of kind m
same_bytes Printed m now text punched = text
same_bytes Punched m now text punched = punched

pub few_out : (kind : TextKind) (number n : ℕ) (m now : MachineWithTexts) (count : ℕ) → now ≡ after_calm_turns n m → now.state.text ≡ m.state.text
    → now.state.punched ≡ m.state.punched → count ≡ length (bytes_of kind m.state) → count ≤ number
    → length (bytes_of kind (after_calm_turns n m).state) ≤ number
few_out kind number n m now count is text punched counted few =
    let size = ap length (same_bytes kind m.state now.state text punched) in
    subst (λ (w : MachineWithTexts). length (bytes_of kind w.state) ≤ number) is (omega (arith, size, counted, few))

-- whether a turn is watched for, told by its act and what it left
pub met_there : (p : Past) (watching : Watchpoint) (known : ℕ) (events : List Event) (before ready now : MachineWithTexts) (turn : ℕ) (possible : Bool) (told : ActWithTrap)
    → events ≡ events_at p.script.entries before.state.turn → IsUnderWay p known before → IsUnderWay p known now → ready.state ≡ before.state
    → turn ≡ ready.state.turn → possible ≡ is_possible watching ready
    → is_act_watched watching told ≡ is_act_watched watching (act_with_trap ready.state.turn events ready.state.world) → now.state.turn ≡ before.state.turn + 1 → IsInside watching now
    → is_watched_at p watching before.state.turn ≡ is_met watching possible turn told now
met_there p (watch.Act sought) known events before ready now turn possible told happen way on same number possible_is told_is next inside =
    let t : ℕ = before.state.turn in
    ap (λ es. turn_is_sought sought t es (state_at p t)) (sym happen)
    ∙ ap (λ (s : MachineState). turn_is_sought sought t events s.world) (sym way.here)
    ∙ ap (λ (s : MachineState). turn_is_sought sought s.turn events s.world) (sym same)
    ∙ ap (λ b. b && is_act_sought sought (act_with_trap ready.state.turn events ready.state.world)) (sym possible_is)
    ∙ ap (λ a. possible && a) (sym told_is)
met_there p (watch.Write number) known events before ready now turn possible told happen way on same is possible_is told_is next inside =
    let there : now.state ≡ at p (before.state.turn + 1) = on.here ∙ ap (at p) next in
    let here : before.state.turn ≡ turn = sym (is ∙ ap (λ (s : MachineState). s.turn) same) in
    subst (λ t. is_watched_at p (watch.Write number) before.state.turn ≡ is_met (watch.Write number) possible t told now) here
    (written_if p number before.state.turn (word_stamp number now) (stamp_there p number (before.state.turn + 1) now there inside))
met_there p (watch.Output kind number) known events before ready now turn possible told happen way on same is possible_is told_is next inside =
    let there : now.state ≡ at p (before.state.turn + 1) = on.here ∙ ap (at p) next in
    ap (λ bytes. nat_lt number (length bytes)) (sym (bytes_there kind p (before.state.turn + 1) now.state there))
met_there p (watch.Change drive number word) known events before ready now turn possible told happen way on same is possible_is told_is next inside =
    let there : now.state ≡ at p (before.state.turn + 1) = on.here ∙ ap (at p) next in
    ap (λ (s : MachineState). not (word == word_on drive number s.world)) (sym there)

-- and so the first of one turn
pub first_met : (p : Past) (watching : Watchpoint) (known : ℕ) (events : List Event) (before ready now : MachineWithTexts) (turn : ℕ) (possible : Bool) (told : ActWithTrap)
    (met : Bool) → events ≡ events_at p.script.entries before.state.turn → IsUnderWay p known before → IsUnderWay p known now
    → ready.state ≡ before.state → turn ≡ ready.state.turn → possible ≡ is_possible watching ready
    → is_act_watched watching told ≡ is_act_watched watching (act_with_trap ready.state.turn events ready.state.world)
    → met ≡ is_met watching possible turn told now → now.state.turn ≡ before.state.turn + 1 → IsInside watching now
    → IsFirst (is_watched_at p watching) before.state.turn now.state.turn (or_turn None met turn)
first_met p watching known events before ready now turn possible told met happen way on same number possible_is told_is met_is next inside =
    let t : ℕ = before.state.turn in
    let there : is_watched_at p watching t ≡ met =
    met_there p watching known events before ready now turn possible told happen way on same number possible_is told_is next inside ∙ sym met_is in
    let here : t ≡ turn = sym (number ∙ ap (λ (s : MachineState). s.turn) same) in
    subst (λ u. IsFirst (is_watched_at p watching) t now.state.turn (or_turn None met u)) here
    (first_turn (is_watched_at p watching) t now.state.turn met there next)

-- no turn writes the word but maybe the last of some before each of which its stamp is the same
written_nowhere : (p : Past) (number known to n : ℕ) (m : MachineWithTexts) → m.state.turn + suc n ≤ to → IsWithoutEvents p m.state.turn to
    → IsUnderWay p known m → number < length m.state.world.bus.core → StampStays number (suc n) m
    → HoldsNowhere (is_watched_at p (watch.Write number)) m.state.turn (m.state.turn + n)
written_nowhere p number known to n m within quiet way inside stays =
    λ turn least below.
    let k : ℕ = turn - m.state.turn in
    let now : MachineWithTexts = after_calm_turns (suc k) m in
    let next : m.state.turn + suc k ≡ turn + 1 = omega (arith, least) in
    let on : IsUnderWay p known now = way_on_calmly p known to (suc k) m (omega (arith, next, below, within)) quiet way in
    let there : now.state ≡ at p (turn + 1) = on.here ∙ ap (at p) (turn_after (suc k) m ∙ next) in
    let same : word_stamp number now ≡ word_stamp number m = stays (suc k) (omega (arith, next, below)) in
    let size = size_stays (suc k) m in
    not_written p number m.state.turn turn (word_stamp number m) least (stamp_there p number m.state.turn m way.here inside)
    (sym same ∙ stamp_there p number (turn + 1) now there (omega (arith, size, inside)))

-- nothing that is watched for came out in turns after which no more than so many bytes did
silent_nowhere : (p : Past) (kind : TextKind) (number first now : ℕ) (m : MachineState) → m ≡ at p now
    → length (bytes_of kind m) ≤ number → HoldsNowhere (is_watched_at p (watch.Output kind number)) first now
silent_nowhere p kind number first now m here few =
    λ turn least below.
    let grows = bytes_grow kind p (turn + 1) now (omega (arith, below)) in
    let size = ap length (bytes_there kind p now m here) in
    le-ltb number (length (bytes_at kind p (turn + 1))) (omega (arith, grows, size, few))

-- no turn left another word on a drive, of turns after each of which the word is the same
unchanged_nowhere : (p : Past) (drive number word known to n : ℕ) (m : MachineWithTexts) → m.state.turn + n ≤ to → IsWithoutEvents p m.state.turn to
    → IsUnderWay p known m → PassesTo (watch.Change drive number word) n m
    → HoldsNowhere (is_watched_at p (watch.Change drive number word)) m.state.turn (m.state.turn + n)
unchanged_nowhere p drive number word known to n m within quiet way stays =
    λ turn least below.
    let k : ℕ = turn - m.state.turn in
    let now : MachineWithTexts = after_calm_turns (k + 1) m in
    let next : m.state.turn + (k + 1) ≡ turn + 1 = omega (arith, least) in
    let on : IsUnderWay p known now = way_on_calmly p known to (k + 1) m (omega (arith, next, below, within)) quiet way in
    let there : now.state ≡ at p (turn + 1) = on.here ∙ ap (at p) (turn_after (k + 1) m ∙ next) in
    let same : word ≡ word_on drive number (state_at p (turn + 1)) =
    stays k (omega (arith, next, below)) ∙ ap (λ (s : MachineState). word_on drive number s.world) there in
    ap not (eq-eqb word (word_on drive number (state_at p (turn + 1))) same)

-- the first of the turns that a machine passed on its way
pub first_passed : (p : Past) (watching : Watchpoint) (known to n : ℕ) (m now : MachineWithTexts) → now ≡ after_calm_turns n m
    → now.state.turn ≡ m.state.turn + n → 0 < n → now.state.turn ≤ to → IsWithoutEvents p m.state.turn to → IsUnderWay p known m
    → IsInside watching m → PassesTo watching n m
    → IsFirst (is_watched_at p watching) m.state.turn now.state.turn (or_turn None (is_met_last watching (now.state.turn - 1) now) (now.state.turn - 1))
first_passed p (watch.Act sought) known to n m now is turn some most quiet way inside none =
    subst (HoldsNowhere (is_watched_at p (watch.Act sought)) m.state.turn) (sym turn)
    (passed_calmly p sought known to n m (omega (arith, turn, most)) quiet way none)
first_passed p (watch.Write number) known to zero m now is turn some most quiet way inside none = absurd (omega (arith, some))
first_passed p (watch.Write number) known to (suc n) m now is turn some most quiet way inside none =
    let holds = is_watched_at p (watch.Write number) in
    let on : IsUnderWay p known now = subst (IsUnderWay p known) (sym is) (way_on_calmly p known to (suc n) m (omega (arith, turn, most)) quiet way) in
    let last : m.state.turn + n ≡ now.state.turn - 1 = omega (arith, turn) in
    let next : now.state.turn ≡ now.state.turn - 1 + 1 = omega (arith, turn) in
    let size = ap (λ (w : MachineWithTexts). length w.state.world.bus.core) is ∙ size_stays (suc n) m in
    let stamp = stamp_there p number (now.state.turn - 1 + 1) now (on.here ∙ ap (at p) next) (omega (arith, size, inside)) in
    first_on holds m.state.turn (now.state.turn - 1) now.state.turn _ (omega (arith, turn))
    (subst (HoldsNowhere holds m.state.turn) last
    (written_nowhere p number known to n m (omega (arith, turn, most)) quiet way inside none))
    (first_turn holds (now.state.turn - 1) now.state.turn _ (written_if p number (now.state.turn - 1) (word_stamp number now) stamp) next)
first_passed p (watch.Output kind number) known to n m now is turn some most quiet way inside none =
    let on : IsUnderWay p known now = subst (IsUnderWay p known) (sym is) (way_on_calmly p known to n m (omega (arith, turn, most)) quiet way) in
    let few = subst (λ (w : MachineWithTexts). length (bytes_of kind w.state) ≤ number) (sym is) (none some) in
    silent_nowhere p kind number m.state.turn now.state.turn now.state on.here few
first_passed p (watch.Change drive number word) known to n m now is turn some most quiet way inside none =
    subst (HoldsNowhere (is_watched_at p (watch.Change drive number word)) m.state.turn) (sym turn)
    (unchanged_nowhere p drive number word known to n m (omega (arith, turn, most)) quiet way none)
