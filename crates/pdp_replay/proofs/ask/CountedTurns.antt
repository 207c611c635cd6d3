-- How many turns began an instruction at each of some words, turn by turn and part by part.
use Rattle.std.proofs.Common.{◌≡◌, ◌∙◌, ℕ, zero, suc, ◌+◌, ◌-◌, ◌*◌, ◌<◌, ◌≤◌, ◌==◌, ◌&&◌, Bool, true, false, List, ◌∷◌, Some, ap, arith, length, refl, replicate, slice_index, sym, add-one}
use Rattle.std.proofs.lemmas.List.Elements.{All-replicate}
use Rattle.std.proofs.lemmas.Grind.{get_or_default_zero, same_number_lists}
use Rattle.pdp_kt11.specs.declared.mode.Mode.{Mode}
use Rattle.pdp_unibus.specs.declared.event.Event.{Event}
use Rattle.pdp_cpu.specs.Handbook.MachineState.{MachineState, MachineWithTexts}
use Rattle.pdp_cpu.specs.Handbook.Regs.{regs_of}
use Rattle.pdp_cpu.specs.Handbook.Turn.{turn_act}
use Rattle.pdp_cpu.specs.declared.act.Act.{Act}
use Rattle.pdp_script.specs.Entries.{events_at}
use Rattle.pdp_replay.specs.Past.{Past}
use Rattle.pdp_replay.specs.Run.KeptRuns.{IsUnderWay}
use Rattle.pdp_replay.specs.Run.States.{state_at}
use Rattle.pdp_replay.specs.Ask.Counts.{AddsTurn, AddsTurns, AreAtMost, counts_in_turns, instructions_counted, is_counted, one_if, turns_counted}
use Rattle.pdp_replay.specs.Ask.SoughtTurns.{is_mode, is_sought_at, turn_is_sought}
use Rattle.pdp_replay.specs.Ask.TurnConditions.{is_instruction}
use Rattle.pdp_replay.specs.declared.ask.counts.CountedWords.{CountedWords}
use Rattle.pdp_replay.specs.declared.ask.sought.Sought.{Sought}
use Rattle.pdp_replay.specs.declared.ask.sought.Sought.TheVariants.{Instruction}

-- of no turns, of one, of one turn more, and of one part after another
counted_none : (holds : ℕ → Bool) (from n : ℕ) → n ≡ 0 → turns_counted holds from n ≡ 0
unfolding turns_counted
counted_none holds from n none = rw none refl

counted_next : (holds : ℕ → Bool) (from n : ℕ) → turns_counted holds from (n + 1) ≡ turns_counted holds from n + one_if (holds (from + n))
unfolding turns_counted
counted_next holds from n = rw add-one refl

counted_one : (holds : ℕ → Bool) (from n : ℕ) → n ≡ 1 → turns_counted holds from n ≡ one_if (holds from)
unfolding turns_counted
counted_one holds from n one = let same : from + 0 ≡ from = omega arith in rw (one, same) (omega arith)

counted_on : (holds : ℕ → Bool) (from n k : ℕ) → turns_counted holds from (n + k) ≡ turns_counted holds from n + turns_counted holds (from + n) k
unfolding turns_counted
counted_on holds from n zero = let same : n + 0 ≡ n = omega arith in rw same (omega arith)
counted_on holds from n (suc k) =
    let same : n + suc k ≡ n + k + 1 = omega arith in
    let there : from + (n + k) ≡ from + n + k = omega arith in
    let before = counted_on holds from n k in
    ap (turns_counted holds from) same
    ∙ counted_next holds from (n + k)
    ∙ rw (before, there) (omega arith)

counted_parts : (holds : ℕ → Bool) (from mid to : ℕ) → from ≤ mid → mid ≤ to
    → turns_counted holds from (to - from) ≡ turns_counted holds from (mid - from) + turns_counted holds mid (to - mid)
counted_parts holds from mid to low high =
    let parts : to - from ≡ mid - from + (to - mid) = omega (arith, low, high) in
    let there : from + (mid - from) ≡ mid = omega (arith, low) in
    ap (turns_counted holds from) parts
    ∙ counted_on holds from (mid - from) (to - mid)
    ∙ ap (λ t. turns_counted holds from (mid - from) + turns_counted holds t (to - mid)) there

-- the counts are as many as the words, and each is that of its word
length_counts : (p : Past) (mode : Mode) (first count from n : ℕ) → length (counts_in_turns p mode first count from n) ≡ count
unfolding counts_in_turns
length_counts p mode first zero from n = refl
length_counts p mode first (suc count) from n = ap suc (length_counts p mode (first + 2) count from n)

count_at : (p : Past) (mode : Mode) (first count from n number : ℕ) → number < count
    → slice_index (counts_in_turns p mode first count from n) number ≡ instructions_counted p mode (first + 2 * number) from n
unfolding counts_in_turns
count_at p mode first zero from n number below = absurd (omega (arith, below))
count_at p mode first (suc count) from n zero below =
    let same : first ≡ first + 2 * 0 = omega arith in ap (λ address. instructions_counted p mode address from n) same
count_at p mode first (suc count) from n (suc number) below =
    let same : first + 2 + 2 * number ≡ first + 2 * suc number = omega arith in
    count_at p mode (first + 2) count from n number (omega (arith, below)) ∙ ap (λ address. instructions_counted p mode address from n) same

-- before any turn each count is 0
pub counts_none : (p : Past) (mode : Mode) (first count from n : ℕ) → n ≡ 0 → replicate count 0 ≡ counts_in_turns p mode first count from n
unfolding counts_in_turns
counts_none p mode first zero from n none = refl
counts_none p mode first (suc count) from n none =
    rw (counted_none (is_sought_at p (Instruction first (Some mode))) from n none) (ap (λ counts. 0 ∷ counts) (counts_none p mode (first + 2) count from n none))

pub none_at_most : (most count : ℕ) → AreAtMost most (replicate count 0)
none_at_most most count = All-replicate (λ k. k ≤ most) count 0 (omega arith)

-- turns that were added one part after another
pub adds_none : (p : Past) (words : CountedWords) (from to : ℕ) (counts : List ℕ) → to ≡ from → AddsTurns p words from to counts counts
adds_none p words from to counts same = record {
  size = refl;
  each = λ number below.
      let none = counted_none (is_sought_at p (Instruction (words.first + 2 * number) (Some words.mode))) from (to - from) (omega (arith, same)) in
      omega (arith, none);
}

pub adds_on : (p : Past) (words : CountedWords) (from mid to : ℕ) (first counts now : List ℕ) → from ≤ mid → mid ≤ to
    → AddsTurns p words from mid first counts → AddsTurns p words mid to counts now → AddsTurns p words from to first now
adds_on p words from mid to first counts now low high before after =
    let size = before.size in
    record {
      size = after.size ∙ size;
      each = λ number below.
          let one = before.each number below in
          let other = after.each number (omega (arith, size, below)) in
          let both = counted_parts (is_sought_at p (Instruction (words.first + 2 * number) (Some words.mode))) from mid to low high in
          omega (arith, one, other, both);
    }

-- and the counts of a part with those of the next
pub counts_on : (p : Past) (words : CountedWords) (from mid to : ℕ) (counts now : List ℕ) → from ≤ mid → mid ≤ to
    → counts ≡ counts_in_turns p words.mode words.first words.count from (mid - from) → AddsTurns p words mid to counts now
    → now ≡ counts_in_turns p words.mode words.first words.count from (to - from)
counts_on p words from mid to counts now low high is added =
    let all : List ℕ = counts_in_turns p words.mode words.first words.count from (to - from) in
    let size = added.size in
    let count : length counts ≡ words.count = ap length is ∙ length_counts p words.mode words.first words.count from (mid - from) in
    let also : length all ≡ words.count = length_counts p words.mode words.first words.count from (to - from) in
    same_number_lists now all (omega (arith, size, count, also))
    (λ number below.
    let within : number < words.count = omega (arith, below, size, count) in
    let before : slice_index counts number ≡ instructions_counted p words.mode (words.first + 2 * number) from (mid - from) =
    ap (λ xs. slice_index xs number) is ∙ count_at p words.mode words.first words.count from (mid - from) number within in
    let more = added.each number (omega (arith, within, count)) in
    let both = counted_parts (is_sought_at p (Instruction (words.first + 2 * number) (Some words.mode))) from mid to low high in
    let there = count_at p words.mode words.first words.count from (to - from) number within in
    omega (arith, before, more, both, there))

-- one turn adds 1 to each count at most
at_most_one : (there : Bool) → one_if there ≤ 1
at_most_one true = omega arith
at_most_one false = omega arith

pub few_after : (words : CountedWords) (act : Act) (pc : ℕ) (mode : Mode) (most next : ℕ) (before after : List ℕ) → next ≡ most + 1
    → AddsTurn words act pc mode before after → AreAtMost most before → AreAtMost next after
few_after words act pc mode most next before after is added few =
    λ number other below.
    let size = added.size in
    let within : number < length before = omega (arith, below, size) in
    let is_zero = get_or_default_zero after number other below in
    let more = added.each number within in
    let was = few number 0 within in
    let one = at_most_one (is_counted words number act pc mode) in
    omega (arith, is_zero, more, was, one, is)

pub more_at_most : (most next : ℕ) (counts : List ℕ) → most ≤ next → AreAtMost most counts → AreAtMost next counts
more_at_most most next counts order few = λ number other below. let was = few number other below in omega (arith, was, order)

-- whether the next turn of a machine on its way is an instruction at an address, told by its act, and PC and the mode before it
instruction_next : (p : Past) (address : ℕ) (asked : Mode) (known : ℕ) (events : List Event) (before ready : MachineWithTexts) (pc : ℕ) (mode : Mode) (act : Act)
    → events ≡ events_at p.script.entries before.state.turn → IsUnderWay p known before → ready.state ≡ before.state
    → pc ≡ (regs_of ready.state.world).pc → mode ≡ ready.state.world.bus.io_page.status.mode
    → act ≡ turn_act ready.state.turn events ready.state.world
    → is_sought_at p (Instruction address (Some asked)) before.state.turn ≡ ((pc == address && is_mode (Some asked) mode) && is_instruction act)
instruction_next p address asked known events before ready pc mode act happen way same pc_is mode_is act_is =
    let t : ℕ = before.state.turn in
    let sought : Sought = Instruction address (Some asked) in
    ap (λ es. turn_is_sought sought t es (state_at p t)) (sym happen)
    ∙ ap (λ (s : MachineState). turn_is_sought sought t events s.world) (sym way.here)
    ∙ ap (λ (s : MachineState). turn_is_sought sought s.turn events s.world) (sym same)
    ∙ ap (λ k. ((regs_of ready.state.world).pc == address && is_mode (Some asked) k) && is_instruction (turn_act ready.state.turn events ready.state.world))
    (sym mode_is)
    ∙ ap (λ c. (c == address && is_mode (Some asked) mode) && is_instruction (turn_act ready.state.turn events ready.state.world)) (sym pc_is)
    ∙ ap (λ a. (pc == address && is_mode (Some asked) mode) && is_instruction a) (sym act_is)

-- so that turn was added
pub adds_next : (p : Past) (words : CountedWords) (known : ℕ) (events : List Event) (before ready : MachineWithTexts) (next pc : ℕ) (mode : Mode) (act : Act)
    (counts now : List ℕ) → events ≡ events_at p.script.entries before.state.turn → IsUnderWay p known before → ready.state ≡ before.state
    → pc ≡ (regs_of ready.state.world).pc → mode ≡ ready.state.world.bus.io_page.status.mode
    → act ≡ turn_act ready.state.turn events ready.state.world → next ≡ before.state.turn + 1
    → AddsTurn words act pc mode counts now → AddsTurns p words before.state.turn next counts now
adds_next p words known events before ready next pc mode act counts now happen way same pc_is mode_is act_is is added = record {
  size = added.size;
  each = λ number below.
      let sought : Sought = Instruction (words.first + 2 * number) (Some words.mode) in
      let t : ℕ = before.state.turn in
      let there = instruction_next p (words.first + 2 * number) words.mode known events before ready pc mode act happen way same pc_is mode_is act_is in
      let one = counted_one (is_sought_at p sought) t (next - t) (omega (arith, is)) in
      added.each number below ∙ ap (λ k. slice_index counts number + k) (sym (one ∙ ap one_if there));
}
