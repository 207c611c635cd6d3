-- The last write to a word of core in one turn, and that before the next turn.
use Rattle.std.proofs.Common.{◌≡◌, ◌∙◌, ℕ, zero, suc, ◌+◌, ◌<◌, ◌==◌, ◌++◌, ◌&&◌, ◌∷◌, [], Bool, true, false, List, Option, None, Some, All, ap, arith, length, refl, slice_index, if◌then◌else◌, is_some, ◌≤◌, subst, sym, add-one}
use Rattle.std.proofs.lemmas.Bool.Decides.{nat_tests}
use Rattle.std.proofs.lemmas.List.Elements.{All-append, All-nil}
use Rattle.pdp_store.proofs.Traces.{last_write-append}
use Rattle.pdp_store.specs.TracedAccess.{TracedAccess, is_core, last_write, stamp_of}
use Rattle.pdp_store.specs.declared.Stamp.{Stamp}
use Rattle.pdp_unibus.specs.Touched.{IsOfTurn}
use Rattle.pdp_cpu.proofs.TurnLaws.{turn_touches}
use Rattle.pdp_cpu.specs.Handbook.MachineState.{MachineState}
use Rattle.pdp_cpu.specs.Handbook.Turn.{turn_trace}
use Rattle.pdp_script.specs.Entries.{events_at}
use Rattle.pdp_replay.specs.Past.{Past}
use Rattle.pdp_replay.specs.Run.States.{at, state_at, trace_at}
use Rattle.pdp_replay.specs.Ask.Searches.{HoldsNowhere, IsFirst, IsFirstTurn, turn_reached}
use Rattle.pdp_replay.specs.Ask.LastWrites.{last_write_at, last_write_of}
use Rattle.pdp_replay.specs.Ask.Watches.{is_of_turn}
use Rattle.pdp_replay.specs.Ask.Writes.{IsNextWrite, IsWriteFound, is_written, turn_after_write, write_in}
use Rattle.pdp_replay.specs.declared.ask.last_write.LastWrite.{LastWrite}

-- a last write, if it is of this turn
abbrev pub of_turn : ℕ → Option LastWrite → Option LastWrite
of_turn t None = None
of_turn t (Some write) = if write.turn == t then Some write else None

-- a stamp, if it is of this turn
abbrev kept_if : Bool → Stamp → Option Stamp
kept_if true stamp = Some stamp
kept_if false stamp = None

abbrev stamp_in : ℕ → Option Stamp → Option Stamp
stamp_in t None = None
stamp_in t (Some stamp) = kept_if (stamp.turn == t) stamp

-- the stamp after an access that writes the word or not
abbrev stamp_after : Bool → Stamp → Option Stamp → Option Stamp
stamp_after writes stamp before = if writes then Some stamp else before

abbrev writes_word : ℕ → TracedAccess → Bool
writes_word k x = x.writes && is_core x.part && x.word == k

in_itself : (t : ℕ) (stamp : Stamp) → stamp.turn ≡ t → stamp_in t (Some stamp) ≡ Some stamp
in_itself t stamp is = let same : (stamp.turn == t) ≡ true = grind (arith, nat_tests, is) in ap (λ b. kept_if b stamp) same

in_access : (t : ℕ) (writes : Bool) (stamp : Stamp) (before : Option Stamp) → stamp.turn ≡ t
    → stamp_in t (stamp_after writes stamp before) ≡ stamp_after writes stamp (stamp_in t before)
in_access t true stamp before is = in_itself t stamp is
in_access t false stamp before is = refl

-- the last write in a turn, whatever came before it
in_turn : (t size k : ℕ) (xs : List TracedAccess) (before : Option Stamp) → All (IsOfTurn t size) xs
    → stamp_in t (last_write xs k before) ≡ last_write xs k (stamp_in t before)
in_turn t size k [] before all = refl
in_turn t size k (x ∷ xs) before all =
    in_turn t size k xs (stamp_after (writes_word k x) (stamp_of x) before) (λ i d below. all (suc i) d (omega (arith, below)))
    ∙ ap (last_write xs k) (in_access t (writes_word k x) (stamp_of x) before (all 0 x (omega arith)).turn_is)

-- a stamp is of a turn before this one, if there is a stamp
abbrev IsBefore : ℕ → Option Stamp → Type 0
IsBefore t None = Unit {0}
IsBefore t (Some stamp) = stamp.turn < t

none_in : (t : ℕ) (before : Option Stamp) → IsBefore t before → stamp_in t before ≡ None
none_in t None is = refl
none_in t (Some stamp) is = let other : (stamp.turn == t) ≡ false = grind (arith, nat_tests, is) in ap (λ b. kept_if b stamp) other

before_access : (t : ℕ) (writes : Bool) (stamp : Stamp) (before : Option Stamp) → stamp.turn < t → IsBefore t before
    → IsBefore t (stamp_after writes stamp before)
before_access t true stamp before is was = is
before_access t false stamp before is was = was

stays_before : (t k : ℕ) (xs : List TracedAccess) (before : Option Stamp) → All (λ x. x.turn < t) xs → IsBefore t before
    → IsBefore t (last_write xs k before)
stays_before t k [] before all was = was
stays_before t k (x ∷ xs) before all was =
    stays_before t k xs (stamp_after (writes_word k x) (stamp_of x) before) (λ i d below. all (suc i) d (omega (arith, below)))
    (before_access t (writes_word k x) (stamp_of x) before (all 0 x (omega arith)) was)

abbrev trace_in : Past → ℕ → List TracedAccess
trace_in p t = turn_trace t (events_at p.script.entries t) (state_at p t)

-- all accesses before a turn are of earlier turns
traced_before : (p : Past) (n : ℕ) → All (λ x. x.turn < n) (trace_at p n)
unfolding trace_at
traced_before p zero = All-nil (λ x. x.turn < 0)
traced_before p (suc n) =
    All-append (λ x. x.turn < suc n) (trace_at p n) (trace_in p n)
    (λ i d below. let is = traced_before p n i d below in omega (arith, is))
    (λ i d below. let is = (turn_touches n (events_at p.script.entries n) (state_at p n) i d below).turn_is in omega (arith, is))

abbrev with_word : Stamp → ℕ → LastWrite
with_word stamp word = record { turn = stamp.turn; agent = stamp.agent; word = word }

of_kept : (b : Bool) (stamp : Stamp) (word : ℕ) → (if b then Some (with_word stamp word) else None) ≡ last_write_of (kept_if b stamp) word
of_kept true stamp word = refl
of_kept false stamp word = refl

of_stamp : (t : ℕ) (last : Option Stamp) (word : ℕ) → of_turn t (last_write_of last word) ≡ last_write_of (stamp_in t last) word
of_stamp t None word = refl
of_stamp t (Some stamp) word = of_kept (stamp.turn == t) stamp word

trace_next : (p : Past) (t : ℕ) → trace_at p (t + 1) ≡ trace_at p t ++ trace_in p t
unfolding trace_at
trace_next p t = rw add-one refl

-- the last write before the next turn, if it is of this turn, is the last write in this turn
pub last_in_turn : (p : Past) (number t : ℕ) → of_turn t (last_write_at p (t + 1) number) ≡ write_in p number t
last_in_turn p number t =
    let word : ℕ = slice_index (state_at p (t + 1)).bus.core number in
    let before : Option Stamp = last_write (trace_at p t) number None in
    ap (λ xs. of_turn t (last_write_of (last_write xs number None) word)) (trace_next p t)
    ∙ ap (λ s. of_turn t (last_write_of s word)) (last_write-append (trace_at p t) (trace_in p t) number None)
    ∙ of_stamp t (last_write (trace_in p t) number before) word
    ∙ ap (λ s. last_write_of s word)
    (in_turn t (length (state_at p t).bus.core) number (trace_in p t) before (turn_touches t (events_at p.script.entries t) (state_at p t))
    ∙ ap (last_write (trace_in p t) number) (none_in t before (stays_before t number (trace_at p t) None (traced_before p t) tt)))

-- whether a turn writes a word, told by the stamp after it
some_if : (b : Bool) (write : LastWrite) → is_some (if b then Some write else None) ≡ b
some_if true write = refl
some_if false write = refl

some_of : (t : ℕ) (last : Option Stamp) (word : ℕ) → is_some (of_turn t (last_write_of last word)) ≡ is_of_turn t last
some_of t None word = refl
some_of t (Some stamp) word = some_if (stamp.turn == t) (with_word stamp word)

pub written_if : (p : Past) (number t : ℕ) (stamp : Option Stamp) → stamp ≡ last_write (trace_at p (t + 1)) number None
    → is_written p number t ≡ is_of_turn t stamp
written_if p number t stamp is =
    sym (ap is_some (last_in_turn p number t))
    ∙ some_of t (last_write (trace_at p (t + 1)) number None) (slice_index (state_at p (t + 1)).bus.core number)
    ∙ ap (is_of_turn t) (sym is)

not_of : (t first : ℕ) (stamp : Option Stamp) → IsBefore first stamp → first ≤ t → is_of_turn t stamp ≡ false
not_of t first None is le = refl
not_of t first (Some stamp) is le = grind (arith, nat_tests, is, le)

-- a turn after which the word still has the stamp that it had before an earlier turn doesn't write it
pub not_written : (p : Past) (number first t : ℕ) (stamp : Option Stamp) → first ≤ t → stamp ≡ last_write (trace_at p first) number None
    → stamp ≡ last_write (trace_at p (t + 1)) number None → is_written p number t ≡ false
not_written p number first t stamp le was is =
    written_if p number t stamp is
    ∙ not_of t first stamp
    (subst (IsBefore first) (sym was) (stays_before first number (trace_at p first) None (traced_before p first) tt)) le

-- a write that was read after its turn
abbrev pub IsReadIn : Past → ℕ → ℕ → Option LastWrite → Type 0
IsReadIn p number t None = is_written p number t ≡ false
IsReadIn p number t (Some write) = is_written p number t ≡ true → (write.turn ≡ t) × (Some write ≡ write_in p number t)

read_if : (p : Past) (number t : ℕ) (write : LastWrite) (b : Bool) → (write.turn == t) ≡ b
    → (if b then Some write else None) ≡ write_in p number t → is_written p number t ≡ true
    → (write.turn ≡ t) × (Some write ≡ write_in p number t)
read_if p number t write true same is written = (grind (arith, nat_tests, same), is)
read_if p number t write false same is written = absurd (cc (ap is_some is, written))

pub read_in : (p : Past) (number t : ℕ) (write : Option LastWrite) → write ≡ last_write_at p (t + 1) number → IsReadIn p number t write
read_in p number t None is = ap is_some (sym (ap (of_turn t) is ∙ last_in_turn p number t))
read_in p number t (Some write) is =
    read_if p number t write (write.turn == t) refl (ap (of_turn t) is ∙ last_in_turn p number t)

-- the first write of some turns, read where a search for it ended
abbrev pub IsReadNext : Past → ℕ → ℕ → ℕ → Option ℕ → MachineState → Option LastWrite → Type 0
IsReadNext p number from to found machine write =
    (IsNextWrite p number from machine.turn write) × (turn_reached found to ≡ turn_after_write write to)

read_first : (p : Past) (number from to t : ℕ) (machine : MachineState) (write : Option LastWrite) → machine.turn ≡ t + 1
    → IsFirstTurn (is_written p number) from to t → IsReadIn p number t write → IsReadNext p number from to (Some t) machine write
read_first p number from to t machine None turn first read = absurd (cc (sym read, first.there))
read_first p number from to t machine (Some write) turn first read =
    let is = read first.there in (
      (
        subst (IsFirstTurn (is_written p number) from machine.turn) (sym is.0)
            (record { least = first.least; most = omega (arith, turn); there = first.there; none = first.none }),
        is.1 ∙ ap (write_in p number) (sym is.0),
      ),
      ap (λ n. n + 1) (sym is.0),
    )

pub read_next : (p : Past) (number from to : ℕ) (found : Option ℕ) (machine : MachineState) (write : Option LastWrite)
    → machine ≡ at p machine.turn → machine.turn ≡ turn_reached found to → IsFirst (is_written p number) from to found
    → IsWriteFound machine number found write → IsReadNext p number from to found machine write
read_next p number from to (Some t) machine write here turn first read =
    read_first p number from to t machine write turn first
    (read_in p number t write (read p (t + 1) (here ∙ ap (at p) turn)))
read_next p number from to None machine write here turn first none =
    subst (IsReadNext p number from to None machine) (sym none)
    (subst (HoldsNowhere (is_written p number) from) (sym turn) first, refl)
