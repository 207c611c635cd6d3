-- The bytes of a text from one of them on, and the turn in which a byte came out.
use Rattle.std.proofs.Common.{◌≡◌, ◌∙◌, ℕ, zero, suc, ◌+◌, ◌-◌, ◌<◌, ◌≤◌, ◌&&◌, ⊎_elim, Bool, List, [], ◌∷◌, ◌++◌, Option, None, Some, add-one, ap, arith, drop, false, length, length-append, max, option_map, nat_le, nat_lt, refl, slice_get, subst, sym, take, true}
use Rattle.std.proofs.lemmas.Bool.{and_from, and_right, cases_lt, le-leb, le-ltb, lt-ltb, ltb-false}
use Rattle.std.proofs.lemmas.List.{drop-map}
use Rattle.std.proofs.lemmas.Option.{slice_get_past}
use Rattle.pdp_cpu.specs.KeptTexts.{without_turns}
use Rattle.pdp_cpu.specs.Handbook.MachineState.{MachineState, MachineWithTexts}
use Rattle.pdp_cpu.specs.declared.kept_text.KeptByte.{KeptByte}
use Rattle.pdp_replay.specs.Past.{Past}
use Rattle.pdp_replay.specs.Run.Checkpoints.{KeepsTexts, punched_kept_at, text_kept_at, with_turn}
use Rattle.pdp_replay.specs.Run.KeptRuns.{Advances, ArrivesAt, IsKeptRun, IsOnWay}
use Rattle.pdp_replay.specs.Run.States.{at, punched_at, text_at}
use Rattle.pdp_replay.specs.Ask.Searches.{HoldsNowhere, IsFirst, IsFirstTurn}
use Rattle.pdp_replay.specs.Ask.TextParts.{bytes_at, comes_out, is_out_after, shown_of}
use Rattle.pdp_replay.specs.declared.ask.text_part.TextKind.{TextKind}
use Rattle.pdp_replay.specs.declared.ask.text_part.TextKind.TheVariants.{Printed, Punched}
use Rattle.pdp_replay.specs.declared.run.kept_run.KeptRun.{KeptRun}
use Rattle.pdp_replay.proofs.run.Coming.{in_state}
use Rattle.pdp_replay.proofs.run.KeptBytes.{KeepsAll, length_is, length_reaches}
use Rattle.pdp_replay.proofs.ask.Searches.{first_on}
use Rattle.pdp_replay.proofs.run.KeptTexts.{printed_of, punched_keeps, punched_kept_first, punched_kept_is, punched_of, text_keeps, text_kept_first, text_kept_is}

-- a byte of one list and more, where it stands in the first, and where it stands after it
get_first : (xs ys : List KeptByte) (i : ℕ) → i < length xs → slice_get (xs ++ ys) i ≡ slice_get xs i
get_first [] ys i below = absurd (omega arith)
get_first (x ∷ xs) ys zero below = refl
get_first (x ∷ xs) ys (suc i) below = get_first xs ys i (omega arith)

get_after : (xs ys : List KeptByte) (i : ℕ) → length xs ≤ i → slice_get (xs ++ ys) i ≡ slice_get ys (i - length xs)
get_after [] ys i least = ap (slice_get ys) (omega arith)
get_after (x ∷ xs) ys zero least = absurd (omega arith)
get_after (x ∷ xs) ys (suc i) least = get_after xs ys i (omega arith) ∙ ap (slice_get ys) (omega arith)

-- the turn of a byte that is kept
abbrev turn_in : List KeptByte → ℕ → Option ℕ
turn_in kept i = option_map (λ b. b.turn) (slice_get kept i)

turn_out : (turn : ℕ) (out : List ℕ) (i : ℕ) → i < length out → turn_in (with_turn turn out) i ≡ Some turn
turn_out turn [] i below = absurd (omega arith)
turn_out turn (byte ∷ out) zero below = refl
turn_out turn (byte ∷ out) (suc i) below = turn_out turn out i (omega arith)

out_length : (turn : ℕ) (out : List ℕ) → length (with_turn turn out) ≡ length out
out_length turn [] = refl
out_length turn (byte ∷ out) = ap suc (out_length turn out)

-- does a byte of a text that grows come out in this turn?
abbrev came : (ℕ → List ℕ) → ℕ → ℕ → Bool
came text number t = nat_le (length (text t)) number && nat_lt number (length (text (t + 1)))

-- a byte that is not there yet came out in no turn before
came_nowhere : (kept : ℕ → List KeptByte) (text out : ℕ → List ℕ) → KeepsAll kept text out → (number n : ℕ) → length (kept n) ≤ number
    → HoldsNowhere (came text number) 0 n
came_nowhere kept text out all number n past =
    λ turn least below.
    let long = length_reaches kept text out all (turn + 1) n (omega (arith, below)) in
    let late : nat_lt number (length (text (turn + 1))) ≡ false = le-ltb number (length (text (turn + 1))) (omega (arith, long, past)) in
    and_right (nat_le (length (text turn)) number) (nat_lt number (length (text (turn + 1)))) late

-- is a byte of a text that grows out after this turn?
abbrev is_out : (ℕ → List ℕ) → ℕ → ℕ → Bool
is_out text number t = nat_lt number (length (text (t + 1)))

-- a byte that is out after no turn comes out in none
came_never : (text : ℕ → List ℕ) (number from to : ℕ) → HoldsNowhere (is_out text number) from to → HoldsNowhere (came text number) from to
came_never text number from to none =
    λ turn least below. and_right (nat_le (length (text turn)) number) (nat_lt number (length (text (turn + 1)))) (none turn least below)

-- a byte that is not out at a turn, and after no turn from there on, is not out then
not_yet : (text : ℕ → List ℕ) (number from t : ℕ) → length (text from) ≤ number → from ≤ t → HoldsNowhere (is_out text number) from t
    → length (text t) ≤ number
not_yet text number from zero before least none =
    let here : from ≡ zero = omega (arith, least) in subst (λ n. length (text n) ≤ number) here before
not_yet text number from (suc t) before least none =
    ⊎_elim
    (λ earlier.
    let after : length (text (t + 1)) ≤ number = ltb-false number (length (text (t + 1))) (none t (omega (arith, earlier)) (omega arith)) in
    let next : t + 1 ≡ suc t = omega arith in
    subst (λ n. length (text n) ≤ number) next after)
    (λ late.
    let here : from ≡ suc t = omega (arith, least, late) in subst (λ n. length (text n) ≤ number) here before)
    (cases_lt from (suc t))

-- a byte comes out in the first turn after which it is out
came_first : (text : ℕ → List ℕ) (number from to : ℕ) (found : Option ℕ) → length (text from) ≤ number → IsFirst (is_out text number) from to found
    → IsFirst (came text number) from to found
came_first text number from to (Some t) before is =
    let yet : nat_le (length (text t)) number ≡ true = le-leb (length (text t)) number (not_yet text number from t before is.least is.none) in
    record {
      least = is.least;
      most = is.most;
      there = and_from (nat_le (length (text t)) number) (nat_lt number (length (text (t + 1)))) yet is.there;
      none = came_never text number from t is.none;
    }
came_first text number from to None before is = came_never text number from to is

-- a byte came out in its turn
record CameIn (kept : ℕ → List KeptByte) (text : ℕ → List ℕ) (number n : ℕ) : Type 0 where
  turn : ℕ
  is : turn_in (kept n) number ≡ Some turn
  first : IsFirstTurn (came text number) 0 n turn

came_before : (kept : ℕ → List KeptByte) (text : ℕ → List ℕ) (number n : ℕ) (more : List KeptByte) → kept (suc n) ≡ kept n ++ more
    → number < length (kept n) → CameIn kept text number n → CameIn kept text number (suc n)
came_before kept text number n more next below before =
    let most = before.first.most in
    record {
      turn = before.turn;
      is = ap (λ bytes. turn_in bytes number) next ∙ ap (option_map (λ b. b.turn)) (get_first (kept n) more number below) ∙ before.is;
      first = record { least = before.first.least; most = omega (arith, most); there = before.first.there; none = before.first.none };
    }

came_now : (kept : ℕ → List KeptByte) (text out : ℕ → List ℕ) → KeepsAll kept text out → (number n : ℕ) → length (kept n) ≤ number
    → number < length (kept (suc n)) → CameIn kept text number (suc n)
came_now kept text out all number n past below =
    let more : List KeptByte = with_turn n (out n) in
    let size : length (kept (suc n)) ≡ length (kept n) + length (out n) =
    ap length (all.next n) ∙ length-append (kept n) more ∙ ap (λ k. length (kept n) + k) (out_length n (out n)) in
    let before : nat_le (length (text n)) number ≡ true = le-leb (length (text n)) number (omega (arith, past, length_is kept text out all n)) in
    let after : nat_lt number (length (text (n + 1))) ≡ true =
    rw add-one (lt-ltb number (length (text (suc n))) (omega (arith, below, length_is kept text out all (suc n)))) in
    record {
      turn = n;
      is = ap (λ bytes. turn_in bytes number) (all.next n)
          ∙ ap (option_map (λ b. b.turn)) (get_after (kept n) more number past)
          ∙ turn_out n (out n) (number - length (kept n)) (omega (arith, past, below, size));
      first = record { least = omega arith; most = omega arith; there = and_from (nat_le (length (text n)) number) (nat_lt number (length (text (n + 1)))) before after; none = came_nowhere kept text out all number n past };
    }

came_in : (kept : ℕ → List KeptByte) (text out : ℕ → List ℕ) → KeepsAll kept text out → (number n : ℕ) → number < length (kept n)
    → CameIn kept text number n
came_in kept text out all number zero below = let none = ap length all.none in absurd (omega (arith, none, below))
came_in kept text out all number (suc n) below =
    ⊎_elim
    (λ earlier. came_before kept text number n (with_turn n (out n)) (all.next n) earlier (came_in kept text out all number n earlier))
    (λ late. came_now kept text out all number n late below)
    (cases_lt number (length (kept n)))

-- the turn that is kept with a byte is the one in which it came out
turn_is : (kept : ℕ → List KeptByte) (text out : ℕ → List ℕ) → KeepsAll kept text out → (number n : ℕ)
    → IsFirst (came text number) 0 n (turn_in (kept n) number)
turn_is kept text out all number n =
    ⊎_elim
    (λ below.
    let byte : CameIn kept text number n = came_in kept text out all number n below in
    subst (λ found. IsFirst (came text number) 0 n found) (sym byte.is) byte.first)
    (λ past.
    let none : turn_in (kept n) number ≡ None = ap (option_map (λ b. b.turn)) (slice_get_past (kept n) number past) in
    subst (λ found. IsFirst (came text number) 0 n found) (sym none) (came_nowhere kept text out all number n past))
    (cases_lt number (length (kept n)))

-- the bytes that came out before turn n, each with its turn
abbrev kept_at : TextKind → Past → ℕ → List KeptByte
kept_at Printed p n = text_kept_at p n
kept_at Punched p n = punched_kept_at p n

shown_is : (kind : TextKind) (p : Past) (n known : ℕ) (m : MachineWithTexts) → n ≤ known → m.state ≡ at p n → KeepsTexts p known m
    → shown_of kind m ≡ kept_at kind p n
shown_is Printed p n known m le here texts =
    ap (λ (s : MachineState). take (length s.text) m.kept_text) here
    ∙ ap (take (length (text_at p n))) texts.text
    ∙ text_kept_first p n known le
shown_is Punched p n known m le here texts =
    ap (λ (s : MachineState). take (length s.punched) m.kept_punched) here
    ∙ ap (take (length (punched_at p n))) texts.punched
    ∙ punched_kept_first p n known le

bytes_are : (kind : TextKind) (p : Past) (n : ℕ) → without_turns (kept_at kind p n) ≡ bytes_at kind p n
bytes_are Printed p n = text_kept_is p n
bytes_are Punched p n = punched_kept_is p n

-- the bytes of a text from one of them on, read off a machine at turn n
pub part_is : (kind : TextKind) (p : Past) (n first : ℕ) (r : KeptRun) (xs : List KeptByte) (bytes : List ℕ) → n ≤ r.known → r.machine.state ≡ at p n
    → IsKeptRun p r → xs ≡ drop first (shown_of kind r.machine) → bytes ≡ without_turns xs → bytes ≡ drop first (bytes_at kind p n)
part_is kind p n first r xs bytes le here run slice is =
    is
    ∙ ap without_turns (slice ∙ ap (drop first) (shown_is kind p n r.known r.machine le here run.kept.texts))
    ∙ sym (drop-map (λ b. b.byte) first (kept_at kind p n))
    ∙ ap (drop first) (bytes_are kind p n)

turn_kept : (kind : TextKind) (p : Past) (number n : ℕ) → IsFirst (comes_out kind number p) 0 n (turn_in (kept_at kind p n) number)
turn_kept Printed p number n = turn_is (text_kept_at p) (text_at p) (printed_of p) (text_keeps p) number n
turn_kept Punched p number n = turn_is (punched_kept_at p) (punched_at p) (punched_of p) (punched_keeps p) number n

-- the turn of a byte, read off a machine at turn n
pub byte_turn_is : (kind : TextKind) (p : Past) (number n : ℕ) (r : KeptRun) (found : Option ℕ) → n ≤ r.known → r.machine.state ≡ at p n
    → IsKeptRun p r → found ≡ turn_in (shown_of kind r.machine) number → IsFirst (comes_out kind number p) 0 n found
byte_turn_is kind p number n r found le here run is =
    let same : found ≡ turn_in (kept_at kind p n) number =
    is ∙ ap (λ bytes. turn_in bytes number) (shown_is kind p n r.known r.machine le here run.kept.texts) in
    subst (λ t. IsFirst (comes_out kind number p) 0 n t) (sym same) (turn_kept kind p number n)

-- more turns only add bytes
longer : (kept : ℕ → List KeptByte) (text out : ℕ → List ℕ) → KeepsAll kept text out → (n now : ℕ) → n ≤ now
    → length (text n) ≤ length (text now)
longer kept text out all n now le =
    let reaches = length_reaches kept text out all n now le in
    let size = length_is kept text out all now in
    omega (arith, reaches, size)

pub bytes_grow : (kind : TextKind) (p : Past) (n now : ℕ) → n ≤ now → length (bytes_at kind p n) ≤ length (bytes_at kind p now)
bytes_grow Printed p n now le = longer (text_kept_at p) (text_at p) (printed_of p) (text_keeps p) n now le
bytes_grow Punched p n now le = longer (punched_kept_at p) (punched_at p) (punched_of p) (punched_keeps p) n now le

none_kept : (kept : List KeptByte) (number : ℕ) → None ≡ turn_in kept number → length kept ≤ number
none_kept [] number none = omega arith
none_kept (b ∷ kept) zero none = absurd (cc none)
none_kept (b ∷ kept) (suc number) none = let less = none_kept kept number none in omega (arith, less)

kept_length : (kind : TextKind) (p : Past) (n : ℕ) → length (kept_at kind p n) ≡ length (bytes_at kind p n)
kept_length Printed p n = length_is (text_kept_at p) (text_at p) (printed_of p) (text_keeps p) n
kept_length Punched p n = length_is (punched_kept_at p) (punched_at p) (punched_of p) (punched_keeps p) n

-- a byte that a machine at turn n doesn't show came out in no turn before
not_before : (kind : TextKind) (p : Past) (number n : ℕ) → length (kept_at kind p n) ≤ number → HoldsNowhere (comes_out kind number p) 0 n
not_before Printed p number n past = came_nowhere (text_kept_at p) (text_at p) (printed_of p) (text_keeps p) number n past
not_before Punched p number n past = came_nowhere (punched_kept_at p) (punched_at p) (punched_of p) (punched_keeps p) number n past

-- and it comes out in the first turn from there on after which it is out
pub later_turn_is : (kind : TextKind) (p : Past) (number n to : ℕ) (r : KeptRun) (found : Option ℕ) → n ≤ r.known → r.machine.state ≡ at p n
    → IsKeptRun p r → None ≡ turn_in (shown_of kind r.machine) number → IsFirst (is_out_after kind number p) n to found
    → IsFirst (comes_out kind number p) 0 to found
later_turn_is kind p number n to r found le here run none is =
    let same : shown_of kind r.machine ≡ kept_at kind p n = shown_is kind p n r.known r.machine le here run.kept.texts in
    let past : length (kept_at kind p n) ≤ number = none_kept (kept_at kind p n) number (none ∙ ap (λ bytes. turn_in bytes number) same) in
    let before : length (bytes_at kind p n) ≤ number = omega (arith, past, kept_length kind p n) in
    first_on (comes_out kind number p) 0 n to found (omega arith) (not_before kind p number n past)
    (came_first (bytes_at kind p) number n to found before is)

-- a run that came to the known turn came to the turn after that of an earlier byte, or past it
pub arrives_past : (known turn : ℕ) (before after : KeptRun) → turn < known → ArrivesAt known before after → ArrivesAt (max known (turn + 1)) before after
arrives_past known turn before after below there =
    let same : known ≡ max known (turn + 1) = omega (arith, below) in subst (λ n. ArrivesAt n before after) same there

-- a run that came to a turn is on its way there
pub on_way_there : (p : Past) (from most to : ℕ) (before r : KeptRun) → IsKeptRun p r → Advances from most before r → ArrivesAt to before r → IsOnWay p r
on_way_there p from most to before r run on there =
    let now = run.current (in_state before r on.come there.short) in record { kept = run.kept; here = now.here; reached = now.reached }
