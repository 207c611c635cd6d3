-- Bytes that come out turn by turn and are kept with their turns: what begins them, and what a turn
-- writes over them.
use Rattle.std.proofs.Common.{◌≡◌, ℕ, zero, suc, ◌+◌, ◌-◌, ◌<◌, ◌≤◌, List, [], ◌∷◌, ◌++◌, true, false, leb, length, length-append, take, drop, max, refl, sym, subst, ◌∙◌, ap, ap₂, append_assoc, append-nil, arith}
use Rattle.std.specs.List.{AllByRecursion}
use Rattle.std.proofs.Math.Seq.{take-append_seam}
use Rattle.std.proofs.lemmas.Bool.{le-leb, lt-leb}
use Rattle.pdp_cpu.specs.KeptTexts.{kept_before, kept_first, kept_over, put_over, without_turns}
use Rattle.pdp_cpu.specs.declared.kept_text.KeptByte.{KeptByte}
use Rattle.pdp_replay.specs.Run.Checkpoints.{with_turn}

-- bytes that are kept, of a text that grows by what comes out in each turn
pub record KeepsAll (kept : ℕ → List KeptByte) (text out : ℕ → List ℕ) : Type 0 where
  pub none : kept zero ≡ []
  pub empty : text zero ≡ []
  pub next : (n : ℕ) → kept (suc n) ≡ kept n ++ with_turn n (out n)
  pub grows : (n : ℕ) → text (suc n) ≡ text n ++ out n

bytes_of : (turn : ℕ) (out : List ℕ) → without_turns (with_turn turn out) ≡ out
bytes_of turn [] = refl
bytes_of turn (byte ∷ out) = ap (λ xs. byte ∷ xs) (bytes_of turn out)

without_append : (xs ys : List KeptByte) → without_turns (xs ++ ys) ≡ without_turns xs ++ without_turns ys
without_append [] ys = refl
without_append (x ∷ xs) ys = ap (λ zs. x.byte ∷ zs) (without_append xs ys)

-- bytes from this turn on, and bytes from before it
abbrev AreFrom : ℕ → List KeptByte → Type 0
AreFrom turn bytes = AllByRecursion (λ b. turn ≤ b.turn) bytes

abbrev AreBefore : ℕ → List KeptByte → Type 0
AreBefore turn bytes = AllByRecursion (λ b. b.turn < turn) bytes

from_turn : (first turn : ℕ) (out : List ℕ) → first ≤ turn → AreFrom first (with_turn turn out)
from_turn first turn [] le = tt
from_turn first turn (byte ∷ out) le = (le, from_turn first turn out le)

before_turn : (turn : ℕ) (out : List ℕ) → AreBefore (suc turn) (with_turn turn out)
before_turn turn [] = tt
before_turn turn (byte ∷ out) = (omega arith, before_turn turn out)

from_append : (turn : ℕ) (xs ys : List KeptByte) → AreFrom turn xs → AreFrom turn ys → AreFrom turn (xs ++ ys)
from_append turn [] ys first second = second
from_append turn (x ∷ xs) ys first second = (first.0, from_append turn xs ys first.1 second)

before_append : (turn : ℕ) (xs ys : List KeptByte) → AreBefore turn xs → AreBefore (suc turn) ys → AreBefore (suc turn) (xs ++ ys)
before_append turn [] ys first second = second
before_append turn (x ∷ xs) ys first second = (omega (arith, first.0), before_append turn xs ys first.1 second)

-- what is kept before a turn of bytes from it on, of those before it, and of the two
none_before : (turn : ℕ) (xs : List KeptByte) → AreFrom turn xs → kept_before turn xs ≡ []
none_before turn [] from = refl
none_before turn (x ∷ xs) from =
    let late : leb turn x.turn ≡ true = le-leb turn x.turn from.0 in
    ap (kept_first turn x) (none_before turn xs from.1) ∙ rw late refl

one_early : (turn : ℕ) (x : KeptByte) (xs : List KeptByte) → x.turn < turn → kept_first turn x xs ≡ x ∷ xs
one_early turn x [] early = let no : leb turn x.turn ≡ false = lt-leb turn x.turn early in rw no refl
one_early turn x (y ∷ xs) early = refl

all_before : (turn : ℕ) (xs : List KeptByte) → AreBefore turn xs → kept_before turn xs ≡ xs
all_before turn [] before = refl
all_before turn (x ∷ xs) before = ap (kept_first turn x) (all_before turn xs before.1) ∙ one_early turn x xs before.0

first_before : (turn : ℕ) (xs ys : List KeptByte) → AreBefore turn xs → AreFrom turn ys → kept_before turn (xs ++ ys) ≡ xs
first_before turn [] ys before from = none_before turn ys from
first_before turn (x ∷ xs) ys before from =
    ap (kept_first turn x) (first_before turn xs ys before.1 from) ∙ one_early turn x xs before.0

-- bytes that come out after some are put over as many that come after those
skip : {X : Type 0} (xs ys : List X) (n : ℕ) → drop (length xs + n) (xs ++ ys) ≡ drop n ys
skip [] ys n = ap (λ m. drop m ys) (omega arith)
skip (x ∷ xs) ys n =
    let next : suc (length xs) + n ≡ suc (length xs + n) = omega arith in
    ap (λ m. drop m (x ∷ (xs ++ ys))) next ∙ skip xs ys n

one_over : (first rest : List KeptByte) (b : KeptByte) → put_over (length first) b (first ++ rest) ≡ first ++ b ∷ drop 1 rest
one_over first rest b =
    ap (λ xs. xs ++ b ∷ drop (length first + 1) (first ++ rest)) (take-append_seam first rest)
    ∙ ap (λ xs. first ++ b ∷ xs) (skip first rest 1)

drop_on : {X : Type 0} (n : ℕ) (xs : List X) → drop n (drop 1 xs) ≡ drop (suc n) xs
drop_on zero [] = refl
drop_on (suc n) [] = refl
drop_on n (x ∷ xs) = refl

longer : {X : Type 0} (xs : List X) (x : X) → length xs + 1 ≡ length (xs ++ x ∷ [])
longer xs x = sym (length-append xs (x ∷ []))

all_over : (turn : ℕ) (out : List ℕ) (first rest : List KeptByte)
    → kept_over turn out (length first) (first ++ rest) ≡ first ++ (with_turn turn out ++ drop (length out) rest)
all_over turn [] first rest = refl
all_over turn (byte ∷ out) first rest =
    let b : KeptByte = record { byte = byte; turn = turn } in
    ap (kept_over turn out (length first + 1)) (one_over first rest b ∙ sym (append_assoc first (b ∷ []) (drop 1 rest)))
    ∙ ap (λ n. kept_over turn out n ((first ++ b ∷ []) ++ drop 1 rest)) (longer first b)
    ∙ all_over turn out (first ++ b ∷ []) (drop 1 rest)
    ∙ append_assoc first (b ∷ []) (with_turn turn out ++ drop (length out) (drop 1 rest))
    ∙ ap (λ xs. first ++ (b ∷ (with_turn turn out ++ xs))) (drop_on (length out) rest)

abbrev nothing : List KeptByte
nothing = []

drop_nothing : (n : ℕ) → drop n nothing ≡ nothing
drop_nothing zero = refl
drop_nothing (suc n) = refl

new_over : (turn : ℕ) (out : List ℕ) (first : List KeptByte) → kept_over turn out (length first) first ≡ first ++ with_turn turn out
new_over turn out first =
    sym (ap (kept_over turn out (length first)) (append-nil first))
    ∙ all_over turn out first nothing
    ∙ ap (λ xs. first ++ (with_turn turn out ++ xs)) (drop_nothing (length out))
    ∙ ap (λ xs. first ++ xs) (append-nil (with_turn turn out))

drop_first : (turn : ℕ) (out : List ℕ) (rest : List KeptByte) → drop (length out) (with_turn turn out ++ rest) ≡ rest
drop_first turn [] rest = refl
drop_first turn (byte ∷ out) rest = drop_first turn out rest

-- the whole is the first part, and bytes from this turn on
record Continues (turn : ℕ) (first whole : List KeptByte) : Type 0 where
  rest : List KeptByte
  is : whole ≡ first ++ rest
  from : AreFrom turn rest

continues : (kept : ℕ → List KeptByte) (text out : ℕ → List ℕ) → KeepsAll kept text out → (n k : ℕ) → Continues n (kept n) (kept (n + k))
continues kept text out all n zero =
    record { rest = []; is = ap kept (omega arith) ∙ sym (append-nil (kept n)); from = tt }
continues kept text out all n (suc k) =
    let before : Continues n (kept n) (kept (n + k)) = continues kept text out all n k in
    let more : List KeptByte = with_turn (n + k) (out (n + k)) in
    record {
      rest = before.rest ++ more;
      is = ap kept (omega arith) ∙ all.next (n + k) ∙ ap (λ xs. xs ++ more) before.is ∙ append_assoc (kept n) before.rest more;
      from = from_append n before.rest more before.from (from_turn n (n + k) (out (n + k)) (omega arith));
    }

all_early : (kept : ℕ → List KeptByte) (text out : ℕ → List ℕ) → KeepsAll kept text out → (n : ℕ) → AreBefore n (kept n)
all_early kept text out all zero = subst (AreBefore 0) (sym all.none) tt
all_early kept text out all (suc n) =
    subst (AreBefore (suc n)) (sym (all.next n))
    (before_append n (kept n) (with_turn n (out n)) (all_early kept text out all n) (before_turn n (out n)))

-- without their turns they are the text
pub text_is : (kept : ℕ → List KeptByte) (text out : ℕ → List ℕ) → KeepsAll kept text out → (n : ℕ) → without_turns (kept n) ≡ text n
text_is kept text out all zero = ap without_turns all.none ∙ sym all.empty
text_is kept text out all (suc n) =
    ap without_turns (all.next n) ∙ without_append (kept n) (with_turn n (out n))
    ∙ ap₂ ◌++◌ (text_is kept text out all n) (bytes_of n (out n))
    ∙ sym (all.grows n)

pub as_long : (bytes : List KeptByte) → length (without_turns bytes) ≡ length bytes
as_long [] = refl
as_long (b ∷ bytes) = ap suc (as_long bytes)

pub length_is : (kept : ℕ → List KeptByte) (text out : ℕ → List ℕ) → KeepsAll kept text out → (n : ℕ) → length (kept n) ≡ length (text n)
length_is kept text out all n = sym (as_long (kept n)) ∙ ap length (text_is kept text out all n)

first_of : (kept : ℕ → List KeptByte) (text out : ℕ → List ℕ) → KeepsAll kept text out → (n k : ℕ)
    → take (length (text n)) (kept (n + k)) ≡ kept n
first_of kept text out all n k =
    let after : Continues n (kept n) (kept (n + k)) = continues kept text out all n k in
    ap (λ m. take m (kept (n + k))) (sym (length_is kept text out all n))
    ∙ ap (take (length (kept n))) after.is
    ∙ take-append_seam (kept n) after.rest

before_of : (kept : ℕ → List KeptByte) (text out : ℕ → List ℕ) → KeepsAll kept text out → (n k : ℕ) → kept_before n (kept (n + k)) ≡ kept n
before_of kept text out all n k =
    let after : Continues n (kept n) (kept (n + k)) = continues kept text out all n k in
    ap (kept_before n) after.is ∙ first_before n (kept n) after.rest (all_early kept text out all n) after.from

length_of : (kept : ℕ → List KeptByte) (text out : ℕ → List ℕ) → KeepsAll kept text out → (n k : ℕ)
    → length (text n) ≤ length (kept (n + k))
length_of kept text out all n k =
    let after : Continues n (kept n) (kept (n + k)) = continues kept text out all n k in
    let long : length (kept (n + k)) ≡ length (kept n) + length after.rest = ap length after.is ∙ length-append (kept n) after.rest in
    omega (arith, long, length_is kept text out all n)

over_of : (kept : ℕ → List KeptByte) (text out : ℕ → List ℕ) → KeepsAll kept text out → (n k : ℕ)
    → kept_over n (out n) (length (text n)) (kept (n + k)) ≡ kept (max (n + k) (n + 1))
over_of kept text out all n zero =
    ap (λ m. kept_over n (out n) m (kept (n + 0))) (sym (length_is kept text out all n))
    ∙ ap (λ m. kept_over n (out n) (length (kept n)) (kept m)) (omega arith)
    ∙ new_over n (out n) (kept n)
    ∙ sym (all.next n)
    ∙ ap kept (omega arith)
over_of kept text out all n (suc k) =
    let after : Continues (suc n) (kept (suc n)) (kept (suc n + k)) = continues kept text out all (suc n) k in
    let more : List KeptByte = with_turn n (out n) in
    let is : kept (n + suc k) ≡ kept n ++ (more ++ after.rest) =
    ap kept (omega arith) ∙ after.is ∙ ap (λ xs. xs ++ after.rest) (all.next n) ∙ append_assoc (kept n) more after.rest in
    ap (λ m. kept_over n (out n) m (kept (n + suc k))) (sym (length_is kept text out all n))
    ∙ ap (kept_over n (out n) (length (kept n))) is
    ∙ all_over n (out n) (kept n) (more ++ after.rest)
    ∙ ap (λ xs. kept n ++ (more ++ xs)) (drop_first n (out n) after.rest)
    ∙ sym is
    ∙ ap kept (omega arith)

-- the same of a turn and a later one
reached : (n known : ℕ) → n ≤ known → n + (known - n) ≡ known
reached n known le = omega arith

pub first_is : (kept : ℕ → List KeptByte) (text out : ℕ → List ℕ) → KeepsAll kept text out → (n known : ℕ) → n ≤ known
    → take (length (text n)) (kept known) ≡ kept n
first_is kept text out all n known le =
    subst (λ m. take (length (text n)) (kept m) ≡ kept n) (reached n known le) (first_of kept text out all n (known - n))

pub before_is : (kept : ℕ → List KeptByte) (text out : ℕ → List ℕ) → KeepsAll kept text out → (n known : ℕ) → n ≤ known
    → kept_before n (kept known) ≡ kept n
before_is kept text out all n known le =
    subst (λ m. kept_before n (kept m) ≡ kept n) (reached n known le) (before_of kept text out all n (known - n))

pub length_reaches : (kept : ℕ → List KeptByte) (text out : ℕ → List ℕ) → KeepsAll kept text out → (n known : ℕ) → n ≤ known
    → length (text n) ≤ length (kept known)
length_reaches kept text out all n known le =
    subst (λ m. length (text n) ≤ length (kept m)) (reached n known le) (length_of kept text out all n (known - n))

pub over_is : (kept : ℕ → List KeptByte) (text out : ℕ → List ℕ) → KeepsAll kept text out → (n known : ℕ) → n ≤ known
    → kept_over n (out n) (length (text n)) (kept known) ≡ kept (max known (n + 1))
over_is kept text out all n known le =
    subst (λ m. kept_over n (out n) (length (text n)) (kept m) ≡ kept (max m (n + 1))) (reached n known le)
    (over_of kept text out all n (known - n))
