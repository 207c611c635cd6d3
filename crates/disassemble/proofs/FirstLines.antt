-- What a read up to the first LF takes is the first line.
use Rattle.std.proofs.Common.{◌≡◌, ℕ, ◌-◌, ◌<◌, ◌⊎◌, inl, inr, Bool, true, false, List, [], ◌∷◌, ◌++◌, length, take, get_or, refl, ap, cond, arith}
use Rattle.std.specs.Prelude.{◌==◌, not, slice_index}
use Rattle.std.specs.List.{list_all, onto_first, slice_split}
use Rattle.std.specs.Io.BufRead.{take_through, drop_through}
use Rattle.std.specs.Str.Lines.{lines, lines_of_parts, strip_carriage_return}
use Rattle.std.proofs.lemmas.Bool.Decides.{nat_tests}
use Rattle.std.proofs.lemmas.List.{get_or_push, length_push, take_at}
use Rattle.std.proofs.lemmas.List.Folds.{list_all_at}
use Rattle.disassemble.specs.Answer.{line_in}

abbrev is_feed : ℕ → Bool
is_feed byte = byte == 10

abbrev is_inside : ℕ → Bool
is_inside byte = not (byte == 10)

-- a text without LF
record IsWhole (text : List ℕ) : Type 0 where
  parts : slice_split is_feed text ≡ text ∷ []
  taken : take_through 10 text ≡ text
  left : drop_through 10 text ≡ []
  inside : list_all is_inside text ≡ true

-- a text whose first LF comes after `front`
record IsCut (text front rest : List ℕ) : Type 0 where
  parts : slice_split is_feed text ≡ front ∷ slice_split is_feed rest
  taken : take_through 10 text ≡ front ++ 10 ∷ []
  left : drop_through 10 text ≡ rest

abbrev Cuts : List ℕ → Type 0
Cuts text = IsWhole text ⊎ ((front : List ℕ) × (rest : List ℕ) × IsCut text front rest)

cuts_with : (byte : ℕ) (text : List ℕ) (feeds : Bool) → is_feed byte ≡ feeds → Cuts text → Cuts (byte ∷ text)
cuts_with byte text true e cut =
    let is : byte ≡ 10 = grind (arith, nat_tests) in
    inr (
      [],
      text,
      record {
        parts = rw e refl;
        taken = rw e (ap (λ b. b ∷ []) is);
        left = rw e refl;
      },
    )
cuts_with byte text false e (inl whole) = inl (record {
  parts = rw (e, whole.parts) refl;
  taken = rw (e, whole.taken) refl;
  left = rw (e, whole.left) refl;
  inside = rw e whole.inside;
})
cuts_with byte text false e (inr (front, rest, cut)) = inr (
  byte ∷ front,
  rest,
  record {
    parts = rw (e, cut.parts) refl;
    taken = rw (e, cut.taken) refl;
    left = rw (e, cut.left) refl;
  },
)

cuts : (text : List ℕ) → Cuts text
cuts [] = inl (record { parts = refl; taken = refl; left = refl; inside = refl })
cuts (byte ∷ text) = cuts_with byte text (is_feed byte) refl (cuts text)

-- there is a part
abbrev HasPart : List (List ℕ) → Type 0
HasPart parts = (part : List ℕ) × (others : List (List ℕ)) × (parts ≡ part ∷ others)

onto_has : (byte : ℕ) (parts : List (List ℕ)) → HasPart parts → HasPart (onto_first byte parts)
onto_has byte parts (part, others, e) = (byte ∷ part, others, rw e refl)

either_has : (feeds : Bool) (byte : ℕ) (parts : List (List ℕ)) → HasPart parts
    → HasPart (cond feeds ([] ∷ parts) (onto_first byte parts))
either_has true byte parts has = ([], parts, refl)
either_has false byte parts has = onto_has byte parts has

split_has : (text : List ℕ) → HasPart (slice_split is_feed text)
split_has [] = ([], [], refl)
split_has (byte ∷ text) = either_has (is_feed byte) byte (slice_split is_feed text) (split_has text)

parts_after : (front : List ℕ) (parts : List (List ℕ)) → HasPart parts
    → lines_of_parts (front ∷ parts) ≡ strip_carriage_return front ∷ lines_of_parts parts
parts_after front parts (part, others, e) = rw e refl

-- a line that LF ended, and the lines after it
lines_after : (front rest : List ℕ)
    → lines_of_parts (front ∷ slice_split is_feed rest) ≡ strip_carriage_return front ∷ lines rest
lines_after front rest = parts_after front (slice_split is_feed rest) (split_has rest)

of_one : (text : List ℕ) → 0 < length text → lines_of_parts (text ∷ []) ≡ text ∷ lines []
of_one [] some = absurd (omega arith)
of_one (byte ∷ bytes) some =
    let is_text : (length (byte ∷ bytes) == 0) ≡ false = grind (arith, nat_tests) in rw is_text refl

-- what was read up to the first LF, if there is none: the line is what was read
line_of_whole : (text : List ℕ) → 0 < length text → list_all is_inside text ≡ true → line_in text ≡ text
line_of_whole text some inside = by_last (slice_index text (length text - 1) == 10) refl
  where
    by_last : (feeds : Bool) → (slice_index text (length text - 1) == 10) ≡ feeds → line_in text ≡ text
    by_last false e = rw e refl
    by_last true e =
        let outside : is_inside (get_or text (length text - 1) 0) ≡ false = rw e refl in
        let none = list_all_at is_inside text (length text - 1) 0 (omega arith) outside in
        cc

line_of_cut : (front : List ℕ) → line_in (front ++ 10 ∷ []) ≡ strip_carriage_return front
line_of_cut front =
    let size : length (front ++ 10 ∷ []) - 1 ≡ length front = simp length_push (omega arith) in
    let last : get_or (front ++ 10 ∷ []) (length front) 0 ≡ 10 = get_or_push front 10 0 (length front) refl in
    let rest : take (length front) (front ++ 10 ∷ []) ≡ front = take_at front (10 ∷ []) (length front) refl in
    rw (size, last, rest) refl

-- the lines of a text that isn't empty: what is read up to the first LF, and the lines of what is left
pub lines_next : (text : List ℕ) → 0 < length text
    → lines text ≡ line_in (take_through 10 text) ∷ lines (drop_through 10 text)
lines_next text some = by_cut (cuts text)
  where
    of_whole : IsWhole text → lines text ≡ line_in text ∷ lines []
    of_whole whole = rw (whole.parts, line_of_whole text some whole.inside) (of_one text some)

    of_cut : (front rest : List ℕ) → IsCut text front rest → lines text ≡ line_in (front ++ 10 ∷ []) ∷ lines rest
    of_cut front rest cut = rw (cut.parts, lines_after front rest, line_of_cut front) refl

    by_cut : Cuts text → lines text ≡ line_in (take_through 10 text) ∷ lines (drop_through 10 text)
    by_cut (inl whole) = rw (whole.taken, whole.left) (of_whole whole)
    by_cut (inr (front, rest, cut)) = rw (cut.taken, cut.left) (of_cut front rest cut)

pub lines_of_nothing : (text : List ℕ) → length text ≡ 0 → lines text ≡ []
lines_of_nothing [] none = refl
lines_of_nothing (byte ∷ bytes) none = absurd (omega arith)
