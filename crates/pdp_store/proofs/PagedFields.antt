-- The fields of a paged store: as they are made, and after a write.
use Rattle.std.proofs.Common.{◌≡◌, ◌≢◌, ◌⊎◌, inl, inr, ℕ, suc, zero, ◌+◌, ◌-◌, ◌*◌, ◌/◌, ◌<◌, ◌≤◌, Bool, true, false, List, [], ◌∷◌, Option, Some, None, if◌then◌else◌, length, take, drop, replicate, get_or, slice_get, slice_set, refl, sym, ◌∙◌, ap, subst, arith}
use Rattle.std.proofs.lemmas.Bool.{cases_lt}
use Rattle.std.proofs.lemmas.List.{drop-set-lt, drop-set-add, take-set-le, length-set}
use Rattle.pdp_store.specs.declared.Stamp.{Stamp}
use Rattle.pdp_store.specs.declared.base.Base.{Base}
use Rattle.pdp_store.specs.Bases.{AreFields, bases_of, given_there, serial_of}
use Rattle.pdp_store.specs.Pages.{blank_paged}
use Rattle.pdp_store.specs.Stored.{no_touch_in}
use Rattle.pdp_store.specs.Pieces.{piece}

-- a write marks its place
pub bases_of-marked : (marks : List Bool) (bases : List Base) (place : ℕ) → bases_of (slice_set marks place true) bases ≡ slice_set (bases_of marks bases) place None
unfolding bases_of
bases_of-marked [] bases place = refl
bases_of-marked (mark ∷ marks) [] zero = refl
bases_of-marked (mark ∷ marks) [] (suc place) = refl
bases_of-marked (true ∷ marks) (base ∷ bases) zero = refl
bases_of-marked (false ∷ marks) (base ∷ bases) zero = refl
bases_of-marked (true ∷ marks) (base ∷ bases) (suc place) = ap (λ xs. None ∷ xs) (bases_of-marked marks bases place)
bases_of-marked (false ∷ marks) (base ∷ bases) (suc place) = ap (λ xs. Some (serial_of base) ∷ xs) (bases_of-marked marks bases place)

-- a place without a mark, if one was set: it had none before, and is another one
unmarked_before : (marks : List Bool) (place k : ℕ) → slice_get (slice_set marks place true) k ≡ Some false → (slice_get marks k ≡ Some false) × (k ≢ place)
unmarked_before [] place k is = absurd (cc)
unmarked_before (mark ∷ marks) zero zero is = absurd (cc)
unmarked_before (mark ∷ marks) zero (suc k) is = (is, λ e. omega arith)
unmarked_before (mark ∷ marks) (suc place) zero is = (is, λ e. omega arith)
unmarked_before (mark ∷ marks) (suc place) (suc k) is =
    let before = unmarked_before marks place k is in
    (before.0, λ e. before.1 (omega arith))

-- a write in another place
piece-set_below : {X : Type 0} (k i : ℕ) (x : X) (xs : List X) → i < k * 256 → piece k (slice_set xs i x) ≡ piece k xs
unfolding piece
piece-set_below {X = X} k i x xs below = ap (λ (ys : List X). take 256 ys) (drop-set-lt (k * 256) xs i x below)

piece-set_above : {X : Type 0} (k i j : ℕ) (x : X) (xs : List X) → i ≡ k * 256 + j → 256 ≤ j → piece k (slice_set xs i x) ≡ piece k xs
unfolding piece
piece-set_above {X = X} k i j x xs at above =
    ap (λ n. take 256 (drop (k * 256) (slice_set xs n x))) at
    ∙ ap (λ (ys : List X). take 256 ys) (drop-set-add (k * 256) xs j x)
    ∙ take-set-le 256 (drop (k * 256) xs) j x above

piece-set_other : {X : Type 0} (k i : ℕ) (x : X) (xs : List X) → k ≢ i / 256 → piece k (slice_set xs i x) ≡ piece k xs
piece-set_other k i x xs other = by_side (cases_lt i (k * 256))
  where
    by_side : (i < k * 256) ⊎ (k * 256 ≤ i) → piece k (slice_set xs i x) ≡ piece k xs
    by_side (inl below) = piece-set_below k i x xs below
    by_side (inr above) = piece-set_above k i (i - k * 256) x xs (omega arith) (omega arith)

pub written_fields : (words : List ℕ) (stamps : List (Option Stamp)) (bases : List Base) (marks : List Bool) (i word : ℕ) (last : Option Stamp)
    → AreFields words stamps bases marks → AreFields (slice_set words i word) (slice_set stamps i last) bases (slice_set marks (i / 256) true)
written_fields words stamps bases marks i word last fields = record {
  places = length-set marks (i / 256) true ∙ fields.places;
  all_words = length-set words i word ∙ fields.all_words;
  all_stamps = λ some. length-set stamps i last ∙ fields.all_stamps (subst (λ n. 0 < n) (length-set stamps i last) some) ∙ sym (length-set words i word);
  held = λ k base mark is page same.
      let before = unmarked_before marks (i / 256) k mark in
      let holds = fields.held k base before.0 is page same in
      (holds.0 ∙ sym (piece-set_other k i word words before.1), holds.1 ∙ sym (piece-set_other k i last stamps before.1));
}

-- every place is marked in a new store
pub bases_of-new : (places : ℕ) (bases : List Base) → length bases ≡ places → bases_of (replicate places true) bases ≡ replicate places None
unfolding bases_of
bases_of-new zero bases many = refl
bases_of-new (suc places) [] many = absurd (omega arith)
bases_of-new (suc places) (base ∷ bases) many = ap (λ xs. None ∷ xs) (bases_of-new places bases (omega arith))

pub new_view : (words : List ℕ) (stamps : List (Option Stamp)) (bases : List Base) (marks : List Bool) (first_touches : List ℕ) (len : ℕ) (stamped : Bool)
    → first_touches ≡ no_touch_in len → words ≡ replicate len 0 → stamps ≡ (if stamped then replicate len None else []) → length bases ≡ len / 256 → marks ≡ replicate (len / 256) true
    → record { words = words; stamps = stamps; bases = bases_of marks bases; given = 0; first_touches = first_touches } ≡ blank_paged len stamped
new_view words stamps bases marks first_touches len stamped none zeros blank count marked =
    rw (none, zeros, blank, marked, bases_of-new (len / 256) bases count) refl

-- a place that is marked has no base, and another has the serial of its own
pub marked_there : (marks : List Bool) (bases : List Base) (k : ℕ) → k < length marks → true ≡ get_or marks k true → get_or (bases_of marks bases) k None ≡ None
unfolding bases_of
marked_there [] bases k below is = refl
marked_there (mark ∷ marks) [] k below is = refl
marked_there (true ∷ marks) (base ∷ bases) zero below is = refl
marked_there (false ∷ marks) (base ∷ bases) zero below is = absurd (cc)
marked_there (true ∷ marks) (base ∷ bases) (suc k) below is = marked_there marks bases k (omega arith) is
marked_there (false ∷ marks) (base ∷ bases) (suc k) below is = marked_there marks bases k (omega arith) is

pub unmarked_there : (marks : List Bool) (bases : List Base) (k : ℕ) (base : Base) → k < length marks → false ≡ get_or marks k false → slice_get bases k ≡ Some base
    → get_or (bases_of marks bases) k None ≡ Some (serial_of base)
unfolding bases_of
unmarked_there [] bases k base below is there = absurd (omega arith)
unmarked_there (mark ∷ marks) [] k base below is there = absurd (cc)
unmarked_there (true ∷ marks) (first ∷ bases) zero base below is there = absurd (cc)
unmarked_there (false ∷ marks) (first ∷ bases) zero base below is there = let same : first ≡ base = cc in ap (λ b. Some (serial_of b)) same
unmarked_there (true ∷ marks) (first ∷ bases) (suc k) base below is there = unmarked_there marks bases k base (omega arith) is there
unmarked_there (false ∷ marks) (first ∷ bases) (suc k) base below is there = unmarked_there marks bases k base (omega arith) is there

pub given_unmarked : (marks : List Bool) (bases : List Base) (k given : ℕ) → k < length bases → length marks ≡ length bases → false ≡ get_or marks k false
    → given_there (get_or (bases_of marks bases) k None) given ≡ given
unfolding bases_of
given_unmarked marks [] k given below same is = absurd (omega arith)
given_unmarked [] (base ∷ bases) k given below same is = absurd (omega arith)
given_unmarked (true ∷ marks) (base ∷ bases) zero given below same is = absurd (cc)
given_unmarked (false ∷ marks) (base ∷ bases) zero given below same is = refl
given_unmarked (true ∷ marks) (base ∷ bases) (suc k) given below same is = given_unmarked marks bases k given (omega arith) (omega arith) is
given_unmarked (false ∷ marks) (base ∷ bases) (suc k) given below same is = given_unmarked marks bases k given (omega arith) (omega arith) is
