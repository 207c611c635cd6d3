-- Registers that are read, and registers that are set.
use Rattle.std.proofs.Common.{◌≡◌, ◌∙◌, ℕ, ◌==◌, Bool, true, false, List, length, slice_index, slice_set, nat_lt, sym, ap, length-set, get_or-set_same, get_or-set_other, refl, if◌then◌else◌}
use Rattle.std.proofs.lemmas.Bool.{eqb-true, eqb-false, ltb-true, ltb-false}
use Rattle.std.proofs.lemmas.List.{set_past, get_or_past}
use Rattle.pdp_operand.specs.Handbook.Processor.{register_of, with_register}
use Rattle.pdp_operand.specs.declared.processor.Processor.{Processor}
use Rattle.pdp_operand.specs.declared.processor.RegisterId.{RegisterId}
use Rattle.pdp_operand.specs.declared.processor.RegisterId.TheVariants.{R0, R1, R2, R3, R4, R5, KernelStack, ProgramCounter, UserStack}
use Rattle.pdp_made.specs.Cells.{Half, byte_in, Data, DataCell, RegisterByte, EachSame, processor_with}
use Rattle.pdp_made.specs.ReferenceRows.{Halves, halves_of, register_changed}
use Rattle.pdp_made.proofs.Halves.{HalvesTell}

-- the word at n after it was set in both lists
set_new_if : (half : Half) (xs ys : List ℕ) (n a b : ℕ) (within : Bool) → nat_lt n (length xs) ≡ within → length ys ≡ length xs → byte_in half b ≡ byte_in half a
    → byte_in half (slice_index (slice_set ys n b) n) ≡ byte_in half (slice_index (slice_set xs n a) n)
set_new_if half xs ys n a b true is size new =
    ap (byte_in half) (get_or-set_same ys n b 0 (rw size (ltb-true n (length xs) is))) ∙ new
    ∙ sym (ap (byte_in half) (get_or-set_same xs n a 0 (ltb-true n (length xs) is)))
set_new_if half xs ys n a b false is size new =
    rw (set_past ys n b (rw size (ltb-false n (length xs) is)), set_past xs n a (ltb-false n (length xs) is))
    (ap (byte_in half) (get_or_past ys n 0 (rw size (ltb-false n (length xs) is)) ∙ sym (get_or_past xs n 0 (ltb-false n (length xs) is))))

-- a word is made of these if it is the one that was set, and of others if it isn't
pub set_tells : (d e : Data) (half : Half) (from others : List DataCell) (xs ys : List ℕ) (k n a b : ℕ) (top : Bool) → (n == k) ≡ top → length ys ≡ length xs
    → (EachSame d e from → byte_in half b ≡ byte_in half a) → (EachSame d e others → byte_in half (slice_index ys n) ≡ byte_in half (slice_index xs n))
    → EachSame d e (if top then from else others)
    → byte_in half (slice_index (slice_set ys k b) n) ≡ byte_in half (slice_index (slice_set xs k a) n)
set_tells d e half from others xs ys k n a b true is size new old all =
    rw (eqb-true n k is) (set_new_if half xs ys k a b (nat_lt k (length xs)) refl size (new all))
set_tells d e half from others xs ys k n a b false is size new old all =
    ap (byte_in half) (get_or-set_other ys k n b 0 (eqb-false n k is)) ∙ old all
    ∙ sym (ap (byte_in half) (get_or-set_other xs k n a 0 (eqb-false n k is)))

pub size_set : (xs ys : List ℕ) (n m a b : ℕ) → length ys ≡ length xs → length (slice_set ys n b) ≡ length (slice_set xs m a)
size_set xs ys n m a b size = length-set ys n b ∙ size ∙ sym (length-set xs m a)

-- registers of the one and of the other
abbrev pub WordsTell : Data → Data → (DataCell → List DataCell) → List ℕ → List ℕ → Type 0
WordsTell d e made ws vs = (n : ℕ) (half : Half) → EachSame d e (made (RegisterByte n half)) → byte_in half (slice_index ws n) ≡ byte_in half (slice_index vs n)

module _ (d e : Data) (from : Halves) (others : DataCell → List DataCell) (a b : ℕ) (new : HalvesTell d e from b a) where
  place_tells : (xs ys : List ℕ) (k : ℕ) → length ys ≡ length xs → WordsTell d e others ys xs → (n : ℕ) (half : Half)
      → EachSame d e (if n == k then from half else others (RegisterByte n half)) → byte_in half (slice_index (slice_set ys k b) n) ≡ byte_in half (slice_index (slice_set xs k a) n)
  place_tells xs ys k size old n half all =
      set_tells d e half (from half) (others (RegisterByte n half)) xs ys k n a b (n == k) refl size (new half) (old n half) all

  pub register_set : (p q : Processor) (id : RegisterId) → length q.words ≡ length p.words → WordsTell d e others q.words p.words
      → WordsTell d e (register_changed id from others) (with_register q id b).words (with_register p id a).words
  unfolding with_register
  register_set p q ProgramCounter size old = old
  register_set p q R0 size old = place_tells p.words q.words 0 size old
  register_set p q R1 size old = place_tells p.words q.words 1 size old
  register_set p q R2 size old = place_tells p.words q.words 2 size old
  register_set p q R3 size old = place_tells p.words q.words 3 size old
  register_set p q R4 size old = place_tells p.words q.words 4 size old
  register_set p q R5 size old = place_tells p.words q.words 5 size old
  register_set p q KernelStack size old = place_tells p.words q.words 6 size old
  register_set p q UserStack size old = place_tells p.words q.words 7 size old

pub size_after : (p q : Processor) (id : RegisterId) (a b : ℕ) → length q.words ≡ length p.words
    → length (with_register q id b).words ≡ length (with_register p id a).words
unfolding with_register
size_after p q ProgramCounter a b size = size
size_after p q R0 a b size = size_set p.words q.words 0 0 a b size
size_after p q R1 a b size = size_set p.words q.words 1 1 a b size
size_after p q R2 a b size = size_set p.words q.words 2 2 a b size
size_after p q R3 a b size = size_set p.words q.words 3 3 a b size
size_after p q R4 a b size = size_set p.words q.words 4 4 a b size
size_after p q R5 a b size = size_set p.words q.words 5 5 a b size
size_after p q KernelStack a b size = size_set p.words q.words 6 6 a b size
size_after p q UserStack a b size = size_set p.words q.words 7 7 a b size

-- what a register holds
pub register_tells : (d e : Data) (p : Processor) (id : RegisterId)
    → HalvesTell d e (halves_of id) (register_of (processor_with d.words p) id) (register_of (processor_with e.words p) id)
unfolding register_of
register_tells d e p ProgramCounter half all = refl
register_tells d e p R0 half all = all.0
register_tells d e p R1 half all = all.0
register_tells d e p R2 half all = all.0
register_tells d e p R3 half all = all.0
register_tells d e p R4 half all = all.0
register_tells d e p R5 half all = all.0
register_tells d e p KernelStack half all = all.0
register_tells d e p UserStack half all = all.0
