-- The last stamps that traces leave, one after the other, and word by word.
use Rattle.std.proofs.Common.{◌≡◌, ◌∙◌, ◌==◌, ◌&&◌, ℕ, ◌<◌, Bool, true, false, List, [], ◌∷◌, ◌++◌, Option, Some, None, refl, sym, ap, length, slice_index_or, slice_set, if◌then◌else◌, length-set, get_or-set_same, get_or-set_other}
use Rattle.std.proofs.lemmas.Bool.{eqb-true, eqb-false}
use Rattle.pdp_store.specs.TracedAccess.{TracedAccess, is_core, last_write, stamp_of}
use Rattle.pdp_store.specs.declared.Stamp.{Stamp}
use Rattle.pdp_store.specs.Stamps.{stamps_after_access, stamps_after_trace}

pub stamps_after_trace-append : (xs ys : List TracedAccess) (stamps : List (Option Stamp))
    → stamps_after_trace (xs ++ ys) stamps ≡ stamps_after_trace ys (stamps_after_trace xs stamps)
unfolding stamps_after_trace
stamps_after_trace-append [] ys stamps = refl
stamps_after_trace-append (x ∷ xs) ys stamps = stamps_after_trace-append xs ys (stamps_after_access x stamps)

put_size : (x : TracedAccess) (stamps : List (Option Stamp)) → length (stamps_after_access x stamps) ≡ length stamps
put_size x stamps = by (x.writes && is_core x.part) where
  by : (b : Bool) → length (if b then slice_set stamps x.word (Some (stamp_of x)) else stamps) ≡ length stamps
  by true = length-set _ _ _
  by false = refl

pub length-stamps_after_trace : (xs : List TracedAccess) (stamps : List (Option Stamp)) → length (stamps_after_trace xs stamps) ≡ length stamps
unfolding stamps_after_trace
length-stamps_after_trace [] stamps = refl
length-stamps_after_trace (x ∷ xs) stamps = length-stamps_after_trace xs (stamps_after_access x stamps) ∙ put_size x stamps

put_there : (x : TracedAccess) (stamps : List (Option Stamp)) (k : ℕ) → k < length stamps
    → slice_index_or (stamps_after_access x stamps) k None ≡ (if x.writes && is_core x.part && x.word == k then Some (stamp_of x) else slice_index_or stamps k None)
put_there x stamps k within = by x.writes (is_core x.part) (x.word == k) refl where
  by : (writes core same : Bool) → (x.word == k) ≡ same
      → slice_index_or (if writes && core then slice_set stamps x.word (Some (stamp_of x)) else stamps) k None
      ≡ (if writes && core && same then Some (stamp_of x) else slice_index_or stamps k None)
  by true true true is = rw (eqb-true x.word k is) (get_or-set_same stamps k (Some (stamp_of x)) None within)
  by true true false is = get_or-set_other stamps x.word k (Some (stamp_of x)) None (λ equal. eqb-false x.word k is (sym equal))
  by true false same is = refl
  by false core same is = refl

-- each is that of the last write
pub last_of_stamps : (xs : List TracedAccess) (stamps : List (Option Stamp)) (k : ℕ) → k < length stamps
    → slice_index_or (stamps_after_trace xs stamps) k None ≡ last_write xs k (slice_index_or stamps k None)
unfolding stamps_after_trace
last_of_stamps [] stamps k within = refl
last_of_stamps (x ∷ xs) stamps k within =
    last_of_stamps xs (stamps_after_access x stamps) k (rw (put_size x stamps) within)
    ∙ ap (last_write xs k) (put_there x stamps k within)
