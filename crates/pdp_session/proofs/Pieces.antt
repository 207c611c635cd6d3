-- Texts that are written piece by piece.
use Rattle.std.proofs.Common.{◌≡◌, ℕ, zero, suc, List, [], ◌∷◌, ◌++◌, take, drop, slice_get, option_to_list, refl, sym, ap, ◌∙◌, append_assoc}
use Rattle.std.proofs.KnownBytes.{Appends-nil, Appends-trans}
use Rattle.pdp_session.specs.Streams.{DrainData}
use Rattle.pdp_session.specs.Inside.Sends.{Sent, Cut}

pub take_one_more : {X : Type 0} (xs : List X) (i : ℕ) → take (suc i) xs ≡ take i xs ++ option_to_list (slice_get xs i)
take_one_more [] zero = refl
take_one_more [] (suc i) = refl
take_one_more (x ∷ xs) zero = refl
take_one_more (x ∷ xs) (suc i) = ap (λ ys. x ∷ ys) (take_one_more xs i)

pub taken_and_left : {X : Type 0} (xs : List X) (i : ℕ) → xs ≡ take i xs ++ (option_to_list (slice_get xs i) ++ drop (suc i) xs)
taken_and_left [] zero = refl
taken_and_left [] (suc i) = refl
taken_and_left (x ∷ xs) zero = refl
taken_and_left (x ∷ xs) (suc i) = ap (λ ys. x ∷ ys) (taken_and_left xs i)

-- nothing was written
pub sent_nothing : (output : DrainData) → Sent [] output output
sent_nothing output = record { writes = Appends-nil output.written; sound = refl }

-- a text was written after a front
pub sent_then : (front text : List ℕ) (output between output_after : DrainData)
    → Sent front output between → Sent text between output_after → Sent (front ++ text) output output_after
sent_then front text output between output_after before next = record {
  writes = Appends-trans output.written between.written output_after.written front text before.writes next.writes;
  sound = next.sound ∙ before.sound;
}

-- a text was cut, and nothing of what comes after it was written
pub cut_first : (text back : List ℕ) (output output_after : DrainData) → Cut text output output_after → Cut (text ++ back) output output_after
cut_first text back output output_after cut = record {
  taken = cut.taken;
  unwritten = cut.unwritten ++ back;
  split = ap (λ whole. whole ++ back) cut.split ∙ append_assoc cut.taken cut.unwritten back;
  writes = cut.writes;
  failed = cut.failed;
}

-- a text was cut after a front of it was written
pub cut_last : (front text : List ℕ) (output between output_after : DrainData)
    → Sent front output between → Cut text between output_after → Cut (front ++ text) output output_after
cut_last front text output between output_after before cut = record {
  taken = front ++ cut.taken;
  unwritten = cut.unwritten;
  split = ap (λ whole. front ++ whole) cut.split ∙ sym (append_assoc front cut.taken cut.unwritten);
  writes = Appends-trans output.written between.written output_after.written front cut.taken before.writes cut.writes;
  failed = cut.failed;
}

pub cut_later : (front text back : List ℕ) (output between output_after : DrainData)
    → Sent front output between → Cut text between output_after → Cut (front ++ (text ++ back)) output output_after
cut_later front text back output between output_after before cut =
    cut_last front (text ++ back) output between output_after before (cut_first text back between output_after cut)
