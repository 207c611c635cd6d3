-- Two runs that differ at power-up in one word, up to the first turn that touches the word's page:
-- the states differ in that word alone, and the traces and what comes out are the same.
use Rattle.std.proofs.Common.{◌≡◌, ◌∙◌, ℕ, zero, suc, ◌+◌, ◌/◌, ◌<◌, ◌≤◌, ◌==◌, ◌-◌, ◌&&◌, ◌||◌, if◌then◌else◌, nat_lt, ltb-true, ltb-false, Bool, true, false, List, [], ◌∷◌, ◌++◌, ap, ap₂, refl, sym, subst, map, length, length-set, slice_index, slice_index_or, slice_set, get_or-set_same, get_or-set_other, arith}
use Rattle.std.proofs.lemmas.Bool.{eqb-true, eqb-false}
use Rattle.std.proofs.lemmas.Grind.{same_number_lists}
use Rattle.pdp_store.proofs.Traces.{Avoids-first, Avoids-second}
use Rattle.pdp_store.specs.Parts.{AlikeWords, SameWords, is_same_part}
use Rattle.pdp_store.specs.TracedAccess.{Avoids, TracedAccess}
use Rattle.pdp_store.specs.declared.part.Part.{Part}
use Rattle.pdp_store.specs.declared.part.Part.TheVariants as parts
use Rattle.pdp_unibus.specs.Handbook.BusWorld.{BusWorld}
use Rattle.pdp_unibus.specs.Page.{SamePage, words_of_part, bus_with_words}
use Rattle.pdp_operand.specs.Phases.World.{World, world}
use Rattle.pdp_cpu.proofs.TurnLaws.{turn_undisturbed}
use Rattle.pdp_cpu.specs.Handbook.Turn.{one_turn, printed_in, punched_in, turn_trace}
use Rattle.pdp_script.specs.Entries.{events_at}
use Rattle.pdp_replay.specs.Run.FirstTouches.{earlier_touch, first_touch, meets, world_changed, world_with}
use Rattle.pdp_replay.specs.Run.Checkpoints.{with_turn, text_kept_at, punched_kept_at}
use Rattle.pdp_replay.specs.Past.{Past, with_setup}
use Rattle.pdp_replay.specs.Past.Setup.{SetupData}
use Rattle.pdp_replay.proofs.run.CoreSizes.{core_keeps_size}
use Rattle.pdp_replay.proofs.run.DriveSizes.{drives_keep_sizes}
use Rattle.pdp_replay.specs.Run.States.{first_world, state_at, text_at, punched_at, trace_at}

-- the runs of p and of p with another setup, before turn n: they differ at most in the words of
-- this page, each has there what it had at power-up, and all that came out, and the traces, are the
-- same
pub record AlikeRuns (part : Part) (page : ℕ) (p : Past) (s : SetupData) (n : ℕ) : Type 0 where
  pub words : List ℕ
  pub is : state_at (with_setup p s) n ≡ world_with part words (state_at p n)
  pub alike : AlikeWords page (words_of_part part (state_at p n).bus) words
  pub page_of_one : SamePage part page (first_world p.setup).bus (state_at p n).bus
  pub page_of_other : SamePage part page (first_world s).bus (state_at (with_setup p s) n).bus
  pub text : text_at (with_setup p s) n ≡ text_at p n
  pub punched : punched_at (with_setup p s) n ≡ punched_at p n
  pub kept_text : text_kept_at (with_setup p s) n ≡ text_kept_at p n
  pub kept_punched : punched_kept_at (with_setup p s) n ≡ punched_kept_at p n
  pub trace : trace_at (with_setup p s) n ≡ trace_at p n

-- at power-up
pub record AlikePowers (part : Part) (page : ℕ) (r s : SetupData) : Type 0 where
  pub words : List ℕ
  pub is : first_world s ≡ world_with part words (first_world r)
  pub alike : AlikeWords page (words_of_part part (first_world r).bus) words

pub alike_runs : (part : Part) (page : ℕ) (p : Past) (s : SetupData) → AlikePowers part page p.setup s → (n : ℕ)
    → Avoids part page (trace_at p n) → AlikeRuns part page p s n
unfolding state_at text_at punched_at text_kept_at punched_kept_at trace_at
alike_runs part page p s powers zero avoids = record {
  words = powers.words;
  is = powers.is;
  alike = powers.alike;
  page_of_one = λ k inside. refl;
  page_of_other = λ k inside. refl;
  text = refl;
  punched = refl;
  kept_text = refl;
  kept_punched = refl;
  trace = refl;
}
alike_runs part page p s powers (suc n) avoids =
    let events = events_at p.script.entries n in
    let w = state_at p n in
    let so = alike_runs part page p s powers n (Avoids-first part page (trace_at p n) (turn_trace n events w) avoids) in
    let turn = turn_undisturbed part page n events w.processor w.bus (bus_with_words part so.words w.bus)
    (record { words = so.words; is = refl; alike = so.alike }) (Avoids-second part page (trace_at p n) (turn_trace n events w) avoids) in
    let after = one_turn n events w in
    let other : one_turn n events (state_at (with_setup p s) n) ≡ world_with part turn.bus.words after
    = ap (one_turn n events) so.is ∙ ap₂ world (sym turn.processor) turn.bus.is in
    let printed : printed_in n events (state_at (with_setup p s) n) ≡ printed_in n events w = ap (printed_in n events) so.is ∙ sym turn.printed in
    let punched : punched_in n events (state_at (with_setup p s) n) ≡ punched_in n events w = ap (punched_in n events) so.is ∙ sym turn.punched in
    record {
      words = turn.bus.words;
      is = other;
      alike = turn.bus.alike;
      page_of_one = λ k inside. so.page_of_one k inside ∙ turn.page_of_one k inside;
      page_of_other = λ k inside.
          so.page_of_other k inside
          ∙ ap (λ (v : World). slice_index (words_of_part part v.bus) k) so.is
          ∙ turn.page_of_other k inside
          ∙ ap (λ (v : World). slice_index (words_of_part part v.bus) k) (sym (ap (one_turn n events) so.is));
      text = ap₂ ◌++◌ so.text printed;
      punched = ap₂ ◌++◌ so.punched punched;
      kept_text = ap₂ ◌++◌ so.kept_text (ap (with_turn n) printed);
      kept_punched = ap₂ ◌++◌ so.kept_punched (ap (with_turn n) punched);
      trace = ap₂ ◌++◌ so.trace (ap (turn_trace n events) so.is ∙ sym turn.trace);
    }

-- lists that differ at most in a page, if they have what two others have there that differ in one
-- word
one_word : (page i word : ℕ) (xs ys first_touches others : List ℕ) → AlikeWords page xs ys → SameWords page first_touches xs → SameWords page others ys
    → others ≡ slice_set first_touches i word → i / 256 ≡ page → i < length first_touches → i < length xs → ys ≡ slice_set xs i word
one_word page i word xs ys first_touches others alike here there changed in_page first within =
    same_number_lists ys (slice_set xs i word) (alike.size ∙ sym (length-set xs i word)) (λ k below. at k (k / 256 == page) refl (k == i) refl)
  where
    at : (k : ℕ) (inside : Bool) → (k / 256 == page) ≡ inside → (same : Bool) → (k == i) ≡ same → slice_index ys k ≡ slice_index (slice_set xs i word) k
    at k inside is true equal =
        rw (eqb-true k i equal) (sym (there i in_page) ∙ ap (λ zs. slice_index zs i) changed ∙ get_or-set_same first_touches i word 0 first ∙ sym (get_or-set_same xs i word 0 within))
    at k true is false other =
        sym (there k (eqb-true (k / 256) page is)) ∙ ap (λ zs. slice_index zs k) changed ∙ get_or-set_other first_touches i k word 0 (eqb-false k i other)
        ∙ here k (eqb-true (k / 256) page is) ∙ sym (get_or-set_other xs i k word 0 (eqb-false k i other))
    at k false is false other = alike.words k (eqb-false (k / 256) page is) ∙ sym (get_or-set_other xs i k word 0 (eqb-false k i other))

-- a word of a part that is there
there_word : (drives : List (List ℕ)) (number i : ℕ) → i < length (slice_index_or drives number []) → number < length drives
there_word [] number i within = absurd (omega arith)
there_word (drive ∷ drives) zero i within = omega arith
there_word (drive ∷ drives) (suc number) i within = let there = there_word drives number i within in omega arith

pub words_put : (part : Part) (words : List ℕ) (b : BusWorld) (i : ℕ) → i < length (words_of_part part b) → words_of_part part (bus_with_words part words b) ≡ words
words_put parts.Core words b i within = refl
words_put (parts.Drive number) words b i within = get_or-set_same b.drives number words [] (there_word b.drives number i within)

pub changed_alike : (page i word : ℕ) (xs : List ℕ) → i / 256 ≡ page → AlikeWords page xs (slice_set xs i word)
changed_alike page i word xs in_page = record {
  size = length-set xs i word;
  words = λ k outside. get_or-set_other xs i k word 0 (λ same. outside (ap (λ n. n / 256) same ∙ in_page));
}

-- the state of the patched run is that of the old one with the word changed, at each turn before
-- which the page isn't touched
pub state_changed : (part : Part) (i word : ℕ) (p : Past) (s : SetupData) (n : ℕ) → first_world s ≡ world_changed part i word (first_world p.setup)
    → i < length (words_of_part part (first_world p.setup).bus) → i < length (words_of_part part (state_at p n).bus) → Avoids part (i / 256) (trace_at p n)
    → state_at (with_setup p s) n ≡ world_changed part i word (state_at p n)
state_changed part i word p s n is first within avoids =
    let page = i / 256 in
    let q = with_setup p s in
    let so = alike_runs part page p s (record { words = _; is = is; alike = changed_alike page i word _ refl }) n avoids in
    let w = state_at p n in
    let put : words_of_part part (state_at q n).bus ≡ so.words = ap (λ (v : World). words_of_part part v.bus) so.is ∙ words_put part so.words w.bus i within in
    let powers : words_of_part part (first_world s).bus ≡ slice_set (words_of_part part (first_world p.setup).bus) i word
    = ap (λ (v : World). words_of_part part v.bus) is ∙ words_put part _ (first_world p.setup).bus i first in
    so.is ∙ ap (λ words. world_with part words w)
    (one_word page i word (words_of_part part w.bus) so.words (words_of_part part (first_world p.setup).bus) (words_of_part part (first_world s).bus) so.alike so.page_of_one
    (λ k inside. so.page_of_other k inside ∙ ap (λ xs. slice_index xs k) put) powers refl first within)

-- a part keeps its size
same_sizes : (xs ys : List (List ℕ)) (number : ℕ) → map length xs ≡ map length ys → length (slice_index_or xs number []) ≡ length (slice_index_or ys number [])
same_sizes xs ys number same =
    sym (get_or-map_length xs number) ∙ ap (λ ns. slice_index ns number) same ∙ get_or-map_length ys number
  where
    get_or-map_length : (zs : List (List ℕ)) (k : ℕ) → slice_index (map length zs) k ≡ length (slice_index_or zs k [])
    get_or-map_length [] k = refl
    get_or-map_length (z ∷ zs) zero = refl
    get_or-map_length (z ∷ zs) (suc k) = get_or-map_length zs k

pub part_keeps_size : (part : Part) (p : Past) (n : ℕ) → length (words_of_part part (state_at p n).bus) ≡ length (words_of_part part (state_at p 0).bus)
part_keeps_size parts.Core p n = core_keeps_size p n ∙ sym (core_keeps_size p 0)
part_keeps_size (parts.Drive number) p n =
    same_sizes (state_at p n).bus.drives (state_at p 0).bus.drives number (drives_keep_sizes p n ∙ sym (drives_keep_sizes p 0))

-- a page that a trace doesn't meet is avoided
same_number : (n : ℕ) (b : Bool) → (n == n) ≡ b → (n == n) ≡ true
same_number n true is = is
same_number n false is = absurd (eqb-false n n is refl)

same_part : (part : Part) → is_same_part part part ≡ true
same_part parts.Core = refl
same_part (parts.Drive number) = same_number number _ refl

met_by : (same inside rest : Bool) → ((same && inside) || rest) ≡ false → (same ≡ true → inside ≡ false) × (rest ≡ false)
met_by true inside false is = (λ _. by inside is, refl) where
  by : (b : Bool) → (b || false) ≡ false → b ≡ false
  by true is = is
  by false is = refl
met_by false inside false is = (λ no. absurd (cc), refl)
met_by true true true is = absurd (cc)
met_by true false true is = absurd (cc)
met_by false inside true is = absurd (cc)

pub avoids_unmet : (part : Part) (page : ℕ) (xs : List TracedAccess) → meets part page xs ≡ false → Avoids part page xs
avoids_unmet part page [] none = tt
avoids_unmet part page (x ∷ xs) none =
    let parts = met_by (is_same_part x.part part) (x.word / 256 == page) (meets part page xs) none in
    (λ same. eqb-false (x.word / 256) page (parts.0 (ap (λ q. is_same_part q part) same ∙ same_part part)), avoids_unmet part page xs parts.1)

avoids_both : (part : Part) (page : ℕ) (xs ys : List TracedAccess) → Avoids part page xs → Avoids part page ys → Avoids part page (xs ++ ys)
avoids_both part page [] ys first second = second
avoids_both part page (x ∷ xs) ys first second = (first.0, avoids_both part page xs ys first.1 second)

earlier_le : (first n : ℕ) (touches : Bool) → earlier_touch first n touches ≤ suc n
earlier_le first n touches = by (nat_lt first n) refl touches where
  by : (less : Bool) → nat_lt first n ≡ less → (touches : Bool) → (if less then first else if touches then n else suc n) ≤ suc n
  by true is touches = omega (arith, ltb-true first n is)
  by false is true = omega arith
  by false is false = omega arith

pub first_touch_le : (p : Past) (part : Part) (page n : ℕ) → first_touch p part page n ≤ n
unfolding first_touch
first_touch_le p part page zero = omega arith
first_touch_le p part page (suc n) = earlier_le (first_touch p part page n) n _

avoids_more : (p : Past) (part : Part) (page n : ℕ) → Avoids part page (trace_at p n) → Avoids part page (turn_trace n (events_at p.script.entries n) (state_at p n))
    → Avoids part page (trace_at p (suc n))
unfolding trace_at
avoids_more p part page n one other = avoids_both part page (trace_at p n) _ one other

avoids_first : (p : Past) (part : Part) (page : ℕ) → Avoids part page (trace_at p zero)
unfolding trace_at
avoids_first p part page = tt

untouched_next : (p : Past) (part : Part) (page n first : ℕ) (touches : Bool) → first ≤ n → Avoids part page (trace_at p first)
    → meets part page (turn_trace n (events_at p.script.entries n) (state_at p n)) ≡ touches
    → Avoids part page (trace_at p (earlier_touch first n touches))
untouched_next p part page n first touches low so met = by (nat_lt first n) refl touches met where
  by : (less : Bool) → nat_lt first n ≡ less → (touches : Bool) → meets part page (turn_trace n (events_at p.script.entries n) (state_at p n)) ≡ touches
      → Avoids part page (trace_at p (if less then first else if touches then n else suc n))
  by true is touches met = so
  by false is true met = subst (λ k. Avoids part page (trace_at p k)) (first_is is) so
    where
      first_is : nat_lt first n ≡ false → first ≡ n
      first_is is = omega (arith, low, ltb-false first n is)
  by false is false met = avoids_more p part page n (subst (λ k. Avoids part page (trace_at p k)) (first_is is) so) (avoids_unmet part page _ met)
    where
      first_is : nat_lt first n ≡ false → first ≡ n
      first_is is = omega (arith, low, ltb-false first n is)

-- no turn before its first touch touches a page
pub untouched_before : (p : Past) (part : Part) (page n : ℕ) → Avoids part page (trace_at p (first_touch p part page n))
unfolding first_touch
untouched_before p part page zero = avoids_first p part page
untouched_before p part page (suc n) =
    untouched_next p part page n (first_touch p part page n) _ (first_touch_le p part page n) (untouched_before p part page n) refl

avoided_until : (p : Past) (part : Part) (page d n : ℕ) → Avoids part page (trace_at p (n + d)) → Avoids part page (trace_at p n)
unfolding trace_at
avoided_until p part page zero n avoids = let same : n + zero ≡ n = omega arith in subst (λ k. Avoids part page (trace_at p k)) same avoids
avoided_until p part page (suc d) n avoids =
    let one_less : n + suc d ≡ suc (n + d) = omega arith in
    avoided_until p part page d n (Avoids-first part page (trace_at p (n + d)) _ (subst (λ k. Avoids part page (trace_at p k)) one_less avoids))

pub untouched_until : (p : Past) (part : Part) (page k n : ℕ) → n ≤ first_touch p part page k → Avoids part page (trace_at p n)
untouched_until p part page k n low =
    let rest = first_touch p part page k - n in
    let whole : first_touch p part page k ≡ n + rest = omega (arith, low) in
    avoided_until p part page rest n (subst (λ m. Avoids part page (trace_at p m)) whole (untouched_before p part page k))

-- so a patch of a word reaches to the first touch of its page
pub patched_until : (part : Part) (i word n k : ℕ) (p : Past) (s : SetupData) → first_world s ≡ world_changed part i word (first_world p.setup)
    → i < length (words_of_part part (first_world p.setup).bus) → n ≤ first_touch p part (i / 256) k
    → state_at (with_setup p s) n ≡ world_changed part i word (state_at p n)
unfolding state_at
patched_until part i word n k p s is within low =
    let inside : i < length (words_of_part part (state_at p n).bus) = rw (part_keeps_size part p n) within in
    state_changed part i word p s n is within inside (untouched_until p part (i / 256) k n low)
