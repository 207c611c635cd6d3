-- New pages that are put into checkpoints, from the last state to the first.
use Rattle.std.proofs.Common.{◌≡◌, ◌∙◌, ℕ, zero, suc, ◌<◌, ◌≤◌, List, [], ◌∷◌, ◌++◌, add-one, ap, arith, drop, get_or, length, map, refl, slice_set, subst, sym, take}
use Rattle.std.proofs.lemmas.List.{get_or_append_left, length-append}
use Rattle.pdp_cpu.specs.Saved.{SavedMachineData, saved_machine_with_word}
use Rattle.pdp_unibus.specs.PatchedPages.{AreNewPages}
use Rattle.pdp_unibus.specs.declared.save.saved_bus.patched_page.NewPages.{NewPages}
use Rattle.pdp_unibus.specs.declared.save.saved_bus.patched_page.PatchedPage.{PatchedPage}
use Rattle.pdp_checkpoint.specs.Patched.{checkpoint_with_word}
use Rattle.pdp_checkpoint.specs.declared.checkpoint.Checkpoint.{Checkpoint}

-- a list that is changed from a place on
abbrev changed_from : {X : Type 0} → (X → X) → ℕ → List X → List X
changed_from f n xs = take n xs ++ map f (drop n xs)

at_changed : {X : Type 0} (f : X → X) (n m : ℕ) (xs : List X) (d : X) → m < n → get_or (changed_from f n xs) m d ≡ get_or xs m d
at_changed f zero m xs d below = absurd (omega (arith, below))
at_changed f (suc n) m [] d below = refl
at_changed f (suc n) zero (x ∷ xs) d below = refl
at_changed f (suc n) (suc m) (x ∷ xs) d below = at_changed f n m xs d (omega (arith, below))

put_changed : {X : Type 0} (f : X → X) (n : ℕ) (xs : List X) (c : X) → n < length xs → c ≡ get_or xs n c
    → slice_set (changed_from f (suc n) xs) n (f c) ≡ changed_from f n xs
put_changed f n [] c below is = absurd (omega (arith, below))
put_changed f zero (x ∷ xs) c below is = ap (λ d. f d ∷ map f xs) is
put_changed f (suc n) (x ∷ xs) c below is = ap (λ ys. x ∷ ys) (put_changed f n xs c (omega (arith, below)) is)

-- a state with the word of the page
abbrev patched_by : PatchedPage → Checkpoint → Checkpoint
patched_by p c = checkpoint_with_word p.at p.value c

-- the pages that are left are for the first states, and these are as they were; the others have the
-- word
pub record ArePut (p : PatchedPage) (first now : List Checkpoint) (left : List NewPages) : Type 0 where
  pub few : length left ≤ length first
  pub now_is : now ≡ changed_from (patched_by p) (length left) first
  pub each : (k : ℕ) (c : Checkpoint) (new : NewPages) → k < length left → AreNewPages p (get_or first k c).saved.bus (get_or left k new)

-- the last of the pages that are left
longer : (left rest : List NewPages) (new : NewPages) → left ≡ rest ++ new ∷ [] → length left ≡ suc (length rest)
longer left rest new is = ap length is ∙ length-append rest (new ∷ []) ∙ add-one (length rest)

place_there : (p : PatchedPage) (first now : List Checkpoint) (left rest : List NewPages) (new : NewPages) → ArePut p first now left
    → left ≡ rest ++ new ∷ [] → length rest < length first
place_there p first now left rest new put is = let more = longer left rest new is in omega (arith, more, put.few)

state_there : (p : PatchedPage) (first now : List Checkpoint) (left rest : List NewPages) (new : NewPages) (c : Checkpoint) → ArePut p first now left
    → left ≡ rest ++ new ∷ [] → c ≡ get_or now (length rest) c → c ≡ get_or first (length rest) c
state_there p first now left rest new c put is there =
    let more = longer left rest new is in
    there ∙ ap (λ xs. get_or xs (length rest) c) put.now_is
    ∙ at_changed (patched_by p) (length left) (length rest) first c (omega (arith, more))

one_put : (p : PatchedPage) (first now : List Checkpoint) (left rest : List NewPages) (new : NewPages) (c : Checkpoint) (saved : SavedMachineData)
    → ArePut p first now left → left ≡ rest ++ new ∷ [] → c ≡ get_or now (length rest) c → saved ≡ saved_machine_with_word p.at p.value c.saved
    → ArePut p first (slice_set now (length rest) (record { turn = c.turn; saved = saved })) rest
one_put p first now left rest new c saved put is there saved_is =
    let more = longer left rest new is in
    let f = patched_by p in
    let state = state_there p first now left rest new c put is there in
    let below : length rest < length first = place_there p first now left rest new put is in
    record {
      few = omega (arith, below);
      now_is =
          ap (λ (s : SavedMachineData). slice_set now (length rest) (record { turn = c.turn; saved = s })) saved_is
          ∙ ap (λ xs. slice_set xs (length rest) (f c)) (put.now_is ∙ ap (λ n. changed_from f n first) more)
          ∙ put_changed f (length rest) first c below state;
      each = λ k d other small.
          subst (λ (n : NewPages). AreNewPages p (get_or first k d).saved.bus n)
          (ap (λ xs. get_or xs k other) is ∙ get_or_append_left rest (new ∷ []) other k small)
          (put.each k d other (omega (arith, small, more)));
    }

pub put_at : (p : PatchedPage) (first now : List Checkpoint) (left rest : List NewPages) (new : NewPages) (n : ℕ) (c : Checkpoint) (saved : SavedMachineData)
    → ArePut p first now left → left ≡ rest ++ new ∷ [] → n ≡ length rest → c ≡ get_or now n c → saved ≡ saved_machine_with_word p.at p.value c.saved
    → ArePut p first (slice_set now n (record { turn = c.turn; saved = saved })) rest
put_at p first now left rest new n c saved put is place there saved_is =
    subst (λ m. ArePut p first (slice_set now m (record { turn = c.turn; saved = saved })) rest) (sym place)
    (one_put p first now left rest new c saved put is (subst (λ m. c ≡ get_or now m c) place there) saved_is)
