-- Lists that grow turn by turn: if two add the same from a turn on, then the one is what it was at that turn, with what
-- the other has added since.
use Rattle.std.proofs.Common.{◌≡◌, ◌∙◌, ℕ, zero, suc, ◌+◌, List, [], ◌++◌, sym, ap, length, drop, arith, append_assoc, append-nil}
use Rattle.std.proofs.Math.Seq.{drop-append_seam}

-- what comes after a beginning
record Grown {X : Type 0} (xs whole : List X) : Type 0 where
  rest : List X
  is : whole ≡ xs ++ rest

grown : {X : Type 0} (f more : ℕ → List X) → ((n : ℕ) → f (suc n) ≡ f n ++ more n) → (c d : ℕ) → Grown (f c) (f (d + c))
grown f more next c zero = let e : zero + c ≡ c = omega arith in rw e (record { rest = []; is = sym (append-nil (f c)) })
grown f more next c (suc d) =
    let so = grown f more next c d in
    let out = more (d + c) in
    let e : suc d + c ≡ suc (d + c) = omega arith in
    rw e (record { rest = so.rest ++ out; is = next (d + c) ∙ ap (λ l. l ++ out) so.is ∙ append_assoc (f c) so.rest out })

joined : {X : Type 0} (a b whole now out : List X) → Grown b whole → now ≡ a ++ drop (length b) whole → now ++ out ≡ a ++ drop (length b) (whole ++ out)
joined a b whole now out grown is =
    let rest = grown.rest in
    ap (λ l. l ++ out) (is ∙ ap (λ l. a ++ drop (length b) l) grown.is ∙ ap (λ l. a ++ l) (drop-append_seam b rest))
    ∙ append_assoc a rest out
    ∙ ap (λ l. a ++ l) (sym (drop-append_seam b (rest ++ out)))
    ∙ ap (λ l. a ++ drop (length b) l) (sym (append_assoc b rest out) ∙ ap (λ l. l ++ out) (sym grown.is))

nothing_more : {X : Type 0} (a b : List X) → a ≡ a ++ drop (length b) b
nothing_more a b = sym (ap (λ l. a ++ drop (length b) l) (sym (append-nil b)) ∙ ap (λ l. a ++ l) (drop-append_seam b []) ∙ append-nil a)

pub grow_alike : {X : Type 0} (f g more other : ℕ → List X) → ((n : ℕ) → f (suc n) ≡ f n ++ more n) → ((n : ℕ) → g (suc n) ≡ g n ++ other n)
    → (c : ℕ) → ((d : ℕ) → more (d + c) ≡ other (d + c)) → (d : ℕ) → f (d + c) ≡ f c ++ drop (length (g c)) (g (d + c))
grow_alike f g more other f_next g_next c same zero = let e : zero + c ≡ c = omega arith in rw e (nothing_more (f c) (g c))
grow_alike f g more other f_next g_next c same (suc d) =
    let e : suc d + c ≡ suc (d + c) = omega arith in
    rw e (f_next (d + c)
    ∙ ap (λ out. f (d + c) ++ out) (same d)
    ∙ joined (f c) (g c) (g (d + c)) (f (d + c)) (other (d + c)) (grown g other g_next c d) (grow_alike f g more other f_next g_next c same d)
    ∙ ap (λ l. f c ++ drop (length (g c)) l) (sym (g_next (d + c))))
