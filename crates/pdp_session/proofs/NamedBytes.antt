-- The bytes that words name, one after another.
use Rattle.std.proofs.Common.{◌≡◌, ℕ, List, [], ◌∷◌, ◌++◌, Option, None, Some, refl, ap, ◌∙◌, sym, append_assoc, append-nil}
use Rattle.std.specs.Option.{option_map, option_and_then}
use Rattle.pdp_session.specs.Grammar.Arguments.{byte_named, bytes_named}

-- before the first word
pub none_named : (found : Option (List ℕ)) → found ≡ option_map (λ more. [] ++ more) found
none_named None = refl
none_named (Some bytes) = refl

append_both : (front : List ℕ) (byte : ℕ) (found : Option (List ℕ))
    → option_map (λ more. front ++ more) (option_map (λ more. byte ∷ more) found) ≡ option_map (λ more. (front ++ byte ∷ []) ++ more) found
append_both front byte None = refl
append_both front byte (Some bytes) = ap Some (sym (append_assoc front (byte ∷ []) bytes))

first_named : (word : List ℕ) (words : List (List ℕ)) (byte : ℕ) → byte_named word ≡ Some byte
    → bytes_named (word ∷ words) ≡ option_map (λ more. byte ∷ more) (bytes_named words)
unfolding bytes_named
first_named word words byte e = rw e (by_found (bytes_named words))
  where
    by_found : (found : Option (List ℕ)) → option_and_then (λ bytes. Some (byte ∷ bytes)) found ≡ option_map (λ more. byte ∷ more) found
    by_found None = refl
    by_found (Some bytes) = refl

-- one more word, which names a byte
pub one_more_named : (all : Option (List ℕ)) (front word : List ℕ) (words : List (List ℕ)) (byte : ℕ) → byte_named word ≡ Some byte
    → all ≡ option_map (λ more. front ++ more) (bytes_named (word ∷ words))
    → all ≡ option_map (λ more. (front ++ byte ∷ []) ++ more) (bytes_named words)
one_more_named all front word words byte is before =
    before ∙ ap (option_map (λ more. front ++ more)) (first_named word words byte is) ∙ append_both front byte (bytes_named words)

-- or which names none
pub no_more_named : (all : Option (List ℕ)) (front word : List ℕ) (words : List (List ℕ)) → byte_named word ≡ None
    → all ≡ option_map (λ more. front ++ more) (bytes_named (word ∷ words)) → all ≡ None
unfolding bytes_named
no_more_named all front word words is before = before ∙ rw is refl

-- after the last word
pub all_named : (all : Option (List ℕ)) (front : List ℕ) → all ≡ option_map (λ more. front ++ more) (bytes_named []) → all ≡ Some front
unfolding bytes_named
all_named all front before = before ∙ ap Some (append-nil front)
