-- A line of which so many bytes are held means what the whole line means, and is the same search.
use Rattle.std.proofs.Common.{◌≡◌, ℕ, ◌+◌, ◌-◌, ◌<◌, ◌≤◌, ◌⊎◌, inl, inr, Bool, true, false, cond, eqb, List, [], ◌∷◌, ◌++◌, length, take, get_or, Err, None, refl, sym, ap, ◌∙◌, arith}
use Rattle.std.proofs.lemmas.Bool.{cases_lt, lt-ltb}
use Rattle.std.proofs.lemmas.List.{take_all, take-append-le, length-take-le}
use Rattle.pdp_script.specs.declared.faults.Fault.TheVariants.{LineTooLong}
use Rattle.pdp_session.specs.Inside.Progress.{most_held}
use Rattle.pdp_session.specs.declared.version.Version.{Version}
use Rattle.pdp_session.specs.Language.{Language, SessionLanguage, SearchLanguage, search_of}
use Rattle.pdp_session.specs.Grammar.{line_means}
use Rattle.pdp_session.specs.Lines.{longest_line, without_return}

line_means-long : (version : Version) (line : List ℕ) → longest_line < length line → line_means version line ≡ Err LineTooLong
unfolding line_means
line_means-long version line long = rw (lt-ltb longest_line (length line) long) refl

search_of-long : (language : Language) (version : Version) (line : List ℕ) → longest_line < length line → search_of language version line ≡ None
unfolding search_of
search_of-long SessionLanguage version line long = refl
search_of-long SearchLanguage version line long = rw (line_means-long version line long) refl

-- two lines have one meaning, and are one search
pub record IsHeardAs (language : Language) (version : Version) (heard line : List ℕ) : Type 0 where
  pub means : line_means version heard ≡ line_means version line
  pub search : search_of language version heard ≡ search_of language version line

same_heard : (language : Language) (version : Version) (heard line : List ℕ) → heard ≡ line → IsHeardAs language version heard line
same_heard language version heard line same = record { means = ap (line_means version) same; search = ap (search_of language version) same }

long_heard : (language : Language) (version : Version) (heard line : List ℕ) → longest_line < length heard → longest_line < length line → IsHeardAs language version heard line
long_heard language version heard line long whole_long = record {
  means = line_means-long version heard long ∙ sym (line_means-long version line whole_long);
  search = search_of-long language version heard long ∙ sym (search_of-long language version line whole_long);
}

length-without_return : (line : List ℕ) → length line ≤ length (without_return line) + 1
length-without_return line = by_test (eqb (get_or line (length line - 1) 0) 13)
  where
    by_test : (returns : Bool) → length line ≤ length (cond returns (take (length line - 1) line) line) + 1
    by_test true = omega (arith, length-take-le (length line - 1) line (omega arith))
    by_test false = omega arith

pub tail_heard : (language : Language) (version : Version) (tail : List ℕ) → IsHeardAs language version (take most_held tail) tail
tail_heard language version tail = by_length (cases_lt most_held (length tail))
  where
    by_length : (most_held < length tail) ⊎ (length tail ≤ most_held) → IsHeardAs language version (take most_held tail) tail
    by_length (inr short) = same_heard language version (take most_held tail) tail (take_all most_held tail short)
    by_length (inl long) =
        long_heard language version (take most_held tail) tail (omega (arith, length-take-le most_held tail (omega arith))) (omega arith)

pub returned_heard : (language : Language) (version : Version) (tail : List ℕ) → IsHeardAs language version (without_return (take most_held tail)) (without_return tail)
returned_heard language version tail = by_length (cases_lt most_held (length tail))
  where
    by_length : (most_held < length tail) ⊎ (length tail ≤ most_held) → IsHeardAs language version (without_return (take most_held tail)) (without_return tail)
    by_length (inr short) = same_heard language version (without_return (take most_held tail)) (without_return tail) (ap without_return (take_all most_held tail short))
    by_length (inl long) =
        long_heard language version (without_return (take most_held tail)) (without_return tail)
        (omega (arith, length-take-le most_held tail (omega arith), length-without_return (take most_held tail)))
        (omega (arith, length-without_return tail))

-- one more byte
pub held-push : (tail : List ℕ) (byte : ℕ) → take most_held (take most_held tail ++ byte ∷ []) ≡ take most_held (tail ++ byte ∷ [])
held-push tail byte = by_length (cases_lt most_held (length tail))
  where
    by_length : (most_held < length tail) ⊎ (length tail ≤ most_held) → take most_held (take most_held tail ++ byte ∷ []) ≡ take most_held (tail ++ byte ∷ [])
    by_length (inr short) = ap (λ held. take most_held (held ++ byte ∷ [])) (take_all most_held tail short)
    by_length (inl long) =
        take-append-le most_held (take most_held tail) (byte ∷ []) (omega (arith, length-take-le most_held tail (omega arith)))
        ∙ take_all most_held (take most_held tail) (omega (arith, length-take-le most_held tail (omega arith)))
        ∙ sym (take-append-le most_held tail (byte ∷ []) (omega arith))
