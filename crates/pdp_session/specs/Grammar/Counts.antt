-- The search that counts instructions [P].
use Rattle.std.specs.Prelude.{ℕ, List, Option, Some}
use Rattle.pdp_replay.specs.declared.ask.counts.CountedWords.{CountedWords}
use Rattle.pdp_session.specs.declared.search.Search.{Search}
use Rattle.pdp_session.specs.declared.search.Search.TheVariants.{Counts}
use Rattle.pdp_session.specs.Grammar.Arguments.{◌>>=◌, first_of, two_of, turns_first, mode_named}
use Rattle.pdp_session.specs.Grammar.Arguments.{count_named, word_named}

-- `kernel A C` or `user A C`: the address of the first word, in octal, and how many words, in
-- decimal
abbrev pub counted_words_named : List (List ℕ) → Option CountedWords
counted_words_named arguments = do
  (name, others) ← first_of arguments
  (address, number) ← two_of others
  m ← mode_named name
  a ← word_named address
  c ← count_named number
  Some (record { mode = m; first = a; count = c })

-- `counts N M kernel A C` and `counts N M user A C`
abbrev pub counts_form : List (List ℕ) → Option Search
counts_form arguments = do
  (n, m, what) ← turns_first arguments
  words ← counted_words_named what
  Some (Counts n m words)
