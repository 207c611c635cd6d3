-- How much a question asks for at most [P].
use Rattle.std.specs.Prelude.{ℕ}

-- the most words that a question asks for, or that are listed of those that it finds
abbrev pub most_words_of_answer : ℕ
most_words_of_answer = 256
