-- The lines that the search language alone has [P]: searches, undo and redo. Each is a name, and the
-- words that follow it. Turns are in decimal; those of a search are from the first on and before the
-- second.
use Rattle.std.specs.Prelude.{ℕ, if◌then◌else◌, List, [], ◌∷◌, codes, Option, None, Some}
use Rattle.std.specs.Option.{option_map, option_or}
use Rattle.std.specs.Str.{bytes_eq}
use Rattle.pdp_word.specs.Number.{number_of}
use Rattle.pdp_replay.specs.declared.ask.sought.Sought.{Sought}
use Rattle.pdp_replay.specs.declared.ask.sought.Sought.TheVariants.{Instruction, Interrupt, Trap}
use Rattle.pdp_replay.specs.declared.ask.sought.Sought.TheVariants.{Where}
use Rattle.pdp_replay.specs.declared.ask.text_part.TextKind.{TextKind}
use Rattle.pdp_replay.specs.declared.ask.text_part.TextKind.TheVariants.{Printed, Punched}
use Rattle.pdp_session.specs.declared.grammar.LineMeaning.{LineMeaning}
use Rattle.pdp_session.specs.declared.grammar.LineMeaning.TheVariants as kind
use Rattle.pdp_session.specs.declared.history.Step.{Step}
use Rattle.pdp_session.specs.declared.history.Step.TheVariants.{Undo, Redo}
use Rattle.pdp_session.specs.declared.search.Search.{Search}
use Rattle.pdp_session.specs.declared.search.Search.TheVariants.{First, Latest, Writes, Change}
use Rattle.pdp_session.specs.declared.search.Search.TheVariants.{TextFrom, When, Fades, Ask}
use Rattle.pdp_session.specs.declared.search.Search.TheVariants.{Accesses, Moves, Reads, Transfers}
use Rattle.pdp_session.specs.declared.search.Search.TheVariants.{Events, Setup}
use Rattle.pdp_session.specs.declared.version.Version.{Version}
use Rattle.pdp_session.specs.Grammar.Arguments.{◌>>=◌, first_of, one_of, two_of, drive_first}
use Rattle.pdp_session.specs.Grammar.Arguments.{turn_named, turns_first, count_named, mode_named}
use Rattle.pdp_session.specs.Grammar.Arguments.{word_named}
use Rattle.pdp_session.specs.Grammar.Conditions.{conditions_named}
use Rattle.pdp_session.specs.Grammar.Counts.{counts_form}
use Rattle.pdp_session.specs.Grammar.PastEdits.{past_edit_with}
use Rattle.pdp_session.specs.Grammar.StateQuestions.{state_question_with}

-- `at A`, an address, `vector V` or `trap V`, all in octal
unfoldable pub sought_in_any_mode : List ℕ → List ℕ → Option Sought
sought_in_any_mode word number =
    if bytes_eq word (codes "at") then
    option_map (λ address. Instruction address None) (word_named number)
    else if bytes_eq word (codes "vector") then option_map Interrupt (word_named number)
    else if bytes_eq word (codes "trap") then option_map Trap (word_named number)
    else None

-- `at A kernel` or `at A user`
unfoldable pub sought_in_mode : List ℕ → List ℕ → List ℕ → Option Sought
sought_in_mode word number name =
    if bytes_eq word (codes "at") then
    (do
      address ← word_named number
      mode ← mode_named name
      Some (Instruction address (Some mode)))
    else None

-- `at A` and so on
abbrev pub plainly_sought : List ℕ → List (List ℕ) → Option Sought
plainly_sought word (number ∷ []) = sought_in_any_mode word number
plainly_sought word (number ∷ mode ∷ []) = sought_in_mode word number mode
plainly_sought word _ = None

-- what a search looks for; `where C` and so on are conditions
unfoldable pub sought_named : List (List ℕ) → Option Sought
sought_named [] = None
sought_named (word ∷ others) =
    if bytes_eq word (codes "where") then option_map Where (conditions_named others)
    else plainly_sought word others

-- `first N M at A`, also `first N M at A kernel`, `first N M at A user`, `first N M vector V`,
-- `first N M trap V` and `first N M where C`
abbrev pub first_form : List (List ℕ) → Option Search
first_form arguments = do
  (n, m, what) ← turns_first arguments
  sought ← sought_named what
  Some (First n m sought)

-- `latest N M at A` and so on: the same, for the last turn
abbrev pub latest_form : List (List ℕ) → Option Search
latest_form arguments = do
  (n, m, what) ← turns_first arguments
  sought ← sought_named what
  Some (Latest n m sought)

-- `writes N M A`: an address, in octal
abbrev pub writes_form : List (List ℕ) → Option Search
writes_form arguments = do
  (n, m, what) ← turns_first arguments
  address ← one_of what
  a ← number_of 8 address
  Some (Writes n m a)

-- `reads N M A`: the same
abbrev pub reads_form : List (List ℕ) → Option Search
reads_form arguments = do
  (n, m, what) ← turns_first arguments
  address ← one_of what
  a ← number_of 8 address
  Some (Reads n m a)

-- `accesses N C`: a turn and a count of turns, in decimal
abbrev pub accesses_form : List (List ℕ) → Option Search
accesses_form arguments = do
  (turn, turns) ← two_of arguments
  n ← turn_named turn
  c ← count_named turns
  Some (Accesses n c)

-- `moves N C`: the same
abbrev pub moves_form : List (List ℕ) → Option Search
moves_form arguments = do
  (turn, turns) ← two_of arguments
  n ← turn_named turn
  c ← count_named turns
  Some (Moves n c)

-- `transfers N M`
abbrev pub transfers_form : List (List ℕ) → Option Search
transfers_form arguments = do
  (from, to) ← two_of arguments
  n ← turn_named from
  m ← turn_named to
  Some (Transfers n m)

-- `change N M I`, in version 2 `change N M D I`: a drive and the number of a word, in octal
abbrev pub change_form : Version → List (List ℕ) → Option Search
change_form version arguments = do
  (n, m, what) ← turns_first arguments
  (d, others) ← drive_first version what
  number ← one_of others
  i ← number_of 8 number
  Some (Change n m d i)

-- `N from F`: a turn, and a byte by its number, in decimal
abbrev pub part_named : List (List ℕ) → Option (ℕ × ℕ)
part_named arguments = do
  (turn, others) ← first_of arguments
  (word, number) ← two_of others
  n ← turn_named turn
  f ← count_named number
  if bytes_eq word (codes "from") then Some (n, f) else None

-- `text N from F` and `punched N from F`
abbrev pub text_from_form : TextKind → List (List ℕ) → Option Search
text_from_form kind arguments = option_map (λ part. TextFrom kind part.0 part.1)
    (part_named arguments)

-- `when F`: a byte by its number, in decimal
abbrev pub when_form : List (List ℕ) → Option Search
when_form arguments = do
  number ← one_of arguments
  f ← count_named number
  Some (When f)

-- `fades N EDIT`: a turn, in decimal, and an edit as the session language has it
abbrev pub fades_form : Version → List (List ℕ) → Option Search
fades_form version arguments = do
  (turn, words) ← first_of arguments
  (name, others) ← first_of words
  n ← turn_named turn
  edit ← past_edit_with version name others
  Some (Fades n edit)

-- a name alone: `events`, `setup`
abbrev pub alone : Search → List (List ℕ) → Option Search
alone search [] = Some search
alone search _ = None

-- a search by its name and the words that follow it
unfoldable pub search_with : Version → List ℕ → List (List ℕ) → Option Search
search_with version name arguments =
    if bytes_eq name (codes "first") then first_form arguments
    else if bytes_eq name (codes "latest") then latest_form arguments
    else if bytes_eq name (codes "writes") then writes_form arguments
    else if bytes_eq name (codes "reads") then reads_form arguments
    else if bytes_eq name (codes "accesses") then accesses_form arguments
    else if bytes_eq name (codes "moves") then moves_form arguments
    else if bytes_eq name (codes "transfers") then transfers_form arguments
    else if bytes_eq name (codes "change") then change_form version arguments
    else if bytes_eq name (codes "text") then text_from_form Printed arguments
    else if bytes_eq name (codes "punched") then text_from_form Punched arguments
    else if bytes_eq name (codes "when") then when_form arguments
    else if bytes_eq name (codes "fades") then fades_form version arguments
    else if bytes_eq name (codes "counts") then counts_form arguments
    else if bytes_eq name (codes "events") then alone Events arguments
    else if bytes_eq name (codes "setup") then alone Setup arguments
    else option_map Ask (state_question_with version name arguments)

-- `undo` and `redo`
abbrev pub step_of_name : List ℕ → Option Step
step_of_name name =
    if bytes_eq name (codes "undo") then Some Undo
    else if bytes_eq name (codes "redo") then Some Redo
    else None

unfoldable pub step_with : List ℕ → List (List ℕ) → Option Step
step_with name [] = step_of_name name
step_with name _ = None

-- the search or the step that some words are
abbrev pub search_named : Version → List (List ℕ) → Option LineMeaning
search_named version [] = None
search_named version (name ∷ arguments) =
    option_or (option_map kind.Step (step_with name arguments))
    (option_map kind.Search (search_with version name arguments))
