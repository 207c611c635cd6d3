-- The answers that were written so far are those to the lines that were read.
use Rattle.std.proofs.Common.{◌≡◌, ℕ, ◌<◌, Bool, true, false, List, [], ◌∷◌, ◌++◌, length, Option, Some, None, Result, Ok, IfSome, refl, sym, ap, subst, ◌∙◌, arith, append_assoc}
use Rattle.std.specs.Prelude.{◌==◌, not}
use Rattle.std.specs.Io.BufRead.{take_through, drop_through, DropsThrough}
use Rattle.std.specs.Io.KnownBytes.{Appends, Keeps}
use Rattle.std.specs.Str.Lines.{lines}
use Rattle.std.proofs.BufReadLemmas.{take_through_nonempty}
use Rattle.std.proofs.KnownBytes.{Appends-nil, Appends-trans, Appends-kept}
use Rattle.std.proofs.lemmas.Bool.Decides.{nat_tests}
use Rattle.disassemble.specs.Answer.{AnswersNext, AreAnswers, IsAnswer, IsFound, IsWordsAnswer, line_in}
use Rattle.disassemble.specs.declared.answer.Direction.{Direction}
use Rattle.disassemble.specs.declared.line.BadLine.{BadLine}
use Rattle.disassemble.proofs.FirstLines.{lines_next, lines_of_nothing}

-- the answer to a text at the address that was read
pub found_at : (read : Result ℕ BadLine) (address : ℕ) (given text answer : List ℕ) → read ≡ Ok address → given ≡ text
    → IsFound address given answer → IsWordsAnswer read text answer
found_at read address given text answer is same found =
    subst (λ (r : Result ℕ BadLine). IsWordsAnswer r text answer) (sym is) (subst (λ (t : List ℕ). IsFound address t answer) same found)

-- the answer to a line that was read
pub line_answered : (direction : Direction) (unread rest written mid now : Option (List ℕ)) (old read answer : List ℕ) → old ≡ []
    → IfSome unread (λ text. read ≡ old ++ take_through 10 text) → DropsThrough unread rest 10 → 0 < length read
    → IsAnswer direction (line_in read) answer → Appends written mid answer → Keeps mid now
    → AnswersNext direction unread rest written now true
line_answered direction None rest written mid now old read answer empty bytes drops some is writes kept = tt
line_answered direction (Some text) rest written mid now old read answer empty bytes drops some is writes kept =
    let e : read ≡ take_through 10 text = bytes ∙ ap (λ l. l ++ take_through 10 text) empty in
    let P : List ℕ → Type 0 = λ l. 0 < length l in
    let taken : 0 < length (take_through 10 text) = subst P e some in
    let has = take_through_nonempty 10 text taken in
    let Q : List ℕ → Type 0 = λ l. IsAnswer direction (line_in l) answer in
    let was : true ≡ not (length text == 0) = grind (arith, nat_tests) in
    (drops, was, (answer, Appends-kept written mid now answer writes kept, subst Q e is))

-- the lines of the input up to `more` were answered by what was written
abbrev pub Answered : Direction → Option (List ℕ) → Option (List ℕ) → Option (List ℕ) → Option (List ℕ) → Type 0
Answered direction unread rest written now = IfSome unread (λ text. (more : List ℕ) × (out : List ℕ)
    × (rest ≡ Some more) × Appends written now out
    × ((later : List ℕ) → AreAnswers direction (lines more) later → AreAnswers direction (lines text) (out ++ later)))

pub answered_nothing : (direction : Direction) (unread written : Option (List ℕ)) → Answered direction unread unread written written
answered_nothing direction None written = tt
answered_nothing direction (Some text) written = (text, [], refl, Appends-nil written, λ later are. are)

-- an answer to the first line, and the answers to those after it
one_more : (direction : Direction) (text answer later : List ℕ) → 0 < length text → IsAnswer direction (line_in (take_through 10 text)) answer
    → AreAnswers direction (lines (drop_through 10 text)) later → AreAnswers direction (lines text) (answer ++ later)
one_more direction text answer later some is are =
    let P : List (List ℕ) → Type 0 = λ all. AreAnswers direction all (answer ++ later) in
    subst P (sym (lines_next text some)) (answer, later, refl, is, are)

pub answered_more : (direction : Direction) (unread rest left written now after : Option (List ℕ)) (was_line : Bool)
    → Answered direction unread rest written now → AnswersNext direction rest left now after was_line → was_line ≡ true
    → Answered direction unread left written after
answered_more direction None rest left written now after was_line done next line = tt
answered_more direction (Some text) None left written now after was_line (more, out, is, writes, goes) next line = cc
answered_more direction (Some text) (Some unread) left written now after false done next line = cc
answered_more direction (Some text) (Some unread) left written now after true (more, out, is, writes, goes) (drops, was, (answer, also, answers)) line =
    let same : unread ≡ more = cc in
    let some : 0 < length unread = grind (arith, nat_tests) in
    let P : List ℕ → Type 0 = λ l. (later : List ℕ) → AreAnswers direction (lines l) later → AreAnswers direction (lines text) (out ++ later) in
    let Q : List ℕ → Type 0 = λ l. AreAnswers direction (lines text) l in (
      drop_through 10 unread,
      out ++ answer,
      drops,
      Appends-trans written now after out answer writes also,
      λ later are. subst Q (sym (append_assoc out answer later))
          (subst P (sym same) goes (answer ++ later) (one_more direction unread answer later some answers are)),
    )

-- if there was no further line, all are answered
pub answered_all : (direction : Direction) (unread rest left written now after : Option (List ℕ)) (was_line : Bool)
    → Answered direction unread rest written now → AnswersNext direction rest left now after was_line → was_line ≡ false
    → IfSome unread (λ text. (out : List ℕ) × Appends written after out × AreAnswers direction (lines text) out)
answered_all direction None rest left written now after was_line done next ended = tt
answered_all direction (Some text) None left written now after was_line (more, out, is, writes, goes) next ended = cc
answered_all direction (Some text) (Some unread) left written now after true done next ended = cc
answered_all direction (Some text) (Some unread) left written now after false (more, out, is, writes, goes) (drops, was, (answer, also, nothing)) ended =
    let same : unread ≡ more = cc in
    let none : length unread ≡ 0 = grind (arith, nat_tests) in
    let no_lines : lines more ≡ [] = ap lines (sym same) ∙ lines_of_nothing unread none in
    let P : List (List ℕ) → Type 0 = λ all. AreAnswers direction all answer in
    (out ++ answer, Appends-trans written now after out answer writes also, goes answer (subst P (sym no_lines) nothing))
