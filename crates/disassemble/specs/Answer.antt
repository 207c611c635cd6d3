-- The answers to lines [P].
use Rattle.std.specs.Prelude.{◌≡◌, ℕ, ◌-◌, Bool, true, false, ◌==◌, not, if◌then◌else◌, List, []}
use Rattle.std.specs.Prelude.{◌∷◌, ◌++◌, length, map, slice_index, take, codes, decimal}
use Rattle.std.specs.Prelude.{Option, Some, None, Result, Ok, Err, IfSome}
use Rattle.std.specs.Io.BufRead.{take_through, drop_through}
use Rattle.std.specs.Io.KnownBytes.{Appends}
use Rattle.std.specs.Str.Lines.{lines, strip_carriage_return}
use Rattle.pdp_word.specs.Number.{octal_digits}
use Rattle.pdp_disassembler.specs.Assembly.{Assembles}
use Rattle.pdp_disassembler.specs.Text.{instruction_text, with_spaces, word_count}
use Rattle.disassemble.specs.Line.{address_of_text, after_field, code_in_fields, fields_of}
use Rattle.disassemble.specs.declared.answer.Direction.{Direction}
use Rattle.disassemble.specs.declared.answer.Direction.TheVariants.{WordsToText, TextToWords}
use Rattle.disassemble.specs.declared.line.Code.{Code}
use Rattle.disassemble.specs.declared.line.BadLine.{BadLine}
use Rattle.disassemble.specs.declared.line.BadLine.TheVariants.{FieldCount, NoText, Digits, Range}
use Rattle.disassemble.specs.declared.line.BadLine.TheVariants.{NoInstruction}

-- what is wrong with a line
abbrev pub reason_text : BadLine → List ℕ
reason_text FieldCount = codes "not an address and three words"
reason_text NoText = codes "not an address and an instruction"
reason_text Digits = codes "not a number of 1 to 6 octal digits"
reason_text Range = codes "a number over 177777"
reason_text NoInstruction = codes "no instruction has this text"

-- the answer to a line with this wrong
abbrev pub bad_text : BadLine → List ℕ
bad_text bad = codes "bad line: " ++ reason_text bad ++ codes "\n"

-- how many words the instruction takes, and its text
abbrev pub code_text : Code → List ℕ
code_text code =
    decimal (word_count code.words) ++ codes " " ++ instruction_text code.address code.words

-- the answer to a line with this code, or with this wrong
abbrev pub answer_text : Result Code BadLine → List ℕ
answer_text (Ok code) = code_text code ++ codes "\n"
answer_text (Err bad) = bad_text bad

-- the text for the words of a line that comes without what ended it
unfoldable pub text_answer : List ℕ → List ℕ
text_answer line = answer_text (code_in_fields (fields_of line))

-- words in six octal digits, with a space between each two
abbrev pub words_text : List ℕ → List ℕ
words_text words = with_spaces (map (λ word. octal_digits 6 word) words)

-- the words that were found for a text, or that there are none
abbrev pub assembly_text : Option (List ℕ) → List ℕ
assembly_text (Some words) = words_text words ++ codes "\n"
assembly_text None = bad_text NoInstruction

-- an answer to a text at an address
abbrev pub IsFound : ℕ → List ℕ → List ℕ → Type 0
IsFound address text answer =
    (found : Option (List ℕ)) × Assembles address text found × (answer ≡ assembly_text found)

-- an answer to a text, whose line has this address or this wrong
abbrev pub IsWordsAnswer : Result ℕ BadLine → List ℕ → List ℕ → Type 0
IsWordsAnswer (Ok address) text answer = IsFound address text answer
IsWordsAnswer (Err bad) text answer = answer ≡ bad_text bad

-- an answer to a line that comes without what ended it
unfoldable pub IsAnswer : Direction → List ℕ → List ℕ → Type 0
IsAnswer WordsToText line answer = answer ≡ text_answer line
IsAnswer TextToWords line answer = IsWordsAnswer (address_of_text line) (after_field line) answer

-- the answers to these lines, one after the other
abbrev pub AreAnswers : Direction → List (List ℕ) → List ℕ → Type 0
AreAnswers direction [] written = written ≡ []
AreAnswers direction (line ∷ lines) written =
    (answer : List ℕ) × (more : List ℕ) × (written ≡ answer ++ more)
    × IsAnswer direction line answer × AreAnswers direction lines more

-- a line as it was read, without what ended it
abbrev pub line_in : List ℕ → List ℕ
line_in read =
    if slice_index read (length read - 1) == 10
    then strip_carriage_return (take (length read - 1) read)
    else read

-- an answer to what was read up to the first LF, if there was a line, and nothing if there was none
abbrev pub AnswersRead : Direction → Bool → List ℕ → List ℕ → Type 0
AnswersRead direction true read answer = IsAnswer direction (line_in read) answer
AnswersRead direction false read answer = answer ≡ []

-- The next line was answered, if there was one: of a reader and a writer whose bytes are known
-- before and after.
abbrev pub AnswersNext : Direction → Option (List ℕ) → Option (List ℕ) → Option (List ℕ)
    → Option (List ℕ) → Bool → Type 0
AnswersNext direction unread rest written now was_line = IfSome unread (λ text.
    (rest ≡ Some (drop_through 10 text)) × (was_line ≡ not (length text == 0))
    × ((answer : List ℕ) × Appends written now answer
    × AnswersRead direction was_line (take_through 10 text) answer))
