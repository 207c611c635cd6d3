-- The command line has no option that clap's definition doesn't tell of.
use Rattle.std.proofs.Common.{◌≡◌, List, Result, Ok, Err, IfOk, map, true, refl, ap, ◌∙◌, subst}
use Rattle.clap.specs.Words.{App, FailsBy, HasMatchesOf, Text, app_of, fault_of, found_of, is_simple, is_simple_and_free, matches_of, rows_of}
use Rattle.clap.specs.declared.error.Error.{Error}
use Rattle.clap.specs.declared.parser.matches.ArgMatches.{ArgMatches}
use Rattle.disassemble.specs.CommandLine.{text_command}
use Rattle.disassemble.proofs.command_line.matches_of.Goals as goal

faults_are : (r : Result ArgMatches Error) (made wanted : App) (words : List Text) → made ≡ wanted → is_simple_and_free wanted ≡ true
    → (is_simple_and_free made ≡ true → FailsBy (fault_of made words) r) → FailsBy (fault_of wanted words) r
faults_are r made wanted words same told fails = subst (λ app. FailsBy (fault_of app words) r) same (fails (ap is_simple_and_free same ∙ told))

rows_are : (r : Result ArgMatches Error) (a : App) (words : List Text) → is_simple a ≡ true → IfOk r (HasMatchesOf a words)
    → IfOk r (λ m. rows_of (found_of m) ≡ matches_of a words)
rows_are (Ok m) a words simple has = (has simple).0
rows_are (Err e) a words simple has = tt

all_simple_and_free : is_simple_and_free text_command ≡ true
all_simple_and_free = refl

all_simple : is_simple text_command ≡ true
all_simple = refl

pub returns-clause-faults : goal.returns-clause-faults
returns-clause-faults g c =
    faults_are c.try_get_matches_from.result (app_of c.in_ok-command.command) text_command
    (map g.S.AsStr.text c.args.words.now) c.in_ok-command.ensures all_simple_and_free
    c.try_get_matches_from.ensures.kinds

pub returns-clause-rows : goal.returns-clause-rows
returns-clause-rows g c =
    rows_are c.try_get_matches_from.result text_command (map g.S.AsStr.text c.args.words.now)
    all_simple (rw c.in_ok-command.ensures at c.try_get_matches_from.ensures.matches)
