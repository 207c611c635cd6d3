-- The command line has no option that clap's definition doesn't tell of.
use Rattle.std.proofs.Common.{◌≡◌, List, Result, Ok, Err, IfOk, Bool, false, is_some, map, true, refl, ap, ◌∙◌, subst}
use Rattle.clap.specs.Words.{App, FailsBy, HasMatchesOf, Text, app_of, fault_of, found_of, is_simple, is_simple_and_free, matches_of, rows_of}
use Rattle.clap.specs.declared.error.Error.{Error}
use Rattle.clap.specs.declared.parser.matches.ArgMatches.{ArgMatches}
use Rattle.pdp_program.specs.CommandLine.{command_line}
use Rattle.pdp_program.proofs.command_line.matches_of.Goals as goal

faults_are : (r : Result ArgMatches Error) (made wanted : App) (words : List Text) → made ≡ wanted → is_simple_and_free wanted ≡ true
    → (is_simple_and_free made ≡ true → FailsBy (fault_of made words) r) → FailsBy (fault_of wanted words) r
faults_are r made wanted words same told fails = subst (λ app. FailsBy (fault_of app words) r) same (fails (ap is_simple_and_free same ∙ told))

rows_are : (r : Result ArgMatches Error) (a : App) (words : List Text) → is_simple a ≡ true → IfOk r (HasMatchesOf a words)
    → IfOk r (λ m. rows_of (found_of m) ≡ matches_of a words)
rows_are (Ok m) a words simple has = (has simple).0
rows_are (Err e) a words simple has = tt

all_simple_and_free : (has_version : Bool) (name : Text) → is_simple_and_free (command_line has_version name) ≡ true
all_simple_and_free true name = refl
all_simple_and_free false name = refl

all_simple : (has_version : Bool) (name : Text) → is_simple (command_line has_version name) ≡ true
all_simple true name = refl
all_simple false name = refl

pub returns-clause-faults : goal.returns-clause-faults
returns-clause-faults g c =
    let has_version = is_some c.args.program.version in
    faults_are c.try_get_matches_from.result (app_of c.in_ok-command.command) (command_line has_version c.args.program.name.now)
    (map g.S.AsStr.text c.args.words.now) c.in_ok-command.ensures (all_simple_and_free has_version c.args.program.name.now)
    c.try_get_matches_from.ensures.kinds

pub returns-clause-rows : goal.returns-clause-rows
returns-clause-rows g c =
    let has_version = is_some c.args.program.version in
    rows_are c.try_get_matches_from.result (command_line has_version c.args.program.name.now) (map g.S.AsStr.text c.args.words.now)
    (all_simple has_version c.args.program.name.now) (rw c.in_ok-command.ensures at c.try_get_matches_from.ensures.matches)
