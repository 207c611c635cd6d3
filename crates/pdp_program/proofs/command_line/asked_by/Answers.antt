-- The texts that the getters give are those of clap's rows.
use Rattle.std.proofs.Common.{◌≡◌, codes, ap, refl}
use Rattle.clap.specs.Words.{first_of, first_value, found_of, rows_of}
use Rattle.clap.specs.declared.parser.matches.ArgMatches.{ArgMatches}
use Rattle.clap.proofs.WalkLemmas.{first_value-rows}
use Rattle.pdp_program.specs.Numbers.{options_given}
use Rattle.pdp_program.specs.CommandLine.{is_flag_given, options_asked}
use Rattle.pdp_program.proofs.command_line.asked_by.Goals as goal

flag_is : (m : ArgMatches) → is_flag_given (first_value (found_of m) (codes "lines")) ≡ is_flag_given (first_of (codes "lines") (rows_of (found_of m)))
flag_is m = ap is_flag_given (first_value-rows (found_of m) (codes "lines"))

options_are : (m : ArgMatches) → options_given (first_value (found_of m) (codes "units")) (first_value (found_of m) (codes "start")) (first_value (found_of m) (codes "stride"))
    ≡ options_asked (rows_of (found_of m))
options_are m =
    rw (first_value-rows (found_of m) (codes "units"), first_value-rows (found_of m) (codes "start"), first_value-rows (found_of m) (codes "stride")) refl

pub returns-then-is_flag_given : goal.returns-then-is_flag_given
returns-then-is_flag_given c =
    let e = flag_is c.args.matches.now in
    (cc (e, c.get_str.ensures, c.is_flag_given.ensures, c.if-is_flag_given.true), c.in_ok-table_of.ensures)

pub returns-in_ok-names-in-Some : goal.returns-in_ok-names-in-Some
returns-in_ok-names-in-Some c =
    let e = flag_is c.args.matches.now in
    let o = options_are c.args.matches.now in (
      cc (e, c.get_str.ensures, c.is_flag_given.ensures, c.if-is_flag_given.false),
      cc (o, c.get_str-units.ensures, c.get_str-start.ensures, c.get_str-stride.ensures, c.read_options.ensures, c.in-Some.is),
      c.in_ok-names-in-Some.ensures,
    )

pub returns-in-None : goal.returns-in-None
returns-in-None c =
    let e = flag_is c.args.matches.now in
    let o = options_are c.args.matches.now in
    (cc (e, c.get_str.ensures, c.is_flag_given.ensures, c.if-is_flag_given.false), cc (o, c.get_str-units.ensures, c.get_str-start.ensures, c.get_str-stride.ensures, c.read_options.ensures, c.in-None.is))
