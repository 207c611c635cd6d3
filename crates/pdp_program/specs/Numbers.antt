-- The numbers that the options give [P].
use Rattle.std.specs.Prelude.{ℕ, List, Option, Some, None, min, option_map}
use Rattle.pdp_word.specs.Number.{number_of}
use Rattle.pdp_session.specs.Grammar.Arguments.{◌>>=◌, largest_number}
use Rattle.pdp_program.specs.declared.options.Options.{Options}

-- The number of an option whose field holds numbers up to `largest`: its default if the option
-- isn't given, and none if its text is no number in this base. A number that the field can't hold
-- becomes the largest that it can.
abbrev pub number_given : ℕ → ℕ → ℕ → Option (List ℕ) → Option ℕ
number_given base largest default None = Some default
number_given base largest default (Some text) = option_map (λ number. min number largest)
    (number_of base text)

-- the options, if each has its number
abbrev pub all_given : Option ℕ → Option ℕ → Option ℕ → Option Options
all_given units start stride = do
  u ← units
  a ← start
  n ← stride
  Some (record { units = u; start = a; stride = n })

-- what the texts of --units, --start and --stride give, in fields of 8, 16 and 32 bits: without
-- them 31, 1000 octal and 10,000
abbrev pub units_number : Option (List ℕ) → Option ℕ
units_number text = number_given 10 255 31 text

abbrev pub start_number : Option (List ℕ) → Option ℕ
start_number text = number_given 8 0o177777 0o1000 text

abbrev pub stride_number : Option (List ℕ) → Option ℕ
stride_number text = number_given 10 largest_number 10000 text

-- and what they ask for together
abbrev pub options_given : Option (List ℕ) → Option (List ℕ) → Option (List ℕ) → Option Options
options_given units start stride =
    all_given (units_number units) (start_number start) (stride_number stride)
