-- Command lines as `clap` defines them: values by their places, and options of one value.
use Rattle.std.specs.Prelude.{ℕ, true, Bool, List, Option, Some, None, option_and_then, if◌then◌else◌}
use Rattle.clap.specs.Words.{App, Row, Rule, Text, new_app, new_rule, with_rule}
use Rattle.clap.specs.Words.{fault_of, first_of, matches_of}
use Rattle.clap.specs.Simple.{on_top}
use Rattle.clap.specs.Walk.{is_empty}
use Rattle.clap.specs.declared.builder.action.ArgAction.TheVariants.{Set}
use Rattle.unit_rules.specs.Numeral.{number_in}

-- a value that has to be there, by its place
abbrev pub positional : Text → Rule
positional id = record (new_rule id) { required = true; action = Some Set }

-- an option `--ID VALUE`, which has to be there or may be there, once
abbrev pub option_named : Bool → Text → Rule
option_named required id = record (new_rule id) { long = Some id; required = required; action = Some Set }

-- the command of this name without arguments, and with no help and no version
abbrev pub plain_app : Text → App
plain_app name =
    on_top (λ s. record s { disable_help_flag = true; disable_version_flag = true }) (new_app name)

-- the command with one more argument
infixl 10 ◌taking◌
abbrev pub ◌taking◌ : App → Rule → App
app taking rule = with_rule app rule

-- what the command reads of the words, if it takes them: a row for each argument that they give a
-- value; the first word stands for the command's name, and may be any
abbrev pub rows_in : App → List Text → Option (List Row)
rows_in app words = if is_empty (fault_of app words) then Some (matches_of app words) else None

-- the number from low to high that an argument's value is the numeral of
abbrev pub number_of : ℕ → ℕ → Text → List Row → Option ℕ
number_of low high id rows = option_and_then (number_in low high) (first_of id rows)
