-- The rules of options and flags, of which command lines are made.
use Rattle.std.specs.Prelude.{ℕ, List, [], ◌∷◌, Some, codes, true}
use Rattle.clap.specs.Words.{App, Rule, Text, new_rule, with_rule}
use Rattle.clap.specs.declared.builder.action.ArgAction.TheVariants.{Append, Count, Set, SetTrue}
use Rattle.clap.specs.declared.builder.value_parser.ValueParser.TheVariants as value

-- an option that may be given, with one value, which is not the empty text
abbrev pub path_rule : Text → Rule
path_rule id =
    record (new_rule id) {
      long = Some id;
      action = Some Set;
      value_names = 1;
      parser = Some value.NonEmptyString;
    }

-- an option that must be given, with one value, which is not the empty text
abbrev pub option_rule : Text → Rule
option_rule id = record (path_rule id) { required = true }

-- an option that may be given, with one value
abbrev pub choice_rule : Text → Rule
choice_rule id =
    record (new_rule id) {
      long = Some id;
      action = Some Set;
      value_names = 1;
      parser = Some value.String;
    }

-- an option that may be given any number of times, each time with one value, which is not the empty text
abbrev pub list_rule : Text → Rule
list_rule id =
    record (new_rule id) {
      long = Some id;
      action = Some Append;
      value_names = 1;
      parser = Some value.NonEmptyString;
    }

-- a flag
abbrev pub flag_rule : Text → Rule
flag_rule id = record (new_rule id) { long = Some id; action = Some SetTrue }

-- a flag with a letter, of which the uses are counted
abbrev pub count_rule : Text → ℕ → Rule
count_rule id letter =
    record (new_rule id) { long = Some id; short = Some letter; action = Some Count }

-- a command with these rules too, in their order
abbrev pub with_rules : App → List Rule → App
with_rules a [] = a
with_rules a (rule ∷ rules) = with_rules (with_rule a rule) rules

-- the options that say which entries or members are meant
abbrev pub selections : List Rule
selections =
    record (list_rule (codes "package")) { short = Some 112 }
    ∷ list_rule (codes "exclude")
    ∷ []

-- how a plan is printed, and whether it is only checked
abbrev pub reports : List Rule
reports =
    flag_rule (codes "check")
    ∷ record (choice_rule (codes "message-format")) { defaults = codes "human" ∷ [] }
    ∷ flag_rule (codes "diff")
    ∷ choice_rule (codes "color")
    ∷ []
