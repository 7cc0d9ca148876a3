-- The subcommand `set-version` of the command line.
use Rattle.std.specs.Prelude.{List, [], ◌∷◌, Some, codes}
use Rattle.clap.specs.Words.{App, Rule, new_app, new_rule}
use Rattle.clap.specs.declared.builder.action.ArgAction.TheVariants.{Set}
use Rattle.clap.specs.declared.builder.value_parser.ValueParser.TheVariants as value
use Rattle.edit_words.specs.Rules.{choice_rule, count_rule, flag_rule, option_rule, reports, selections, with_rules}

-- the version, as an argument of its own
abbrev pub version_arg : Rule
version_arg =
    record (new_rule (codes "target")) {
      action = Some Set;
      value_names = 1;
      parser = Some value.String;
    }

-- what the new versions are
abbrev pub targets : List Rule
targets =
    version_arg
    ∷ choice_rule (codes "bump")
    ∷ record (choice_rule (codes "metadata")) { short = Some 109 }
    ∷ []

-- the options that name files; the second changes nothing
abbrev pub sources : List Rule
sources = option_rule (codes "metadata-json") ∷ choice_rule (codes "manifest-path") ∷ []

-- the flags that ask for all members, and that for a dry run
abbrev pub members : List Rule
members =
    flag_rule (codes "all")
    ∷ flag_rule (codes "workspace")
    ∷ record (flag_rule (codes "dry-run")) { short = Some 110 }
    ∷ []

-- the flags that change nothing
abbrev pub ignored_flags : List Rule
ignored_flags =
    flag_rule (codes "offline")
    ∷ flag_rule (codes "locked")
    ∷ count_rule (codes "verbose") 118
    ∷ count_rule (codes "quiet") 113
    ∷ []

-- the subcommand `set-version`
abbrev pub set_version_app : App
set_version_app =
    with_rules (with_rules (with_rules (with_rules (with_rules (with_rules (new_app (codes "set-version"))
    targets) sources) selections) members) reports) ignored_flags
