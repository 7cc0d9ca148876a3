-- The command line: the arguments of the program.
pub use Rattle.edit_words.specs.Rules.{choice_rule, count_rule, flag_rule, list_rule, path_rule}
pub use Rattle.edit_words.specs.Rules.{reports, selections, with_rules}
use Rattle.std.specs.Prelude.{List, [], ◌∷◌, Some, true, codes}
use Rattle.clap.specs.Words.{App, Rule, Shape, Text, new_app, with_subcommand}
use Rattle.clap.specs.declared.builder.value_parser.ValueParser.TheVariants as value
use Rattle.edit_words.specs.SetVersionLine.{set_version_app}

-- the options that name files
abbrev pub places : List Rule
places =
    path_rule (codes "manifest-path")
    ∷ path_rule (codes "metadata-json")
    ∷ path_rule (codes "index-file")
    ∷ []

-- the options that name the folder of an index, the file of the calls that follow, and the lock file that
-- these have to be right against
abbrev pub outlets : List Rule
outlets =
    path_rule (codes "index-dir")
    ∷ path_rule (codes "update-calls")
    ∷ path_rule (codes "lock-file")
    ∷ []

-- the options that name configuration files beside those that cargo finds
abbrev pub configurations : List Rule
configurations = path_rule (codes "config") ∷ path_rule (codes "default-config") ∷ []

-- the options that say which versions of Rust count
abbrev pub rust_choices : List Rule
rust_choices = choice_rule (codes "rust-version") ∷ flag_rule (codes "ignore-rust-version") ∷ []

-- the flags
abbrev pub switches : List Rule
switches =
    record (flag_rule (codes "dry-run")) { short = Some 110 }
    ∷ flag_rule (codes "locked")
    ∷ flag_rule (codes "offline")
    ∷ count_rule (codes "verbose") 118
    ∷ count_rule (codes "quiet") 113
    ∷ flag_rule (codes "never-lower")
    ∷ flag_rule (codes "to-lockfile")
    ∷ flag_rule (codes "unify")
    ∷ flag_rule (codes "interactive")
    ∷ flag_rule (codes "no-policy")
    ∷ []

-- the options that say by when versions have to be published
abbrev pub ages : List Rule
ages =
    choice_rule (codes "published-before")
    ∷ choice_rule (codes "min-age")
    ∷ choice_rule (codes "now")
    ∷ []

-- the options that say what may be upgraded, two of them ignored where they are not given
abbrev pub choices : List Rule
choices =
    record (choice_rule (codes "compatible")) { defaults = codes "allow" ∷ [] }
    ∷ record (choice_rule (codes "incompatible")) { short = Some 105; defaults = codes "ignore" ∷ [] }
    ∷ record (choice_rule (codes "pinned")) { defaults = codes "ignore" ∷ [] }
    ∷ choice_rule (codes "level")
    ∷ choice_rule (codes "rows")
    ∷ record (choice_rule (codes "recursive")) { parser = Some value.Bool }
    ∷ []

-- the subcommand `upgrade`, and the one that takes the same arguments
abbrev pub upgrade_app : Text → App
upgrade_app name =
    with_rules (with_rules (with_rules (with_rules (with_rules (with_rules (with_rules (with_rules
    (with_rules (new_app name) places) outlets) configurations) rust_choices) switches) ages) reports)
    choices) selections

-- the program's own settings
abbrev pub top_shape : Shape
top_shape = record (new_app (codes "cargo-edit")).top {
  no_binary_name = true;
  has_version = true;
  propagate_version = true;
  subcommand_required = true;
}

-- the program's command line
unfoldable pub edit_app : App
edit_app =
    with_subcommand (with_subcommand (with_subcommand (record { top = top_shape; subs = [] })
    (upgrade_app (codes "upgrade")).top) (upgrade_app (codes "looks")).top) set_version_app.top
