-- The options that parsed arguments give.
use Rattle.std.specs.Prelude.{◌≡◌, ◌⊎◌, ◌&&◌, ◌||◌, ◌-◌, ℕ, ℤ, Bool, List, [], Option, Some, None, true, false, codes, find, if◌then◌else◌, is_some, min, nat_lt, not, negsuc, option_and_then, option_map, pos, unwrap_or}
use Rattle.std.specs.Str.{bytes_eq}
use Rattle.clap.specs.Words.{Row, Text, all_of, count_of, first_of}
use Rattle.clap.specs.declared.parser.matches.ValueSource.{ValueSource}
use Rattle.clap.specs.declared.parser.matches.ValueSource.TheVariants.{CommandLine}
use Rattle.edit_policy.specs.declared.merge.GivenChoices.{GivenChoices}
use Rattle.edit_upgrade.specs.declared.decision.options.Options.{Options}
use Rattle.edit_upgrade.specs.EntrySelection.{excluded_of, package_args_of}

-- the value of an option of `upgrade`, or this default where it has none
abbrev pub value_of : Text → Text → List Row → Text
value_of id other rows = unwrap_or (first_of id rows) other

-- the values of all occurrences of an option
abbrev pub values_of : Text → List Row → List Text
values_of id rows = unwrap_or (all_of id rows) []

-- whether a flag is given
abbrev pub is_given : Text → List Row → Bool
is_given id rows = bytes_eq (value_of id [] rows) (codes "true")

-- whether a value comes from an argument, and not from a default
abbrev pub is_from_arguments : Option ValueSource → Bool
is_from_arguments (Some CommandLine) = true
is_from_arguments _ = false

-- whether an argument gives the value of an option, which is not its default then
abbrev pub is_explicit : Text → List Row → Bool
is_explicit id rows =
    is_from_arguments (option_and_then (λ r. r.source) (find (λ r. bytes_eq r.id id) rows))

-- whether only the rows that would change are listed: with `--interactive`, unless `--rows` says which change
abbrev pub lists_rows : List Row → Bool
lists_rows rows = is_given (codes "interactive") rows && not (is_some (first_of (codes "rows") rows))

-- whether no file is written: with `--dry-run`, with `--check`, and where only rows are listed
abbrev pub is_dry : List Row → Bool
is_dry rows = is_given (codes "dry-run") rows || (is_given (codes "check") rows || lists_rows rows)

-- whether a value allows or ignores a kind of upgrade; none for other values
abbrev pub status_of_value : Text → Option Bool
status_of_value text =
    if bytes_eq text (codes "allow") then Some true
    else (if bytes_eq text (codes "true") then Some true
    else (if bytes_eq text (codes "ignore") then Some false
    else (if bytes_eq text (codes "false") then Some false else None)))

-- whether the value of an option allows or ignores a kind of upgrade
abbrev pub status_of : Text → List Row → Option Bool
status_of id rows = status_of_value (value_of id [] rows)

-- the verbosity, from the numbers of `--verbose` and `--quiet`
abbrev pub verbosity_of : ℕ → ℕ → ℤ
verbosity_of more less = if nat_lt more less then negsuc 0 else pos (min (more - less) 4)

-- the options of `upgrade` that parsed arguments give
pub record HasOptions (rows : List Row) (o : Options) : Type 0 where
  pub compatible : status_of (codes "compatible") rows ≡ Some o.compatible
  pub incompatible : status_of (codes "incompatible") rows ≡ Some o.incompatible
  pub pinned : status_of (codes "pinned") rows ≡ Some o.pinned
  pub dry_run : o.dry_run ≡ is_dry rows
  pub locked : o.locked ≡ is_given (codes "locked") rows
  pub recursive : o.recursive
      ≡ option_map (λ v. bytes_eq v (codes "true")) (first_of (codes "recursive") rows)
  pub verbosity : o.verbosity
      ≡ verbosity_of (count_of (codes "verbose") rows) (count_of (codes "quiet") rows)
  pub never_lower : o.never_lower
      ≡ (is_given (codes "never-lower") rows || is_given (codes "to-lockfile") rows)
  pub packages : package_args_of o ≡ values_of (codes "package") rows
  pub exclusions : excluded_of o ≡ values_of (codes "exclude") rows
  pub crate_levels : o.crate_levels.items ≡ []

-- which of the choices of an upgrade arguments give; `--to-lockfile` gives that on incompatible upgrades
pub record HasGivenChoices (rows : List Row) (g : GivenChoices) : Type 0 where
  pub compatible : g.compatible ≡ is_explicit (codes "compatible") rows
  pub incompatible : g.incompatible
      ≡ (is_explicit (codes "incompatible") rows || is_given (codes "to-lockfile") rows)
  pub pinned : g.pinned ≡ is_explicit (codes "pinned") rows

-- one of the options has an invalid value
abbrev pub HasBadStatus : List Row → Type 0
HasBadStatus rows =
    (status_of (codes "compatible") rows ≡ None)
    ⊎ ((status_of (codes "incompatible") rows ≡ None) ⊎ (status_of (codes "pinned") rows ≡ None))
