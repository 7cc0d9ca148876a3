-- What a row requires after a plan: a crate of a registry, in a compatible range.
use Rattle.std.specs.Prelude.{◌&&◌, ℕ, List, [], ◌∷◌, Bool, true, false, Option, Some, None, if◌then◌else◌, option_and_then, option_map, string_bytes}
use Rattle.std.specs.Str.{bytes_eq}
use Rattle.edit_report.specs.declared.row.Reason.{Reason}
use Rattle.edit_report.specs.declared.row.Reason.TheVariants as reason
use Rattle.edit_report.specs.declared.row.Row.{Row}
use Rattle.edit_version.specs.Levels.{CrateBounds}
use Rattle.edit_unify.specs.Ranges.{Caret, caret_of, is_same_range, keeps_level, numbers_of}
use Rattle.edit_unify.specs.declared.stands.Stand.{Stand}

-- a requirement: the address of the registry, the crate, the numbers of its one caret comparator, its text
pub record Required : Type 0 where
  pub address : List ℕ
  pub name : List ℕ
  pub caret : Caret
  pub text : List ℕ

-- a requirement of the program's type (own)
abbrev pub stand_view : Stand → Required
stand_view s = record {
  address = s.address.now;
  name = s.name.now;
  caret = numbers_of s.numbers;
  text = s.text.now;
}

-- the options leave the row out
abbrev pub is_left_out : Option Reason → Bool
is_left_out (Some reason.Excluded) = true
is_left_out other = false

-- the requirement with this text, where it is one caret comparator without a pre-release
abbrev pub required : List ℕ → List ℕ → List ℕ → Option Required
required address name text =
    option_map (λ caret. record { address = address; name = name; caret = caret; text = text })
    (caret_of text)

-- what a row requires after the plan, of the registry with this address; none where it has no registry or no
-- requirement, is left out, or its requirement has another form
abbrev pub stand_of : Option (List ℕ) → Row → Option Required
stand_of address row =
    if is_left_out row.reason then None
    else option_and_then (λ a. option_and_then
    (λ text. required a (string_bytes row.name) (string_bytes text)) row.new) address

-- what each row requires, with the addresses of their registries
abbrev pub stands_of : List (Option (List ℕ)) → List Row → List (Option Required)
stands_of (address ∷ addresses) (row ∷ rows) = stand_of address row ∷ stands_of addresses rows
stands_of addresses rows = []

-- two rows require one crate of one registry
abbrev pub is_same_crate : Required → Required → Bool
is_same_crate a b = bytes_eq a.name b.name && bytes_eq a.address b.address

-- two rows require one crate of one registry in one compatible range, within the crate's level of each other
abbrev pub is_together : CrateBounds → Required → Required → Bool
is_together level a b =
    is_same_crate a b && (is_same_range a.caret b.caret && keeps_level (level a.name) a.caret b.caret)
