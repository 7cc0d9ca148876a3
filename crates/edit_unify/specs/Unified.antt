-- Rows with one requirement for each crate of a registry in each compatible range.
use Rattle.std.specs.Prelude.{◌≡◌, ℕ, List, [], ◌∷◌, Bool, true, Contains, Option, Some, None, if◌then◌else◌, false, map, option_and_then, option_map, string_bytes, ⊤}
use Rattle.std.specs.Str.{bytes_eq}
use Rattle.std.specs.Option.{option_map_or}
use Rattle.edit_report.specs.declared.row.Change.{Change}
use Rattle.edit_report.specs.declared.row.Change.TheVariants as change
use Rattle.edit_report.specs.declared.row.Row.{Row}
use Rattle.edit_version.specs.Levels.{CrateBounds}
use Rattle.edit_unify.specs.Leaders.{leader}
use Rattle.edit_unify.specs.Ranges.{is_higher}
use Rattle.edit_unify.specs.Stands.{Required, is_together, stands_of}

-- a text, where it is not this one (own)
abbrev pub unless_same : List ℕ → List ℕ → Option (List ℕ)
unless_same old text = if bytes_eq text old then None else Some text

-- the text that a row takes from another one; none where it keeps its own (own)
abbrev pub taken_text : CrateBounds → Option Required → List (Option Required) → Option (List ℕ)
taken_text level own stands =
    option_and_then (λ o. option_and_then (λ l. unless_same o.text l.text) (leader level o stands)) own

-- the text that each row takes from another one (own)
abbrev pub taken_texts : CrateBounds → List (Option Required) → List (Option (List ℕ))
taken_texts level stands = map (λ own. taken_text level own stands) stands

-- the kind of change to a text: none where the old requirement has it
abbrev pub change_to : List ℕ → Option (List ℕ) → Option Change
change_to text old = if option_map_or (λ o. bytes_eq o text) old false then None else Some change.Unified

-- a row as it was, but for its new requirement, which has this text, and its change
pub record IsWithText (text : List ℕ) (row after : Row) : Type 0 where
  pub new : option_map string_bytes after.new ≡ Some text
  pub change : after.change ≡ change_to text (option_map string_bytes row.old)
  pub input : after.input ≡ row.input
  pub name : after.name ≡ row.name
  pub place : after.place ≡ row.place
  pub rename : after.rename ≡ row.rename
  pub old : after.old ≡ row.old
  pub compatible : after.compatible ≡ row.compatible
  pub latest : after.latest ≡ row.latest
  pub reason : after.reason ≡ row.reason

-- the text is that of one of the rows together with this one, and none of these has a higher floor
pub record IsHighest (level : CrateBounds) (own : Required) (stands : List (Option Required)) (text : List ℕ)
    : Type 0 where
  pub from : Required
  pub among : Contains stands (Some from)
  pub together : is_together level own from ≡ true
  pub text_is : text ≡ from.text
  pub highest : (other : Required) → Contains stands (Some other) → is_together level own other ≡ true
      → is_higher other.caret from.caret ≡ false

-- a row as it was where it has the text already, else with this one (own)
abbrev pub IsRowWith : Bool → List ℕ → Row → Row → Type 0
IsRowWith true text row after = after ≡ row
IsRowWith false text row after = IsWithText text row after

-- a row that takes part has the highest requirement of those together with it, and is as it was where that
-- is its own; one that takes no part stays
abbrev pub IsUnified : CrateBounds → List (Option Required) → Option Required → Row → Row → Type 0
IsUnified level stands None row after = after ≡ row
IsUnified level stands (Some own) row after =
    (text : List ℕ) × IsHighest level own stands text × IsRowWith (bytes_eq text own.text) text row after

-- each row unified with all those that are together with it, by what it requires itself (own)
abbrev pub AreEach : CrateBounds → List (Option Required) → List (Option Required) → List Row → List Row
    → Type 0
AreEach level stands [] [] [] = ⊤
AreEach level stands (own ∷ owns) (row ∷ rows) (a ∷ after) =
    IsUnified level stands own row a × AreEach level stands owns rows after
AreEach level stands owns rows after = ⊥

-- one row for each, in order: unified with those that are together with it
abbrev pub AreUnified : CrateBounds → List (Option (List ℕ)) → List Row → List Row → Type 0
AreUnified level addresses rows after =
    AreEach level (stands_of addresses rows) (stands_of addresses rows) rows after

-- rows that require one crate of one registry in one range, within a level of each other, have one text
abbrev pub HasOneText : CrateBounds → List (Option (List ℕ)) → List Row → Type 0
HasOneText level addresses rows = (a b : Required) → Contains (stands_of addresses rows) (Some a)
    → Contains (stands_of addresses rows) (Some b) → is_together level a b ≡ true → a.text ≡ b.text
