-- The ranges of values in the text of a document.
use Rattle.std.specs.Prelude.{◌≡◌, ℕ, Bool, true, false, List, [], ◌∷◌, length, map, Option, MatchOption, string_bytes}
use Rattle.std.specs.Global.{Vec}
use Rattle.std.specs.List.{Contains}
use Rattle.std.specs.declared.string.String.{String}
use Rattle.std.specs.declared.alloc.Global.{Global}
use Rattle.edit_tree.specs.declared.place.Step.{Step as WrittenStep}
use Rattle.edit_syntax.specs.Grammar.{Between, Value, inline, Members, Text, text}
use Rattle.edit_tree.specs.Assertions.{Place}
use Rattle.edit_tree.specs.Tree.{is_value_at}
use Rattle.edit_document.specs.Items.{place_view}
use Rattle.edit_tree.specs.Replaces.{Edits}
use Rattle.edit_tree.specs.Written.{PlacedValue, values, start_of, IsWrittenAt}

-- the range of the value at the place, or `None` where no value is written there
abbrev pub HasRange : Text → Place → Option (ℕ × ℕ) → Type 0
HasRange form place r = MatchOption r (is_value_at form place ≡ false) (λ p. IsWrittenAt form place p.0 p.1)

-- the value is an inline table
abbrev pub is_table_value : Value → Bool
is_table_value (inline g ms) = true
is_table_value _ = false

-- the inline table at the place begins at this offset
pub record StartsTable (form : Text) (place : Place) (start : ℕ) : Type 0 where
  pub placed_value : PlacedValue
  pub listed : Contains (values form) placed_value
  pub there : placed_value.place ≡ place
  pub between : List Between
  pub all : Members
  pub is : placed_value.value ≡ inline between all
  pub starts : start ≡ start_of (length (text form)) placed_value

-- the offset of the inline table at the place, or `None` where none is written there
abbrev pub HasTable : Text → Place → Option ℕ → Type 0
HasTable form place r =
    MatchOption r ((w : PlacedValue) → Contains (values form) w → w.place ≡ place
    → is_table_value w.value ≡ false)
    (StartsTable form place)

-- the model of the code's places with their new texts
abbrev pub edit_views : List (Vec WrittenStep × String Global) → Edits
edit_views edits = map (λ e. (place_view e.0.items, string_bytes e.1)) edits

-- the edit of one place
abbrev pub one_edit : Place → List ℕ → Edits
one_edit place text = (place, text) ∷ []
