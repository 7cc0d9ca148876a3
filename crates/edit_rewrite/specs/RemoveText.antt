-- The innermost value around a place, as the code represents it.
use Rattle.std.specs.Prelude.{◌≡◌, ℕ, ◌≤◌, List, ◌++◌, length, Option, Some, None, MatchOption}
use Rattle.std.specs.List.{Contains}
use Rattle.edit_syntax.specs.Depth.{depth}
use Rattle.edit_syntax.specs.Grammar.{value, IsValue, Text}
use Rattle.edit_rewrite.specs.declared.remove_text.Around.{Around}
use Rattle.edit_tree.specs.Assertions.{Place}
use Rattle.edit_tree.specs.RemovedBytes.{innermost}
use Rattle.edit_rewrite.specs.StatementOffsets.{IsSuffix}
use Rattle.edit_tree.specs.Written.{PlacedValue, values}

-- a value of a text as the code represents it: the number of steps to it, and the offsets of its start and
-- its end, counted from the end of the text
pub record IsFoundAt (form : Text) (w : PlacedValue) (a : Around) : Type 0 where
  pub listed : Contains (values form) w
  pub steps : a.steps ≡ length w.place
  pub from : a.from ≡ length (value w.value w.after)
  pub to : a.to ≡ length w.after

-- the innermost value around a place
pub record IsAround (form : Text) (gone : Place) (a : Around) : Type 0 where
  pub placed_value : PlacedValue
  pub found : IsFoundAt form placed_value a
  pub innermost_is : innermost gone form ≡ Some placed_value
  pub below : Place
  pub parted : gone ≡ placed_value.place ++ below

-- the innermost value around a place, or `None` where there is none
abbrev pub HasAround : Text → Place → Option Around → Type 0
HasAround form gone r = MatchOption r (innermost gone form ≡ None) (IsAround form gone)

-- a well-formed value between two offsets of a text, both at character boundaries
pub record StandsBetween (bytes : List ℕ) (w : PlacedValue) (from to : ℕ) : Type 0 where
  pub valid : IsValue w.value
  pub shallow : depth w.value ≤ 80
  pub start : IsSuffix bytes (value w.value w.after)
  pub end : IsSuffix bytes w.after
  pub from_is : from ≡ length (value w.value w.after)
  pub to_is : to ≡ length w.after
