-- What stays of an array or an inline table, as far as its items are read.
use Rattle.std.specs.Prelude.{◌≡◌, ℕ, ◌-◌, List, [], ◌++◌, length, take, drop}
use Rattle.edit_syntax.specs.ReadingSteps.{past_blanks}
use Rattle.edit_rewrite.specs.declared.inside.Remainder.{Remainder}

-- the part of a text before its suffix
abbrev pub before_end : List ℕ → List ℕ → List ℕ
before_end from to = take (length from - length to) from

-- an item is removed: the gaps after and before its comma are left to what follows
pub record SkipsItem (old new : Remainder) (after stop next : List ℕ) : Type 0 where
  pub firm : new.firm.items ≡ old.firm.items
  pub with_comma : new.with_comma.items ≡ old.with_comma.items ++ before_end (past_blanks (drop 1 stop)) next
  pub without_comma : new.without_comma.items ≡ old.without_comma.items ++ before_end after stop

-- an item stays: its bytes, and its comma with the gap after it
pub record AppendsItem (old new : Remainder) (rest stop next : List ℕ) : Type 0 where
  pub firm : new.firm.items ≡ (old.firm.items ++ old.with_comma.items) ++ before_end rest stop
  pub with_comma : new.with_comma.items ≡ before_end stop next
  pub without_comma : new.without_comma.items ≡ []
