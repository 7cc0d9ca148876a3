-- Paths of the command line, below the current folder (own).
use Rattle.std.specs.Prelude.{ℕ, List}
use Rattle.edit_base.specs.Paths.{IsNormalOf, joined}

-- the text is the normalized path, which is relative to the current folder where it is not absolute
abbrev pub IsAbsoluteOf : List ℕ → List ℕ → List ℕ → Type 0
IsAbsoluteOf current path text = IsNormalOf (joined current path) text
