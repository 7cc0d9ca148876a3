-- Values and keys where they are written in an array or an inline table.
use Rattle.std.specs.Prelude.{◌≡◌, ℕ, ◌≤◌, Bool, true, false, ◌||◌, ◌==◌, List}
use Rattle.edit_syntax.specs.Characters.{comma, right_bracket, right_brace, is_blank, All}
use Rattle.edit_syntax.specs.Strings.{Key, IsKey}
use Rattle.edit_syntax.specs.Grammar.{Between, IsGap, Value, IsValue}
use Rattle.edit_syntax.specs.Depth.{depth}
use Rattle.edit_syntax.specs.ReadingSteps.{first}

-- a comma, bracket or brace, one of which ends a value and the gap behind it
abbrev pub ends_item : ℕ → Bool
ends_item b = b == comma || b == right_bracket || b == right_brace

-- a value and the gap behind it, before a comma, bracket or brace, with arrays and inline tables at most 80
-- deep
pub record IsItem (v : Value) (g : List Between) (rest : List ℕ) : Type 0 where
  pub valid : IsValue v
  pub shallow : depth v ≤ 80
  pub between : IsGap g
  pub ends : ends_item (first rest) ≡ true

-- a key with the white space before and after its equals sign, before input that begins with neither tab nor
-- space
pub record IsKeyAndSign (k : Key) (a b more : List ℕ) : Type 0 where
  pub key : IsKey k
  pub before : All is_blank a
  pub behind : All is_blank b
  pub begins : is_blank (first more) ≡ false
