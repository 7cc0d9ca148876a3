-- Elements of arrays and members of inline tables where they are written in a text.
use Rattle.std.specs.Prelude.{◌≡◌, ◌≤◌, ℕ, true, List, [], ◌∷◌, ◌++◌, Bool, ⊤}
use Rattle.edit_syntax.specs.declared.read.syntax_tokens.SyntaxToken.{SyntaxToken}
use Rattle.edit_syntax.specs.Depth.{depth}
use Rattle.edit_syntax.specs.Grammar.{Between, gap, IsGap, inline, value, IsValue, Members}
use Rattle.edit_syntax.specs.ReadingSteps.{first}
use Rattle.edit_syntax.specs.Steps.{ends_item}
use Rattle.edit_tree.specs.WalkState.{IsDecodedAt}
use Rattle.edit_tree.specs.Slots.{Slot, slot, IsSlot}

-- the tokens of these parts of a key have these decoded names
abbrev pub AreDecodedAs : List ℕ → List SyntaxToken → List (List ℕ) → Type 0
AreDecodedAs text [] [] = ⊤
AreDecodedAs text [] (n ∷ ns) = ⊥
AreDecodedAs text (m ∷ ms) [] = ⊥
AreDecodedAs text (m ∷ ms) (n ∷ ns) = IsDecodedAt text m n × AreDecodedAs text ms ns

-- the second text is a suffix of the first
abbrev pub Ends : List ℕ → List ℕ → Type 0
Ends text s = (front : List ℕ) × (text ≡ front ++ s)

-- an element or a member at the front of a suffix of a text, with the gap behind it, before a comma or
-- closing bracket
pub record StandsAt (text s : List ℕ) (is_table : Bool) (it : Slot) (c : List Between) (rest : List ℕ)
    : Type 0 where
  pub valid : IsSlot is_table it
  pub between : IsGap c
  pub ends : ends_item (first rest) ≡ true
  pub within : Ends text s
  pub spelled : s ≡ slot it (gap c rest)

-- an inline table at the front of a suffix of a text, before this text
pub record TableAt (text table : List ℕ) (g : List Between) (ms : Members) (after : List ℕ) : Type 0 where
  pub valid : IsValue (inline g ms)
  pub shallow : depth (inline g ms) ≤ 80
  pub within : Ends text table
  pub spelled : table ≡ value (inline g ms) after
