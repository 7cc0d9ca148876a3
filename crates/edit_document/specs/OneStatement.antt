-- What a node decides about the statements that name its place.
use Rattle.std.specs.Prelude.{◌≡◌, ℕ, true, false, List, [], ◌∷◌, length, Option, MatchOption}
use Rattle.edit_syntax.specs.Grammar.{Text}
use Rattle.edit_document.specs.declared.one_statement.Statements.{Statements}
use Rattle.edit_document.specs.declared.one_statement.Statements.TheVariants.{One, Other, AsMember}
use Rattle.edit_tree.specs.Assertions.{at, key}
use Rattle.edit_document.specs.Compared.{IsNumber}
use Rattle.edit_tree.specs.EditBytes.{is_one_statement}
use Rattle.edit_document.specs.Items.{node_place, node_view, names_in}
use Rattle.edit_tree.specs.DocumentViews.{DocumentViews}

-- the index of the only member of a node; `None` where it has no member or several
abbrev pub HasMember : DocumentViews → ℕ → Option ℕ → Type 0
HasMember d n r = MatchOption r (length (names_in (node_view d n)) ≡ 1 → ⊥)
    (λ m. (name : List ℕ) × (names_in (node_view d n) ≡ name ∷ [])
    × IsNumber d (at (node_place d n) (key name)) m)

-- one pair and no header name the node; or none, several or a header do; or those that name its only member
abbrev pub IsStatementCount : Text → DocumentViews → ℕ → Statements → Type 0
IsStatementCount form d n One = is_one_statement form (node_place d n) ≡ true
IsStatementCount form d n Other = is_one_statement form (node_place d n) ≡ false
IsStatementCount form d n (AsMember m) =
    (is_one_statement form (node_place d n) ≡ is_one_statement form (node_place d m))
    × ((name : List ℕ) × IsNumber d (at (node_place d n) (key name)) m)
