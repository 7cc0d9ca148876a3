-- Statements about the syntax tree of a text, where the text is a document: each document has exactly one.
use Rattle.std.specs.Prelude.{◌≡◌, ℕ, List}
use Rattle.edit_syntax.specs.Grammar.{Text}
use Rattle.edit_tree.specs.Assertions.{IsDocument}

-- if the bytes are a document, this holds for its syntax tree
abbrev pub IfDocument : List ℕ → (Text → Type 0) → Type 0
IfDocument bytes P = (form : Text) → IsDocument bytes form → P form

-- the new bytes are computed from the syntax tree of the old ones
abbrev pub Becomes : List ℕ → (Text → List ℕ) → List ℕ → Type 0
Becomes old made new = IfDocument old (λ form. new ≡ made form)
