-- Ranges of a text that are replaced by string literals.
use Rattle.std.specs.Prelude.{◌≡◌, ℕ, ◌≤◌, List, [], ◌∷◌, ◌++◌, map, drop, slice_range, ⊤}
use Rattle.std.specs.Str.{IsCharBoundary}
use Rattle.edit_document.specs.declared.replace.Rewrite.{Rewrite}
use Rattle.edit_tree.specs.Literals.{literal_bytes}
use Rattle.edit_syntax.specs.Grammar.{Text}
use Rattle.edit_tree.specs.Assertions.{Place, IsDocument}
use Rattle.edit_tree.specs.Written.{PlacedValue, start_of, end_of, IsWrittenAt}
use Rattle.edit_tree.specs.Replaces.{Edits, AreValues, AreDistinct, AreOutside}

-- the start and the end of a range, and the text whose literal replaces it
abbrev pub Range : Type 0
Range = ℕ × ℕ × List ℕ

-- the model of a `Rewrite` of the code
abbrev pub range_of : Rewrite → Range
range_of s = (s.start, s.end, s.text.now)

-- the text from a position on, with each range replaced by its literal
abbrev pub spliced : List ℕ → ℕ → List Range → List ℕ
spliced text at [] = drop at text
spliced text at (r ∷ more) = slice_range text at r.0 ++ (literal_bytes r.2 ++ spliced text r.1 more)

-- the ranges are in order and do not overlap, and their ends are character boundaries
abbrev pub AreInOrder : List ℕ → ℕ → List Range → Type 0
AreInOrder text at [] = ⊤
AreInOrder text at (r ∷ more) =
    (at ≤ r.0) × (r.0 ≤ r.1) × IsCharBoundary text r.0 × IsCharBoundary text r.1 × AreInOrder text r.1 more

-- the ranges of values in a text of this length, each with its new text
abbrev pub ranges_of : ℕ → List (PlacedValue × List ℕ) → List Range
ranges_of total edits = map (λ e. (start_of total e.0, end_of total e.0, e.1)) edits

-- the range is that of the value at the place of an edit, with the new text of that edit
abbrev pub IsRangeFor : Text → Place × List ℕ → Range → Type 0
IsRangeFor form e r = IsWrittenAt form e.0 r.0 r.1 × (r.2 ≡ e.1)

-- the ranges are those of the edits, in the same order
abbrev pub AreRanges : Text → Edits → List Range → Type 0
AreRanges form [] [] = ⊤
AreRanges form [] (r ∷ rs) = ⊥
AreRanges form (e ∷ es) [] = ⊥
AreRanges form (e ∷ es) (r ∷ rs) = IsRangeFor form e r × AreRanges form es rs

-- the ranges of edits at distinct places of a document, each of which has a value and none of which lies
-- below another
pub record Locates (whole : List ℕ) (form : Text) (edits : Edits) (ranges : List Range) : Type 0 where
  pub document : IsDocument whole form
  pub values : AreValues edits form
  pub distinct : AreDistinct edits
  pub outside : AreOutside edits
  pub found : AreRanges form edits ranges
