-- Tables of rows and of lines, over the specification's and the program's types.
use Rattle.std.proofs.Common.{◌≡◌, ℕ, List, [], ◌∷◌, ◌++◌, Bool, ◌||◌, map, refl, sym, ◌∙◌, ap, length, ◌<◌, arith}
use Rattle.std.specs.Prelude.{codes}
use Rattle.std.specs.List.{flat_map, join_by, list_any}
use Rattle.std.proofs.lemmas.List.Folds.{flat_map-map}
use Rattle.edit_report.specs.Table.{Cells, columns, greatest, headings, has_note_text, lines_text, line_text, padded, row_cells, table_of, underlines, width}
use Rattle.edit_report.specs.Widths.{cells_of, column_of, line_width, sized_column, sized_line}
use Rattle.edit_report.specs.declared.lines.Column.{Column}
use Rattle.edit_report.specs.declared.lines.Line.{Line}
use Rattle.edit_report.specs.declared.row.Row.{Row}

-- a map over a map is one map
pub map-map : {A B C : Type 0} (f : B → C) (g : A → B) (xs : List A)
    → map f (map g xs) ≡ map (λ x. f (g x)) xs
map-map f g [] = refl
map-map f g (x ∷ xs) = ap (λ ys. f (g x) ∷ ys) (map-map f g xs)

-- a test of mapped elements
list_any-map : {A B : Type 0} (p : B → Bool) (g : A → B) (xs : List A)
    → list_any p (map g xs) ≡ list_any (λ x. p (g x)) xs
list_any-map p g [] = refl
list_any-map p g (x ∷ xs) = ap (λ b. p (g x) || b) (list_any-map p g xs)

-- functions that are equal at each element give the same pieces
flat_map-same : {A : Type 0} (f g : A → List ℕ) → ((x : A) → f x ≡ g x) → (xs : List A)
    → flat_map f xs ≡ flat_map g xs
flat_map-same f g e [] = refl
flat_map-same f g e (x ∷ xs) =
    ap (λ y. y ++ flat_map f xs) (e x) ∙ ap (λ ys. g x ++ ys) (flat_map-same f g e xs)

-- the pieces of mapped elements
join_by-map : {A B : Type 0} (f : B → List ℕ) (g : A → B) (sep : List ℕ) (xs : List A)
    → join_by f sep (map g xs) ≡ join_by (λ x. f (g x)) sep xs
join_by-map f g sep [] = refl
join_by-map f g sep (x ∷ xs) = ap (λ ys. f (g x) ++ ys) (flat_map-map (λ y. sep ++ f y) g xs)

-- the table of rows that are seen through what has them
pub table_from : {X : Type 0} (view : X → Row) (xs : List X) → 0 < length xs
    → lines_text (columns (list_any (λ r. has_note_text (view r)) xs))
    (headings ∷ underlines ∷ map (λ r. row_cells (view r)) xs)
    ≡ table_of (map view xs)
table_from view [] some = absurd (omega arith)
table_from view (x ∷ xs) some =
    ap (λ noted. lines_text (columns noted) (headings ∷ underlines ∷ map (λ r. row_cells (view r)) (x ∷ xs)))
    (sym (list_any-map has_note_text view (x ∷ xs)))
    ∙ ap (λ cells. lines_text (columns (list_any has_note_text (map view (x ∷ xs))))
    (headings ∷ underlines ∷ cells))
    (sym (map-map row_cells view (x ∷ xs)))

-- the width of a column in lines, as the program has both
width_from : (lines : List Line) (c : Column) → line_width lines c ≡ width (map cells_of lines) (column_of c)
width_from lines c = ap greatest (sym (map-map (λ cells. length (column_of c cells)) cells_of lines))

-- pieces that are equal one by one are equal joined
join_by-same : {A : Type 0} (f g : A → List ℕ) (sep : List ℕ) → ((x : A) → f x ≡ g x) → (xs : List A)
    → join_by f sep xs ≡ join_by g sep xs
join_by-same f g sep e [] = refl
join_by-same f g sep e (x ∷ xs) = ap (λ y. y ++ flat_map (λ z. sep ++ f z) xs) (e x)
    ∙ ap (λ ys. g x ++ ys)
    (flat_map-same (λ z. sep ++ f z) (λ z. sep ++ g z) (λ z. ap (λ y. sep ++ y) (e z)) xs)

-- a line in columns with the widths that these lines give
line_from : (lines : List Line) (cs : List Column) (cells : Cells)
    → sized_line (map (sized_column lines) cs) cells ≡ line_text (map cells_of lines) (map column_of cs) cells
line_from lines cs cells = ap (λ t. t ++ 10 ∷ []) (
    join_by-map (λ w. padded w.width (column_of w.column cells)) (sized_column lines) (codes " ") cs
    ∙ join_by-same _ _ (codes " ") (λ c. ap (λ n. padded n (column_of c cells)) (width_from lines c)) cs
    ∙ sym (join_by-map (λ column. padded (width (map cells_of lines) column) (column cells)) column_of
    (codes " ") cs))

-- the lines in columns with their widths are the text of the table with these lines
pub lines_from : (lines : List Line) (cs : List Column)
    → flat_map (λ l. sized_line (map (sized_column lines) cs) (cells_of l)) lines
    ≡ lines_text (map column_of cs) (map cells_of lines)
lines_from lines cs =
    flat_map-same _ _ (λ l. line_from lines cs (cells_of l)) lines
    ∙ sym (flat_map-map (line_text (map cells_of lines) (map column_of cs)) cells_of lines)
