-- Lines with the same cells as one row of a table.
use Rattle.std.proofs.Common.{◌≡◌, ◌∙◌, ℕ, ◌<◌, ◌≤◌, ◌+◌, List, [], ◌∷◌, ◌++◌, Bool, true, false, Option, Some, None, ap, append_assoc, append-nil, arith, get_or, length, map, refl, subst, sym, take}
use Rattle.std.specs.Prelude.{◌||◌, Vec, filter, if◌then◌else◌, not, string_bytes}
use Rattle.std.specs.List.{flat_map, join_by, list_any}
use Rattle.std.specs.Map.{update}
use Rattle.std.specs.Option.{option_map_or}
use Rattle.std.specs.Str.{bytes_eq}
use Rattle.std.specs.declared.alloc.Global.{Global}
use Rattle.std.proofs.lemmas.List.{map_more, take_all}
use Rattle.std.proofs.lemmas.List.Elements.{filter-append}
use Rattle.std.proofs.lemmas.List.Folds.{flat_map-map, list_any-append, list_any_at}
use Rattle.std.proofs.lemmas.Grind.{flat_map-append}
use Rattle.std.proofs.lemmas.Simd.{map-map}
use Rattle.std.proofs.lemmas.Slice.Eq.{bytes_eq-Decides}
use Rattle.edit_metadata.specs.declared.input.Input.{Input}
use Rattle.edit_shown.specs.Markdown.{Line, distinct, heading, inputs_of, line_view, table_of, table_row, table_rows}
use Rattle.edit_shown.specs.declared.markdown.lines.MarkdownLine.{MarkdownLine}

-- the inputs of the lines with these cells, over the program's lines
pub inputs_from : (lines : List MarkdownLine) (cells : List ℕ)
    → map (λ line. line.input) (filter (λ line. bytes_eq cells (string_bytes line.cells)) lines)
    ≡ inputs_of (map line_view lines) cells
inputs_from [] cells = refl
inputs_from (line ∷ lines) cells = go (bytes_eq cells (string_bytes line.cells)) _ _ (inputs_from lines cells)
  where
    go : (same : Bool) (xs : List MarkdownLine) (ys : List Line)
        → map (λ x. x.input) xs ≡ map (λ y. y.input) ys
        → map (λ x. x.input) (if same then line ∷ xs else xs)
        ≡ map (λ y. y.input) (if same then line_view line ∷ ys else ys)
    go true xs ys e = ap (λ is. line.input ∷ is) e
    go false xs ys e = e

-- whether a text is among texts
abbrev pub has_text : List ℕ → List (List ℕ) → Bool
has_text text texts = list_any (λ earlier. bytes_eq earlier text) texts

-- the cells of lines
abbrev pub texts_of : List MarkdownLine → List (List ℕ)
texts_of lines = map (λ line. string_bytes line.cells) lines

-- the row of the lines with these cells
abbrev pub row_of : List Input → List Line → List ℕ → List ℕ
row_of inputs lines cells = table_row inputs cells (inputs_of lines cells)

-- the rows of these cells, each once
abbrev pub rows_of : List Input → List Line → List (List ℕ) → List ℕ
rows_of inputs lines texts = flat_map (row_of inputs lines) (distinct texts)

-- a text at the end counts where it differs from the ones before
pub distinct_more : (texts : List (List ℕ)) (text : List ℕ)
    → distinct (texts ++ text ∷ []) ≡ distinct texts ++ (if has_text text texts then [] else text ∷ [])
distinct_more [] text = refl
distinct_more (first ∷ rest) text =
    ap (λ ts. first ∷ filter (λ other. not (bytes_eq first other)) ts) (distinct_more rest text)
    ∙ ap (λ ts. first ∷ ts) (filter-append (λ other. not (bytes_eq first other)) (distinct rest)
    (if has_text text rest then [] else text ∷ []))
    ∙ ap (λ ts. first ∷ filter (λ other. not (bytes_eq first other)) (distinct rest) ++ ts)
    (at_end (λ other. not (bytes_eq first other)) (bytes_eq first text) (has_text text rest) refl)
  where
    at_end : (test : List ℕ → Bool) (same seen : Bool) → test text ≡ not same
        → filter test (if seen then [] else text ∷ []) ≡ (if same || seen then [] else text ∷ [])
    at_end test true true e = refl
    at_end test false true e = refl
    at_end test true false e = ap (λ b. if b then text ∷ [] else []) e
    at_end test false false e = ap (λ b. if b then text ∷ [] else []) e

-- a map without the texts so far, and then without one more
pub left_next : {X : Type 0} (all old new : List ℕ → Option X) (texts : List (List ℕ)) (text q : List ℕ)
    → old q ≡ (if has_text q texts then None else all q) → new q ≡ update bytes_eq old text None q
    → new q ≡ (if has_text q (texts ++ text ∷ []) then None else all q)
left_next all old new texts text q before after =
    after ∙ ap (λ o. if bytes_eq text q then None else o) before
    ∙ go (has_text q texts) (bytes_eq text q) (all q)
    ∙ sym (ap (λ b. if b then None else all q)
    (list_any-append (λ earlier. bytes_eq earlier q) texts (text ∷ [])))
  where
    go : {X : Type 0} (seen same : Bool) (o : Option X)
        → (if same then None else (if seen then None else o))
        ≡ (if (seen || (same || false)) then None else o)
    go true true o = refl
    go true false o = refl
    go false true o = refl
    go false false o = refl

-- inputs that are there
some_passes : {A : Type 0} (p : A → Bool) (f : A → ℕ) (xs : List A) → list_any p xs ≡ true
    → 0 < length (map f (filter p xs))
some_passes p f [] any = let clash : false ≡ true = any in cc
some_passes p f (x ∷ xs) any = go (p x) (some_passes p f xs) any
  where
    go : (passes : Bool) → (list_any p xs ≡ true → 0 < length (map f (filter p xs)))
        → (passes || list_any p xs) ≡ true
        → 0 < length (map f (if passes then x ∷ filter p xs else filter p xs))
    go true rest any = omega arith
    go false rest any = rest any

-- a line's own input is among those of its cells
some_input : (lines : List MarkdownLine) (i : ℕ) (line : MarkdownLine) → i < length lines
    → line ≡ get_or lines i line → 0 < length (inputs_of (map line_view lines) (string_bytes line.cells))
some_input lines i line within is =
    let cells = string_bytes line.cells in
    let own : bytes_eq cells (string_bytes (get_or lines i line).cells) ≡ true =
    (bytes_eq-Decides cells (string_bytes (get_or lines i line).cells)).1
    (ap (λ l. string_bytes l.cells) is) in
    subst (λ inputs. 0 < length inputs) (inputs_from lines cells)
    (some_passes (λ l. bytes_eq cells (string_bytes l.cells)) (λ l. l.input) lines
    (list_any_at (λ l. bytes_eq cells (string_bytes l.cells)) lines i line within own))

-- the row of a text that is next, where its inputs are those that are left of it
row_next : (inputs : List Input) (lines : List Line) (texts : List (List ℕ)) (text : List ℕ)
    (all found : Option (Vec ℕ Global)) → found ≡ (if has_text text texts then None else all)
    → option_map_or (λ g. g.items) all [] ≡ inputs_of lines text → 0 < length (inputs_of lines text)
    → rows_of inputs lines texts ++ option_map_or (λ g. table_row inputs text g.items) found []
    ≡ rows_of inputs lines (texts ++ text ∷ [])
row_next inputs lines texts text all found is own some =
    ap (λ o. rows_of inputs lines texts ++ option_map_or (λ g. table_row inputs text g.items) o []) is
    ∙ ap (λ row. rows_of inputs lines texts ++ row) (go (has_text text texts))
    ∙ sym (flat_map-append (row_of inputs lines) (distinct texts)
    (if has_text text texts then [] else text ∷ []))
    ∙ sym (ap (flat_map (row_of inputs lines)) (distinct_more texts text))
  where
    by_found : (o : Option (Vec ℕ Global)) → option_map_or (λ g. g.items) o [] ≡ inputs_of lines text
        → option_map_or (λ g. table_row inputs text g.items) o [] ≡ row_of inputs lines text ++ []
    by_found None of = absurd (let none : 0 ≡ length (inputs_of lines text) = ap length of in omega arith)
    by_found (Some g) of = ap (table_row inputs text) of ∙ sym (append-nil (row_of inputs lines text))

    go : (seen : Bool) → option_map_or (λ g. table_row inputs text g.items) (if seen then None else all) []
        ≡ flat_map (row_of inputs lines) (if seen then [] else text ∷ [])
    go true = refl
    go false = by_found all own

-- the cells of one line more
pub texts_more : (lines : List MarkdownLine) (i : ℕ) (line : MarkdownLine) → i < length lines
    → line ≡ get_or lines i line
    → texts_of (take (i + 1) lines) ≡ texts_of (take i lines) ++ string_bytes line.cells ∷ []
texts_more lines i line within at =
    map_more (λ l. string_bytes l.cells) lines i line within
    ∙ ap (λ (l : MarkdownLine). texts_of (take i lines) ++ string_bytes l.cells ∷ []) (sym at)

-- a text that has the rows of so many lines has those of one more
pub rows_next : (inputs : List Input) (lines : List MarkdownLine) (i : ℕ) (line : MarkdownLine)
    (all found : Option (Vec ℕ Global)) (a b c : List ℕ) → i < length lines
    → line ≡ get_or lines i line
    → found ≡ (if has_text (string_bytes line.cells) (texts_of (take i lines)) then None else all)
    → option_map_or (λ g. g.items) all [] ≡ inputs_of (map line_view lines) (string_bytes line.cells)
    → b ≡ a ++ rows_of inputs (map line_view lines) (texts_of (take i lines))
    → c ≡ b ++ option_map_or (λ g. table_row inputs (string_bytes line.cells) g.items) found []
    → c ≡ a ++ rows_of inputs (map line_view lines) (texts_of (take (i + 1) lines))
rows_next inputs lines i line all found a b c within at is own before one =
    let cells = string_bytes line.cells in
    let row = option_map_or (λ g. table_row inputs cells g.items) found [] in
    one ∙ ap (λ t. t ++ row) before
    ∙ append_assoc a (rows_of inputs (map line_view lines) (texts_of (take i lines))) row
    ∙ ap (λ rows. a ++ rows)
    (row_next inputs (map line_view lines) (texts_of (take i lines)) cells all found is own
    (some_input lines i line within at)
    ∙ sym (ap (rows_of inputs (map line_view lines)) (texts_more lines i line within at)))

-- a map without the cells of so many lines, and then without those of one more
pub left_more : {X : Type 0} (lines : List MarkdownLine) (i : ℕ) (line : MarkdownLine)
    (all old new : List ℕ → Option X) (cells q : List ℕ) → i < length lines → line ≡ get_or lines i line
    → cells ≡ string_bytes line.cells → old q ≡ (if has_text q (texts_of (take i lines)) then None else all q)
    → new q ≡ update bytes_eq old cells None q
    → new q ≡ (if has_text q (texts_of (take (i + 1) lines)) then None else all q)
left_more lines i line all old new cells q within at of before after =
    left_next all old new (texts_of (take i lines)) cells q before after
    ∙ ap (λ text. if has_text q (texts_of (take i lines) ++ text ∷ []) then None else all q) of
    ∙ sym (ap (λ texts. if has_text q texts then None else all q) (texts_more lines i line within at))

-- the rows of all lines are those of the table
pub rows_all : (inputs : List Input) (lines : List MarkdownLine) (i : ℕ) → length lines ≤ i
    → rows_of inputs (map line_view lines) (texts_of (take i lines)) ≡ table_rows inputs (map line_view lines)
rows_all inputs lines i all =
    ap (λ (ls : List MarkdownLine). rows_of inputs (map line_view lines) (texts_of ls)) (take_all i lines all)
    ∙ sym (ap (rows_of inputs (map line_view lines)) (map-map (λ line. line.cells) line_view lines))

-- the table of lines that are there
pub table_some : (inputs : List Input) (lines : List MarkdownLine) → 0 < length lines
    → heading ++ table_rows inputs (map line_view lines) ≡ table_of inputs (map line_view lines)
table_some inputs [] some = absurd (omega arith)
table_some inputs (line ∷ lines) some = refl

-- pieces that are joined
pub join_by-map : {A : Type 0} (f : A → List ℕ) (sep : List ℕ) (xs : List A)
    → join_by f sep xs ≡ join_by (λ piece. piece) sep (map f xs)
join_by-map f sep [] = refl
join_by-map f sep (x ∷ xs) = ap (λ text. f x ++ text) (sym (flat_map-map (λ piece. sep ++ piece) f xs))
