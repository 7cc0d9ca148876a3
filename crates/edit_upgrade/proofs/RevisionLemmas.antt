-- Rows of inputs, one input after another, and what is written of them.
use Rattle.std.proofs.Common.{◌≡◌, ◌<◌, ◌≤◌, ◌∙◌, ℕ, List, [], ◌∷◌, ◌++◌, true, false, Option, Some, None, ap, arith, get_or, inl, inr, length, map, refl, subst, sym, take, ⊎_elim}
use Rattle.std.specs.Prelude.{◌==◌, All, IsUtf8, MatchOption, String, filter, if◌then◌else◌, slice_get, string_bytes}
use Rattle.std.proofs.lemmas.List.{append-nil, length-map, map-append}
use Rattle.std.proofs.lemmas.List.Elements.{All-head, All-tail, All-weaker, filter-append}
use Rattle.std.proofs.lemmas.Bool.{cases_Bool}
use Rattle.std.proofs.lemmas.Bool.Decides.{Decides-eqb}
use Rattle.edit_base.specs.Errors.{IsMemory}
use Rattle.edit_base.specs.declared.errors.Error.{Error}
use Rattle.edit_manifest.specs.Loaded.{IsBadManifest}
use Rattle.edit_syntax.specs.Grammar.{Text}
use Rattle.edit_tree.specs.Assertions.{IsDocument}
use Rattle.edit_tree.specs.DocumentViews.{DocumentViews, ShowsTree, tree_of}
use Rattle.edit_tree.specs.Tree.{view_at}
use Rattle.edit_tree.proofs.Shallow.{one_form}
use Rattle.edit_metadata.specs.Inputs.{path_of}
use Rattle.edit_metadata.specs.declared.input.Input.{Input}
use Rattle.edit_report.specs.declared.output.Output.{Output}
use Rattle.edit_report.specs.declared.row.Row.{Row}
use Rattle.edit_upgrade.specs.Drafts.{AreGiven, lines_on}
use Rattle.edit_upgrade.specs.Found.{row_entry_view}
use Rattle.edit_upgrade.specs.Lines.{line_of}
use Rattle.edit_upgrade.specs.Outputs.{HasOutputs, IsOnlyOutput, IsRewritten}
use Rattle.edit_upgrade.specs.PlannedView.{AreRowEntries}
use Rattle.edit_upgrade.specs.Records.{RowEntry, row_entries}
use Rattle.edit_upgrade.specs.Revisions.{AreFirstOutputs, AreUtf8, HasEnoughRows, HasRowEach, IsLongEnough}
use Rattle.edit_upgrade.specs.Rows.{Line, writes}
use Rattle.edit_upgrade.specs.declared.entries_with_rows.Entry.{Entry}
use Rattle.edit_upgrade.proofs.EndLemmas.{get-some}
use Rattle.edit_upgrade.proofs.PlanLemmas.{outputs-are}
use Rattle.edit_upgrade.proofs.PlannedLemmas.{same-seen}

-- the entries of a document that get a row
pub row_each : (d : DocumentViews) (es : List RowEntry) → (form : Text) × IsDocument d.bytes form
    → ((form : Text) → IsDocument d.bytes form → ShowsTree d form) → es ≡ row_entries (tree_of d)
    → HasRowEach d es
row_each d es f shows whole = record {
  form = f.0;
  manifest = f.1;
  tree = shows f.0 f.1;
  are = whole ∙ same-seen d f.0 (shows f.0 f.1);
}

-- they are those of its bytes
pub entries_of : (bytes : List ℕ) (d : DocumentViews) (es : List RowEntry) → d.bytes ≡ bytes
    → HasRowEach d es → AreRowEntries bytes es
entries_of bytes d es same has = record {
  form = has.form;
  manifest = subst (λ (x : List ℕ). IsDocument x has.form) same has.manifest;
  are = has.are;
}

pub one_count : (bytes : List ℕ) (m n : ℕ) → IsLongEnough bytes m → IsLongEnough bytes n → m ≡ n
one_count bytes m n a b =
    a.long ∙ ap (λ (f : Text). length (row_entries (view_at f))) (one_form bytes a.form b.form a.manifest b.manifest)
    ∙ sym b.long

-- there is a row for each entry of the document
pub entry_count : (bytes : List ℕ) (d : DocumentViews) (entries : List Entry) (rows : List Row) → d.bytes ≡ bytes
    → HasRowEach d (map row_entry_view entries) → HasEnoughRows bytes rows
    → IsLongEnough bytes (length entries) × (length entries ≤ length rows)
entry_count bytes d entries rows same has rows_are =
    let own : IsLongEnough bytes (length entries) = record {
      form = has.form;
      manifest = subst (λ (x : List ℕ). IsDocument x has.form) same has.manifest;
      long = sym (length-map entries row_entry_view) ∙ ap length has.are;
    } in
    let count = one_count bytes (length entries) rows_are.0 own rows_are.1 in
    (own, omega (arith, count, rows_are.2))

-- what is written of the first rows
pub first_outputs : {Y : Type 0} (input : Input) (here : List ℕ) (d : DocumentViews) (entries shown : List Entry)
    (rows first : List Row) (count : ℕ) (text : Option (String Y)) (outputs : List Output)
    → d.bytes ≡ input.bytes.items → here ≡ path_of input → HasRowEach d (map row_entry_view entries)
    → HasEnoughRows input.bytes.items rows → count ≡ length entries → shown ≡ entries → first ≡ take count rows
    → MatchOption text (writes (map row_entry_view shown) (map line_of first) ≡ [])
    (λ s. IsRewritten d (writes (map row_entry_view shown) (map line_of first)) (string_bytes s))
    → MatchOption text (outputs ≡ []) (λ s. IsOnlyOutput here (string_bytes s) outputs)
    → AreFirstOutputs input rows outputs count
first_outputs {Y} input here d entries shown rows first count text outputs same path has enough count_is shown_is
    first_is written only =
    let own = entry_count input.bytes.items d entries rows same has enough in
    let at = subst (λ (x : List ℕ). MatchOption text (outputs ≡ [])
    (λ s. IsOnlyOutput x (string_bytes s) outputs)) path only in
    let edits : writes (map row_entry_view shown) (map line_of first)
    ≡ writes (row_entries (view_at has.form)) (map line_of (take count rows)) =
    ap (λ (es : List Entry). writes (map row_entry_view es) (map line_of first)) shown_is
    ∙ ap (λ (rs : List Row). writes (map row_entry_view entries) (map line_of rs)) first_is
    ∙ ap (λ (es : List RowEntry). writes es (map line_of (take count rows))) has.are in
    record {
      long = subst (λ (n : ℕ). IsLongEnough input.bytes.items n) (sym count_is) own.0;
      within = omega (arith, count_is, own.1);
      are = record {
        form = has.form;
        manifest = subst (λ (x : List ℕ). IsDocument x has.form) same has.manifest;
        are = outputs-are (path_of input) input.bytes.items d _ text outputs same
            (subst (λ (ws : _). MatchOption text (ws ≡ []) (λ s. IsRewritten d ws (string_bytes s))) edits written)
            at;
      };
    }

-- ---- the rows of one input among all rows

-- rows of other inputs
no_lines : (i : ℕ) (rows : List Row) → All (λ row. (row.input == i) ≡ false) rows
    → lines_on i (map line_of rows) ≡ []
no_lines i [] none = refl
no_lines i (row ∷ rows) none =
    ap (λ b. if b then line_of row ∷ lines_on i (map line_of rows) else lines_on i (map line_of rows))
    (All-head (λ r. (r.input == i) ≡ false) row rows none)
    ∙ no_lines i rows (All-tail (λ r. (r.input == i) ≡ false) row rows none)

-- rows of this input
own_lines : (i : ℕ) (rows : List Row) → All (λ row. (row.input == i) ≡ true) rows
    → lines_on i (map line_of rows) ≡ map line_of rows
own_lines i [] own = refl
own_lines i (row ∷ rows) own =
    ap (λ b. if b then line_of row ∷ lines_on i (map line_of rows) else lines_on i (map line_of rows))
    (All-head (λ r. (r.input == i) ≡ true) row rows own)
    ∙ ap (λ ls. line_of row ∷ ls) (own_lines i rows (All-tail (λ r. (r.input == i) ≡ true) row rows own))

lines_append : (i : ℕ) (xs ys : List Row)
    → lines_on i (map line_of (xs ++ ys)) ≡ lines_on i (map line_of xs) ++ lines_on i (map line_of ys)
lines_append i xs ys =
    ap (filter (λ (line : Line). line.input == i)) (map-append line_of xs ys)
    ∙ filter-append (λ (line : Line). line.input == i) (map line_of xs) (map line_of ys)

-- a test of numbers that differ
differ : (m n : ℕ) → (m ≡ n → ⊥) → (m == n) ≡ false
differ m n h = elim (cases_Bool (m == n)) [
  | inl same ↦ absurd (h ((Decides-eqb m n).0 same))
  | inr other ↦ other
]

-- the rows of an input, which stand behind those of the inputs before it and before those of the later ones
pub lines_next : (i : ℕ) (before own later rows : List Row) → rows ≡ before ++ (own ++ later)
    → All (λ row. row.input < i) before → All (λ row. row.input ≡ i) own → All (λ row. i < row.input) later
    → lines_on i (map line_of rows) ≡ map line_of own
lines_next i before own later rows is low equal high =
    let none_before = no_lines i before (All-weaker (λ (row : Row). row.input < i)
    (λ (row : Row). (row.input == i) ≡ false) (λ row lt. differ row.input i (λ e. omega (arith, lt, e))) before low) in
    let none_later = no_lines i later (All-weaker (λ (row : Row). i < row.input)
    (λ (row : Row). (row.input == i) ≡ false) (λ row lt. differ row.input i (λ e. omega (arith, lt, e))) later high) in
    let all_own = own_lines i own (All-weaker (λ (row : Row). row.input ≡ i)
    (λ (row : Row). (row.input == i) ≡ true) (λ row e. (Decides-eqb row.input i).1 e) own equal) in
    ap (λ (rs : List Row). lines_on i (map line_of rs)) is
    ∙ lines_append i before (own ++ later)
    ∙ ap (λ (ls : List Line). ls ++ lines_on i (map line_of (own ++ later))) none_before
    ∙ lines_append i own later
    ∙ ap (λ (ls : List Line). lines_on i (map line_of own) ++ ls) none_later
    ∙ append-nil (lines_on i (map line_of own)) ∙ all_own

-- ---- inputs without documents

not_some : (d : DocumentViews) → None ≡ Some d → ⊥
not_some d h = cc h

-- an input without a document is UTF-8
pub utf8_at : (inputs : List Input) (documents : List DocumentViews) (i : ℕ) (x : Input)
    (o : Option DocumentViews) → AreGiven inputs documents → AreUtf8 inputs documents → i < length inputs
    → x ≡ get_or inputs i x → o ≡ slice_get documents i → o ≡ None → IsUtf8 x.bytes.items
utf8_at inputs documents i x o (inl none) utf8 low is at missing =
    subst (λ (y : Input). IsUtf8 y.bytes.items) (sym is) (utf8 none i x low)
utf8_at inputs documents i x o (inr same) utf8 low is at missing =
    let long : length documents ≡ length inputs = sym (length-map documents (λ (d : DocumentViews). d.bytes))
    ∙ ap length same ∙ length-map inputs (λ (input : Input). input.bytes.items) in
    let found = get-some documents i (omega (arith, low, long)) in
    absurd (not_some found.0 (sym missing ∙ at ∙ found.1))

-- a manifest that is UTF-8 is refused for lack of memory alone
pub readable : (bytes : List ℕ) (e : Error) (form : Text) → IsDocument bytes form → IsUtf8 bytes
    → IsBadManifest bytes e → IsMemory e
readable bytes e form is utf8 bad =
    ⊎_elim (λ text. absurd (text.1 utf8)) (λ rest. ⊎_elim (λ toml. absurd (toml.2 form is)) (λ memory. memory.0) rest)
    bad
