-- The rows that change, numbered one after the other.
use Rattle.std.proofs.Common.{◌≡◌, ◌∙◌, ℕ, ◌<◌, ◌+◌, Bool, true, false, List, [], ◌∷◌, ◌++◌, ap, append_assoc, append-nil, arith, cond, get_or, length, suc, sym, take}
use Rattle.std.specs.Prelude.{filter, is_some}
use Rattle.std.proofs.lemmas.List.{length_push, take_more}
use Rattle.std.proofs.lemmas.List.Elements.{filter-append}
use Rattle.std.proofs.Math.Nat.{zero-add}
use Rattle.edit_metadata.specs.declared.input.Input.{Input}
use Rattle.edit_report.specs.declared.row.Row.{Row}
use Rattle.edit_shown.specs.Numbered.{numbered, numbered_from, numbered_line}

-- the rows among these that change
abbrev pub changed : List Row → List Row
changed rows = filter (λ row. is_some row.change) rows

-- one row more is one of them if it changes
changed-more : (rows : List Row) (i : ℕ) (row : Row) (b : Bool) → i < length rows → row ≡ get_or rows i row
    → is_some row.change ≡ b → changed (take (i + 1) rows) ≡ changed (take i rows) ++ cond b (row ∷ []) []
changed-more rows i row b within is changes =
    ap changed (take_more rows i row within)
    ∙ filter-append (λ (r : Row). is_some r.change) (take i rows) (get_or rows i row ∷ [])
    ∙ sym (ap (λ r. changed (take i rows) ++ cond (is_some r.change) (r ∷ []) []) is)
    ∙ ap (λ c. changed (take i rows) ++ cond c (row ∷ []) []) changes

-- a row that changes is the next of them
pub changed-one : (rows : List Row) (i : ℕ) (row : Row) → i < length rows → row ≡ get_or rows i row
    → is_some row.change ≡ true → changed (take (i + 1) rows) ≡ changed (take i rows) ++ row ∷ []
changed-one rows i row within is changes = changed-more rows i row true within is changes

-- a row that does not change is none of them
pub changed-none : (rows : List Row) (i : ℕ) (row : Row) → i < length rows → row ≡ get_or rows i row
    → is_some row.change ≡ false → changed (take (i + 1) rows) ≡ changed (take i rows)
changed-none rows i row within is changes =
    changed-more rows i row false within is changes ∙ append-nil (changed (take i rows))

-- and so there is one more of them
pub counted-one : (rows : List Row) (i : ℕ) (row : Row) → i < length rows → row ≡ get_or rows i row
    → is_some row.change ≡ true → length (changed (take (i + 1) rows)) ≡ length (changed (take i rows)) + 1
counted-one rows i row within is changes =
    ap length (changed-one rows i row within is changes) ∙ length_push (changed (take i rows)) row

-- the last of rows has the first one's number and as many more as stand before it
numbered_from-append : (number : ℕ) (root : List ℕ) (inputs : List Input) (rows : List Row) (row : Row)
    → numbered_from number root inputs (rows ++ row ∷ [])
    ≡ numbered_from number root inputs rows ++ numbered_line (length rows + number) root inputs row
numbered_from-append number root inputs [] row =
    append-nil (numbered_line number root inputs row)
    ∙ ap (λ n. numbered_line n root inputs row) (sym (zero-add number))
numbered_from-append number root inputs (first ∷ rows) row =
    let line = numbered_line number root inputs first in
    let counted : length rows + suc number ≡ length (first ∷ rows) + number = omega arith in
    ap (λ ls. line ++ ls) (numbered_from-append (suc number) root inputs rows row
    ∙ ap (λ n. numbered_from (suc number) root inputs rows ++ numbered_line n root inputs row) counted)
    ∙ sym (append_assoc line (numbered_from (suc number) root inputs rows)
    (numbered_line (length (first ∷ rows) + number) root inputs row))

-- the lines of the rows so far, and that of a row more
pub numbered-more : (root : List ℕ) (inputs : List Input) (rows : List Row) (i : ℕ) (row : Row)
    (number : ℕ) → i < length rows → row ≡ get_or rows i row
    → is_some row.change ≡ true → number ≡ length (changed (take i rows)) + 1
    → numbered root inputs (take i rows) ++ numbered_line number root inputs row
    ≡ numbered root inputs (take (i + 1) rows)
numbered-more root inputs rows i row number within is changes counted =
    let front = changed (take i rows) in
    ap (λ n. numbered_from 1 root inputs front ++ numbered_line n root inputs row) counted
    ∙ sym (numbered_from-append 1 root inputs front row)
    ∙ sym (ap (numbered_from 1 root inputs) (changed-one rows i row within is changes))
