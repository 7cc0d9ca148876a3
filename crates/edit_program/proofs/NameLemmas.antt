-- Names in a set, in a line and in a note, by their texts.
use Rattle.std.proofs.Common.{◌≡◌, ◌∙◌, ◌≤◌, ℕ, true, false, Ordering, Less, Equal, Greater, List, [], ◌∷◌, ◌++◌, ap, arith, length, map, refl, string_bytes, sym}
use Rattle.std.specs.Prelude.{String, codes, if◌then◌else◌}
use Rattle.std.specs.BTreeSet.{insert_key}
use Rattle.std.specs.Fmt.{decimal}
use Rattle.std.specs.List.{flat_map, join_by}
use Rattle.std.specs.Ordering.{match_ordering}
use Rattle.std.specs.Str.{bytes_eq}
use Rattle.std.specs.String.{string_cmp}
use Rattle.std.specs.declared.alloc.Global.{Global}
use Rattle.std.proofs.lemmas.Bool.{le-leb}
use Rattle.std.proofs.lemmas.List.{length-map}
use Rattle.edit_report.specs.Table.{name_text}
use Rattle.edit_report.specs.declared.row.Row.{Row}
use Rattle.edit_program.specs.StderrText.{add_name, names_text, reason_in_notes, with_name}

-- one name more in a set
inserted : (names : List (String Global)) (name : String Global)
    → map string_bytes (insert_key string_cmp names name) ≡ with_name (map string_bytes names) (string_bytes name)
inserted [] name = refl
inserted (x ∷ xs) name = by_order (string_cmp name x) (inserted xs name)
  where
    by_order : (o : Ordering)
        → map string_bytes (insert_key string_cmp xs name) ≡ with_name (map string_bytes xs) (string_bytes name)
        → map string_bytes (match_ordering o (name ∷ x ∷ xs) (x ∷ xs) (x ∷ insert_key string_cmp xs name))
        ≡ match_ordering o (string_bytes name ∷ map string_bytes (x ∷ xs)) (map string_bytes (x ∷ xs))
        (string_bytes x ∷ with_name (map string_bytes xs) (string_bytes name))
    by_order Less rest = refl
    by_order Equal rest = refl
    by_order Greater rest = ap (λ ys. string_bytes x ∷ ys) rest

-- the set with the name of a row of this reason
pub name_added : (reason : List ℕ) (row : Row) (old new : List (String Global)) (name : String Global)
    → bytes_eq (reason_in_notes row) reason ≡ true
    → string_bytes name ≡ name_text (string_bytes row.name) row.rename
    → new ≡ insert_key string_cmp old name → map string_bytes new ≡ add_name reason (map string_bytes old) row
name_added reason row old new name same text inserted_values =
    let named = name_text (string_bytes row.name) row.rename in
    ap (map string_bytes) inserted_values ∙ inserted old name
    ∙ ap (with_name (map string_bytes old)) text
    ∙ sym (ap (λ b. if b then with_name (map string_bytes old) named else map string_bytes old) same)

-- the set at a row of another reason
pub name_unchanged : (reason : List ℕ) (row : Row) (old new : List (String Global))
    → bytes_eq (reason_in_notes row) reason ≡ false → new ≡ old
    → map string_bytes new ≡ add_name reason (map string_bytes old) row
name_unchanged reason row old new other unchanged =
    let named = name_text (string_bytes row.name) row.rename in
    ap (map string_bytes) unchanged
    ∙ sym (ap (λ b. if b then with_name (map string_bytes old) named else map string_bytes old) other)

-- names in a row
pub joined_names : (sep : List ℕ) (names : List (String Global))
    → join_by string_bytes sep names ≡ join_by (λ name. name) sep (map string_bytes names)
joined_names sep [] = refl
joined_names sep (x ∷ xs) = ap (λ text. string_bytes x ++ text) (rest xs)
  where
    rest : (ys : List (String Global))
        → flat_map (λ y. sep ++ string_bytes y) ys ≡ flat_map (λ name. sep ++ name) (map string_bytes ys)
    rest [] = refl
    rest (y ∷ ys) = ap (λ text. (sep ++ string_bytes y) ++ text) (rest ys)

-- at most three names in a line
pub few_names : (names : List (String Global)) → length names ≤ 3
    → join_by string_bytes (codes ", ") names ≡ names_text (map string_bytes names)
few_names names few =
    let count = length-map names string_bytes in
    let is_few = le-leb (length (map string_bytes names)) 3 (omega (arith, few, count)) in
    joined_names (codes ", ") names
    ∙ sym (ap (λ b. if b then join_by (λ name. name) (codes ", ") (map string_bytes names)
    else (decimal (length (map string_bytes names)) ++ codes " packages")) is_few)
