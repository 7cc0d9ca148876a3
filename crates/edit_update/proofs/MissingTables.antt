-- The first key that leads to no table, key by key; and empty tables.
use Rattle.std.proofs.Common.{◌≡◌, ℕ, suc, length, arith, true, false, ◌&&◌, ◌==◌, cond, List, [], ◌∷◌, Some, refl, ap, ◌∙◌}
use Rattle.edit_tree.specs.Assertions.{Place, at, key}
use Rattle.edit_document.specs.Items.{count_in, is_tabular}
use Rattle.edit_tree.specs.Tree.{View, string, truth, whole, fractional, moment, static_array, table_array, inline_table, table}
use Rattle.edit_update.specs.RemovedEntries.{is_empty_table, missing_below}
use Rattle.edit_manifest.specs.Tables.{Tree, is_table_like}

-- the key leads to a table, so the search goes on below it
pub missing_next : (t : Tree) (place : Place) (names : List (List ℕ)) (name : List ℕ) (rest : List (List ℕ))
    → names ≡ name ∷ rest → is_table_like (t (at place (key name))) ≡ true
    → missing_below t place names ≡ missing_below t (at place (key name)) rest
missing_next t place names name rest e is =
    ap (missing_below t place) e
    ∙ ap (λ b. cond b (missing_below t (at place (key name)) rest) (Some name)) is

-- the key leads to no table
pub missing_here : (t : Tree) (place : Place) (names : List (List ℕ)) (name : List ℕ) (rest : List (List ℕ))
    → names ≡ name ∷ rest → is_table_like (t (at place (key name))) ≡ false
    → missing_below t place names ≡ Some name
missing_here t place names name rest e is =
    ap (missing_below t place) e
    ∙ ap (λ b. cond b (missing_below t (at place (key name)) rest) (Some name)) is

-- one more is not none
pub more_than_none : (n : ℕ) → (suc n == 0) ≡ false
more_than_none n = grind arith

-- a table is empty exactly if it counts no keys
pub bare_count : (v : View) → (is_tabular v && (count_in v == 0)) ≡ is_empty_table (Some v)
bare_count (string s) = refl
bare_count (truth b) = refl
bare_count (whole s) = refl
bare_count (fractional s) = refl
bare_count (moment s) = refl
bare_count (static_array n) = refl
bare_count (table_array n) = refl
bare_count (inline_table []) = refl
bare_count (inline_table (m ∷ ms)) = more_than_none (length ms)
bare_count (table []) = refl
bare_count (table (m ∷ ms)) = more_than_none (length ms)
