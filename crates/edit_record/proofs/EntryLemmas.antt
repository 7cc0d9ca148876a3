-- The checks while an entry is read: how they continue, and where they stop.
use Rattle.std.proofs.Common.{◌≡◌, ℕ, zero, suc, ◌+◌, ◌-◌, ◌<◌, true, false, List, [], ◌∷◌, ◌++◌, Some, None, Result, Ok, Err, codes, refl, ap, ◌∙◌, inl, inr, arith, append-nil, add-zero, add-suc}
use Rattle.edit_base.specs.declared.errors.Error.{Error}
use Rattle.edit_tree.specs.Assertions.{Step, Place, at, index}
use Rattle.edit_document.specs.ItemViews.{document_of, place_of}
use Rattle.edit_document.specs.Items.{is_static_array, is_tabular, string_in, truth_in, type_name_of}
use Rattle.edit_document.specs.declared.item.Item.{Item}
use Rattle.edit_tree.specs.DocumentViews.{DocumentViews, tree_of}
use Rattle.edit_tree.specs.Tree.{View, string, truth, static_array, inline_table, table}
use Rattle.edit_record.specs.EntryRecords.{EntryError, wrong_type, workspace_false, unknown_entry}
use Rattle.edit_record.specs.ReadEntries.{Tree, below, and_then, entry_record, feature_texts, first_texts, table_record, text_of, true_workspace}
use Rattle.edit_record.specs.RecordViews.{IsErrorOfResult, IsErrorOf, item_tree}

-- an error of a result
pub error_of_result : {A : Type 0} (r : EntryError) (result : Result A EntryError) (e : Error) →
    result ≡ Err r → IsErrorOf r e → IsErrorOfResult result e
error_of_result r result e is tells = inr (r, is, tells)

-- an error is not changed by what follows
pub failure_stays : {A B : Type 0} (result : Result A EntryError) (f : A → Result B EntryError) (e : Error) →
    IsErrorOfResult result e → IsErrorOfResult (and_then result f) e
failure_stays result f e (inl memory) = inl memory
failure_stays result f e (inr h) = inr (h.0, ap (λ x. and_then x f) h.1, h.2)

-- an error of what follows a value
pub failure_past : {A B : Type 0} (result : Result A EntryError) (f : A → Result B EntryError) (x : A) (e : Error) →
    result ≡ Ok x → IsErrorOfResult (f x) e → IsErrorOfResult (and_then result f) e
failure_past result f x e is refused = rw is refused

-- ---- members

-- a member that is no string
pub no_text : (dep name : List ℕ) (v : View) (e : Error) → None ≡ string_in v →
    IsErrorOf (wrong_type (type_name_of v) name (codes "string") dep) e → IsErrorOfResult (text_of dep name v) e
no_text dep name v e none tells =
    rw (← none) (inr (wrong_type (type_name_of v) name (codes "string") dep, refl, tells))

-- the tree below a key, as part of the entry's own tree
pub shown_below : (d : DocumentViews) (p : Place) (s : Step) →
    below (tree_of d) (at p s) ≡ below (below (tree_of d) p) (s ∷ [])
shown_below d [] s = refl
shown_below d (x ∷ p) s = λ i rest. tree_of d (x ∷ (long p rest i))
  where
    long : (q : Place) (rest : Place) → (q ++ s ∷ []) ++ rest ≡ q ++ (s ∷ rest)
    long [] rest = refl
    long (y ∷ q) rest = λ i. y ∷ long q rest i

-- ---- elements

-- one more element
pub next_text : (t : Tree) (dep : List ℕ) (n : ℕ) (ss : List (List ℕ)) (v : View) (s : List ℕ) →
    first_texts t dep n ≡ Ok ss → t (index n ∷ []) ≡ Some v → text_of dep (codes "features") v ≡ Ok s →
    first_texts t dep (suc n) ≡ Ok (ss ++ s ∷ [])
next_text t dep n ss v s first there is = rw (first, there, is) refl

-- no element stands there
pub no_element : (t : Tree) (dep : List ℕ) (n : ℕ) (ss : List (List ℕ)) →
    first_texts t dep n ≡ Ok ss → t (index n ∷ []) ≡ None → first_texts t dep (suc n) ≡ Ok ss
no_element t dep n ss first absent = rw (first, absent) (ap Ok (append-nil ss))

-- an error among the first elements is the error among more
pub refused_later : (t : Tree) (dep : List ℕ) (k j : ℕ) (r : EntryError) →
    first_texts t dep k ≡ Err r → first_texts t dep (k + j) ≡ Err r
refused_later t dep k zero r e = rw add-zero e
refused_later t dep k (suc j) r e = rw (add-suc k j) (rw (refused_later t dep k j r e) refl)

-- an element that is no string
pub wrong_element : (t : Tree) (dep : List ℕ) (n m : ℕ) (ss : List (List ℕ)) (v : View) (e : Error) →
    first_texts t dep n ≡ Ok ss → t (index n ∷ []) ≡ Some v →
    IsErrorOfResult (text_of dep (codes "features") v) e → n < m → IsErrorOfResult (first_texts t dep m) e
wrong_element t dep n m ss v e first there (inl memory) lt = inl memory
wrong_element t dep n m ss v e first there (inr h) lt =
    let more : m ≡ suc n + (m - suc n) = omega arith in
    let here : first_texts t dep (suc n) ≡ Err h.0 = rw (first, there, h.1) refl in
    inr (h.0, ap (first_texts t dep) more ∙ refused_later t dep (suc n) (m - suc n) h.0 here, h.2)

-- ---- values of a wrong type

-- no array
pub no_array : (t : Tree) (dep : List ℕ) (v : View) (e : Error) → is_static_array v ≡ false →
    IsErrorOf (wrong_type (type_name_of v) (codes "features") (codes "array") dep) e →
    IsErrorOfResult (feature_texts t dep v) e
no_array t dep (static_array n) e is tells = absurd (cc)
no_array t dep v e is tells =
    inr (wrong_type (type_name_of v) (codes "features") (codes "array") dep, refl, tells)

-- not true
pub false_workspace : (dep : List ℕ) (v : View) (e : Error) → Some false ≡ truth_in v →
    IsErrorOf (workspace_false dep) e → IsErrorOfResult (true_workspace dep v) e
false_workspace dep (truth true) e is tells = absurd (cc)
false_workspace dep (truth false) e is tells = inr (workspace_false dep, refl, tells)
false_workspace dep v e is tells = absurd (cc)

-- no boolean
pub no_truth : (dep : List ℕ) (v : View) (e : Error) → None ≡ truth_in v →
    IsErrorOf (wrong_type (type_name_of v) (codes "workspace") (codes "bool") dep) e →
    IsErrorOfResult (true_workspace dep v) e
no_truth dep (truth b) e is tells = absurd (cc)
no_truth dep v e is tells =
    inr (wrong_type (type_name_of v) (codes "workspace") (codes "bool") dep, refl, tells)

-- neither a string nor a table
pub no_entry : (t : Tree) (root dep : List ℕ) (v : View) (e : Error) → None ≡ string_in v →
    is_tabular v ≡ false → IsErrorOf (unknown_entry dep) e → IsErrorOfResult (entry_record t root dep (Some v)) e
no_entry t root dep (string s) e none flat tells = absurd (cc)
no_entry t root dep (table members) e none flat tells = absurd (cc)
no_entry t root dep (inline_table members) e none flat tells = absurd (cc)
no_entry t root dep v e none flat tells = inr (unknown_entry dep, refl, tells)

-- a table
pub table_entry : (t : Tree) (root dep : List ℕ) (v : View) → is_tabular v ≡ true →
    entry_record t root dep (Some v) ≡ table_record t root dep
table_entry t root dep (table members) is = refl
table_entry t root dep (inline_table members) is = refl
table_entry t root dep v is = absurd cc

-- ---- trees

-- the tree of a key's value is the part of the entry's tree below that key
pub member_tree : (i : Item) (d : DocumentViews) (p : Place) (s : Step) → document_of i ≡ d
    → place_of i ≡ at p s →
    item_tree i ≡ below (below (tree_of d) p) (s ∷ [])
member_tree i d p s same there = (λ j. below (tree_of (same j)) (there j)) ∙ shown_below d p s
