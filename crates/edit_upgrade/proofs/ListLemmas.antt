-- The names in rows after one more row, texts in a set, and the warnings about entries.
use Rattle.std.proofs.Common.{Global, subst, ◌≡◌, ◌∷◌, ◌++◌, ◌<◌, ◌+◌, [], List, ℕ, Bool, true, false, Option, Some, None, length, get_or, map, take, refl, ap, ◌∙◌, sym, append-nil}
use Rattle.std.specs.Prelude.{◌||◌, if◌then◌else◌, String, is_some, option_map, string_bytes, string_cmp}
use Rattle.std.specs.BTreeMap.{is_at}
use Rattle.std.specs.Cmp.Lexicographic.{slice_cmp}
use Rattle.std.specs.List.{cons_option, filter_map, list_any}
use Rattle.std.specs.List.Sorted.{IsStrictlySortedBy}
use Rattle.std.specs.Ordering.{nat_cmp}
use Rattle.std.specs.Str.{bytes_eq}
use Rattle.std.proofs.lemmas.List.Elements.{filter_map-append}
use Rattle.std.proofs.lemmas.List.Folds.{list_any-append}
use Rattle.std.proofs.lemmas.Map.Text.{is_eq-slice_cmp}
use Rattle.std.proofs.lemmas.Slice.Zip.{all_zipped_more}
use Rattle.edit_manifest.specs.Entries.{Entry}
use Rattle.edit_upgrade.proofs.Bytes.{same-swap}
use Rattle.edit_upgrade.proofs.Steps.{names-more}
use Rattle.edit_upgrade.specs.Lines.{line_of}
use Rattle.edit_upgrade.specs.Lists.{AreNames, AreWarnings, IsWarningOn, WarningView, changed_name, git_name, is_git}
use Rattle.edit_upgrade.specs.Rows.{Line}
use Rattle.edit_upgrade.specs.declared.decision.options.Options.{Options}
use Rattle.edit_report.specs.declared.row.Change.{Change}
use Rattle.edit_report.specs.declared.row.Row.{Row}

more-names : (f : Line → Option (List ℕ)) (rows : List Row) (i : ℕ) (row : Row) → i < length rows → row
    ≡ get_or rows i row
    → filter_map f (map line_of (take (i + 1) rows)) ≡ filter_map f (map line_of (take i rows)) ++
    cons_option (f (line_of row)) []
more-names f rows i row h e =
    ap (filter_map f) (names-more line_of rows i row h e) ∙ filter_map-append f (map line_of (take i rows))
    (line_of row ∷ [])

or-if : (a w : Bool) → (w || (a || false)) ≡ (if a then true else w)
or-if true true = refl
or-if true false = refl
or-if false true = refl
or-if false false = refl

-- a row that gives no name
pub set-unchanged : (f : Line → Option (List ℕ)) (rows : List Row) (i : ℕ) (row : Row) → i < length rows → row
    ≡ get_or rows i row → f (line_of row) ≡ None
    → (was : List ℕ → Bool) → ((name : List ℕ) → was name ≡ list_any (bytes_eq name)
    (filter_map f (map line_of (take i rows))))
    → (name : List ℕ) → was name ≡ list_any (bytes_eq name) (filter_map f (map line_of (take (i + 1) rows)))
set-unchanged f rows i row h e none was before name =
    let xs = filter_map f (map line_of (take i rows)) in
    before name
    ∙ sym (ap (list_any (bytes_eq name)) (more-names f rows i row h e
    ∙ ap (λ (o : Option (List ℕ)). xs ++ cons_option o []) none ∙ append-nil xs))

-- a row that gives a name, which was added
pub set-added : (f : Line → Option (List ℕ)) (rows : List Row) (i : ℕ) (row : Row) → i < length rows → row
    ≡ get_or rows i row
    → f (line_of row) ≡ Some (string_bytes row.name)
    → (was now : List ℕ → Bool) → ((name : List ℕ) → was name
    ≡ list_any (bytes_eq name) (filter_map f (map line_of (take i rows))))
    → (n : List ℕ) → n ≡ string_bytes row.name → ((name : List ℕ) → now name
    ≡ (if bytes_eq n name then true else was name))
    → (name : List ℕ) → now name ≡ list_any (bytes_eq name) (filter_map f (map line_of (take (i + 1) rows)))
set-added f rows i row h e one was now before n same added name =
    let xs = filter_map f (map line_of (take i rows)) in
    let own = string_bytes row.name in
    added name ∙ ap (λ (b : Bool). if bytes_eq n name then true else b) (before name)
    ∙ ap (λ (t : List ℕ). if bytes_eq t name then true else list_any (bytes_eq name) xs) same
    ∙ sym (ap (list_any (bytes_eq name)) (more-names f rows i row h e
    ∙ ap (λ (o : Option (List ℕ)). xs ++ cons_option o []) one)
    ∙ list_any-append (bytes_eq name) xs (own ∷ [])
    ∙ ap (λ (b : Bool). list_any (bytes_eq name) xs || (b || false)) (same-swap name own)
    ∙ or-if (bytes_eq own name) (list_any (bytes_eq name) xs))

-- the name of a row with a change, and of one without
pub changed-some : (row : Row) → is_some row.change ≡ true → changed_name (line_of row)
    ≡ Some (string_bytes row.name)
changed-some row h = by row.change h
  where
    by : (o : Option Change) → is_some o ≡ true → option_map (λ (kind : Change). string_bytes row.name) o
        ≡ Some (string_bytes row.name)
    by None q = cc q
    by (Some kind) q = refl

pub changed-none : (row : Row) → is_some row.change ≡ false → changed_name (line_of row) ≡ None
changed-none row h = by row.change h
  where
    by : (o : Option Change) → is_some o ≡ false → option_map (λ (kind : Change). string_bytes row.name) o
        ≡ None
    by None q = refl
    by (Some kind) q = cc q

-- the name of a row of a repository, and of another one
pub git-some : (row : Row) → is_git row.reason ≡ true → git_name (line_of row) ≡ Some (string_bytes row.name)
git-some row h = rw h refl

pub git-none : (row : Row) → is_git row.reason ≡ false → git_name (line_of row) ≡ None
git-none row h = rw h refl

-- ---- warnings

-- the warnings on an entry more
pub warned-more : (o : Options) (i : ℕ) (es : List Entry) (ts new : List WarningView) (e : Entry)
    (result : Option WarningView)
    → AreWarnings o i es ts → IsWarningOn o i e result
    → new ≡ ts ++ cons_option result [] → AreWarnings o i (es ++ e ∷ []) new
warned-more o i es ts new e result a w n = record {
  each = a.each ++ result ∷ [];
  on = all_zipped_more (IsWarningOn o i) es a.each e result a.on w;
  all = n ∙ ap (λ (l : List WarningView). l ++ cons_option result []) a.all
      ∙ sym (filter_map-append (λ (o : Option WarningView). o) a.each (result ∷ []));
}

pub warned-none : (o : Options) (i : ℕ) (ts : List WarningView) → ts ≡ [] → AreWarnings o i [] ts
warned-none o i ts h = record { each = []; on = tt; all = h }

-- whether a text is among texts, by a set of them
pub text-any : {Y : Type 0} (name : List ℕ) (ks : List (String Y))
    → list_any (bytes_eq name) (map string_bytes ks) ≡ list_any
    (is_at (λ (k : String Y). slice_cmp nat_cmp name (string_bytes k))) ks
text-any name [] = refl
text-any name (k ∷ ks) =
    ap (λ (b : Bool). b || list_any (bytes_eq name) (map string_bytes ks))
    (sym (is_eq-slice_cmp name (string_bytes k)))
    ∙ ap (λ (b : Bool). is_at (λ x. slice_cmp nat_cmp name (string_bytes x)) k || b) (text-any name ks)

-- no names
none-ordered : IsStrictlySortedBy {K = String Global} string_cmp []
unfolding IsStrictlySortedBy
none-ordered = tt

pub no-names : (result : List (String Global)) → result ≡ [] → AreNames [] result
no-names result e =
    let none : AreNames [] [] = record { ordered = none-ordered; each = λ name. refl } in
    subst (λ (names : List (String Global)). AreNames [] names) (sym e) none
