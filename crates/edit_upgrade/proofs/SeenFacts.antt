-- The places of the version literals of the entries that get a row, and their fields.
use Rattle.std.proofs.Common.{◌≡◌, ◌∷◌, [], List, ℕ, Option, Some, None, true, false, refl, ap, ◌∙◌, sym, subst, inl, inr, ◌⊎◌}
use Rattle.std.specs.Prelude.{option_and_then, option_map}
use Rattle.std.specs.List.{AllByRecursion, cons_option, filter_map}
use Rattle.edit_syntax.specs.Grammar.{Text}
use Rattle.edit_tree.specs.Assertions.{Place, same_place}
use Rattle.edit_tree.specs.Replaces.{AreDistinct, AreStrings, is_string}
use Rattle.edit_tree.specs.DocumentViews.{DocumentViews, ShowsTree, tree_of}
use Rattle.edit_tree.specs.Tree.{string, view_at}
use Rattle.edit_version.specs.Requirement.{cut}
use Rattle.edit_record.specs.EntryRecords.{EntryRecord}
use Rattle.edit_manifest.specs.Tables.{Tree}
use Rattle.edit_manifest.specs.Entries.{Entry, entries, entry_at}
use Rattle.edit_manifest.proofs.EntriesApart.{Differ, IsEntryOf, entries-apart, entries-of, entry-literal, same_literal}
use Rattle.edit_manifest.proofs.EntryPlaces.{IsLiteral}
use Rattle.edit_manifest.proofs.RecordVersions.{version-stands}
use Rattle.edit_upgrade.specs.Records.{RowEntry, Source, row_entries, row_entry_at, row_entry_of, source_of, with_row}
use Rattle.edit_upgrade.specs.Rows.{Line, with_write, write_at, write_on, writes}
use Rattle.edit_report.specs.declared.row.Change.{Change}

-- ---- an entry that gets a row

-- what it is made of
pub record IsRowOf (e : Entry) (s : RowEntry) : Type 0 where
  pub r : EntryRecord
  pub source : Source
  pub said : e.said ≡ Some r
  pub is : s ≡ row_entry_at e r source

some-inj : (a b : RowEntry) → Some a ≡ Some b → a ≡ b
some-inj a b h = cc h

of-source : (e : Entry) (r : EntryRecord) (s : RowEntry) (o : Option Source) → e.said ≡ Some r
    → option_map (row_entry_at e r) o ≡ Some s → IsRowOf e s
of-source e r s None q h = cc h
of-source e r s (Some source) q h =
    record { r = r; source = source; said = q; is = sym (some-inj (row_entry_at e r source) s h) }

of-said : (e : Entry) (s : RowEntry) (o : Option EntryRecord) → e.said ≡ o
    → option_and_then (row_entry_of e) o ≡ Some s → IsRowOf e s
of-said e s None q h = cc h
of-said e s (Some r) q h = of-source e r s (source_of r) q h

pub row-of : (e : Entry) (s : RowEntry) → with_row e ≡ Some s → IsRowOf e s
row-of e s h = of-said e s e.said refl h

-- where the literal of an entry stands, and what its requirement is
pub record Stands (t : Tree) (s : RowEntry) : Type 0 where
  pub literal : IsLiteral s.literal
  pub there : (old : List ℕ) → s.old ≡ Some old
      → (text : List ℕ) × (t s.literal ≡ Some (string text)) × (old ≡ cut text)

entry-said : (t : Tree) (e : Entry) (k : IsEntryOf t [] e) (r : EntryRecord) → e.said ≡ Some r
    → (entry_at t [] k.table k.name).said ≡ Some r
entry-said t e k r h = sym (ap (λ (x : Entry). x.said) k.is) ∙ h

stands : (t : Tree) (e : Entry) (s : RowEntry) → IsEntryOf t [] e → with_row e ≡ Some s → Stands t s
stands t e s k h =
    let w = row-of e s h in
    let literal : s.literal ≡ e.literal = ap (λ (x : RowEntry). x.literal) w.is in
    record {
      literal = subst (λ (p : Place). IsLiteral p) (sym literal) (entry-literal t [] e k);
      there = λ old q.
          let v = version-stands t (entry_at t [] k.table k.name).place [] k.name old w.r
          (entry-said t e k w.r w.said)
          (sym (ap (λ (x : RowEntry). x.old) w.is) ∙ q) in
          (v.text, ap t (literal ∙ ap (λ (x : Entry). x.literal) k.is) ∙ v.there, v.is);
    }

-- ---- the selected items of a list

cons-all : {B : Type 0} (P : B → Type 0) (o : Option B) (bs : List B) → ((b : B) → o ≡ Some b → P b)
    → AllByRecursion P bs → AllByRecursion P (cons_option o bs)
cons-all P None bs h g = g
cons-all P (Some b) bs h g = (h b refl, g)

pub filtered-all : {A B : Type 0} (Q : A → Type 0) (P : B → Type 0) (f : A → Option B) (xs : List A)
    → AllByRecursion Q xs
    → ((x : A) (b : B) → Q x → f x ≡ Some b → P b) → AllByRecursion P (filter_map f xs)
filtered-all Q P f [] h g = tt
filtered-all Q P f (x ∷ xs) h g =
    cons-all P (f x) (filter_map f xs) (λ b e. g x b h.0 e) (filtered-all Q P f xs h.1 g)

pub mapped-all : {A : Type 0} (P Q : A → Type 0) (xs : List A) → ((x : A) → P x → Q x) → AllByRecursion P xs
    → AllByRecursion Q xs
mapped-all P Q [] f h = tt
mapped-all P Q (x ∷ xs) f h = (f x h.0, mapped-all P Q xs f h.1)

-- the literals of all entries that get a row
pub seen-stands : (t : Tree) → AllByRecursion (Stands t) (row_entries t)
seen-stands t = filtered-all (IsEntryOf t []) (Stands t) with_row (entries t []) (entries-of t [])
    (λ e s k h. stands t e s k h)

-- ---- literals that differ

abbrev pub AreApart : List RowEntry → Type 0
AreApart [] = Unit {0}
AreApart (e ∷ es) = AllByRecursion (λ f. same_place e.literal f.literal ≡ false) es × AreApart es

row-literal : (e : Entry) (s : RowEntry) → with_row e ≡ Some s → s.literal ≡ e.literal
row-literal e s h = ap (λ (x : RowEntry). x.literal) (row-of e s h).is

cons-apart : (e : Entry) (es : List Entry) (o : Option RowEntry) → with_row e ≡ o
    → AllByRecursion (λ f. same_literal e f ≡ false) es
    → AreApart (filter_map with_row es) → AreApart (cons_option o (filter_map with_row es))
cons-apart e es None q h g = g
cons-apart e es (Some s) q h g = (
  filtered-all (λ f. same_literal e f ≡ false) (λ r. same_place s.literal r.literal ≡ false) with_row es h
      (λ f r d k. ap (λ (p : Place). same_place p r.literal) (row-literal e s q)
      ∙ ap (same_place e.literal) (row-literal f r k) ∙ d),
  g,
)

rows-apart : (es : List Entry) → Differ same_literal es → AreApart (filter_map with_row es)
rows-apart [] h = tt
rows-apart (e ∷ es) h = cons-apart e es (with_row e) refl h.0 (rows-apart es h.1)

pub seen-apart : (form : Text) → AreApart (row_entries (view_at form))
seen-apart form = rows-apart (entries (view_at form) []) (entries-apart form [])

-- ---- what rows write

pub write-cases : (l : Place) (line : Line)
    → (write_at l line ≡ None) ⊎ ((text : List ℕ) × (write_at l line ≡ Some (l, text)))
write-cases l line = of-cases line.change line.new refl refl
  where
    of-cases : (c : Option Change) (n : Option (List ℕ)) → line.change ≡ c → line.new ≡ n
        → (write_at l line ≡ None) ⊎ ((text : List ℕ) × (write_at l line ≡ Some (l, text)))
    of-cases (Some kind) (Some text) p q = inr (text, rw (p, q) refl)
    of-cases (Some kind) None p q = inl (rw (p, q) refl)
    of-cases None n p q = inl (rw p refl)

-- an entry with a requirement, and what its row writes
pub record IsWrite (e : RowEntry) (line : Line) : Type 0 where
  pub old : List ℕ
  pub has : e.old ≡ Some old
  pub text : List ℕ
  pub is : write_on e line ≡ Some (e.literal, text)

pub on-cases : (e : RowEntry) (line : Line) → (write_on e line ≡ None) ⊎ IsWrite e line
on-cases e line = of-old e.old refl
  where
    of-old : (o : Option (List ℕ)) → e.old ≡ o → (write_on e line ≡ None) ⊎ IsWrite e line
    of-old None q = inl (rw q refl)
    of-old (Some old) q = elim (write-cases e.literal line) [
      | inl none ↦ inl (rw (q, none) refl)
      | inr some ↦ inr (record { old = old; has = q; text = some.0; is = rw (q, some.1) refl })
    ]

write-all : (P : Place → Type 0) (e : RowEntry) (line : Line) (ws : List (Place × List ℕ))
    → ((old : List ℕ) → e.old ≡ Some old → P e.literal)
    → AllByRecursion (λ w. P w.0) ws → AllByRecursion (λ w. P w.0) (with_write (write_on e line) ws)
write-all P e line ws p h = elim (on-cases e line) [
  | inl none ↦ subst (λ (o : Option (Place × List ℕ)). AllByRecursion (λ w. P w.0) (with_write o ws))
      (sym none) h
  | inr some ↦ subst (λ (o : Option (Place × List ℕ)). AllByRecursion (λ w. P w.0) (with_write o ws))
      (sym some.is) (p some.old some.has, h)
]

pub writes-all : (P : Place → Type 0) (es : List RowEntry) (ls : List Line)
    → AllByRecursion (λ e. (old : List ℕ) → e.old ≡ Some old → P e.literal) es
    → AllByRecursion (λ w. P w.0) (writes es ls)
writes-all P [] ls h = tt
writes-all P (e ∷ es) [] h = tt
writes-all P (e ∷ es) (l ∷ ls) h = write-all P e l (writes es ls) h.0 (writes-all P es ls h.1)

-- at each place that is written to, a string stands
pub writes-strings : (t : Tree) (ls : List Line) → AreStrings (writes (row_entries t) ls) t
writes-strings t ls =
    writes-all (λ (p : Place). is_string (t p) ≡ true) (row_entries t) ls
    (mapped-all (Stands t) (λ e. (old : List ℕ) → e.old ≡ Some old → is_string (t e.literal) ≡ true) (row_entries t)
    (λ e k old q. ap is_string (k.there old q).1) (seen-stands t))

-- each place that is written to is an entry's literal
pub writes-literals : (t : Tree) (ls : List Line) → AllByRecursion (λ w. IsLiteral w.0) (writes (row_entries t) ls)
writes-literals t ls =
    writes-all IsLiteral (row_entries t) ls
    (mapped-all (Stands t) (λ e. (old : List ℕ) → e.old ≡ Some old → IsLiteral e.literal) (row_entries t)
    (λ e k old q. k.literal) (seen-stands t))

write-distinct : (e : RowEntry) (line : Line) (ws : List (Place × List ℕ))
    → AllByRecursion (λ w. same_place e.literal w.0 ≡ false) ws → AreDistinct ws
    → AreDistinct (with_write (write_on e line) ws)
write-distinct e line ws h g = elim (on-cases e line) [
  | inl none ↦ subst (λ (o : Option (Place × List ℕ)). AreDistinct (with_write o ws)) (sym none) g
  | inr some ↦ subst (λ (o : Option (Place × List ℕ)). AreDistinct (with_write o ws)) (sym some.is) (h, g)
]

-- the places that are written to differ
pub writes-distinct : (es : List RowEntry) (ls : List Line) → AreApart es → AreDistinct (writes es ls)
writes-distinct [] ls h = tt
writes-distinct (e ∷ es) [] h = tt
writes-distinct (e ∷ es) (l ∷ ls) h =
    write-distinct e l (writes es ls)
    (writes-all (λ (p : Place). same_place e.literal p ≡ false) es ls
    (mapped-all (λ f. same_place e.literal f.literal ≡ false) (λ f. (old : List ℕ) → f.old ≡ Some old
    → same_place e.literal f.literal ≡ false) es
    (λ f d old q. d) h.0)) (writes-distinct es ls h.1)

-- ---- as the program has them

-- what rows write, over the entries that a document shows
pub shown-strings : (d : DocumentViews) (form : Text) (es : List RowEntry) (ls : List Line) (ws : List (Place × List ℕ))
    → ShowsTree d form → es ≡ row_entries (view_at form)
    → ws ≡ writes es ls → AreStrings ws (tree_of d)
shown-strings d form es ls ws h e w =
    let same : tree_of d ≡ view_at form = λ i p. h p i in
    subst (λ (t : Tree). AreStrings ws t) (sym same)
    (subst (λ (xs : List (Place × List ℕ)). AreStrings xs (view_at form))
    (sym (w ∙ ap (λ (x : List RowEntry). writes x ls) e)) (writes-strings (view_at form) ls))

pub shown-distinct : (form : Text) (es : List RowEntry) (ls : List Line) (ws : List (Place × List ℕ))
    → es ≡ row_entries (view_at form)
    → ws ≡ writes es ls → AreDistinct ws
shown-distinct form es ls ws e w =
    subst (λ (xs : List (Place × List ℕ)). AreDistinct xs) (sym w)
    (writes-distinct es ls (subst (λ (x : List RowEntry). AreApart x) (sym e) (seen-apart form)))
