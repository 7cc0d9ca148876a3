-- The entries of a tree after strings were written at version literals: the same entries, with the new
-- versions.
use Rattle.std.proofs.Common.{◌≡◌, ℕ, List, [], ◌∷◌, ◌++◌, map, Bool, true, false, Option, Some, None, Result, Ok, Err, refl, ap, sym, ◌∙◌, append-nil}
use Rattle.std.specs.Prelude.{codes, if◌then◌else◌, option_map}
use Rattle.std.specs.List.{AllByRecursion, flat_map}
use Rattle.std.specs.Result.{result_ok}
use Rattle.std.proofs.lemmas.List.{map-append}
use Rattle.edit_tree.specs.Assertions.{Place, at, key, same_place}
use Rattle.edit_tree.specs.Replaces.{AreStrings, Edits, is_string, new_text, tree_with_strings}
use Rattle.edit_tree.specs.Tree.{View, fractional, inline_table, moment, static_array, string, table, table_array, truth, whole}
use Rattle.edit_tree.proofs.SamePlace.{same_place_is}
use Rattle.edit_version.specs.Requirement.{cut}
use Rattle.edit_record.specs.EntryRecords.{EntryRecord, EntryError}
use Rattle.edit_record.specs.ReadEntries.{below, entry_record, ok_map, record_of, table_record}
use Rattle.edit_manifest.specs.Tables.{Tree, dependency_tables, member_names}
use Rattle.edit_manifest.specs.Entries.{Entry, entries, entries_of, entry_at, literal_at, version_place}
use Rattle.edit_manifest.proofs.EntryPlaces.{IsLiteral, IsOther, IsTable, literal-other, tables-all}
use Rattle.edit_manifest.proofs.RecordVersions.{patched, table-versioned, versioned}
use Rattle.edit_manifest.proofs.TablesAfter.{view_after, written-by, string-only, stays, same-names, same-like, same-string, same-tables}

-- ---- one entry

-- a tree is the patched one of any that agrees with it but at its root and at the member `version`
patch : (b u : Tree) → ((rest : Place) → IsOther rest → u rest ≡ b rest)
    → u ≡ patched b (u []) (u (key (codes "version") ∷ []))
patch b u h = λ i rest. at-rest rest i
  where
    by-version : (rest : Place) → same_place [] rest ≡ false → (c : Bool)
        → same_place (key (codes "version") ∷ []) rest ≡ c
        → u rest ≡ (if c then u (key (codes "version") ∷ []) else b rest)
    by-version rest fails true e = ap u (sym (same_place_is (key (codes "version") ∷ []) rest e))
    by-version rest fails false e = h rest (record { whole = fails; version = e })

    by-root : (rest : Place) (c : Bool) → same_place [] rest ≡ c
        → u rest ≡ (if c then u [] else
        (if same_place (key (codes "version") ∷ []) rest then u (key (codes "version") ∷ []) else b rest))
    by-root rest true e = ap u (sym (same_place_is [] rest e))
    by-root rest false e = by-version rest e (same_place (key (codes "version") ∷ []) rest) refl

    at-rest : (rest : Place) → u rest ≡ patched b (u []) (u (key (codes "version") ∷ [])) rest
    at-rest rest = by-root rest (same_place [] rest) refl

-- strings written at version literals change nothing below an entry except the entry itself and its key
-- `version`
below-same : (ws : Edits) (t : Tree) (base : Place) (name : List ℕ) (rest : Place)
    → AllByRecursion (λ w. IsLiteral w.0) ws → IsTable base → IsOther rest
    → below (tree_with_strings ws t) (at base (key name)) rest ≡ below t (at base (key name)) rest
below-same [] t base name rest l is o = refl
below-same (w ∷ ws) t base name rest l is o =
    rw (literal-other w.0 base name rest l.0 is o) (below-same ws t base name rest l.1 is o)

-- the result of reading an entry after a string was written at its version literal
abbrev pub said_after : Option (List ℕ) → Option EntryRecord → Option EntryRecord
said_after None said = said
said_after (Some text) said = option_map (versioned (cut text)) said

ok-mapped : (f : EntryRecord → EntryRecord) (m : Result EntryRecord EntryError)
    → result_ok (ok_map f m) ≡ option_map f (result_ok m)
ok-mapped f (Ok x) = refl
ok-mapped f (Err r) = refl

-- a table, given what was written at its `version`
table-by : (b : Tree) (root name : List ℕ) (o v : Option View) (n : Option (List ℕ))
    → (is_string v ≡ false → n ≡ None)
    → result_ok (table_record (patched b o (view_after n v)) root name) ≡ said_after n
    (result_ok (table_record (patched b o v) root name))
table-by b root name o v None h = refl
table-by b root name o (Some (string s)) (Some text) h =
    ap result_ok (table-versioned b o root name s text)
    ∙ ok-mapped (versioned (cut text)) (table_record (patched b o (Some (string s))) root name)
table-by b root name o None (Some text) h = cc (h refl)
table-by b root name o (Some (truth x)) (Some text) h = cc (h refl)
table-by b root name o (Some (whole x)) (Some text) h = cc (h refl)
table-by b root name o (Some (fractional x)) (Some text) h = cc (h refl)
table-by b root name o (Some (moment x)) (Some text) h = cc (h refl)
table-by b root name o (Some (static_array x)) (Some text) h = cc (h refl)
table-by b root name o (Some (table_array x)) (Some text) h = cc (h refl)
table-by b root name o (Some (inline_table x)) (Some text) h = cc (h refl)
table-by b root name o (Some (table x)) (Some text) h = cc (h refl)

abbrev record_in : Tree → List ℕ → Place → List ℕ → Option EntryRecord
record_in t root place name = result_ok (record_of t place root name)

-- an entry that is a table
table-after : (ws : Edits) (t : Tree) (root : List ℕ) (base : Place) (name : List ℕ) → AreStrings ws t
    → AllByRecursion (λ w. IsLiteral w.0) ws → IsTable base
    → is_string (t (at base (key name))) ≡ false
    → result_ok (table_record (below (tree_with_strings ws t) (at base (key name))) root name)
    ≡ said_after (new_text ws (version_place (at base (key name))))
    (result_ok (table_record (below t (at base (key name))) root name))
table-after ws t root base name strings l is fails =
    let entry = at base (key name) in
    let b = below t entry in
    let u = below (tree_with_strings ws t) entry in
    let v = key (codes "version") ∷ [] in
    let other : (rest : Place) → IsOther rest → u rest ≡ b rest = λ rest o. below-same ws t base name rest l
    is o in
    let top : u [] ≡ b [] =
    ap (tree_with_strings ws t) (append-nil entry) ∙ stays ws t entry strings fails ∙ ap t (sym (append-nil entry)) in
    let version : u v ≡ view_after (new_text ws (version_place entry)) (b v) = written-by ws t
    (version_place entry) in
    let new : u ≡ patched b (b []) (view_after (new_text ws (version_place entry)) (b v)) =
    patch b u other ∙ ap (λ (o : Option View). patched b o (u v)) top
    ∙ ap (λ (o : Option View). patched b (b []) o) version in
    let old : b ≡ patched b (b []) (b v) = patch b b (λ rest o. refl) in
    ap (λ (x : Tree). result_ok (table_record x root name)) new
    ∙ table-by b root name (b []) (b v) (new_text ws (version_place entry))
    (λ none. string-only ws t (version_place entry) strings none)
    ∙ ap (λ (x : Tree). said_after (new_text ws (version_place entry))
    (result_ok (table_record x root name))) (sym old)

nothing-after : (o : Option (List ℕ)) → said_after o None ≡ None
nothing-after None = refl
nothing-after (Some text) = refl

-- an item that is neither a string nor a table is unsupported, also after strings were written
unsaid : (ws : Edits) (t : Tree) (root : List ℕ) (base : Place) (name : List ℕ) → AreStrings ws t
    → (v : Option View) → t (at base (key name)) ≡ v
    → is_string v ≡ false → ((u : Tree) → result_ok
    (entry_record (below u (at base (key name))) root name v) ≡ None)
    → record_in (tree_with_strings ws t) root (at base (key name)) name
    ≡ said_after (new_text ws (literal_at t (at base (key name))))
    (record_in t root (at base (key name)) name)
unsaid ws t root base name strings v e fails none =
    let entry = at base (key name) in
    let o = new_text ws (literal_at t entry) in
    ap (λ (x : Option View). result_ok (entry_record (below (tree_with_strings ws t) entry) root name x))
    (stays ws t entry strings (ap is_string e ∙ fails) ∙ e)
    ∙ none (tree_with_strings ws t) ∙ sym (nothing-after o)
    ∙ sym (ap (said_after o)
    (ap (λ (x : Option View). result_ok (entry_record (below t entry) root name x)) e ∙ none t))

-- the result of reading any entry after strings were written at version literals
said-by : (ws : Edits) (t : Tree) (root : List ℕ) (base : Place) (name : List ℕ) → AreStrings ws t
    → AllByRecursion (λ w. IsLiteral w.0) ws → IsTable base
    → (v : Option View) → t (at base (key name)) ≡ v
    → record_in (tree_with_strings ws t) root (at base (key name)) name
    ≡ said_after (new_text ws (literal_at t (at base (key name))))
    (record_in t root (at base (key name)) name)
said-by ws t root base name strings l is (Some (string s)) e =
    let entry = at base (key name) in
    let here : literal_at t entry ≡ entry = rw e refl in
    ap (λ (v : Option View). result_ok (entry_record (below (tree_with_strings ws t) entry) root name v))
    (written-by ws t entry ∙ ap (view_after (new_text ws entry)) e)
    ∙ of-new (new_text ws entry)
    ∙ sym (ap (λ (p : Place). said_after (new_text ws p) (record_in t root entry name)) here)
  where
    of-new : (n : Option (List ℕ))
        → result_ok
        (entry_record (below (tree_with_strings ws t) (at base (key name))) root name (view_after n (Some (string s))))
        ≡ said_after n (record_in t root (at base (key name)) name)
    of-new None =
        sym (ap (λ (v : Option View). result_ok (entry_record (below t (at base (key name))) root name v)) e)
    of-new (Some text) =
        sym (ap
        (λ (v : Option View). said_after (Some text)
        (result_ok (entry_record (below t (at base (key name))) root name v))) e)
said-by ws t root base name strings l is (Some (table m)) e =
    let entry = at base (key name) in
    let fails : is_string (t entry) ≡ false = ap is_string e in
    let there : literal_at t entry ≡ version_place entry = rw fails refl in
    ap (λ (v : Option View). result_ok (entry_record (below (tree_with_strings ws t) entry) root name v))
    (stays ws t entry strings fails ∙ e)
    ∙ table-after ws t root base name strings l is fails
    ∙ sym (ap (λ (p : Place). said_after (new_text ws p) (record_in t root entry name)) there
    ∙ ap (λ (v : Option View). said_after (new_text ws (version_place entry))
    (result_ok (entry_record (below t entry) root name v))) e)
said-by ws t root base name strings l is (Some (inline_table m)) e =
    let entry = at base (key name) in
    let fails : is_string (t entry) ≡ false = ap is_string e in
    let there : literal_at t entry ≡ version_place entry = rw fails refl in
    ap (λ (v : Option View). result_ok (entry_record (below (tree_with_strings ws t) entry) root name v))
    (stays ws t entry strings fails ∙ e)
    ∙ table-after ws t root base name strings l is fails
    ∙ sym (ap (λ (p : Place). said_after (new_text ws p) (record_in t root entry name)) there
    ∙ ap (λ (v : Option View). said_after (new_text ws (version_place entry))
    (result_ok (entry_record (below t entry) root name v))) e)
said-by ws t root base name strings l is None e = unsaid ws t root base name strings None e refl (λ u. refl)
said-by ws t root base name strings l is (Some (truth x)) e =
    unsaid ws t root base name strings (Some (truth x)) e refl (λ u. refl)
said-by ws t root base name strings l is (Some (whole x)) e =
    unsaid ws t root base name strings (Some (whole x)) e refl (λ u. refl)
said-by ws t root base name strings l is (Some (fractional x)) e =
    unsaid ws t root base name strings (Some (fractional x)) e refl (λ u. refl)
said-by ws t root base name strings l is (Some (moment x)) e =
    unsaid ws t root base name strings (Some (moment x)) e refl (λ u. refl)
said-by ws t root base name strings l is (Some (static_array x)) e =
    unsaid ws t root base name strings (Some (static_array x)) e refl (λ u. refl)
said-by ws t root base name strings l is (Some (table_array x)) e =
    unsaid ws t root base name strings (Some (table_array x)) e refl (λ u. refl)

-- ---- all entries

-- an entry after strings were written
abbrev pub entry_after : Edits → Entry → Entry
entry_after ws e = record e { said = said_after (new_text ws e.literal) e.said }

same-literal : (ws : Edits) (t : Tree) (place : Place) → AreStrings ws t
    → literal_at (tree_with_strings ws t) place ≡ literal_at t place
same-literal ws t place h =
    ap (λ (b : Bool). if b then place else version_place place) (same-string ws t h place)

abbrev made : List ℕ → Place → Place → Option EntryRecord → Entry
made name place literal said = record { name = name; place = place; literal = literal; said = said }

one-after : (ws : Edits) (t : Tree) (root : List ℕ) (base : Place) → AreStrings ws t
    → AllByRecursion (λ w. IsLiteral w.0) ws → IsTable base
    → (name : List ℕ)
    → entry_at (tree_with_strings ws t) root base name ≡ entry_after ws (entry_at t root base name)
one-after ws t root base strings l is name =
    let entry = at base (key name) in
    ap (λ (p : Place). made name entry p (record_in (tree_with_strings ws t) root entry name))
    (same-literal ws t entry strings)
    ∙ ap (made name entry (literal_at t entry)) (said-by ws t root base name strings l is (t entry) refl)

names-after : (ws : Edits) (t : Tree) (root : List ℕ) (base : Place) → AreStrings ws t
    → AllByRecursion (λ w. IsLiteral w.0) ws → IsTable base
    → (names : List (List ℕ)) → map (entry_at (tree_with_strings ws t) root base) names ≡ map (entry_after ws)
    (map (entry_at t root base) names)
names-after ws t root base strings l is [] = refl
names-after ws t root base strings l is (n ∷ ns) =
    ap (λ (e : Entry). e ∷ map (entry_at (tree_with_strings ws t) root base) ns)
    (one-after ws t root base strings l is n)
    ∙ ap (λ (es : List Entry). entry_after ws (entry_at t root base n) ∷ es)
    (names-after ws t root base strings l is ns)

table-entries : (ws : Edits) (t : Tree) (root : List ℕ) (base : Place) → AreStrings ws t
    → AllByRecursion (λ w. IsLiteral w.0) ws → IsTable base
    → entries_of (tree_with_strings ws t) root base ≡ map (entry_after ws) (entries_of t root base)
table-entries ws t root base strings l is =
    ap (map (entry_at (tree_with_strings ws t) root base)) (same-names ws t strings base)
    ∙ names-after ws t root base strings l is (member_names (t base))

tables-entries : (ws : Edits) (t : Tree) (root : List ℕ) → AreStrings ws t
    → AllByRecursion (λ w. IsLiteral w.0) ws
    → (tables : List Place) → AllByRecursion IsTable tables
    → flat_map (entries_of (tree_with_strings ws t) root) tables ≡ map (entry_after ws)
    (flat_map (entries_of t root) tables)
tables-entries ws t root strings l [] is = refl
tables-entries ws t root strings l (p ∷ ps) is =
    ap (λ (es : List Entry). es ++ flat_map (entries_of (tree_with_strings ws t) root) ps)
    (table-entries ws t root p strings l is.0)
    ∙ ap (λ (es : List Entry). map (entry_after ws) (entries_of t root p) ++ es)
    (tables-entries ws t root strings l ps is.1)
    ∙ sym (map-append (entry_after ws) (entries_of t root p) (flat_map (entries_of t root) ps))

-- the entries of the tree in which the strings at version literals were replaced
pub entries-after : (ws : Edits) (t : Tree) (root : List ℕ) → AreStrings ws t
    → AllByRecursion (λ w. IsLiteral w.0) ws
    → entries (tree_with_strings ws t) root ≡ map (entry_after ws) (entries t root)
entries-after ws t root strings l =
    ap (flat_map (entries_of (tree_with_strings ws t) root))
    (same-tables (tree_with_strings ws t) t (record { names = same-names ws t strings; like = same-like ws t strings }))
    ∙ tables-entries ws t root strings l (dependency_tables t) (tables-all t)
