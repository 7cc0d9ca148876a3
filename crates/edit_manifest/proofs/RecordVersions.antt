-- A table after its version is replaced, and the place of the version requirement of a dependency.
use Rattle.std.proofs.Common.{◌≡◌, ℕ, List, [], ◌∷◌, Option, Some, None, Result, Ok, Err, true, false, refl, ap, sym, ◌∙◌}
use Rattle.std.specs.Prelude.{codes, if◌then◌else◌, option_and_then, option_map}
use Rattle.std.specs.Result.{result_ok}
use Rattle.edit_tree.specs.Assertions.{Place, key, same_place}
use Rattle.edit_tree.specs.Replaces.{is_string}
use Rattle.edit_tree.specs.Tree.{View, fractional, inline_table, moment, static_array, string, table, table_array, truth, whole}
use Rattle.edit_version.specs.Requirement.{cut}
use Rattle.edit_record.specs.EntryRecords.{EntryRecord, Origin, bare_record, EntryError, from_git, from_path, from_registry, from_workspace, origin_version}
use Rattle.edit_record.specs.ReadEntries.{Tree, and_then, below, entry_record, first_origin, if_there, names_by, ok_map, options_at, origin_at, record_of, repository, table_record, text_at, text_of, bool_at, version_at, workspace_origin}
use Rattle.edit_manifest.specs.Entries.{literal_at, version_place}

-- ---- answers, one after the other

and-then-map : {A B C : Type 0} (m : Result A EntryError)
    (f : A → Result C EntryError) (g : A → Result B EntryError) (h : B → C)
    → ((x : A) → f x ≡ ok_map h (g x)) → and_then m f ≡ ok_map h (and_then m g)
and-then-map (Ok x) f g h e = e x
and-then-map (Err r) f g h e = refl

and-then-moved : {A B C : Type 0} (m : Result A EntryError) (v : A → A)
    (f : A → Result C EntryError) (g : A → Result B EntryError) (h : B → C)
    → ((x : A) → f (v x) ≡ ok_map h (g x)) → and_then (ok_map v m) f ≡ ok_map h (and_then m g)
and-then-moved (Ok x) v f g h e = e x
and-then-moved (Err r) v f g h e = refl

ok-map-both : {A B C : Type 0} (m : Result A EntryError) (f : A → C) (g : A → B) (h : B → C)
    → ((x : A) → f x ≡ h (g x)) → ok_map f m ≡ ok_map h (ok_map g m)
ok-map-both (Ok x) f g h e = ap (λ y. Ok y) (e x)
ok-map-both (Err r) f g h e = refl

and-then-ok : {A B : Type 0} (m : Result A EntryError) (f : A → Result B EntryError) (y : B)
    → and_then m f ≡ Ok y
    → (x : A) × (m ≡ Ok x) × (f x ≡ Ok y)
and-then-ok (Ok x) f y h = (x, refl, h)
and-then-ok (Err r) f y h = cc h

abbrev okay : {A : Type 0} → A → Result A EntryError
okay x = Ok x

ok-inj : {A : Type 0} (x y : A) → okay x ≡ okay y → x ≡ y
ok-inj x y h = cc h

ok-map-ok : {A B : Type 0} (m : Result A EntryError) (f : A → B) (y : B) → ok_map f m ≡ Ok y
    → (x : A) × (m ≡ Ok x) × (f x ≡ y)
ok-map-ok (Ok x) f y h = (x, refl, ok-inj (f x) y h)
ok-map-ok (Err r) f y h = cc h

-- ---- another version

-- a source with this requirement
abbrev pub with_version : List ℕ → Origin → Origin
with_version v (from_registry w) = from_registry v
with_version v (from_path path w) = from_path path (Some v)
with_version v (from_git g) = from_git (record g { version = Some v })
with_version v from_workspace = from_workspace

-- a record with this requirement
abbrev pub versioned : List ℕ → EntryRecord → EntryRecord
versioned v r = record r { origin = option_map (with_version v) r.origin }

-- a tree with these at its root and at the member `version`
abbrev pub patched : Tree → Option View → Option View → Tree
patched b o v rest =
    if same_place [] rest then o else (if same_place (key (codes "version") ∷ []) rest then v else b rest)

-- the same with a string for the version
abbrev with_text : Tree → Option View → List ℕ → Tree
with_text b o text = patched b o (Some (string text))

origin-by : (b : Tree) (o : Option View) (root dep s u : List ℕ) (git path : Option View)
    → first_origin (with_text b o u) root dep git path (Some (string u))
    ≡ ok_map (with_version (cut u)) (first_origin (with_text b o s) root dep git path (Some (string s)))
origin-by b o root dep s u (Some git) path =
    and-then-map (text_of dep (codes "git") git) _ _ (with_version (cut u)) (λ address.
    and-then-map (text_at b dep (codes "branch")) _ _ (with_version (cut u)) (λ branch.
    and-then-map (text_at b dep (codes "tag")) _ _ (with_version (cut u)) (λ tag.
    and-then-map (text_at b dep (codes "rev")) _ _ (with_version (cut u)) (λ rev. refl))))
origin-by b o root dep s u None (Some path) =
    and-then-map (text_of dep (codes "path") path) _ _ (with_version (cut u)) (λ place. refl)
origin-by b o root dep s u None None = refl

-- the record behind its name and its source
abbrev rest_record : Tree → List ℕ → Option (List ℕ) → Origin → Result EntryRecord EntryError
rest_record t dep named origin = ok_map (λ options. record {
  name = (names_by named dep).0;
  optional = bool_at t (codes "optional");
  features = options.1;
  default_features = bool_at t (codes "default-features");
  inherited_features = None;
  origin = Some origin;
  registry = options.0;
  rename = (names_by named dep).1;
}) (options_at t dep)

-- the result of reading a table with another string as its version
pub table-versioned : (b : Tree) (o : Option View) (root dep s u : List ℕ)
    → table_record (with_text b o u) root dep ≡ ok_map (versioned (cut u))
    (table_record (with_text b o s) root dep)
table-versioned b o root dep s u =
    and-then-map (text_at b dep (codes "package")) (λ named. and_then (origin_at (with_text b o u) root dep)
    (rest_record (with_text b o u) dep named))
    (λ named. and_then (origin_at (with_text b o s) root dep) (rest_record (with_text b o s) dep named))
    (versioned (cut u))
    (λ named.
    ap (λ (m : Result Origin EntryError). and_then m (rest_record (with_text b o u) dep named))
    (origin-by b o root dep s u (b (key (codes "git") ∷ [])) (b (key (codes "path") ∷ [])))
    ∙ and-then-moved (origin_at (with_text b o s) root dep) (with_version (cut u))
    (rest_record (with_text b o u) dep named)
    (rest_record (with_text b o s) dep named) (versioned (cut u))
    (λ origin. ok-map-both (options_at (with_text b o s) dep) _ _ (versioned (cut u)) (λ options. refl)))

-- ---- the place of a version

-- the value of `version` is a string, and the requirement is its part before the first `+`
pub record IsVersion (t : Tree) (v : List ℕ) : Type 0 where
  pub text : List ℕ
  pub there : t (key (codes "version") ∷ []) ≡ Some (string text)
  pub is : v ≡ cut text

some-inj : (a b : List ℕ) → Some a ≡ Some b → a ≡ b
some-inj a b h = cc h

version-some : (t : Tree) (dep v : List ℕ) (o : Option View) → t (key (codes "version") ∷ []) ≡ o
    → ok_map (option_map cut) (if_there (text_of dep (codes "version")) o) ≡ Ok (Some v) → IsVersion t v
version-some t dep v None q h = cc h
version-some t dep v (Some (string s)) q h =
    record { text = s; there = q; is = sym (some-inj (cut s) v (ok-inj (Some (cut s)) (Some v) h)) }
version-some t dep v (Some (truth x)) q h = cc h
version-some t dep v (Some (whole x)) q h = cc h
version-some t dep v (Some (fractional x)) q h = cc h
version-some t dep v (Some (moment x)) q h = cc h
version-some t dep v (Some (static_array x)) q h = cc h
version-some t dep v (Some (table_array x)) q h = cc h
version-some t dep v (Some (inline_table x)) q h = cc h
version-some t dep v (Some (table x)) q h = cc h

text-string : (dep name text : List ℕ) (v : View) → text_of dep name v ≡ Ok text → v ≡ string text
text-string dep name text (string s) h = ap (λ (x : List ℕ). string x) (ok-inj s text h)
text-string dep name text (truth x) h = cc h
text-string dep name text (whole x) h = cc h
text-string dep name text (fractional x) h = cc h
text-string dep name text (moment x) h = cc h
text-string dep name text (static_array x) h = cc h
text-string dep name text (table_array x) h = cc h
text-string dep name text (inline_table x) h = cc h
text-string dep name text (table x) h = cc h

abbrev nothing : Option (List ℕ)
nothing = None

none-some : (v : List ℕ) → nothing ≡ Some v → ⊥
none-some v h = cc h

-- a workspace's entry has no version
no-version : (dep v : List ℕ) (origin : Origin) (o : Option View) → workspace_origin dep o ≡ Ok origin
    → origin_version origin ≡ Some v → ⊥
no-version dep v origin None h g = cc h
no-version dep v origin (Some (truth true)) h g =
    none-some v (ap origin_version (ok-inj from_workspace origin h) ∙ g)
no-version dep v origin (Some (truth false)) h g = cc h
no-version dep v origin (Some (string x)) h g = cc h
no-version dep v origin (Some (whole x)) h g = cc h
no-version dep v origin (Some (fractional x)) h g = cc h
no-version dep v origin (Some (moment x)) h g = cc h
no-version dep v origin (Some (static_array x)) h g = cc h
no-version dep v origin (Some (table_array x)) h g = cc h
no-version dep v origin (Some (inline_table x)) h g = cc h
no-version dep v origin (Some (table x)) h g = cc h

origin-cases : (t : Tree) (root dep v : List ℕ) (origin : Origin) (git path version : Option View)
    → t (key (codes "version") ∷ []) ≡ version
    → first_origin t root dep git path version ≡ Ok origin → origin_version origin ≡ Some v → IsVersion t v
origin-cases t root dep v origin (Some git) path version q h g =
    let a = and-then-ok (text_of dep (codes "git") git) _ origin h in
    let b = and-then-ok (text_at t dep (codes "branch")) _ origin a.2 in
    let c = and-then-ok (text_at t dep (codes "tag")) _ origin b.2 in
    let d = and-then-ok (text_at t dep (codes "rev")) _ origin c.2 in
    let e = ok-map-ok (version_at t dep) (λ w. from_git (repository a.0 b.0 c.0 d.0 w)) origin d.2 in
    version-some t dep v (t (key (codes "version") ∷ [])) refl
    (e.1 ∙ ap (λ (w : Option (List ℕ)). Ok w) (ap origin_version e.2 ∙ g))
origin-cases t root dep v origin None (Some path) version q h g =
    let a = and-then-ok (text_of dep (codes "path") path) _ origin h in
    let e = ok-map-ok (version_at t dep) _ origin a.2 in
    version-some t dep v (t (key (codes "version") ∷ [])) refl
    (e.1 ∙ ap (λ (w : Option (List ℕ)). Ok w) (ap origin_version e.2 ∙ g))
origin-cases t root dep v origin None None (Some view) q h g =
    let e = ok-map-ok (text_of dep (codes "version") view) (λ w. from_registry (cut w)) origin h in
    record {
      text = e.0;
      there = q ∙ ap (λ (w : View). Some w) (text-string dep (codes "version") e.0 view e.1);
      is = sym (some-inj (cut e.0) v (ap origin_version e.2 ∙ g));
    }
origin-cases t root dep v origin None None None q h g =
    absurd (no-version dep v origin (t (key (codes "workspace") ∷ [])) h g)

-- the requirement of a record
abbrev pub version_in : EntryRecord → Option (List ℕ)
version_in r = option_and_then origin_version r.origin

table-version : (t : Tree) (root dep v : List ℕ) (r : EntryRecord) → table_record t root dep ≡ Ok r
    → version_in r ≡ Some v → IsVersion t v
table-version t root dep v r h g =
    let a = and-then-ok (text_at t dep (codes "package"))
    (λ named. and_then (origin_at t root dep) (rest_record t dep named)) r h in
    let b = and-then-ok (origin_at t root dep) (rest_record t dep a.0) r a.2 in
    let c = ok-map-ok (options_at t dep) _ r b.2 in
    origin-cases t root dep v b.0 (t (key (codes "git") ∷ [])) (t (key (codes "path") ∷ []))
    (t (key (codes "version") ∷ [])) refl b.1
    (ap version_in c.2 ∙ g)

-- ---- entries

-- the version literal of an entry is a string, and its requirement is the part before the first `+`
pub record IsLiteralOf (t : Tree) (place : Place) (v : List ℕ) : Type 0 where
  pub text : List ℕ
  pub there : t (literal_at t place) ≡ Some (string text)
  pub is : v ≡ cut text

literal-text : (t : Tree) (place : Place) (text : List ℕ) → t place ≡ Some (string text)
    → literal_at t place ≡ place
literal-text t place text h = rw h refl

literal-table : (t : Tree) (place : Place) → is_string (t place) ≡ false
    → literal_at t place ≡ version_place place
literal-table t place h = rw h refl

table-literal : (t : Tree) (place : Place) (root dep v : List ℕ) (r : EntryRecord)
    → is_string (t place) ≡ false → table_record (below t place) root dep ≡ Ok r
    → version_in r ≡ Some v → IsLiteralOf t place v
table-literal t place root dep v r other h g =
    let w = table-version (below t place) root dep v r h g in
    record { text = w.text; there = ap t (literal-table t place other) ∙ w.there; is = w.is }

by-view : (t : Tree) (place : Place) (root dep v : List ℕ) (r : EntryRecord) (o : Option View) → t place ≡ o
    → record_of t place root dep ≡ Ok r
    → version_in r ≡ Some v → IsLiteralOf t place v
by-view t place root dep v r (Some (string s)) q h g =
    let bare : EntryRecord = bare_record dep (from_registry (cut s)) in
    let same : bare ≡ r = ok-inj bare r (sym
    (ap (λ (x : Option View). entry_record (below t place) root dep x) q) ∙ h) in
    record {
      text = s;
      there = ap t (literal-text t place s q) ∙ q;
      is = sym (some-inj (cut s) v (ap version_in same ∙ g));
    }
by-view t place root dep v r (Some (table m)) q h g =
    table-literal t place root dep v r (ap is_string q)
    (sym (ap (λ (x : Option View). entry_record (below t place) root dep x) q) ∙ h) g
by-view t place root dep v r (Some (inline_table m)) q h g =
    table-literal t place root dep v r (ap is_string q)
    (sym (ap (λ (x : Option View). entry_record (below t place) root dep x) q) ∙ h) g
by-view t place root dep v r None q h g =
    cc (sym (ap (λ (x : Option View). entry_record (below t place) root dep x) q) ∙ h)
by-view t place root dep v r (Some (truth x)) q h g =
    cc (sym (ap (λ (y : Option View). entry_record (below t place) root dep y) q) ∙ h)
by-view t place root dep v r (Some (whole x)) q h g =
    cc (sym (ap (λ (y : Option View). entry_record (below t place) root dep y) q) ∙ h)
by-view t place root dep v r (Some (fractional x)) q h g =
    cc (sym (ap (λ (y : Option View). entry_record (below t place) root dep y) q) ∙ h)
by-view t place root dep v r (Some (moment x)) q h g =
    cc (sym (ap (λ (y : Option View). entry_record (below t place) root dep y) q) ∙ h)
by-view t place root dep v r (Some (static_array x)) q h g =
    cc (sym (ap (λ (y : Option View). entry_record (below t place) root dep y) q) ∙ h)
by-view t place root dep v r (Some (table_array x)) q h g =
    cc (sym (ap (λ (y : Option View). entry_record (below t place) root dep y) q) ∙ h)

-- the place of the version requirement of an entry
pub version-stands : (t : Tree) (place : Place) (root dep v : List ℕ) (r : EntryRecord)
    → result_ok (record_of t place root dep) ≡ Some r
    → version_in r ≡ Some v → IsLiteralOf t place v
version-stands t place root dep v r h g =
    by-view t place root dep v r (t place) refl (ok-of (record_of t place root dep) h) g
  where
    ok-of : (m : Result EntryRecord EntryError) → result_ok m ≡ Some r → m ≡ Ok r
    ok-of (Ok x) e = cc e
    ok-of (Err x) e = cc e
