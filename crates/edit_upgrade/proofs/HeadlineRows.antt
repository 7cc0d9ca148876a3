-- Properties of each row of a decision.
use Rattle.std.proofs.Common.{◌≡◌, ◌∷◌, [], List, ℕ, Option, Some, None, true, refl, ap, ◌∙◌, sym, subst, inl, inr}
use Rattle.std.specs.Prelude.{All, IsOk, IsSome, IsTrue, nat_eq, option_map}
use Rattle.std.specs.Cmp.Lexicographic.{pointwise}
use Rattle.std.specs.List.{AllZip}
use Rattle.std.specs.Ordering.{is_ge, is_le}
use Rattle.std.proofs.lemmas.Bool.{cases_Bool}
use Rattle.std.proofs.lemmas.List.Elements.{All-cons, All-nil}
use Rattle.semver.specs.Grammar.{IsValid}
use Rattle.semver.specs.Parse.{Parts, req_of}
use Rattle.url.specs.Parts.{serialize}
use Rattle.edit_tree.specs.Tree.{view_at}
use Rattle.edit_version.specs.Laws.{Admits, precedence}
use Rattle.edit_version.specs.Levels.{is_within, versions_within}
use Rattle.edit_version.specs.Requirement.{plain_text}
use Rattle.edit_version.specs.RustVersions.{Numbers}
use Rattle.edit_version.specs.Selection.{IsCompatible, IsLatest, is_admitted, is_offered}
use Rattle.edit_version.specs.VersionOrder.{full_order}
use Rattle.edit_version.proofs.Builds.{admits-without_build, plain_text-read, without_build}
use Rattle.edit_version.proofs.GreatestEntries.{all-valid}
use Rattle.edit_version.proofs.LevelLaws.{within-build}
use Rattle.edit_version.proofs.Orders.{greatest-has}
use Rattle.edit_sources.specs.Index.{answer_of}
use Rattle.edit_upgrade.specs.OptionLevels.{level_in}
use Rattle.edit_upgrade.specs.Decision.{decision, newer, or_else}
use Rattle.edit_upgrade.specs.Headline.{IsTextOfVersion, KeepsFloor, LatestIsNotLess, Narrows, Reaches, StaysInLevel, StaysWithin}
use Rattle.edit_upgrade.specs.Inputs.{Setting}
use Rattle.edit_upgrade.specs.Lookups.{Answer, answer_in, lookup_at, versions_in}
use Rattle.edit_upgrade.specs.Records.{RowEntry, row_entries}
use Rattle.edit_upgrade.specs.Rows.{AreVersionsFor, IsDecided, IsRowOver, Line, case_for, dashes, elsewhere, line_for, at_address}
use Rattle.edit_upgrade.specs.Upgraded.{HasRows, IsRow, basis_of}
use Rattle.edit_upgrade.specs.declared.decision.options.Options.{Options}
use Rattle.edit_upgrade.proofs.LevelLemmas.{all-within, compatible-stays, latest-stays, valid-within}
use Rattle.edit_upgrade.proofs.RaisedFloors.{compatible-qualifies, latest-qualifies}
use Rattle.edit_upgrade.proofs.Narrowing.{latest-not-less, narrowing, reach}
use Rattle.edit_upgrade.proofs.NotLess.{not-less, not-less-itself}

-- ---- versions

-- each version that an answer lists is one that `semver` reads
pub versions-valid : (rust : Option Numbers) (o : Option Answer) → All IsValid (versions_in rust o)
versions-valid rust None = All-nil IsValid
versions-valid rust (Some None) = All-nil IsValid
versions-valid rust (Some (Some entries)) = all-valid rust entries

-- so is each that may be taken for an entry
pub offered-valid : (s : Setting) (e : RowEntry) (xs : List Parts) → AreVersionsFor (basis_of s) e xs
    → All IsValid xs
offered-valid s e xs (at_address address needs are) =
    subst (λ (ys : List Parts). All IsValid ys) (sym are)
    (versions-valid s.rust
    (option_map (λ lookup. answer_of (answer_in lookup)) (lookup_at s.lookups (serialize address) e.name)))
offered-valid s e xs (elsewhere other none) =
    subst (λ (ys : List Parts). All IsValid ys) (sym none) (All-nil IsValid)

-- a requirement admits a version without its build metadata
admits-plain : (text : List ℕ) (v : Parts) → Admits text v → Admits text (without_build v)
admits-plain text v a = (a.0, a.1, admits-without_build a.0 v ∙ a.2)

-- the text of a version determines it, except its build metadata
plain-version : (v : Parts) → IsValid v → IsTextOfVersion (Some (plain_text v)) (without_build v)
plain-version v valid = plain_text-read v valid

-- ---- one row

-- a requirement that admits a version is read
read-admits : (text : List ℕ) (v : Parts) → Admits text v → IsOk (req_of text)
read-admits text v a = rw a.1 refl

-- a decided row narrows
pub line-narrows : (i : ℕ) (o : Options) (xs : List Parts) (e : RowEntry) (old : List ℕ) (line : Line)
    → All IsValid xs → IsDecided i o xs e old line → Narrows line
line-narrows i o xs e old line all d =
    subst Narrows (sym d.is) (λ h.
    let n = narrowing o xs (case_for o e old d.near d.far) all d.compatible h in
    (read-admits (decision o (case_for o e old d.near d.far)).new n.0 n.2.0, λ v a. n.2.1 v a))

-- a decided row reaches its version
pub line-reaches : (i : ℕ) (o : Options) (xs : List Parts) (e : RowEntry) (old : List ℕ) (line : Line)
    → All IsValid xs → IsDecided i o xs e old line → Reaches line
line-reaches i o xs e old line all d =
    let c = case_for o e old d.near d.far in
    let there : Reaches (line_for i e old d.near d.far (decision o c)) = record {
      compatible = λ h.
          let n = narrowing o xs c all d.compatible h in
          let near = subst (λ (x : Option Parts). IsCompatible old xs x) n.1 d.compatible in
          let valid = greatest-has IsValid (is_admitted old) xs n.0 all near in (
            without_build n.0,
            subst (λ (x : Option Parts). IsTextOfVersion (option_map plain_text x) (without_build n.0))
                (sym n.1) (plain-version n.0 valid),
            admits-plain (decision o c).new n.0 n.2.0,
          );
      latest = λ h.
          let r = reach o xs c all d.latest h in (
            without_build r.0,
            subst (λ (x : Option Parts). IsTextOfVersion (option_map plain_text (or_else x d.near))
                (without_build r.0)) (sym r.2) (plain-version r.0 r.1),
            λ plain. admits-plain (decision o c).new r.0 (r.3 plain),
          );
    } in
    subst Reaches (sym d.is) there

-- the latest version that a row shows, where there are both
latest-text : (u v : Parts) → IsValid u → IsValid v → is_le (full_order u v) ≡ true
    → (w : Parts) × IsTextOfVersion (option_map plain_text (or_else (newer (Some v) (Some u)) (Some u))) w
    × IsTrue (is_ge (precedence w (without_build u)))
latest-text u v a b le = elim (cases_Bool (pointwise nat_eq (plain_text v) (plain_text u))) [
  | inl same ↦ (without_build u, rw same (plain-version u a), not-less-itself (without_build u))
  | inr other ↦ (without_build v, rw other (plain-version v b), not-less u v le)
]

-- the two versions that a decided row shows
latest-of : (xs : List Parts) (old : List ℕ) (near far : Option Parts) → All IsValid xs
    → IsCompatible old xs near → IsLatest old xs far
    → IsSome (option_map plain_text near)
    → (u : Parts) × (v : Parts) × IsTextOfVersion (option_map plain_text near) u
    × IsTextOfVersion (option_map plain_text (or_else (newer far near) near)) v
    × IsTrue (is_ge (precedence v u))
latest-of xs old None far all a b h = cc h
latest-of xs old (Some u) far all a b h =
    let l = latest-not-less xs old u far a b in
    let valid = greatest-has IsValid (is_admitted old) xs u all a in
    let qualifies = subst (λ (x : Option Parts). IsLatest old xs x) l.1 b in
    let last = greatest-has IsValid (is_offered old) xs l.0 all qualifies in
    let t = latest-text u l.0 valid last l.2 in (
      without_build u,
      t.0,
      plain-version u valid,
      subst (λ (x : Option Parts). IsTextOfVersion
          (option_map plain_text (or_else (newer x (Some u)) (Some u))) t.0) (sym l.1) t.1,
      t.2,
    )

-- a decided row keeps its floor, where requirements are never to be lowered
pub line-floor : (i : ℕ) (o : Options) (xs : List Parts) (e : RowEntry) (old : List ℕ) (line : Line)
    → o.never_lower ≡ true → All IsValid xs
    → IsDecided i o xs e old line → KeepsFloor line
line-floor i o xs e old line on all d =
    let c = case_for o e old d.near d.far in
    let there : KeepsFloor (line_for i e old d.near d.far (decision o c)) = λ h. elim h [
      | inl far ↦ latest-qualifies o xs c all d.latest on far
      | inr near ↦ compatible-qualifies o xs c all d.compatible near
    ] in
    subst KeepsFloor (sym d.is) there

-- a decided row stays within the level of its options, where each version is within it
pub line-level : (i : ℕ) (o : Options) (xs : List Parts) (e : RowEntry) (old : List ℕ) (line : Line)
    → All IsValid xs → All (λ v. is_within (level_in o e.name) old v ≡ true) xs
    → IsDecided i o xs e old line → StaysInLevel o line
line-level i o xs e old line all within d =
    let c = case_for o e old d.near d.far in
    let bound = level_in o e.name in
    let there : StaysWithin bound (line_for i e old d.near d.far (decision o c)) = record {
      compatible = λ h.
          let k = compatible-stays o bound xs c all within d.compatible h in (
            without_build k.0,
            subst (λ (x : Option Parts). IsTextOfVersion (option_map plain_text x) (without_build k.0))
                (sym k.2) (plain-version k.0 k.1),
            within-build bound old k.0 ∙ k.3,
          );
      latest = λ h.
          let k = latest-stays o bound xs c all within d.latest h in (
            without_build k.0,
            subst (λ (x : Option Parts). IsTextOfVersion (option_map plain_text (or_else x d.near))
                (without_build k.0)) (sym k.2) (plain-version k.0 k.1),
            within-build bound old k.0 ∙ k.3,
          );
      later = λ h w k. elim h [
        | inl far ↦ (latest-stays o bound xs c all within d.latest far).4 w k
        | inr near ↦ (compatible-stays o bound xs c all within d.compatible near).4 w k
      ];
    } in
    subst (StaysInLevel o) (sym d.is) there

-- a decided row's latest version is not less
pub line-latest : (i : ℕ) (o : Options) (xs : List Parts) (e : RowEntry) (old : List ℕ) (line : Line)
    → All IsValid xs → IsDecided i o xs e old line → LatestIsNotLess line
line-latest i o xs e old line all d =
    subst LatestIsNotLess (sym d.is) (latest-of xs old d.near d.far all d.compatible d.latest)

-- a row of dashes narrows nothing, reaches nothing and shows no version
dashes-narrow : (i : ℕ) (o : Options) (e : RowEntry) → Narrows (dashes i o e)
dashes-narrow i o e h = cc h

dashes-reach : (i : ℕ) (o : Options) (e : RowEntry) → Reaches (dashes i o e)
dashes-reach i o e = record { compatible = λ h. cc h; latest = λ h. cc h }

dashes-latest : (i : ℕ) (o : Options) (e : RowEntry) → LatestIsNotLess (dashes i o e)
dashes-latest i o e h = cc h

dashes-floor : (i : ℕ) (o : Options) (e : RowEntry) → KeepsFloor (dashes i o e)
dashes-floor i o e h f has = absurd has

dashes-level : (i : ℕ) (o : Options) (e : RowEntry) → StaysInLevel o (dashes i o e)
dashes-level i o e = record { compatible = λ h. cc h; latest = λ h. cc h; later = λ h w k. absurd k }

-- ---- all rows

-- what holds of each decided row and of each row of dashes holds of a row
row-has : (i : ℕ) (o : Options) (P : Line → Type 0) → ((e : RowEntry) → P (dashes i o e))
    → ((xs : List Parts) (e : RowEntry) (old : List ℕ) (line : Line) → All IsValid xs
    → All (λ v. is_within (level_in o e.name) old v ≡ true) xs → IsDecided i o xs e old line → P line)
    → (xs : List Parts) (e : RowEntry) (old : Option (List ℕ)) (line : Line) → All IsValid xs
    → IsRowOver i o xs e old line → P line
row-has i o P d f xs e None line all h = subst P (sym h) (d e)
row-has i o P d f xs e (Some old) line all h =
    let bound = level_in o e.name in
    f (versions_within bound old xs) e old line (valid-within bound old xs all) (all-within bound old xs) h

-- so it holds of all rows
all-rows : (s : Setting) (P : Line → Type 0) → ((e : RowEntry) → P (dashes s.input s.options e))
    → ((xs : List Parts) (e : RowEntry) (old : List ℕ) (line : Line) → All IsValid xs
    → All (λ v. is_within (level_in s.options e.name) old v ≡ true) xs
    → IsDecided s.input s.options xs e old line → P line)
    → (es : List RowEntry) (ls : List Line) → AllZip (IsRow s) es ls → All P ls
all-rows s P d f [] [] h = All-nil P
all-rows s P d f [] (l ∷ ls) h = absurd h
all-rows s P d f (e ∷ es) [] h = absurd h
all-rows s P d f (e ∷ es) (l ∷ ls) h =
    All-cons P l ls (row-has s.input s.options P d f h.0.versions e e.old l
    (offered-valid s e h.0.versions h.0.offered) h.0.decided)
    (all-rows s P d f es ls h.1)

-- the rows of a manifest narrow
pub rows-narrow : (s : Setting) (bytes : List ℕ) (lines : List Line) → HasRows s bytes lines
    → All Narrows lines
rows-narrow s bytes lines h =
    all-rows s Narrows (dashes-narrow s.input s.options)
    (λ xs e old line all within d. line-narrows s.input s.options xs e old line all d)
    (row_entries (view_at h.form)) lines h.decided

-- they reach their versions
pub rows-reach : (s : Setting) (bytes : List ℕ) (lines : List Line) → HasRows s bytes lines
    → All Reaches lines
rows-reach s bytes lines h =
    all-rows s Reaches (dashes-reach s.input s.options)
    (λ xs e old line all within d. line-reaches s.input s.options xs e old line all d)
    (row_entries (view_at h.form)) lines h.decided

-- their latest versions are not less
pub rows-latest : (s : Setting) (bytes : List ℕ) (lines : List Line) → HasRows s bytes lines
    → All LatestIsNotLess lines
rows-latest s bytes lines h =
    all-rows s LatestIsNotLess (dashes-latest s.input s.options)
    (λ xs e old line all within d. line-latest s.input s.options xs e old line all d)
    (row_entries (view_at h.form)) lines h.decided

-- they keep their floors, where requirements are never to be lowered
pub rows-floor : (s : Setting) (bytes : List ℕ) (lines : List Line) → s.options.never_lower ≡ true
    → HasRows s bytes lines → All KeepsFloor lines
rows-floor s bytes lines on h =
    all-rows s KeepsFloor (dashes-floor s.input s.options)
    (λ xs e old line all within d. line-floor s.input s.options xs e old line on all d)
    (row_entries (view_at h.form)) lines h.decided

-- they stay within the level of the options
pub rows-level : (s : Setting) (bytes : List ℕ) (lines : List Line) → HasRows s bytes lines
    → All (StaysInLevel s.options) lines
rows-level s bytes lines h =
    all-rows s (StaysInLevel s.options) (dashes-level s.input s.options)
    (λ xs e old line all within d. line-level s.input s.options xs e old line all within d)
    (row_entries (view_at h.form)) lines h.decided

-- each is a row of its input
pub rows-inputs : (s : Setting) (bytes : List ℕ) (lines : List Line) → HasRows s bytes lines
    → All (λ (line : Line). line.input ≡ s.input) lines
rows-inputs s bytes lines h =
    all-rows s (λ (line : Line). line.input ≡ s.input) (λ e. refl)
    (λ xs e old line all within d. ap (λ (l : Line). l.input) d.is)
    (row_entries (view_at h.form)) lines h.decided
