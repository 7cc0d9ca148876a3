-- The item at a place after the edits of a plan.
use Rattle.std.proofs.Common.{◌≡◌, ℕ, Bool, true, false, List, [], ◌∷◌, ◌++◌, Option, Some, None, refl, sym, ap, ap₂, ◌∙◌, subst, ◌⊎◌, inl, inr}
use Rattle.std.specs.Prelude.{codes, option_and_then, option_map}
use Rattle.std.specs.List.{AllByRecursion, filter_map}
use Rattle.std.proofs.lemmas.Bool.{cases_Bool}
use Rattle.semver.specs.Identifiers.{parts_text}
use Rattle.semver.specs.Parse.{Parts}
use Rattle.edit_tree.specs.Assertions.{Place, key, same_bytes, same_place}
use Rattle.edit_tree.specs.Replaces.{Edits, tree_without_below, is_below, is_below_any, tree_with_strings}
use Rattle.edit_tree.specs.Tree.{string}
use Rattle.edit_tree.proofs.SamePlace.{last_same, same_place_is, same_place_self}
use Rattle.edit_manifest.specs.Tables.{Tree}
use Rattle.edit_manifest.specs.Versions.{package_version, shared_version, version_member}
use Rattle.edit_set_version.specs.Entries.{entries, requirement}
use Rattle.edit_set_version.specs.SetVersioned.{Bump, Dependent, edits_by, next_at, dependent, dependent_at, dependents, own_edit, requirement_edit, raised_dependent_text, shared_edits, writes_own}
use Rattle.edit_set_version.proofs.Clear.{IsWritten, entry, not_below, not_same, own, reaches, whole}
use Rattle.edit_set_version.proofs.TablePlaces.{IsEntry, all_append, entries_shaped}

-- ---- lists

-- there is nothing, or something
pub option_cases : {A : Type 0} (o : Option A) → (o ≡ None) ⊎ ((x : A) × (o ≡ Some x))
option_cases None = inl refl
option_cases (Some x) = inr (x, refl)

-- what is made of elements of which something holds
pub all_filter_map : {A B : Type 0} (P : A → Type 0) (Q : B → Type 0) (f : A → Option B)
    → ((x : A) → P x → (y : B) → f x ≡ Some y → Q y) → (xs : List A) → AllByRecursion P xs
    → AllByRecursion Q (filter_map f xs)
all_filter_map P Q f h [] all = tt
all_filter_map P Q f h (x ∷ xs) all = elim (option_cases (f x)) [
  | inl none ↦ rw none (all_filter_map P Q f h xs all.1)
  | inr some ↦ rw some.1 (h x all.0 some.0 some.1, all_filter_map P Q f h xs all.1)
]

-- what is implied by what holds of each
pub all_then : {A : Type 0} (P Q : A → Type 0) → ((x : A) → P x → Q x) → (xs : List A) → AllByRecursion P xs
    → AllByRecursion Q xs
all_then P Q h [] all = tt
all_then P Q h (x ∷ xs) all = (h x all.0, all_then P Q h xs all.1)

-- what holds of all
pub all_every : {A : Type 0} (P : A → Type 0) → ((x : A) → P x) → (xs : List A) → AllByRecursion P xs
all_every P h [] = tt
all_every P h (x ∷ xs) = (h x, all_every P h xs)

-- ---- all that is written

-- where a requirement on a bumped crate stands
pub dependent_place : (q : Place) (o : Option (List ℕ)) (v : Option Parts) (f : Dependent)
    → dependent_at q o v ≡ Some f → f.place ≡ q
dependent_place q None v f h = cc h
dependent_place q (Some text) None f h = cc h
dependent_place q (Some text) (Some v) f h = cc h

-- the requirements on bumped crates stand at entries
dependents_shaped : (bs : List Bump) (file : List ℕ) (t : Tree)
    → AllByRecursion (λ f. IsEntry f.place) (dependents bs file t)
dependents_shaped bs file t =
    all_filter_map IsEntry (λ f. IsEntry f.place) (dependent bs file t)
    (λ q is f e. subst IsEntry (sym (dependent_place q (requirement t q) (next_at bs file t q) f e)) is)
    (entries t) (entries_shaped t)

-- what is written of a package's version
pub own_at : (file : List ℕ) (b : Bump) (y : Place × List ℕ) → own_edit file b ≡ Some y
    → package_version ≡ y.0
own_at file b y h = elim (cases_Bool (writes_own file b)) [
  | inl writes ↦
      let e : ◌≡◌ {A = Option (Place × List ℕ)} (Some (package_version, parts_text b.next)) (Some y) =
      rw writes at h in
      cc e
  | inr other ↦ let e = rw other at h in cc e
]

-- what is written of a requirement
requirement_place : (f : Dependent) → IsEntry f.place → (y : Place × List ℕ)
    → requirement_edit f ≡ Some y → IsWritten y.0
requirement_place f is y h = go (raised_dependent_text f) refl
  where
    go : (o : Option (List ℕ)) → raised_dependent_text f ≡ o → IsWritten y.0
    go None e = let k = rw e at h in cc k
    go (Some s) e =
        let k : ◌≡◌ {A = Option (Place × List ℕ)} (Some (version_member f.place, s)) (Some y) = rw e at h in
        let m : version_member f.place ≡ y.0 = cc k in
        subst IsWritten (sym (ap version_member is.is) ∙ m) (entry is.table is.name is.shape)

-- what is written of the workspace's version
pub shared_all : (P : Place × List ℕ → Type 0) → ((s : List ℕ) → P (shared_version, s))
    → (is_root : Bool) (next : Option Parts) → AllByRecursion P (shared_edits is_root next)
shared_all P h true None = tt
shared_all P h true (Some v) = (h (parts_text v), tt)
shared_all P h false next = tt

-- what a plan writes is one of the three
pub all_written : (root : List ℕ) (next : Option Parts) (bs : List Bump) (file : List ℕ) (tree : Tree)
    → AllByRecursion (λ e. IsWritten e.0) (edits_by root next bs file tree)
all_written root next bs file tree =
    all_append (λ e. IsWritten e.0) (shared_edits (same_bytes file root) next) _
    (shared_all (λ e. IsWritten e.0) (λ s. whole) (same_bytes file root) next)
    (all_append (λ e. IsWritten e.0) (filter_map (own_edit file) bs) _
    (all_filter_map (λ b. Unit {0}) (λ e. IsWritten e.0) (own_edit file)
    (λ b none y e. subst IsWritten (own_at file b y e) own) bs
    (all_every (λ b. Unit {0}) (λ b. tt) _))
    (all_filter_map (λ f. IsEntry f.place) (λ e. IsWritten e.0) requirement_edit
    (λ f is y e. requirement_place f is y e) (dependents bs file tree)
    (dependents_shaped bs file tree)))

-- ---- places that are not written

-- a place that is none of those keeps what it had
written_other : (es : Edits) (t : Tree) (q : Place) → AllByRecursion (λ e. same_place e.0 q ≡ false) es
    → tree_with_strings es t q ≡ t q
written_other [] t q h = refl
written_other (e ∷ es) t q h = rw h.0 (written_other es t q h.1)

-- what is written first does not hide what is written after it
pub written_past : (es more : Edits) (t : Tree) (q : Place)
    → AllByRecursion (λ e. same_place e.0 q ≡ false) es → tree_with_strings (es ++ more) t q ≡ tree_with_strings more t q
written_past [] more t q h = refl
written_past (e ∷ es) more t q h = rw h.0 (written_past es more t q h.1)

-- a place below none of those
pub below_none : (es : Edits) (q : Place) → AllByRecursion (λ e. is_below e.0 q ≡ false) es
    → is_below_any es q ≡ false
below_none [] q h = refl
below_none (e ∷ es) q h = rw (h.0, below_none es q h.1) refl

-- it keeps what it had
pub emptied_other : (es : Edits) (t : Tree) (q : Place) → AllByRecursion (λ e. is_below e.0 q ≡ false) es
    → tree_without_below es t q ≡ t q
emptied_other es t q h = rw (below_none es q h) refl

-- so a place that is neither one of those nor below one
pub untouched : (es : Edits) (t : Tree) (q : Place) → AllByRecursion (λ e. same_place e.0 q ≡ false) es
    → AllByRecursion (λ e. is_below e.0 q ≡ false) es → tree_with_strings es (tree_without_below es t) q ≡ t q
untouched es t q other below = written_other es (tree_without_below es t) q other ∙ emptied_other es t q below

-- what is written leaves a place that none of it reaches
pub unreached : (es : Edits) (t : Tree) (q : Place) → AllByRecursion (λ e. reaches e.0 q ≡ false) es
    → tree_with_strings es (tree_without_below es t) q ≡ t q
unreached es t q h =
    untouched es t q
    (all_then (λ e. reaches e.0 q ≡ false) (λ e. same_place e.0 q ≡ false) (λ e. not_same e.0 q) es h)
    (all_then (λ e. reaches e.0 q ≡ false) (λ e. is_below e.0 q ≡ false) (λ e. not_below e.0 q) es h)

-- ---- the requirements of entries

-- what is written of the requirement of an entry
abbrev pub edit_at : Place → Option (List ℕ) → Option (Place × List ℕ)
edit_at q o = option_map (λ s. (version_member q, s)) o

-- what is written of those of some entries
abbrev pub entry_edits : (Place → Option (List ℕ)) → List Place → Edits
entry_edits new qs = filter_map (λ q. edit_at q (new q)) qs

-- the new requirement of an entry
abbrev pub new_at : List Bump → List ℕ → Tree → Place → Option (List ℕ)
new_at bs file t q = option_and_then raised_dependent_text (dependent bs file t q)

-- what is written for requirements on bumped crates, entry by entry
pub edits_by_entry : (bs : List Bump) (file : List ℕ) (t : Tree) (qs : List Place)
    → filter_map requirement_edit (filter_map (dependent bs file t) qs) ≡ entry_edits (new_at bs file t) qs
edits_by_entry bs file t [] = refl
edits_by_entry bs file t (q ∷ qs) = elim (option_cases (dependent bs file t q)) [
  | inl none ↦ rw none (edits_by_entry bs file t qs)
  | inr some ↦
      let place : some.0.place ≡ q =
      dependent_place q (requirement t q) (next_at bs file t q) some.0 some.1 in
      rw some.1 (elim (option_cases (raised_dependent_text some.0)) [
        | inl stays ↦ rw stays (edits_by_entry bs file t qs)
        | inr goes ↦ rw goes.1 (ap₂ (λ (z : Place) (es : Edits). (version_member z, goes.0) ∷ es) place
            (edits_by_entry bs file t qs))
      ])
]

-- an entry among others
abbrev pub In : Place → List Place → Type 0
In q [] = ⊥
In q (p ∷ ps) = (q ≡ p) ⊎ In q ps

-- of which something holds
pub all_in : (P : Place → Type 0) (qs : List Place) (q : Place) → AllByRecursion P qs → In q qs → P q
all_in P [] q all i = absurd i
all_in P (p ∷ ps) q all (inl e) = subst P (sym e) all.0
all_in P (p ∷ ps) q all (inr i) = all_in P ps q all.1 i

-- what holds of each that is among them
pub all_by_in : (P : Place → Type 0) (qs : List Place) → ((q : Place) → In q qs → P q) → AllByRecursion P qs
all_by_in P [] h = tt
all_by_in P (p ∷ ps) h = (h p (inl refl), all_by_in P ps (λ q i. h q (inr i)))

-- entries with one requirement are one
pub same_entry : (p q : Place) → same_place (version_member p) (version_member q) ≡ true → p ≡ q
same_entry p q h =
    (last_same p q (key (codes "version")) (key (codes "version"))
    (same_place_is (version_member p) (version_member q) h)).0

-- an entry without a new requirement keeps its own
pub written_none : (new : Place → Option (List ℕ)) (t : Tree) (qs : List Place) (q : Place) → new q ≡ None
    → tree_with_strings (entry_edits new qs) t (version_member q) ≡ t (version_member q)
written_none new t [] q h = refl
written_none new t (p ∷ ps) q h = elim (option_cases (new p)) [
  | inl none ↦ rw none (written_none new t ps q h)
  | inr some ↦ rw some.1 (elim (cases_Bool (same_place (version_member p) (version_member q))) [
    | inl same ↦ absurd (let e = ap new (same_entry p q same) in cc (some.1, h, e))
    | inr other ↦ rw other (written_none new t ps q h)
  ])
]

-- equal texts
text_is : (a b : List ℕ) → ◌≡◌ {A = Option (List ℕ)} (Some a) (Some b) → a ≡ b
text_is a b e = cc e

-- an entry with a new requirement has it
pub written_new : (new : Place → Option (List ℕ)) (t : Tree) (qs : List Place) (q : Place) (s : List ℕ)
    → In q qs → new q ≡ Some s → tree_with_strings (entry_edits new qs) t (version_member q) ≡ Some (string s)
written_new new t [] q s i h = absurd i
written_new new t (p ∷ ps) q s (inl e) h =
    let f : new p ≡ Some s = sym (ap new e) ∙ h in
    let g : same_place (version_member p) (version_member q) ≡ true =
    subst (λ (z : Place). same_place (version_member z) (version_member q) ≡ true) e
    (same_place_self (version_member q)) in
    rw (f, g) refl
written_new new t (p ∷ ps) q s (inr i) h = elim (option_cases (new p)) [
  | inl none ↦ rw none (written_new new t ps q s i h)
  | inr some ↦ rw some.1 (elim (cases_Bool (same_place (version_member p) (version_member q))) [
    | inl same ↦
        let k : some.0 ≡ s = text_is some.0 s (sym some.1 ∙ ap new (same_entry p q same) ∙ h) in
        rw (same, k) refl
    | inr other ↦ rw other (written_new new t ps q s i h)
  ])
]
