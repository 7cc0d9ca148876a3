-- Requirements on a bumped crate admit its next version, after a plan.
use Rattle.std.proofs.Common.{◌≡◌, ℕ, true, false, List, [], ◌∷◌, ◌++◌, Option, Some, None, refl, sym, ap, ◌∙◌, subst, ◌⊎◌, inl, inr}
use Rattle.std.specs.Prelude.{All, codes, option_and_then, option_map}
use Rattle.std.specs.List.{AllByRecursion, filter_map}
use Rattle.std.proofs.lemmas.Bool.{cases_Bool}
use Rattle.std.proofs.lemmas.List.Elements.{All-cons, All-head, All-nil, All-tail}
use Rattle.semver.specs.Parse.{Parts}
use Rattle.edit_tree.specs.Assertions.{Place, key, same_bytes, same_place}
use Rattle.edit_document.specs.Items.{string_in}
use Rattle.edit_tree.specs.Replaces.{Edits, tree_without_below, is_below, tree_with_strings}
use Rattle.edit_tree.specs.Tree.{View, string}
use Rattle.edit_version.proofs.Outcomes.{nothing-outcome, reach-of, settled-of, text-outcome}
use Rattle.edit_version.specs.Laws.{Admits, CanReach, IsVersion}
use Rattle.edit_version.specs.Requirement.{Nothing, UpgradeResult, Text, Unread, Unsupported, upgrade_of}
use Rattle.edit_manifest.specs.Tables.{Tree, is_table_like, place_of_keys}
use Rattle.edit_manifest.specs.Versions.{package_version, shared_version, version_member}
use Rattle.edit_set_version.specs.Entries.{entries, path_member, target_folder, requirement, text_at}
use Rattle.edit_set_version.specs.Folders.{Folder, folder_of, resolve_folder, same_folder}
use Rattle.edit_set_version.specs.Admitted.{CanRise, AdmitsNext, DependentsAdmit}
use Rattle.edit_set_version.specs.SetVersioned.{Bump, Dependent, bumps, edits, next_at, dependent, dependent_at, dependents, next_in, own_edit, requirement_edit, raised_dependent_text, shared_edits, workspace_next}
use Rattle.edit_set_version.proofs.Clear.{IsWritten, entry_clear, last_differs, member_below, member_clear, own_apart, reaches, root_clear, table_clear, target_clear, version_at_end, whole_apart}
use Rattle.edit_set_version.proofs.EntriesStay.{entries_same}
use Rattle.edit_set_version.proofs.TablePlaces.{IsEntry, entries_shaped}
use Rattle.edit_set_version.proofs.WrittenPlaces.{In, all_by_in, all_every, all_filter_map, all_in, all_then, all_written, entry_edits, edits_by_entry, emptied_other, new_at, option_cases, own_at, shared_all, unreached, untouched, written_new, written_none, written_past}

-- ---- lists

-- what holds of all, by recursion
pub by_recursion : {A : Type 0} (P : A → Type 0) (xs : List A) → All P xs → AllByRecursion P xs
by_recursion P [] h = tt
by_recursion P (x ∷ xs) h = (All-head P x xs h, by_recursion P xs (All-tail P x xs h))

-- and back
pub of_all : {A : Type 0} (P : A → Type 0) (xs : List A) → AllByRecursion P xs → All P xs
of_all P [] h = All-nil P
of_all P (x ∷ xs) h = All-cons P x xs h.0 (of_all P xs h.1)

-- what holds of all that is made of places holds of what is made of one of them
of_one : {B : Type 0} (Q : B → Type 0) (f : Place → Option B) (xs : List Place)
    → AllByRecursion Q (filter_map f xs) → (q : Place) → In q xs → (y : B) → f q ≡ Some y → Q y
of_one Q f [] h q i y e = absurd i
of_one {B} Q f (x ∷ xs) h q (inl is) y e =
    let k : f x ≡ Some y = sym (ap f is) ∙ e in
    let all : AllByRecursion Q (y ∷ filter_map f xs) = rw k at h in
    all.0
of_one {B} Q f (x ∷ xs) h q (inr i) y e = elim (option_cases (f x)) [
  | inl none ↦ let rest : AllByRecursion Q (filter_map f xs) = rw none at h in of_one Q f xs rest q i y e
  | inr some ↦
      let all : AllByRecursion Q (some.0 ∷ filter_map f xs) = rw some.1 at h in
      of_one Q f xs all.1 q i y e
]

-- ---- the requirement of an entry on a bumped crate

-- the parts of a requirement on a bumped crate
pub record HasParts (o : Option (List ℕ)) (v : Option Parts) (f : Dependent) : Type 0 where
  pub text : o ≡ Some f.text
  pub next : v ≡ Some f.next

-- they are both there
pub dependent_parts : (q : Place) (o : Option (List ℕ)) (v : Option Parts) (f : Dependent)
    → dependent_at q o v ≡ Some f → HasParts o v f
dependent_parts q None v f h = cc h
dependent_parts q (Some text) None f h = cc h
dependent_parts q (Some text) (Some v) f h = record { text = cc h; next = cc h }

-- a requirement stands in a table
pub record IsRequired (t : Tree) (q : Place) (text : List ℕ) : Type 0 where
  pub like : is_table_like (t q) ≡ true
  pub said : text_at t (version_member q) ≡ Some text

-- where a requirement stands
pub required : (t : Tree) (q : Place) (text : List ℕ) → requirement t q ≡ Some text → IsRequired t q text
required t q text h = elim (cases_Bool (is_table_like (t q))) [
  | inl like ↦ record { like = like; said = rw like at h }
  | inr other ↦ let e = rw other at h in cc e
]

-- the next versions of bumped crates are versions
next_is_version : (bs : List Bump) (folder : Folder) (v : Parts) → AllByRecursion (λ b. IsVersion b.next) bs
    → next_in bs folder ≡ Some v → IsVersion v
next_is_version [] folder v all h = cc h
next_is_version (b ∷ bs) folder v all h = elim (cases_Bool (same_folder (folder_of b.member.path) folder)) [
  | inl same ↦
      let e : ◌≡◌ {A = Option Parts} (Some b.next) (Some v) = rw same at h in
      let k : b.next ≡ v = cc e in
      subst IsVersion k all.0
  | inr other ↦
      let e : next_in bs folder ≡ Some v = rw other at h in
      next_is_version bs folder v all.1 e
]

-- so is the one of the crate that an entry points to
next_at_is_version : (bs : List Bump) (o : Option Folder) (v : Parts)
    → AllByRecursion (λ b. IsVersion b.next) bs → option_and_then (next_in bs) o ≡ Some v → IsVersion v
next_at_is_version bs None v all h = cc h
next_at_is_version bs (Some folder) v all h = next_is_version bs folder v all h

-- a requirement that is not refused stays or becomes another
rises : (r : UpgradeResult) → CanRise r → (r ≡ Nothing) ⊎ ((s : List ℕ) × (r ≡ Text s))
rises Nothing h = inl refl
rises (Text s) h = inr (s, refl)
rises Unread h = absurd h
rises (Unsupported c) h = absurd h

-- equal texts
text_is : (a b : List ℕ) → ◌≡◌ {A = Option (List ℕ)} (Some a) (Some b) → a ≡ b
text_is a b e = cc e

-- at one entry: the requirement was raised, or it stays and needs no other text
at_entry : (bs : List Bump) (file : List ℕ) (tree base : Tree) (q : Place) (o : Option View) (text : List ℕ)
    (v : Parts) → is_table_like (tree q) ≡ true → In q (entries tree) → next_at bs file tree q ≡ Some v
    → base (version_member q) ≡ tree (version_member q)
    → o ≡ tree_with_strings (entry_edits (new_at bs file tree) (entries tree)) base (version_member q)
    → option_and_then string_in o ≡ Some text
    → AllByRecursion (λ f. CanRise (upgrade_of f.text f.next)) (dependents bs file tree)
    → IsVersion v → CanReach text v → Admits text v
at_entry bs file tree base q o text v like i leads unchanged lookup now all big can =
    let requirement_is : requirement tree q ≡ text_at tree (version_member q) = rw like refl in
    elim (option_cases (text_at tree (version_member q))) [
      | inl gone ↦
          let new : new_at bs file tree q ≡ None =
          ap (λ (x : Option (List ℕ)). option_and_then raised_dependent_text (dependent_at q x (next_at bs file tree q)))
          (requirement_is ∙ gone) in
          let stands : o ≡ tree (version_member q) =
          lookup ∙ (written_none (new_at bs file tree) base (entries tree) q new ∙ unchanged) in
          let e : ◌≡◌ {A = Option (List ℕ)} (Some text) None =
          sym now ∙ (ap (λ x. option_and_then string_in x) stands ∙ gone) in
          cc e
      | inr old ↦
          let req : requirement tree q ≡ Some old.0 = requirement_is ∙ old.1 in
          let f : Dependent = record { place = q; text = old.0; next = v } in
          let here : dependent bs file tree q ≡ Some f = rw (req, leads) refl in
          let fine : CanRise (upgrade_of old.0 v) =
          of_one (λ g. CanRise (upgrade_of g.text g.next)) (dependent bs file tree) (entries tree) all q i f
          here in
          elim (rises (upgrade_of old.0 v) fine) [
            | inl stays ↦
                let new : new_at bs file tree q ≡ None = rw (here, stays) refl in
                let stands : o ≡ tree (version_member q) =
                lookup ∙ (written_none (new_at bs file tree) base (entries tree) q new ∙ unchanged) in
                let e : old.0 ≡ text =
                text_is old.0 text (sym old.1 ∙ (sym (ap (λ x. option_and_then string_in x) stands) ∙ now)) in
                let settled : upgrade_of text v ≡ Nothing = subst (λ (x : List ℕ). upgrade_of x v ≡ Nothing) e stays in
                reach-of text v text big (nothing-outcome text v settled) can
            | inr goes ↦
                let new : new_at bs file tree q ≡ Some goes.0 = rw (here, goes.1) refl in
                let stands : o ≡ Some (string goes.0) =
                lookup ∙ written_new (new_at bs file tree) base (entries tree) q goes.0 i new in
                let e : goes.0 ≡ text =
                text_is goes.0 text (sym (ap (λ x. option_and_then string_in x) stands) ∙ now) in
                let raised : upgrade_of old.0 v ≡ Text text =
                subst (λ (x : List ℕ). upgrade_of old.0 v ≡ Text x) e goes.1 in
                let settled = settled-of old.0 v text big (text-outcome old.0 v text raised) in
                reach-of text v text big (nothing-outcome text v settled.1) can
          ]
    ]

-- ---- the law

-- after a plan, each requirement on a bumped crate admits its next version
pub dependents_admit : DependentsAdmit
dependents_admit t a p file tree after readable rising left =
    of_all AdmitsNext (dependents bs file after)
    (all_filter_map (λ q. In q (entries tree)) AdmitsNext (dependent bs file after) at_each (entries after)
    (subst (λ (qs : List Place). AllByRecursion (λ q. In q (entries tree)) qs) (sym same)
    (all_by_in (λ q. In q (entries tree)) (entries tree) (λ q i. i))))
  where
    bs : List Bump
    bs = bumps t a p

    shared : Edits
    shared = shared_edits (same_bytes file p.path) (workspace_next t a p)

    owns : Edits
    owns = filter_map (own_edit file) bs

    reqs : Edits
    reqs = filter_map requirement_edit (dependents bs file tree)

    es : Edits
    es = edits t a p file tree

    all : AllByRecursion (λ e. IsWritten e.0) es
    all = all_written p.path (workspace_next t a p) bs file tree

    -- what is written by no edit stays
    clear : (q : Place) → ((e : Place) → IsWritten e → reaches e q ≡ false) → after q ≡ tree q
    clear q h =
        left q ∙ unreached es tree q
        (all_then (λ e. IsWritten e.0) (λ e. reaches e.0 q ≡ false) (λ e w. h e.0 w) es
        all)

    same : entries after ≡ entries tree
    same = entries_same after tree (record {
      root = clear [] root_clear;
      targets = clear (place_of_keys (codes "target" ∷ [])) (λ e w. member_clear e (codes "target") w);
      target = λ name. clear (place_of_keys (codes "target" ∷ name ∷ [])) (λ e w. target_clear e name w);
      table = λ place shape. clear place (λ e w. table_clear e place w shape);
    })

    at_each : (q : Place) → In q (entries tree) → (f : Dependent) → dependent bs file after q ≡ Some f
        → AdmitsNext f
    at_each q i f here =
        let is : IsEntry q = all_in IsEntry (entries tree) q (entries_shaped tree) i in
        let away : (e : Place) → IsWritten e → reaches e q ≡ false =
        λ e w. subst (λ (z : Place). reaches e z ≡ false) (sym is.is)
        (entry_clear e is.table is.name w is.shape) in
        let stays : after q ≡ tree q = clear q away in
        let path : after (path_member q) ≡ tree (path_member q) =
        left (path_member q) ∙ untouched es tree (path_member q)
        (all_then (λ e. IsWritten e.0) (λ e. same_place e.0 (path_member q) ≡ false)
        (λ e w. let m = version_at_end e.0 w in
        subst (λ (z : Place). same_place z (path_member q) ≡ false) (sym m.is)
        (last_differs m.front q (key (codes "version")) (key (codes "path")) refl))
        es all)
        (all_then (λ e. IsWritten e.0) (λ e. is_below e.0 (path_member q) ≡ false)
        (λ e w. member_below e.0 q (key (codes "path")) (away e.0 w))
        es all) in
        let unchanged : tree_without_below es tree (version_member q) ≡ tree (version_member q) =
        emptied_other es tree (version_member q)
        (all_then (λ e. IsWritten e.0) (λ e. is_below e.0 (version_member q) ≡ false)
        (λ e w. member_below e.0 q (key (codes "version")) (away e.0 w))
        es all) in
        let Other : Place × List ℕ → Type 0 = λ e. same_place e.0 (version_member q) ≡ false in
        let lookup : after (version_member q)
        ≡ tree_with_strings (entry_edits (new_at bs file tree) (entries tree)) (tree_without_below es tree) (version_member q) =
        left (version_member q)
        ∙ (written_past shared (owns ++ reqs) (tree_without_below es tree) (version_member q)
        (shared_all Other (λ s. subst (λ (z : Place). same_place shared_version (version_member z) ≡ false)
        (sym is.is) (whole_apart is.table is.name is.shape)) _ _)
        ∙ (written_past owns reqs (tree_without_below es tree) (version_member q)
        (all_filter_map (λ b. Unit {0}) Other (own_edit file)
        (λ b none y e. subst (λ (z : Place). same_place z (version_member q) ≡ false) (own_at file b y e)
        (subst (λ (z : Place). same_place package_version (version_member z) ≡ false)
        (sym is.is) (own_apart is.table is.name is.shape)))
        bs (all_every (λ b. Unit {0}) (λ b. tt) bs))
        ∙ ap (λ ws. tree_with_strings ws (tree_without_below es tree) (version_member q))
        (edits_by_entry bs file tree (entries tree)))) in
        let parts = dependent_parts q (requirement after q) (next_at bs file after q) f here in
        let now = required after q f.text parts.text in
        let like : is_table_like (tree q) ≡ true = sym (ap is_table_like stays) ∙ now.like in
        let leads : next_at bs file tree q ≡ Some f.next =
        sym (ap (λ (x : Option View). option_and_then (next_in bs) (option_map (resolve_folder file)
        (option_and_then string_in x))) path) ∙ parts.next in
        λ can. at_entry bs file tree (tree_without_below es tree) q (after (version_member q)) f.text f.next like i
        leads
        unchanged lookup now.said
        (by_recursion (λ g. CanRise (upgrade_of g.text g.next)) (dependents bs file tree) rising)
        (next_at_is_version bs (target_folder file tree q) f.next
        (by_recursion (λ b. IsVersion b.next) bs readable) leads)
        can
