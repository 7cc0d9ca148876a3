-- The guarantees of a plan, from those of its steps.
use Rattle.std.proofs.Common.{◌≡◌, ◌≢◌, ◌∙◌, ℕ, List, [], ◌∷◌, ◌++◌, Bool, true, false, Bor, Option, Ok, Err, Some, None, not, ap, ap₂, length, map, option_map, refl, slice_index_or, subst, sym}
use Rattle.std.specs.Prelude.{◌==◌, ◌&&◌, All, IfErr, IfOk, OnOk, if◌then◌else◌, option_and_then, option_copied, Result}
use Rattle.std.specs.List.{AllZip, filter, flat_map}
use Rattle.std.proofs.lemmas.List.Elements.{All-append, All-cons, All-filter, All-head, All-map, All-nil, All-tail}
use Rattle.semver.specs.Identifiers.{parts_of}
use Rattle.semver.specs.Parse.{Parts}
use Rattle.semver.specs.declared.Version.{Version}
use Rattle.edit_manifest.specs.Tables.{Tree}
use Rattle.edit_manifest.specs.Versions.{is_inherited, workspace_version}
use Rattle.edit_metadata.specs.Metadata.{PackageModel, WorkspaceModel, members}
use Rattle.edit_metadata.specs.declared.input.Input.{Input}
use Rattle.edit_syntax.specs.Grammar.{Text}
use Rattle.edit_tree.specs.Assertions.{IsDocument, same_bytes}
use Rattle.edit_tree.specs.Replaces.{Edits, tree_without_below, replaced, tree_with_strings}
use Rattle.edit_tree.specs.Tree.{view_at}
use Rattle.edit_tree.proofs.Shallow.{one_form}
use Rattle.edit_report.specs.declared.output.Output.{Output}
use Rattle.edit_version.specs.Laws.{IsReadable}
use Rattle.edit_set_version.specs.Bumps.{Target, bump, next_of}
use Rattle.edit_set_version.specs.Chosen.{SelectionView, Member, bumps_workspace, chosen_members, inheriting_members, is_member_selected}
use Rattle.edit_set_version.specs.Admitted.{AllRise, AreVersions, AllAdmitNext, IsLeftBy}
use Rattle.edit_set_version.specs.PlanLines.{Named, lines_of, manifests, shared_lines}
use Rattle.edit_set_version.specs.PlanRefused.{IsInputClear, IsInputClearBy}
use Rattle.edit_set_version.specs.Planned.{AreOutputs, HasAdmitted, HasOutputsBy, HasSetOutputs, bytes_after, changed, outputs_at, unchanged}
use Rattle.edit_metadata.specs.Inputs.{path_of}
use Rattle.edit_set_version.specs.Projects.{IsMemberOf, IsProject, IsTreeAt}
use Rattle.edit_set_version.specs.SetVersioned.{Bump, Project, bumps, edits, workspace_current, workspace_next}
use Rattle.edit_set_version.specs.Written.{HasSharedVersion, shared_version_view}
use Rattle.edit_set_version.proofs.DependentLaw.{dependents_admit}

-- ---- the members of a project, by their packages

-- members have the names of their packages
pub member_names_are : (is : List Input) (ps : List PackageModel) (ms : List Member) → AllZip (IsMemberOf is) ps ms
    → map (λ (m : Member). m.name) ms ≡ map (λ (p : PackageModel). p.name) ps
member_names_are is [] [] are = refl
member_names_are is [] (m ∷ ms) are = absurd are
member_names_are is (p ∷ ps) [] are = absurd are
member_names_are is (p ∷ ps) (m ∷ ms) are = ap₂ (λ x xs. x ∷ xs) are.0.name (member_names_are is ps ms are.1)

-- and their versions
members_readable : (is : List Input) (ps : List PackageModel) (ms : List Member) → AllZip (IsMemberOf is) ps ms
    → All (λ (p : PackageModel). IsReadable p.version) ps → All (λ (m : Member). IsReadable m.version) ms
members_readable is [] [] are all = All-nil (λ (m : Member). IsReadable m.version)
members_readable is [] (m ∷ ms) are all = absurd are
members_readable is (p ∷ ps) [] are all = absurd are
members_readable is (p ∷ ps) (m ∷ ms) are all =
    All-cons (λ (m : Member). IsReadable m.version) m ms
    (subst IsReadable (sym are.0.version) (All-head (λ (p : PackageModel). IsReadable p.version) p ps all))
    (members_readable is ps ms are.1 (All-tail (λ (p : PackageModel). IsReadable p.version) p ps all))

-- what holds of all members holds of those that are chosen
pub all_chosen : (P : Member → Type 0) (a : SelectionView) (ms : List Member) → All P ms
    → All P (chosen_members a ms)
all_chosen P a ms all =
    All-append P (filter (is_member_selected a) ms) _ (All-filter (is_member_selected a) P ms all)
    (by (length (inheriting_members a ms) == 0))
  where
    by : (b : Bool)
        → All P (if b then [] else filter (λ m. not (is_member_selected a m) && is_inherited m.tree) ms)
    by true = All-nil P
    by false = All-filter (λ m. not (is_member_selected a m) && is_inherited m.tree) P ms all

-- the versions of the members can be read, where those of the packages can
pub readable_members : (w : WorkspaceModel) (is : List Input) (p : Project) → IsProject w is p
    → All (λ (q : PackageModel). IsReadable q.version) w.packages
    → All (λ (m : Member). IsReadable m.version) p.members
readable_members w is p project all =
    members_readable is (members w.packages) p.members project.members
    (All-filter (λ (q : PackageModel). q.member) (λ (q : PackageModel). IsReadable q.version) w.packages all)

-- the manifest of each member is that of an input
member_trees : (is : List Input) (ps : List PackageModel) (ms : List Member) → AllZip (IsMemberOf is) ps ms
    → All (λ (m : Member). IsTreeAt is m.path m.tree) ms
member_trees is [] [] are = All-nil (λ (m : Member). IsTreeAt is m.path m.tree)
member_trees is [] (m ∷ ms) are = absurd are
member_trees is (p ∷ ps) [] are = absurd are
member_trees is (p ∷ ps) (m ∷ ms) are =
    All-cons (λ (m : Member). IsTreeAt is m.path m.tree) m ms are.0.tree (member_trees is ps ms are.1)

-- so is each manifest of a project
pub manifest_lines_view : (w : WorkspaceModel) (is : List Input) (p : Project) → IsProject w is p
    → All (λ (m : Named). IsTreeAt is m.path m.tree) (manifests p)
manifest_lines_view w is p project =
    All-cons (λ (m : Named). IsTreeAt is m.path m.tree) _ _ project.tree
    (All-map (λ (m : Named). IsTreeAt is m.path m.tree)
    (λ (m : Member). record { name = m.name; path = m.path; tree = m.tree })
    (filter (λ m. not (same_bytes m.path p.path)) p.members)
    (All-filter (λ m. not (same_bytes m.path p.path)) (λ (m : Member). IsTreeAt is m.path m.tree) p.members
    (member_trees is (members w.packages) p.members project.members)))

-- ---- versions, outputs and lines over equal values

-- a version that is lent, by its parts
pub seen_copied : (o : Option (Bor Version)) → shared_version_view o ≡ option_map parts_of (option_copied o)
seen_copied None = refl
seen_copied (Some v) = refl

-- what is set over a root, a version and bumps is set over equal ones
pub set_for : (is : List Input) (os : List Output) (r s : List ℕ) (m n : Option Parts) (bs cs : List Bump)
    → r ≡ s → m ≡ n → bs ≡ cs → All (HasOutputsBy r m bs os) is → All (HasOutputsBy s n cs os) is
set_for is os r s m n bs cs root next same all =
    subst (λ (xs : List Bump). All (HasOutputsBy s n xs os) is) same
    (subst (λ (o : Option Parts). All (HasOutputsBy s o bs os) is) next
    (subst (λ (path : List ℕ). All (HasOutputsBy path m bs os) is) root all))

-- and so are the lines
pub lines_for : (p : Project) (a b m n : Option Parts) (bs cs : List Bump) → a ≡ b → m ≡ n → bs ≡ cs
    → shared_lines p.path a m ++ flat_map (lines_of p) bs ≡ shared_lines p.path b n ++ flat_map (lines_of p) cs
lines_for p a b m n bs cs old next same =
    ap (λ (o : Option Parts). shared_lines p.path o m ++ flat_map (lines_of p) bs) old
    ∙ ap (λ (o : Option Parts). shared_lines p.path b o ++ flat_map (lines_of p) bs) next
    ∙ ap (λ (xs : List Bump). shared_lines p.path b n ++ flat_map (lines_of p) xs) same

-- where the workspace gets a next version, its root has the current one
pub tells_shared : (t : Target) (a : SelectionView) (w : WorkspaceModel) (is : List Input) (p : Project)
    → IsProject w is p → HasSharedVersion is p.path (workspace_next t a p)
tells_shared t a w is p project = by (workspace_next t a p) refl
  where
    current : (o : Option Parts) → workspace_current a p ≡ o → (v : Parts) → workspace_next t a p ≡ Some v
        → workspace_version p.tree ≢ None
    current None e v some = λ none.
        cc (sym (ap (option_and_then (λ (v : Parts). next_of (bump t a.metadata v))) e) ∙ some)
    current (Some u) e v some = λ none. by_choice (bumps_workspace a p.members) (sym e) none
      where
        by_choice : (b : Bool) → Some u ≡ (if b then workspace_version p.tree else None)
            → workspace_version p.tree ≡ None → ⊥
        by_choice true is none = cc (is ∙ none)
        by_choice false is none = cc is

    by : (o : Option Parts) → workspace_next t a p ≡ o → HasSharedVersion is p.path o
    by None e = tt
    by (Some v) e = (p.tree, project.tree, current (workspace_current a p) refl v e)

-- what stands after a plan is a manifest of which this holds
record StandsAfter (old : List ℕ) (outputs : List Output) (RepresentsNodes : Tree → Type 0) : Type 0 where
  form : Text
  manifest : IsDocument (bytes_after old outputs) form
  holds : RepresentsNodes (view_at form)

-- what holds of each tree that the edits leave holds of what stands after a plan
stands_after : (path old : List ℕ) (form : Text) (es : Edits) (outputs : List Output) (RepresentsNodes : Tree → Type 0)
    → IsDocument old form → ((after : Tree) → IsLeftBy es (view_at form) after → RepresentsNodes after)
    → AreOutputs path old es outputs → StandsAfter old outputs RepresentsNodes
stands_after path old form es _ RepresentsNodes manifest each (unchanged none) = record {
  form = form;
  manifest = manifest;
  holds = each (view_at form) (λ q. subst (λ (ds : Edits). view_at form q
      ≡ tree_with_strings ds (tree_without_below ds (view_at form)) q) (sym none) refl);
}
stands_after path old form es _ RepresentsNodes manifest each (changed output some at new) = record {
  form = replaced es new.form;
  manifest = new.is;
  holds = each (view_at (replaced es new.form)) (λ q. subst (λ (f : Text). view_at (replaced es new.form) q
      ≡ tree_with_strings es (tree_without_below es (view_at f)) q) (one_form old new.form form new.was manifest) (new.tree q));
}

-- after a plan, the requirements of an input on bumped crates admit the next versions
pub has_admitted : (t : Target) (a : SelectionView) (outputs : List Output) (p : Project) (input : Input)
    → AreVersions (bumps t a p) → IsInputClear t a p input → HasSetOutputs t a outputs p input
    → HasAdmitted t a outputs p input
has_admitted t a outputs p input versions clear set =
    let path = path_of input in
    let rise = subst (λ (f : Text). AllRise (bumps t a p) path (view_at f))
    (one_form input.bytes.items clear.form set.form clear.manifest set.manifest) clear.requirements in
    let after = stands_after path input.bytes.items set.form (edits t a p path (view_at set.form))
    (outputs_at path outputs) (AllAdmitNext (bumps t a p) path) set.manifest
    (λ tree left. dependents_admit t a p path (view_at set.form) tree versions rise left) set.are in
    record { form = after.form; manifest = after.manifest; admit = after.holds }

-- what six facts of a call make together, where it succeeds
pub where_all : {T E : Type 0} (r : Result T E) (P Q R S Y : T → Type 0) (X : Type 0) (Z : T → Type 0)
    → ((x : T) → P x → Q x → R x → S x → Y x → X → Z x)
    → IfOk r P → IfOk r Q → IfOk r R → IfOk r S → IfOk r Y → OnOk r X → IfOk r Z
where_all (Ok x) P Q R S Y X Z h a b c d e f = h x a b c d e f
where_all (Err e) P Q R S Y X Z h a b c d f g = tt

-- what holds where a call fails
pub where_err : {T E : Type 0} (r : Result T E) (P Q : E → Type 0) → ((e : E) → P e → Q e) → IfErr r P
    → IfErr r Q
where_err (Ok x) P Q h p = tt
where_err (Err e) P Q h p = h e p

-- the outputs of a project, by the versions that its code has
pub outputs_given : (t : Target) (a : SelectionView) (is : List Input) (p : Project) (n : Option Parts)
    (bs : List Bump) (outputs : List Output) → n ≡ workspace_next t a p → bs ≡ bumps t a p
    → All (HasOutputsBy p.path n bs outputs) is → All (HasSetOutputs t a outputs p) is
outputs_given t a is p n bs outputs next same have =
    subst (λ (cs : List Bump). All (HasOutputsBy p.path (workspace_next t a p) cs outputs) is) same
    (subst (λ (o : Option Parts). All (HasOutputsBy p.path o bs outputs) is) next have)

-- all inputs are clear, by the bumps that its code has
pub clear_given : (t : Target) (a : SelectionView) (is : List Input) (p : Project) (bs : List Bump)
    → bs ≡ bumps t a p
    → All (IsInputClearBy bs) is → All (IsInputClear t a p) is
clear_given t a is p bs same clear = subst (λ (cs : List Bump). All (IsInputClearBy cs) is) same clear

-- after a plan, the requirements of all inputs on bumped crates admit the next versions
pub all_admitted : (t : Target) (a : SelectionView) (is : List Input) (p : Project) (outputs : List Output)
    → AreVersions (bumps t a p) → All (HasSetOutputs t a outputs p) is → All (IsInputClear t a p) is
    → All (HasAdmitted t a outputs p) is
all_admitted t a is p outputs versions set clear =
    λ k d within. has_admitted t a outputs p (slice_index_or is k d) versions (clear k d within)
    (set k d within)
