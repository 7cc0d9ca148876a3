use Rattle.std.proofs.Common.{List, ◌∷◌, [], ap, inl, inr, ⊎_elim, option_map, rules, string_bytes, subst, sym, ◌∙◌}
use Rattle.std.specs.Prelude.{All, Contains}
use Rattle.std.specs.List.{AllZip}
use Rattle.edit_base.proofs.FirstCauseLemmas.{first_before, first_behind, first_here}
use Rattle.edit_base.specs.Paths.{IsNormalOf}
use Rattle.edit_version.specs.RustVersions.{numbers_of}
use Rattle.edit_metadata.specs.Inputs.{AreInputs, HasFile, HaveMissingFile, IsInputOf, IsNoInput, LacksFile, RustOptions, input_paths, least, manifests, member_manifests, root_manifest, rust_version_for}
use Rattle.edit_metadata.specs.Inputs.AreInputs.{of_members, with_root}
use Rattle.edit_metadata.specs.Workspaces.{packages_view, workspace_view}
use Rattle.edit_metadata.specs.declared.input.Input.{Input}
use Rattle.edit_metadata.proofs.InputLemmas.{member_versions, no-input-among, refused-later}
use Rattle.edit_metadata.proofs.inputs.workspace_inputs.Goals as goal

pub returns-in_err-inputs-clause-error : goal.returns-in_err-inputs-clause-error
returns-in_err-inputs-clause-error g c =
    let said = workspace_view c.args.workspace.now in
    let why : IsNoInput (g.S.Store.view c.args.store.now) (g.S.Store.view c.member_inputs.new.store)
    (manifests said) c.in_err-inputs.field-0.0
    = no-input-among (g.S.Store.view c.args.store.now) (g.S.Store.view c.member_inputs.new.store)
    (member_manifests (packages_view c.deref.result.now)) _ _
    (λ lack. first_before (HasFile (g.S.Store.view c.args.store.now).file_at)
    (LacksFile (g.S.Store.view c.args.store.now).file_at) (member_manifests said.packages)
    (root_manifest said ∷ [])
    (subst (λ ps. HaveMissingFile (g.S.Store.view c.args.store.now).file_at
    (member_manifests (packages_view ps))) c.deref.ensures.value lack))
    c.in_err-inputs.ensures.error in
    search (rules, why)

pub returns-then-has_path-clause-inputs : goal.returns-then-has_path-clause-inputs
returns-then-has_path-clause-inputs g c =
    let options : RustOptions
    = record { given = option_map numbers_of c.args.rust_version; ignored = c.args.ignore } in
    let is = c.in_ok-inputs.inputs.items in
    let has = c.has_path.ensures.0 c.if-has_path.true in
    of_members (string_bytes c.in_ok-root.root) is
    (subst (λ ps. AllZip (IsInputOf options) (member_manifests (packages_view ps)) is) c.deref.ensures.value
    c.in_ok-inputs.ensures.inputs) c.in_ok-root.ensures.path
    (subst (λ (xs : List Input). Contains (input_paths xs) (string_bytes c.in_ok-root.root))
    c.deref-2.ensures.value
    (subst (Contains (input_paths c.deref-2.result.now)) c.as_str.ensures.value has))

pub returns-in_err-input-clause-error : goal.returns-in_err-input-clause-error
returns-in_err-input-clause-error g c =
    let said = workspace_view c.args.workspace.now in
    let before = c.in_ok-inputs.ensures.reads in
    let why : IsNoInput (g.S.Store.view c.args.store.now) (g.S.Store.view c.root_input.new.store)
    (manifests said) c.in_err-input.field-0.0
    = ⊎_elim (λ refused. inl (refused-later (g.S.Store.view c.args.store.now)
    (g.S.Store.view c.member_inputs.new.store) (g.S.Store.view c.root_input.new.store) _ before refused))
    (λ none. inr (
      none.0,
      λ tells. first_behind (HasFile (g.S.Store.view c.args.store.now).file_at)
          (LacksFile (g.S.Store.view c.args.store.now).file_at) (member_manifests said.packages)
          (root_manifest said ∷ [])
          (subst (λ ps. All (HasFile (g.S.Store.view c.args.store.now).file_at)
          (member_manifests (packages_view ps))) c.deref.ensures.value (c.in_ok-inputs.ensures.files tells))
          (first_here (HasFile (g.S.Store.view c.args.store.now).file_at)
          (LacksFile (g.S.Store.view c.args.store.now).file_at) (root_manifest said) [] (record {
            path = string_bytes c.in_ok-root.root;
            is_normal = c.in_ok-root.ensures.path;
            absent = sym (before.files (string_bytes c.in_ok-root.root)) ∙ none.1 (before.tells ∙ tells);
          })),
    )) c.in_err-input.ensures.error in
    search (rules, why)

pub returns-clause-inputs : goal.returns-clause-inputs
returns-clause-inputs g c =
    let said = workspace_view c.args.workspace.now in
    let options : RustOptions
    = record { given = option_map numbers_of c.args.rust_version; ignored = c.args.ignore } in
    let is = c.in_ok-inputs.inputs.items in
    let input = c.in_ok-input.input in
    let root : IsInputOf options (root_manifest said) input = record {
      name = c.in_ok-input.ensures.name;
      path = subst (λ s. IsNormalOf (root_manifest said).path (string_bytes s))
          (sym c.in_ok-input.ensures.path)
          c.in_ok-root.ensures.path;
      rust_version = ap (option_map numbers_of) c.in_ok-input.ensures.rust_version
          ∙ c.rust_version_for-own.ensures
          ∙ ap (rust_version_for options) (c.least_rust_version-own.ensures
          ∙ ap (λ ps. least (member_versions (packages_view ps))) c.deref-3.ensures.value);
    } in
    let none : Contains (input_paths is) (string_bytes input.path) → ⊥ = λ has.
    let there = subst (Contains (input_paths is))
    (ap string_bytes c.in_ok-input.ensures.path ∙ sym c.as_str.ensures.value) has in
    cc (sym c.if-has_path.false ∙ c.has_path.ensures.1
    (subst (λ (xs : List Input). Contains (input_paths xs) c.as_str.result.now) (sym c.deref-2.ensures.value)
    there)) in
    subst (AreInputs options said) (sym c.in_ok-insert.ensures.items)
    (with_root input is
    (subst (λ ps. AllZip (IsInputOf options) (member_manifests (packages_view ps)) is) c.deref.ensures.value
    c.in_ok-inputs.ensures.inputs) root none)
