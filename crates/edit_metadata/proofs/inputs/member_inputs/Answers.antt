use Rattle.std.proofs.Common.{◌≡◌, ◌∷◌, [], ◌++◌, ◌+◌, ap, option_map, rules, string_bytes, subst, sym, ◌∙◌, take}
use Rattle.std.specs.Prelude.{All}
use Rattle.std.specs.List.{AllZip}
use Rattle.std.proofs.lemmas.List.Elements.{All-push}
use Rattle.std.proofs.lemmas.Slice.Zip.{all_zipped_more}
use Rattle.edit_store.specs.Store.{OnlyReads}
use Rattle.edit_version.specs.RustVersions.{numbers_of}
use Rattle.edit_metadata.specs.Inputs.{HasFile, IsInputOf, IsNoInput, IsReadFrom, RustOptions, manifest_of, member_manifests}
use Rattle.edit_metadata.specs.Workspaces.{package_view, packages_view}
use Rattle.edit_metadata.proofs.InputLemmas.{manifests-same, manifests-more, missing-among-members, no-input-later, reads-on}
use Rattle.edit_metadata.proofs.inputs.member_inputs.Goals as goal
use Rattle.edit_metadata.proofs.inputs.member_inputs.Goals.{then-package+in_ok-input+in_ok-push, else-package}

pub returns-in_err-input-clause-error : goal.returns-in_err-input-clause-error
returns-in_err-input-clause-error g c =
    let why : IsNoInput (g.S.Store.view c.args.store.now) (g.S.Store.view c.member_input.new.store)
    (member_manifests (packages_view c.args.packages.now)) c.in_err-input.field-0.0
    = no-input-later (g.S.Store.view c.args.store.now) (g.S.Store.view c.packages.store)
    (g.S.Store.view c.member_input.new.store) _ _ _ c.packages.invariant.store
    (λ tells. missing-among-members (g.S.Store.view c.args.store.now).file_at c.args.packages.now
    c.packages.package-index c.package-item.result c.packages-test.true c.package-item.is c.if-package.true
    (c.packages.invariant.files tells)) c.in_err-input.ensures.error in
    search (rules, why)

pub packages-preserved : goal.packages-preserved
packages-preserved g c =
    let i = c.packages.package-index in
    let ps = c.args.packages.now in
    let p = c.package-item.result in
    let first = g.S.Store.view c.args.store.now in
    let before = c.packages.invariant in
    let options : RustOptions = record { given = option_map numbers_of c.args.given; ignored = c.args.ignore } in
    let old = c.packages.inputs.items in
    elim c.if-package.branch [
      | then-package+in_ok-input+in_ok-push w ↦
          let input = w.in_ok-input.input in
          let pushed : c.if-package.inputs.items ≡ old ++ input ∷ []
          = ap (λ v. v.items) w.inputs-is ∙ w.in_ok-push.ensures.items in
          let zipped = all_zipped_more (IsInputOf options) (member_manifests (packages_view (take i ps))) old
          (manifest_of (package_view p)) input before.inputs w.in_ok-input.ensures.input in
          let more = manifests-more ps i p c.packages-test.true c.package-item.is w.if-package.true in
          record {
            store = subst (λ s. OnlyReads first (g.S.Store.view s)) (sym w.store-is)
                (reads-on _ _ _ before.store w.in_ok-input.ensures.reads);
            inputs = subst (AllZip (IsInputOf options) (member_manifests (packages_view (take (i + 1) ps))))
                (sym pushed) (subst (λ ms. AllZip (IsInputOf options) ms (old ++ input ∷ [])) (sym more)
                zipped);
            bytes = λ tells. subst (All (IsReadFrom first.file_at)) (sym pushed)
                (All-push (IsReadFrom first.file_at) old input (before.bytes tells)
                (sym (before.store.files (string_bytes input.path))
                ∙ w.in_ok-input.ensures.bytes (before.store.tells ∙ tells)));
            files = λ tells. subst (All (HasFile first.file_at)) (sym more)
                (All-push (HasFile first.file_at) (member_manifests (packages_view (take i ps)))
                (manifest_of (package_view p)) (before.files tells) (record {
                  path = string_bytes input.path;
                  is_normal = w.in_ok-input.ensures.input.path;
                  bytes = input.bytes.items;
                  present = sym (before.store.files (string_bytes input.path))
                      ∙ w.in_ok-input.ensures.bytes (before.store.tells ∙ tells);
                }));
          }
      | else-package w ↦
          let same_inputs : c.if-package.inputs.items ≡ old = ap (λ v. v.items) w.inputs-is in
          let same = manifests-same ps i p c.packages-test.true c.package-item.is w.if-package.false in
          record {
            store = subst (λ s. OnlyReads first (g.S.Store.view s)) (sym w.store-is) before.store;
            inputs = subst (AllZip (IsInputOf options) (member_manifests (packages_view (take (i + 1) ps))))
                (sym same_inputs) (subst (λ ms. AllZip (IsInputOf options) ms old) (sym same) before.inputs);
            bytes = λ tells. subst (All (IsReadFrom first.file_at)) (sym same_inputs) (before.bytes tells);
            files = λ tells. subst (All (HasFile first.file_at)) (sym same) (before.files tells);
          }
    ]
