use Rattle.std.proofs.Common.{◌≡◌, ◌∙◌, ◌+◌, ◌++◌, ◌∷◌, [], ap, inl, inr, refl, subst, sym, take}
use Rattle.std.proofs.lemmas.List.{take_more}
use Rattle.std.specs.List.{AllZip}
use Rattle.std.proofs.lemmas.Slice.Zip.{all_zipped_more}
use Rattle.edit_tree.specs.Assertions.{IsDocument}
use Rattle.edit_set_version.specs.Crates.{IsReadOf}
use Rattle.std.proofs.lemmas.Result.{err_from_is_err_and}
use Rattle.edit_base.specs.Errors.{IsMemory}
use Rattle.edit_manifest.specs.Loaded.{IsBadManifest}
use Rattle.edit_set_version.specs.PlanRefused.{FailsAtInput, IsManifest}
use Rattle.edit_base.proofs.FirstCauseLemmas.{first_at}
use Rattle.edit_set_version.proofs.ProjectRoot.{all_manifests}
use Rattle.edit_set_version.proofs.manifests.manifests_of.Goals as goal

pub inputs-preserved : goal.inputs-preserved
inputs-preserved c =
    let i = c.inputs.input-index in
    let all = c.args.inputs.now in
    let own = c.input-item.result in
    let found = c.in-Ok.ensures.found in
    let more : take (i + 1) all ≡ take i all ++ own ∷ []
    = take_more all i own c.inputs-test.true ∙ ap (λ x. take i all ++ x ∷ []) (sym c.input-item.is) in
    subst (AllZip IsReadOf (take (i + 1) all)) (sym c.in_ok-push-in-Ok.ensures.items)
    (subst (λ xs. AllZip IsReadOf xs (c.inputs.manifests.items ++ c.in-Ok.manifest ∷ [])) (sym more)
    (all_zipped_more IsReadOf (take i all) c.inputs.manifests.items own c.in-Ok.manifest
    c.inputs.invariant (record {
      bytes = c.in-Ok.ensures.bytes ∙ c.deref.ensures.value;
      form = found.0;
      manifest = subst (λ bs. IsDocument bs found.0) c.deref.ensures.value found.1;
      shows = found.2;
    })))

pub returns-in-Err-clause-error : goal.returns-in-Err-clause-error
returns-in-Err-clause-error c =
    let f = c.at_input.result in
    let i = c.inputs.input-index in
    inr (first_at IsManifest (FailsAtInput f) c.args.inputs.now i c.input-item.result c.inputs-test.true
    c.input-item.is (all_manifests (take i c.args.inputs.now) c.inputs.manifests.items c.inputs.invariant) (
      subst (IsBadManifest c.input-item.result.bytes.items) (sym c.at_input.ensures.error)
          (subst (λ bs. IsBadManifest bs c.in-Err.error) c.deref.ensures.value c.in-Err.ensures.error),
      c.at_input.ensures.origin,
    ))

pub returns-in_err-manifests-clause-error : goal.returns-in_err-manifests-clause-error
returns-in_err-manifests-clause-error c =
    let r = err_from_is_err_and c.from_residual.result c.from_residual.ensures.1 in
    rw r.1 (inl (subst IsMemory (sym r.2.0) refl))

pub returns-in_err-push-in-Ok-clause-error : goal.returns-in_err-push-in-Ok-clause-error
returns-in_err-push-in-Ok-clause-error c =
    let r = err_from_is_err_and c.from_residual-in_err-push-in-Ok.result
    c.from_residual-in_err-push-in-Ok.ensures.1 in
    rw r.1 (inl (subst IsMemory (sym r.2.0) refl))
