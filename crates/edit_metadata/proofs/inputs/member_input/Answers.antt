use Rattle.std.proofs.Common.{◌∷◌, [], inl, inr, ⊎_elim, rules, subst, sym}
use Rattle.edit_base.proofs.FirstCauseLemmas.{first_here}
use Rattle.edit_base.specs.Paths.{IsNormalOf}
use Rattle.edit_metadata.specs.Inputs.{HasFile, IsNoInput, LacksFile, manifest_of}
use Rattle.edit_metadata.specs.Workspaces.{package_view}
use Rattle.edit_metadata.proofs.inputs.member_input.Goals as goal

pub returns-in_err-bytes-clause-error : goal.returns-in_err-bytes-clause-error
returns-in_err-bytes-clause-error g c =
    let why : IsNoInput (g.S.Store.view c.args.store.now) (g.S.Store.view c.read_manifest.new.store)
    (manifest_of (package_view c.args.member.now) ∷ []) c.in_err-bytes.field-0.0
    = ⊎_elim (λ refused. inl refused) (λ none. inr (
      none.0,
      λ tells. first_here (HasFile (g.S.Store.view c.args.store.now).file_at)
          (LacksFile (g.S.Store.view c.args.store.now).file_at) (manifest_of (package_view c.args.member.now)) []
          (record {
            path = c.as_str-3.result.now;
            is_normal = subst (λ p. IsNormalOf p c.as_str-3.result.now) c.as_str-2.ensures.value
                (subst (IsNormalOf c.as_str-2.result.now) (sym c.as_str-3.ensures.value)
                c.in_ok-path.ensures.text);
            absent = none.1 tells;
          }),
    )) c.in_err-bytes.ensures.error in
    search (rules, why)
