use Rattle.std.proofs.Common.{⊎_elim, inl, inr, subst}
use Rattle.std.proofs.lemmas.Result.{IfErr-weaker, IfOk-weaker}
use Rattle.edit_base.specs.declared.errors.DeviceCall.TheVariants as call
use Rattle.edit_manifest.specs.Located.{NamesFolder}
use Rattle.edit_manifest.proofs.Faults.{fault_later}
use Rattle.edit_manifest.proofs.SearchLemmas.{none_found, path_named, path_nearest}
use Rattle.edit_manifest.proofs.locate.find_at.Goals as goal

pub returns-in-Ok-File-clause-found : goal.returns-in-Ok-File-clause-found
returns-in-Ok-File-clause-found g c t =
    let stands = rw c.in-Ok-File.field-0-is at c.in-Ok-File.ensures.stands in
    path_named _ _ c.as_str.result.now c.as_str.ensures.value (stands t)

pub returns-in-Ok-Folder-clause-found : goal.returns-in-Ok-Folder-clause-found
returns-in-Ok-Folder-clause-found g c =
    let stands = rw c.in-Ok-Folder.field-0-is at c.in-Ok-Folder.ensures.stands in
    IfOk-weaker c.search.result _ _
    (λ p near. path_nearest _ _ _ (g.S.Store.view c.kind.new.self).file_at _ c.as_str.result.now
    c.as_str-in-Ok-Folder.result.now _ c.as_str.ensures.value c.as_str-in-Ok-Folder.ensures.value
    c.kind.ensures.tells c.kind.ensures.files stands near)
    c.search.ensures.found

pub returns-in-Ok-Folder-clause-error : goal.returns-in-Ok-Folder-clause-error
returns-in-Ok-Folder-clause-error g c =
    let stands = rw c.in-Ok-Folder.field-0-is at c.in-Ok-Folder.ensures.stands in
    IfErr-weaker c.search.result _ _
    (λ e refused. ⊎_elim
    (λ fault. inl (fault_later call.Kind (g.S.Store.view c.args.store.now).faults
    (g.S.Store.view c.kind.new.self).faults (g.S.Store.view c.search.new.store).faults e
    c.kind.ensures.cause.later fault))
    (λ none. inr (none_found _ _ _ (g.S.Store.view c.kind.new.self).file_at _ c.as_str.result.now
    c.as_str-in-Ok-Folder.result.now e c.as_str.ensures.value c.as_str-in-Ok-Folder.ensures.value
    c.kind.ensures.tells c.kind.ensures.files stands none))
    refused)
    c.search.ensures.error

pub returns-in-Ok-Folder-clause-only : goal.returns-in-Ok-Folder-clause-only
returns-in-Ok-Folder-clause-only g c =
    IfErr-weaker c.search.result _ _
    (λ e only. ⊎_elim
    (λ fault. inl (fault_later call.Kind (g.S.Store.view c.args.store.now).faults
    (g.S.Store.view c.kind.new.self).faults (g.S.Store.view c.search.new.store).faults e
    c.kind.ensures.cause.later fault))
    (λ named. inr (inr (subst (λ text. NamesFolder text e) c.as_str-in-Ok-Folder.ensures.value named)))
    only)
    c.search.ensures.only
