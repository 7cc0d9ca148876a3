use Rattle.std.proofs.Common.{◌∷◌, [], ◌++◌, ◌+◌, ap, map, string_bytes, subst, sym, ◌∙◌, take}
use Rattle.std.specs.List.{AllZip}
use Rattle.std.proofs.lemmas.List.{map_push}
use Rattle.std.proofs.lemmas.Slice.Zip.{all_zipped_more}
use Rattle.edit_metadata.specs.Folders.{IsManifestFolder}
use Rattle.edit_metadata.specs.Workspaces.{member_paths, packages_view}
use Rattle.edit_metadata.proofs.MemberPaths.{paths-same, paths-more}
use Rattle.edit_metadata.proofs.folders.member_folders.Goals as goal
use Rattle.edit_metadata.proofs.folders.member_folders.Goals.{then-package+in_ok-folder+in_ok-push, else-package}

pub packages-preserved : goal.packages-preserved
packages-preserved c =
    let i = c.packages.package-index in
    let paths = member_paths (packages_view (take i c.args.packages.now)) in
    elim c.if-package.branch [
      | then-package+in_ok-folder+in_ok-push w ↦
          let pushed = ap (λ v. map string_bytes v.items) w.folders-is
          ∙ ap (map string_bytes) w.in_ok-push.ensures.items
          ∙ map_push string_bytes c.packages.folders.items w.in_ok-folder.folder in
          subst (AllZip IsManifestFolder (member_paths (packages_view (take (i + 1) c.args.packages.now))))
          (sym pushed)
          (subst (λ ps. AllZip IsManifestFolder ps (map string_bytes c.packages.folders.items
          ++ string_bytes w.in_ok-folder.folder ∷ []))
          (sym (paths-more c.args.packages.now i c.package-item.result c.packages-test.true c.package-item.is
          w.if-package.true))
          (all_zipped_more IsManifestFolder paths (map string_bytes c.packages.folders.items) _ _
          c.packages.invariant (subst (λ p. IsManifestFolder p (string_bytes w.in_ok-folder.folder))
          w.as_str.ensures.value w.in_ok-folder.ensures.ok)))
      | else-package w ↦
          subst (λ v. AllZip IsManifestFolder (member_paths (packages_view
          (take (i + 1) c.args.packages.now))) (map string_bytes v.items)) (sym w.folders-is)
          (subst (λ ps. AllZip IsManifestFolder ps (map string_bytes c.packages.folders.items))
          (sym (paths-same c.args.packages.now i c.package-item.result c.packages-test.true c.package-item.is
          w.if-package.false)) c.packages.invariant)
    ]
