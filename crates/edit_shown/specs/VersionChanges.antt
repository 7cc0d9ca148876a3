-- The messages of new versions and raised requirements, in parts (own).
use Rattle.std.specs.Prelude.{ℕ, List, [], ◌∷◌, Option, Some, None, codes, string_bytes}
use Rattle.std.specs.List.{flat_map}
use Rattle.serde_json.specs.Data.{boolean, string}
use Rattle.edit_set_version.specs.declared.plan.ChangeKind.{ChangeKind}
use Rattle.edit_set_version.specs.declared.plan.ChangeKind.TheVariants as kinds
use Rattle.edit_set_version.specs.declared.plan.VersionChange.{VersionChange}
use Rattle.edit_shown.specs.Fields.{text_data, text_or_null}
use Rattle.edit_shown.specs.JsonMessages.{MessageMembers, message_text}

-- the reason of the message of a change: of a version, or of a requirement (own)
abbrev pub change_reason : ChangeKind → List ℕ
change_reason kinds.Workspace = codes "set-version-version"
change_reason kinds.Member = codes "set-version-version"
change_reason kinds.Dependency = codes "set-version-requirement"

-- whose change it is, by its name: none for the version of the workspace (own)
abbrev pub change_owner : ChangeKind → List ℕ → Option (List ℕ)
change_owner kinds.Workspace name = None
change_owner kinds.Member name = Some name
change_owner kinds.Dependency name = Some name

-- the members of the message of a change (own)
abbrev pub version_change_members : VersionChange → MessageMembers
version_change_members c =
    (codes "reason", string (change_reason c.kind))
    ∷ (codes "name", text_or_null (change_owner c.kind (string_bytes c.name)))
    ∷ (codes "old", text_data c.old)
    ∷ (codes "new", text_data c.new)
    ∷ (codes "path", text_data c.path)
    ∷ (codes "inherited", boolean c.inherited)
    ∷ []

-- the message of a change (own)
abbrev pub version_change_message : VersionChange → List ℕ
version_change_message c = message_text (version_change_members c)

-- the messages of changes (own)
abbrev pub version_changes : List VersionChange → List ℕ
version_changes cs = flat_map version_change_message cs
