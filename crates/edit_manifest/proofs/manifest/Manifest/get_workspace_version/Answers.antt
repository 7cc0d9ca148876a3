use Rattle.std.proofs.Common.{◌≡◌, ℕ, List, Option, ap, subst}
use Rattle.std.specs.Prelude.{IfOk, option_and_then, option_map}
use Rattle.edit_version.specs.ReadVersion.{version_read}
use Rattle.edit_manifest.proofs.manifest.Manifest.get_workspace_version.Goals as goal
use Rattle.semver.specs.Identifiers.{parts_of}

pub returns-in-Some-clause-ok : goal.returns-in-Some-clause-ok
returns-in-Some-clause-ok c =
    subst (λ (o : Option (List ℕ)). IfOk c.read_version.result
    (λ v. option_map parts_of v ≡ option_and_then version_read o))
    c.in-Some.ensures c.read_version.ensures.read

pub returns-in-None-clause-ok : goal.returns-in-None-clause-ok
returns-in-None-clause-ok c = ap (λ (o : Option (List ℕ)). option_and_then version_read o) c.in-None.ensures
