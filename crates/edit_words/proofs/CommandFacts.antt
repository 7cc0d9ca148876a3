-- Worked examples of parsed command lines.
use Rattle.std.proofs.Common.{◌≡◌, refl, [], ◌∷◌, codes}
use Rattle.clap.specs.Words.{fault_of}
use Rattle.clap.specs.declared.error.kind.ErrorKind.TheVariants as kind
use Rattle.clap.proofs.OnLiterals.{clap_on_literals}
use Rattle.edit_words.specs.CommandLine.{edit_app}
use Rattle.edit_words.specs.Filled.{insert_defaults}

taken : fault_of edit_app (codes "upgrade" ∷ codes "--manifest-path" ∷ codes "m" ∷ codes
    "--index-file" ∷ codes "i" ∷ []) ≡ []
unfolding clap_on_literals edit_app
taken = refl

no_manifest : fault_of edit_app
    (codes "upgrade" ∷ codes "--manifest-path" ∷ [] ∷ codes "--index-file" ∷ codes "i" ∷ [])
    ≡ kind.InvalidValue ∷ []
unfolding clap_on_literals edit_app
no_manifest = refl

no_manifest_behind : fault_of edit_app
    (codes "upgrade" ∷ codes "--manifest-path=" ∷ codes "--index-file" ∷ codes "i" ∷ [])
    ≡ kind.InvalidValue ∷ []
unfolding clap_on_literals edit_app
no_manifest_behind = refl

no_index_file : fault_of edit_app (codes "upgrade" ∷ codes "--manifest-path" ∷ codes "m" ∷ codes
    "--index-file" ∷ [] ∷ []) ≡ kind.InvalidValue ∷ []
unfolding clap_on_literals edit_app
no_index_file = refl

no_name : fault_of edit_app (codes "upgrade" ∷ codes "-p" ∷ [] ∷ []) ≡ kind.InvalidValue ∷ []
unfolding clap_on_literals edit_app
no_name = refl

no_excluded_name : fault_of edit_app (codes "set-version" ∷ codes "--metadata-json" ∷ codes "m" ∷ codes "--exclude="
    ∷ []) ≡ kind.InvalidValue ∷ []
unfolding clap_on_literals edit_app
no_excluded_name = refl

help : fault_of edit_app (codes "upgrade" ∷ codes "--help" ∷ []) ≡ kind.DisplayHelp ∷ []
unfolding clap_on_literals edit_app
help = refl

version : fault_of edit_app (codes "upgrade" ∷ codes "-V" ∷ []) ≡ kind.DisplayVersion ∷ []
unfolding clap_on_literals edit_app
version = refl

options : fault_of edit_app (codes "upgrade" ∷ codes "--manifest-path" ∷ codes "m" ∷ codes "--index-file"
    ∷ codes "i" ∷ codes "-nvq" ∷ codes "-i" ∷ codes "allow" ∷ codes "--locked" ∷ codes "--pinned=no"
    ∷ codes "-pa" ∷ codes "--exclude=b" ∷ codes "--package" ∷ codes "c" ∷ []) ≡ []
unfolding clap_on_literals edit_app
options = refl

filled_in : insert_defaults (codes "upgrade" ∷ codes "-i" ∷ codes "--pinned" ∷ codes "false" ∷ codes "--recursive"
    ∷ codes "--" ∷ codes "-i" ∷ [])
    ≡ codes "upgrade" ∷ codes "-i" ∷ codes "allow" ∷ codes "--pinned" ∷ codes "false" ∷ codes "--recursive"
    ∷ codes "true" ∷ codes "--" ∷ codes "-i" ∷ []
unfolding insert_defaults
filled_in = refl

looks : fault_of edit_app (codes "looks" ∷ codes "--index-dir" ∷ codes "d" ∷ codes "--update-calls=f"
    ∷ codes "--check" ∷ codes "--message-format" ∷ codes "json" ∷ codes "--diff" ∷ []) ≡ []
unfolding clap_on_literals edit_app
looks = refl
