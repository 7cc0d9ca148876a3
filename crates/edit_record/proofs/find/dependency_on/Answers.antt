use Rattle.std.proofs.Common.{List, ℕ, ◌∙◌, ap, sym, subst, refl}
use Rattle.std.specs.Prelude.{string_bytes}
use Rattle.edit_record.specs.Records.{IsRegistryDependency}
use Rattle.edit_version.specs.Requirement.{cut}
use Rattle.edit_record.specs.declared.dependency.Dependency.{Dependency}
use Rattle.edit_record.proofs.find.dependency_on.Goals as goal

pub returns-clause-ok : goal.returns-clause-ok
returns-clause-ok c =
    let P : Dependency → Type 0 = λ d. IsRegistryDependency (string_bytes c.args.index_entry.now.name)
    (string_bytes c.args.index_entry.now.version) d in
    let bare = c.in_ok-dependency.ensures.ok.0 in
    subst P (sym c.set_source.ensures) (
      record {
        name = bare.name ∙ c.as_str-2.ensures.value;
        optional = bare.optional;
        features = bare.features;
        default_features = bare.default_features;
        inherited_features = bare.inherited_features;
        registry = bare.registry;
        rename = bare.rename;
        available_features = bare.available_features;
      },
      (
        c.in_ok-source.source,
        refl,
        c.in_ok-source.ensures.ok
            ∙ ap (λ (t : List ℕ). cut t) c.as_str.ensures.value,
      ),
    )
