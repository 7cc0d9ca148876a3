use Rattle.std.proofs.Common.{List, ℕ, ◌<◌, subst, sym, ◌∙◌}
use Rattle.std.specs.Prelude.{All}
use Rattle.edit_sources.proofs.NameLemmas.{small_name}
use Rattle.edit_sources.proofs.index_dir.layout.lower_layout.Goals as goal

pub push_folders-requires : goal.push_folders-requires
push_folders-requires c = subst (λ (bs : List ℕ). All (λ b. b < 128) bs)
    (sym (c.as_bytes.ensures.value ∙ c.in_ok-small.ensures.ok)) (small_name c.args.name.now c.requires)
