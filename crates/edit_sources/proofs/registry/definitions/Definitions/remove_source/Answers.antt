use Rattle.std.proofs.Common.{refl, ap, sym, ◌∙◌, inr, option_map, rules}
use Rattle.edit_sources.specs.SourceReplacement.{with_address}
use Rattle.edit_sources.specs.Sources.{source_texts}
use Rattle.edit_sources.proofs.KeyLemmas.{left_out}
use Rattle.edit_sources.proofs.registry.definitions.Definitions.remove_source.Goals as goal

pub returns-in-Some-clause-takes : goal.returns-in-Some-clause-takes
returns-in-Some-clause-takes c = record {
  apart = search rules;
  source = ap (λ o. with_address c.args.key.now (option_map source_texts o))
      (sym c.remove.ensures.value ∙ c.in-Some.is) ∙ sym c.with_address.ensures;
  left = left_out c.args.key.now c.args.self.now.left c.remove.new.self c.remove.ensures.updates;
  ends = refl;
}

pub returns-in-None-clause-lacks : goal.returns-in-None-clause-lacks
returns-in-None-clause-lacks c =
    inr (ap (option_map source_texts) (sym c.remove.ensures.value ∙ c.in-None.is))
