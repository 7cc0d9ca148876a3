use Rattle.std.proofs.Common.{◌∙◌}
use Rattle.edit_document.specs.Items.{place_view}
use Rattle.edit_document.proofs.ReplacementLaws.{range_tells}
use Rattle.edit_document.proofs.document.Document.is_value.Goals as goal

pub returns : goal.returns
returns c form manifest = c.is_some.ensures ∙
    range_tells form (place_view c.args.place.now) c.value_range.result (c.value_range.ensures form manifest)
