use Rattle.std.proofs.Common.{◌≡◌, take}
use Rattle.std.specs.List.{flat_map}
use Rattle.edit_fetch.specs.Addressless.{placeholder_line}
use Rattle.edit_fetch.proofs.addressless.sources_text.Given as goal

abbrev pub invariant-loop-source : goal.invariant-loop-source
invariant-loop-source l = l.text.items ≡ flat_map placeholder_line (take l.source-index l.sources)
