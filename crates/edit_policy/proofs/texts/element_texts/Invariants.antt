use Rattle.std.proofs.Common.{◌≡◌, Some, map, string_bytes}
use Rattle.edit_document.specs.ItemViews.{document_of, place_of}
use Rattle.edit_tree.specs.DocumentViews.{tree_of}
use Rattle.edit_policy.specs.Values.{element_texts}
use Rattle.edit_policy.proofs.texts.element_texts.Given as goal

abbrev pub invariant-loop-index : goal.invariant-loop-index
invariant-loop-index l = element_texts (tree_of (document_of l.array)) (place_of l.array) l.index
    ≡ Some (map string_bytes l.texts.items)
