use Rattle.std.proofs.Common.{rules}
use Rattle.std.proofs.lemmas.List.Sorted.{IsNonDecreasingBy-from_sort_by_key, IsPermutation-map}
use Rattle.edit_document.specs.declared.replace.Rewrite.{Rewrite}
use Rattle.edit_document.specs.Splices.{range_of}
use Rattle.edit_document.proofs.LocatedEdits.{located_rewrite}
use Rattle.edit_document.proofs.SortedRewrites.{ascends}
use Rattle.edit_document.proofs.replace.splice_unordered.Goals as goal

pub splice-requires : goal.splice-requires
splice-requires c =
    let up = IsNonDecreasingBy-from_sort_by_key
    (λ (x : Rewrite). x.start) c.sort_unstable_by_key.new.self c.sort_unstable_by_key.ensures.sorted
    (λ a r q k. search rules) in
    let r = c.requires in
    (located_rewrite c.args.source.now r.0 r.1 _ _ r.2 c.utf8.source
    (IsPermutation-map range_of _ _ c.sort_unstable_by_key.ensures.permutation) (ascends _ up)).order

pub returns-clause-text : goal.returns-clause-text
returns-clause-text c form edits found =
    let up = IsNonDecreasingBy-from_sort_by_key
    (λ (x : Rewrite). x.start) c.sort_unstable_by_key.new.self c.sort_unstable_by_key.ensures.sorted
    (λ a r q k. search rules) in
    let is = (located_rewrite c.args.source.now form edits _ _ found c.utf8.source
    (IsPermutation-map range_of _ _ c.sort_unstable_by_key.ensures.permutation) (ascends _ up)).bytes in
    let text_is = c.splice.ensures.text in
    rw is at text_is
