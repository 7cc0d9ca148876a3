use Rattle.std.proofs.Common.{◌-◌, drop, leb, length, ltb, refl, rules, take}
use Rattle.std.proofs.lemmas.List.Sorted.{IsPartitionPoint-from_clause, IsPartitionedBy-leb, IsPartitionedBy-ltb}
use Rattle.edit_upgrade.specs.declared.upgrade.Warning.{Warning}
use Rattle.edit_program.proofs.PartLemmas.{left_in_order, window}
use Rattle.edit_program.proofs.upgrade_output.reports.warnings_at.Goals as goal

pub returns : goal.returns
returns c =
    let number = λ (w : Warning). w.input in
    let warnings = c.args.warnings.now in
    let i = c.args.input in
    let start = c.partition_point-start.result in
    let end = c.partition_point-end.result in
    let rest = take (length warnings - start) (drop start warnings) in
    let first = IsPartitionPoint-from_clause (λ w. ltb w.input i) warnings start
    c.partition_point-start.ensures.partitioned (IsPartitionedBy-ltb number warnings i c.requires)
    (λ a r f k. search rules) in
    let second = IsPartitionPoint-from_clause (λ w. leb w.input i) rest end
    c.partition_point-end.ensures.partitioned
    (IsPartitionedBy-leb number rest i (left_in_order number warnings start c.requires))
    (λ a r f k. search rules) in
    window number i warnings rest start end refl c.partition_point-start.ensures.bound
    c.partition_point-end.ensures.bound first second
