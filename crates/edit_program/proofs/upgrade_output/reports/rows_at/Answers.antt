use Rattle.std.proofs.Common.{◌-◌, drop, leb, length, ltb, refl, rules, take}
use Rattle.std.proofs.lemmas.List.Sorted.{IsPartitionPoint-from_clause, IsPartitionedBy-leb, IsPartitionedBy-ltb}
use Rattle.edit_report.specs.declared.row.Row.{Row}
use Rattle.edit_program.proofs.PartLemmas.{left_in_order, window}
use Rattle.edit_program.proofs.upgrade_output.reports.rows_at.Goals as goal

pub returns : goal.returns
returns c =
    let number = λ (r : Row). r.input in
    let rows = c.args.rows.now in
    let i = c.args.input in
    let start = c.partition_point-start.result in
    let end = c.partition_point-end.result in
    let rest = take (length rows - start) (drop start rows) in
    let first = IsPartitionPoint-from_clause (λ r. ltb r.input i) rows start
    c.partition_point-start.ensures.partitioned (IsPartitionedBy-ltb number rows i c.requires)
    (λ a r f k. search rules) in
    let second = IsPartitionPoint-from_clause (λ r. leb r.input i) rest end
    c.partition_point-end.ensures.partitioned
    (IsPartitionedBy-leb number rest i (left_in_order number rows start c.requires))
    (λ a r f k. search rules) in
    window number i rows rest start end refl c.partition_point-start.ensures.bound
    c.partition_point-end.ensures.bound first second
