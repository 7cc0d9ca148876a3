use Rattle.std.proofs.Common.{map, sym, subst, ⊎_elim, arith}
use Rattle.edit_version.specs.IndexEntry.{entry_of}
use Rattle.edit_answers.specs.Bodies.{IsDamaged}
use Rattle.edit_answers.specs.Bodies.IsDamaged.{bad_line, not_whole}
use Rattle.edit_answers.specs.declared.bodies.Damage.TheVariants.{BadLine}
use Rattle.edit_answers.proofs.BodyLemmas.{not-ended, not-named, one-line}
use Rattle.edit_answers.proofs.bodies.damage_of.Goals as goal

pub returns-then-not-ends_with_line_end : goal.returns-then-not-ends_with_line_end
returns-then-not-ends_with_line_end c =
    not_whole (map entry_of c.in-Ok.entries.items) c.in-Ok.ensures.entries
    (not-ended c.ends_with_line_end.result c.args.name.now c.args.body.now c.ends_with_line_end.ensures
    c.if-not-ends_with_line_end.true)

pub returns-then-not-are_named : goal.returns-then-not-are_named
returns-then-not-are_named c =
    not_whole (map entry_of c.in-Ok.entries.items) c.in-Ok.ensures.entries
    (not-named c.are_named.result c.args.name.now c.args.body.now (map entry_of c.in-Ok.entries.items)
    c.in-Ok.ensures.entries (rw c.deref.ensures.value at c.are_named.ensures) c.if-not-are_named.true)

pub returns-in-Err-IndexLine : goal.returns-in-Err-IndexLine
returns-in-Err-IndexLine c =
    ⊎_elim (λ m. absurd (omega (arith, m)))
    (λ r. subst (λ n. IsDamaged c.args.name.now c.args.body.now (BadLine n))
    (sym (one-line c.in-Err-IndexLine.line r.0 r.1))
    (bad_line r.0 r.2))
    (rw c.in-Err-IndexLine.field-0-is at c.in-Err-IndexLine.ensures.error)
