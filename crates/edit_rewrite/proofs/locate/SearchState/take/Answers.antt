use Rattle.std.proofs.Common.{sym, ◌∙◌}
use Rattle.edit_rewrite.proofs.TakenStatements.{is_left}
use Rattle.edit_rewrite.proofs.locate.SearchState.take.Goals as goal

pub returns-then-is_table_header_next-clause-taken : goal.returns-then-is_table_header_next-clause-taken
returns-then-is_table_header_next-clause-taken c s t stands = c.take_header.ensures.taken s
    (sym t.head.0 ∙ sym c.is_table_header_next.ensures ∙ c.if-is_table_header_next.true) t stands

pub returns-then-is_element_header_next-clause-taken : goal.returns-then-is_element_header_next-clause-taken
returns-then-is_element_header_next-clause-taken c s t stands = c.take_element.ensures.taken s
    (sym t.head.1 ∙ sym c.is_element_header_next.ensures ∙ c.if-is_element_header_next.true) t stands

pub returns-clause-taken : goal.returns-clause-taken
returns-clause-taken c s t stands =
    c.take_pair.ensures.taken s
    (is_left s.statement (sym t.head.0 ∙ sym c.is_table_header_next.ensures ∙ c.if-is_table_header_next.false)
    (sym t.head.1 ∙ sym c.is_element_header_next.ensures ∙ c.if-is_element_header_next.false)) t stands
