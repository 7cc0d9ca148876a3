-- The definitions that worked examples unfold to compute the parser and the walk on a text.
use Rattle.std.specs.Prelude.{⊤}
use Rattle.std.specs.Str.{is_utf8, chars}
use Rattle.edit_syntax.specs.Reading.{read_text, lines_at, line_end_at, line_at, statement_at, value_at, elements_at, gap_at, between_at, members_at, pair_at, scalar_at, header_at, element_header_at, key_at, dotted_at, part_at, multi_at, body_at, line_piece_at, basic_piece_at, literal_piece_at, text_newline_at, fold_at, spaces_at, space_at, escape_at, scalar_escape_at, basic_at, literal_at, pieces_at, piece_at}
use Rattle.edit_syntax.specs.ReadingNumbers.{number_at, unsigned_at, decimal_at, whole_at, whole_read, fraction_read, exponent_at, digits_at, based_at, date_time_at, local_time_at, date_at, time_at, offset_at, second_at, group_at, count_at}
use Rattle.edit_tree.specs.Walk.{token_value, child, target_of, node_extended, member_added, element_added, member_defined, fronts_followed, pending_defined, step, state_after}

-- the definition of UTF-8, the reader, and the walk over what it answers
unfoldable pub on_texts : ⊤
unfolding is_utf8 chars lib.Utf8.encode read_text lines_at line_end_at line_at statement_at value_at
    elements_at gap_at between_at members_at pair_at scalar_at header_at element_header_at key_at dotted_at
    part_at multi_at body_at line_piece_at basic_piece_at literal_piece_at text_newline_at fold_at spaces_at space_at escape_at
    scalar_escape_at basic_at literal_at pieces_at piece_at number_at unsigned_at decimal_at whole_at whole_read
    fraction_read exponent_at digits_at based_at date_time_at local_time_at date_at time_at offset_at second_at
    group_at count_at token_value child target_of node_extended member_added element_added member_defined fronts_followed pending_defined step
    state_after
on_texts = tt
