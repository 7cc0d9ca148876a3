-- The lines on which requirements begin in the text of a manifest (own).
use Rattle.std.specs.Prelude.{ℕ, ◌+◌, List, [], ◌∷◌, Bool, true, not, ◌&&◌, ◌||◌, ◌==◌, Option, Some, None, codes, count_by, if◌then◌else◌, length, nat_le, option_and_then, option_map, take}
use Rattle.std.specs.Option.{option_or}
use Rattle.std.specs.List.{find, list_all}
use Rattle.std.specs.Str.{is_utf8}
use Rattle.edit_syntax.specs.FormOf.{form_of}
use Rattle.edit_syntax.specs.Grammar.{Text}
use Rattle.edit_tree.specs.Assertions.{Assertion, Place, are_compatible, assertions, at, key, same_place}
use Rattle.edit_tree.specs.Written.{start_of, values}

-- ---- documents

-- each place has at most 80 steps: `AreShort` as a test
abbrev pub are_short : List Assertion → Bool
are_short made = list_all (λ a. nat_le (length a.place) 80) made

-- each assertion is compatible with each later one at the same place: `AreCompatible` as a test
abbrev pub have_no_clash : List Assertion → Bool
have_no_clash [] = true
have_no_clash (a ∷ made) =
    list_all (λ b. not (same_place a.place b.place) || are_compatible a.kind b.kind) made
    && have_no_clash made

-- what a text defines is that of a document
abbrev pub is_defined_well : Text → Bool
is_defined_well form = are_short (assertions form) && have_no_clash (assertions form)

-- the syntax tree of a text; none where it is no document
unfoldable pub document_form : List ℕ → Option Text
document_form bytes =
    if is_utf8 bytes
    then option_and_then (λ form. if is_defined_well form then Some form else None) (form_of bytes)
    else None

-- ---- lines

-- the line of the byte at an offset, from 1: one more than the number of line feeds before it
abbrev pub line_number : List ℕ → ℕ → ℕ
line_number bytes at = count_by (λ b. b == 10) (take at bytes) + 1

-- the offset at which the value at a place begins; none where no value is written there
abbrev pub value_start : Text → ℕ → Place → Option ℕ
value_start form total place =
    option_map (start_of total) (find (λ w. same_place w.place place) (values form))

-- the offset at which the requirement of an entry begins: that of its member `version`, else that of the
-- entry itself
abbrev pub requirement_start : Text → ℕ → Place → Option ℕ
requirement_start form total entry =
    option_or (value_start form total (at entry (key (codes "version")))) (value_start form total entry)

-- the line on which the requirement of the entry at a place begins; none where the text is no document, or
-- has no value there
unfoldable pub requirement_line : List ℕ → Place → Option ℕ
requirement_line bytes entry =
    option_map (line_number bytes)
    (option_and_then (λ form. requirement_start form (length bytes) entry) (document_form bytes))
