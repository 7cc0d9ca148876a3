-- Examples of literals and replacements: one, two in any order, and places where nothing is written.
use Rattle.std.proofs.Common.{◌≡◌, ℕ, List, [], ◌∷◌, Some, None, refl, false, true≢false}
use Rattle.std.specs.Prelude.{codes}
use Rattle.edit_syntax.specs.Strings.{Key, bare, lf, plain}
use Rattle.edit_syntax.specs.Grammar.{Value, basic, literal, inline, blank, last_member, member, pair, header, full_line, one_line, more_lines, Text, text}
use Rattle.edit_tree.specs.Assertions.{Place, key}
use Rattle.edit_tree.specs.Tree.{view_at, string}
use Rattle.edit_tree.specs.Literals.{literal_bytes}
use Rattle.edit_tree.specs.Replaces.{replaced, AreOutside}

-- every escape; other control characters by their number; all else as it is
escapes : literal_bytes (8 ∷ 9 ∷ 10 ∷ 12 ∷ 13 ∷ 34 ∷ 92 ∷ 0 ∷ 31 ∷ 127 ∷ codes "/ '\u{80}é")
    ≡ codes "\"\\b\\t\\n\\f\\r\\\"\\\\\\u0000\\u001F\\u007F/ '\u{80}é\""
escapes = refl

abbrev name : List ℕ → Key
name text = record { first = bare text; others = [] }

abbrev spaced : List ℕ
spaced = 32 ∷ []

abbrev inner : Value
inner = inline (blank 32 ∷ []) (member (name (codes "c")) spaced spaced (basic (plain 50 ∷ [])) []
    (blank 32 ∷ []) (last_member (name (codes "d")) spaced spaced (literal (codes "3")) (blank 32 ∷ [])))

abbrev form : Text
form = record {
  has_byte_order_mark = false;
  lines =
      more_lines (full_line [] (pair (name (codes "c")) spaced [] (literal (codes "1"))) [] None) lf
      (more_lines (full_line [] (header [] (name (codes "t")) []) [] None) lf
      (one_line (full_line [] (pair (name (codes "b")) spaced spaced inner) spaced (Some (codes " x")))));
}

abbrev place_c : Place
place_c = key (codes "c") ∷ []

abbrev place_tbc : Place
place_tbc = key (codes "t") ∷ key (codes "b") ∷ key (codes "c") ∷ []

abbrev place_tbd : Place
place_tbd = key (codes "t") ∷ key (codes "b") ∷ key (codes "d") ∷ []

spelling : text form ≡ codes "c ='1'\n[t]\nb = { c = \"2\", d = '3' } # x"
spelling = refl

-- the literal at one place, and not at another place that ends with the same key
one : text (replaced ((place_tbc, codes "a\"b") ∷ []) form)
    ≡ codes "c ='1'\n[t]\nb = { c = \"a\\\"b\", d = '3' } # x"
one = refl

-- two literals, given in any order
two : text (replaced ((place_tbd, []) ∷ (place_c, codes "0.2") ∷ []) form)
    ≡ codes "c =\"0.2\"\n[t]\nb = { c = \"2\", d = \"\" } # x"
two = refl

-- a value with what is inside it
whole : text (replaced ((key (codes "t") ∷ key (codes "b") ∷ [], codes "4") ∷ []) form)
    ≡ codes "c ='1'\n[t]\nb = \"4\" # x"
whole = refl

-- an inline table and a string, given in any order
mixed : text (replaced ((key (codes "t") ∷ key (codes "b") ∷ [], codes "4") ∷ (place_c, codes "0.2") ∷ [])
    form) ≡ codes "c =\"0.2\"\n[t]\nb = \"4\" # x"
mixed = refl

-- what was inside the inline table is gone
gone : view_at (replaced ((key (codes "t") ∷ key (codes "b") ∷ [], codes "4") ∷ []) form) place_tbc ≡ None
gone = refl

-- a value inside a replaced one is no place of its own
inner_below : AreOutside ((key (codes "t") ∷ key (codes "b") ∷ [], codes "4") ∷ (place_tbc, codes "5") ∷ [])
    → ⊥
inner_below h = true≢false h.1.0

-- nothing is written where no value stands
nowhere : replaced ((key (codes "t") ∷ [], codes "4") ∷ (key (codes "d") ∷ [], codes "5") ∷ []) form ≡ form
nowhere = refl

-- the tree has the new string
shows : view_at (replaced ((place_tbc, codes "a\"b") ∷ []) form) place_tbc ≡ Some (string (codes "a\"b"))
shows = refl
