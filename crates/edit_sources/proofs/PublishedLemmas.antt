-- The text of an index with the lines of versions that were published by a bound.
use Rattle.std.proofs.Common.{◌≡◌, ℕ, Bool, true, false, not, cond, ◌==◌, List, [], ◌∷◌, map, Some, None, refl, ap, ◌∙◌}
use Rattle.std.specs.Prelude.{◌&&◌, if◌then◌else◌}
use Rattle.std.specs.List.{All, onto_first, join_with_byte}
use Rattle.std.specs.Option.{option_map_or}
use Rattle.std.specs.Str.{IsUtf8, is_utf8}
use Rattle.std.proofs.lemmas.List.Elements.{All-nil, All-cons, All-head, All-tail, All-map, All-weaker}
use Rattle.std.proofs.lemmas.List.Splits.{slice_split_at, slice_split_none}
use Rattle.std.proofs.lemmas.Str.{is_utf8-from_IsUtf8, IsUtf8-from_is_utf8}
use Rattle.serde_json.specs.Data.{Data}
use Rattle.serde_json.specs.Read.{read}
use Rattle.edit_sources.specs.IndexLines.{lines_of}
use Rattle.edit_sources.specs.Published.{has_entry, is_by, is_withheld, publish_time, published_line, published_text}
use Rattle.edit_sources.specs.declared.published.PublishedBefore.{PublishedBefore}

-- ---- one line

-- a line with a value is withheld if its value is
pub is_withheld-value : (bound : PublishedBefore) (line : List ℕ) (d : Data) → IsUtf8 line
    → read line ≡ Some d
    → is_withheld bound line ≡ (has_entry d && not (is_by bound (publish_time d)))
is_withheld-value bound line d utf8 reads =
    let valid : is_utf8 line ≡ true = is_utf8-from_IsUtf8 line utf8 in
    λ i. (valid i && option_map_or has_entry (reads i) false)
    && not (option_map_or (λ v. is_by bound (publish_time v)) (reads i) false)

malformed : (bound : PublishedBefore) (line : List ℕ) (b : Bool) → is_utf8 line ≡ b
    → (IsUtf8 line → read line ≡ None) → is_withheld bound line ≡ false
malformed bound line true is none =
    let reads = none (IsUtf8-from_is_utf8 line is) in
    λ i. (is i && option_map_or has_entry (reads i) false)
    && not (option_map_or (λ v. is_by bound (publish_time v)) (reads i) false)
malformed bound line false is none =
    λ i. (is i && option_map_or has_entry (read line) false)
    && not (option_map_or (λ v. is_by bound (publish_time v)) (read line) false)

-- a line without a value is not withheld
pub is_withheld-none : (bound : PublishedBefore) (line : List ℕ) → (IsUtf8 line → read line ≡ None)
    → is_withheld bound line ≡ false
is_withheld-none bound line none = malformed bound line (is_utf8 line) refl none

-- ---- lines, joined by line feeds

-- whether a byte is a line feed
abbrev is_feed : ℕ → Bool
is_feed b = b == 10

-- a list that is not empty
record IsSomeLines (lines : List (List ℕ)) : Type 0 where
  first : List ℕ
  others : List (List ℕ)
  whole : lines ≡ first ∷ others

onto_some : (c : ℕ) (b : Bool) (lines : List (List ℕ))
    → IsSomeLines (cond b ([] ∷ lines) (onto_first c lines))
onto_some c true lines = record { first = []; others = lines; whole = refl }
onto_some c false [] = record { first = c ∷ []; others = []; whole = refl }
onto_some c false (l ∷ ls) = record { first = c ∷ l; others = ls; whole = refl }

some_lines : (text : List ℕ) → IsSomeLines (lines_of text)
some_lines [] = record { first = []; others = []; whole = refl }
some_lines (c ∷ cs) = onto_some c (is_feed c) (lines_of cs)

-- ---- joined lines are split into the same lines

-- a text without a line feed
abbrev IsOneLine : List ℕ → Type 0
IsOneLine line = All (λ b. is_feed b ≡ false) line

split_join : (line : List ℕ) (lines : List (List ℕ)) → All IsOneLine (line ∷ lines)
    → lines_of (join_with_byte 10 (line ∷ lines)) ≡ line ∷ lines
split_join line [] each = slice_split_none is_feed line (All-head IsOneLine line [] each)
split_join line (l ∷ ls) each =
    slice_split_at is_feed line 10 (join_with_byte 10 (l ∷ ls)) (All-head IsOneLine line (l ∷ ls) each) refl
    ∙ ap (λ t. line ∷ t) (split_join l ls (All-tail IsOneLine line (l ∷ ls) each))

put_each : (c : ℕ) (b : Bool) → is_feed c ≡ b → (lines : List (List ℕ)) → All IsOneLine lines
    → All IsOneLine (cond b ([] ∷ lines) (onto_first c lines))
put_each c true is lines each = All-cons IsOneLine [] lines (All-nil (λ b. is_feed b ≡ false)) each
put_each c false is [] each =
    All-cons IsOneLine (c ∷ []) []
    (All-cons (λ b. is_feed b ≡ false) c [] is (All-nil (λ b. is_feed b ≡ false))) each
put_each c false is (l ∷ ls) each =
    All-cons IsOneLine (c ∷ l) ls (All-cons (λ b. is_feed b ≡ false) c l is (All-head IsOneLine l ls each))
    (All-tail IsOneLine l ls each)

-- the lines of a text have no line feeds
each_line : (text : List ℕ) → All IsOneLine (lines_of text)
each_line [] = All-cons IsOneLine [] [] (All-nil (λ b. is_feed b ≡ false)) (All-nil IsOneLine)
each_line (c ∷ cs) = put_each c (is_feed c) refl (lines_of cs) (each_line cs)

published_one : (line : List ℕ) (b : Bool) → IsOneLine line → IsOneLine (if b then [] else line)
published_one line true one = All-nil (λ b. is_feed b ≡ false)
published_one line false one = one

split_joined : (lines : List (List ℕ)) → IsSomeLines lines → All IsOneLine lines
    → lines_of (join_with_byte 10 lines) ≡ lines
split_joined (l ∷ ls) some each = split_join l ls each
split_joined [] some each = let no = some.whole in cc

map_some : (f : List ℕ → List ℕ) (lines : List (List ℕ)) → IsSomeLines lines → IsSomeLines (map f lines)
map_some f lines some = record {
  first = f some.first;
  others = map f some.others;
  whole = ap (map f) some.whole;
}

-- the lines of the text are those of the file, but for the withheld ones
pub lines_of-published_text : (bound : PublishedBefore) (text : List ℕ)
    → lines_of (published_text bound text) ≡ map (published_line bound) (lines_of text)
lines_of-published_text bound text =
    split_joined (map (published_line bound) (lines_of text))
    (map_some (published_line bound) (lines_of text) (some_lines text))
    (All-map IsOneLine (published_line bound) (lines_of text)
    (All-weaker IsOneLine (λ l. IsOneLine (published_line bound l))
    (λ l one. published_one l (is_withheld bound l) one) (lines_of text) (each_line text)))
