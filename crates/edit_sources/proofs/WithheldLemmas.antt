-- What is held back of versions, line by line.
use Rattle.std.proofs.Common.{◌≡◌, ℕ, Bool, true, false, cond, List, [], ◌∷◌, Option, Some, None, refl, sym, ap, ◌∙◌}
use Rattle.std.specs.Prelude.{◌||◌, filter, if◌then◌else◌, option_and_then}
use Rattle.std.specs.Option.{option_map_or}
use Rattle.std.specs.Str.{IsUtf8, bytes_eq, is_utf8}
use Rattle.std.proofs.lemmas.Slice.Eq.{bytes_eq-Decides}
use Rattle.std.proofs.lemmas.Str.{is_utf8-from_IsUtf8, IsUtf8-from_is_utf8}
use Rattle.serde_json.specs.Data.{Data}
use Rattle.serde_json.specs.Read.{read}
use Rattle.edit_sources.specs.Withheld.{either, is_of_crate, joined, line_of_crate, nothing, of_crate, of_line, of_lines, of_some_lines, of_value, value_name, value_of_crate}
use Rattle.edit_sources.specs.declared.published.PublishedBefore.{PublishedBefore}
use Rattle.edit_sources.specs.declared.withheld.Withheld.{Withheld}

-- ---- two together

or_assoc : (a b c : Bool) → (a || (b || c)) ≡ ((a || b) || c)
or_assoc true b c = refl
or_assoc false b c = refl

or_false : (a : Bool) → (a || false) ≡ a
or_false true = refl
or_false false = refl

either-assoc : (a b c : Withheld) → either a (either b c) ≡ either (either a b) c
either-assoc a b c = λ i. record {
  younger = or_assoc a.younger b.younger c.younger i;
  undated = or_assoc a.undated b.undated c.undated i;
  dated = or_assoc a.dated b.dated c.dated i;
}

-- with nothing
pub either-nothing : (a : Withheld) → either a nothing ≡ a
either-nothing a = λ i. record {
  younger = or_false a.younger i;
  undated = or_false a.undated i;
  dated = or_false a.dated i;
}

-- onto nothing
pub either-onto : (a b : Withheld) → a ≡ nothing → either a b ≡ b
either-onto a b is = ap (λ w. either w b) is

-- ---- one line

-- a line with a value has what that has
pub of_line-value : (bound : PublishedBefore) (line : List ℕ) (d : Data) → IsUtf8 line → read line ≡ Some d
    → of_line bound line ≡ of_value bound d
of_line-value bound line d utf8 reads =
    let valid : is_utf8 line ≡ true = is_utf8-from_IsUtf8 line utf8 in
    λ i. if valid i then option_map_or (of_value bound) (reads i) nothing else nothing

no_value : (bound : PublishedBefore) (line : List ℕ) (b : Bool) → is_utf8 line ≡ b
    → (IsUtf8 line → read line ≡ None) → of_line bound line ≡ nothing
no_value bound line true is none =
    let reads = none (IsUtf8-from_is_utf8 line is) in
    λ i. if is i then option_map_or (of_value bound) (reads i) nothing else nothing
no_value bound line false is none =
    λ i. if is i then option_map_or (of_value bound) (read line) nothing else nothing

-- a line without a value has nothing
pub of_line-none : (bound : PublishedBefore) (line : List ℕ) → (IsUtf8 line → read line ≡ None)
    → of_line bound line ≡ nothing
of_line-none bound line none = no_value bound line (is_utf8 line) refl none

-- ---- lines, one more

-- what was there, with that of a line, is that of this line and those behind it
pub of_lines-more : (bound : PublishedBefore) (before here after : Withheld) (line : List ℕ)
    (lines rest : List (List ℕ)) → lines ≡ line ∷ rest → here ≡ of_line bound line
    → after ≡ either before here
    → either before (of_lines bound lines) ≡ either after (of_lines bound rest)
of_lines-more bound before here after line lines rest split is with_it =
    ap (λ ls. either before (of_lines bound ls)) split
    ∙ either-assoc before (of_line bound line) (of_lines bound rest)
    ∙ sym (ap (λ w. either w (of_lines bound rest)) (with_it ∙ ap (either before) is))

-- ---- the lines of a crate

-- with none
pub joined-none : (a : Option Withheld) → joined a None ≡ a
joined-none None = refl
joined-none (Some a) = refl

more_lines : (bound : PublishedBefore) (before : Option Withheld) (line : List ℕ) (b : Bool)
    (lines : List (List ℕ))
    → joined before (of_some_lines bound (cond b (line ∷ lines) lines))
    ≡ joined (joined before (if b then Some (of_line bound line) else None)) (of_some_lines bound lines)
more_lines bound None line true [] = ap Some (either-nothing (of_line bound line))
more_lines bound None line true (l ∷ ls) = refl
more_lines bound (Some w) line true [] =
    ap (λ v. Some (either w v)) (either-nothing (of_line bound line))
more_lines bound (Some w) line true (l ∷ ls) =
    ap Some (either-assoc w (of_line bound line) (of_lines bound (l ∷ ls)))
more_lines bound None line false lines = refl
more_lines bound (Some w) line false lines = refl

-- what a crate has, with what a line adds, is that of this line and those behind it
pub of_crate-more : (bound : PublishedBefore) (name line : List ℕ) (before after : Option Withheld)
    (lines rest : List (List ℕ)) → lines ≡ line ∷ rest
    → after ≡ joined before (line_of_crate bound name line)
    → joined before (of_crate bound lines name) ≡ joined after (of_crate bound rest name)
of_crate-more bound name line before after lines rest split added =
    ap (λ ls. joined before (of_crate bound ls name)) split
    ∙ more_lines bound before line (is_of_crate name line) (filter (is_of_crate name) rest)
    ∙ sym (ap (λ w. joined w (of_crate bound rest name)) added)

-- ---- what a line adds to each crate

-- a line with a value adds what that adds
pub line_of_crate-value : (bound : PublishedBefore) (name line : List ℕ) (d : Data) → IsUtf8 line
    → read line ≡ Some d → line_of_crate bound name line ≡ value_of_crate bound name d
line_of_crate-value bound name line d utf8 reads =
    let valid : is_utf8 line ≡ true = is_utf8-from_IsUtf8 line utf8 in
    λ i. if option_map_or (λ n. bytes_eq n name)
    (if valid i then option_and_then value_name (reads i) else None) false
    then Some (if valid i then option_map_or (of_value bound) (reads i) nothing else nothing) else None

no_crate : (bound : PublishedBefore) (name line : List ℕ) (b : Bool) → is_utf8 line ≡ b
    → (IsUtf8 line → read line ≡ None) → line_of_crate bound name line ≡ None
no_crate bound name line true is none =
    let reads = none (IsUtf8-from_is_utf8 line is) in
    λ i. if option_map_or (λ n. bytes_eq n name)
    (if is i then option_and_then value_name (reads i) else None) false
    then Some (of_line bound line) else None
no_crate bound name line false is none =
    λ i. if option_map_or (λ n. bytes_eq n name)
    (if is i then option_and_then value_name (read line) else None) false
    then Some (of_line bound line) else None

-- a line without a value adds nothing
pub line_of_crate-none : (bound : PublishedBefore) (name line : List ℕ) → (IsUtf8 line → read line ≡ None)
    → line_of_crate bound name line ≡ None
line_of_crate-none bound name line none = no_crate bound name line (is_utf8 line) refl none

added_by : (old new : List ℕ → Option Withheld) (name q : List ℕ) (now version : Withheld) (b : Bool)
    → bytes_eq name q ≡ b
    → Some now ≡ joined (old name) (Some version)
    → (if b then Some now else old q) ≡ joined (old q) (if b then Some version else None)
added_by old new name q now version true is both =
    both ∙ ap (λ n. joined (old n) (Some version)) ((bytes_eq-Decides name q).0 is)
added_by old new name q now version false is both = sym (joined-none (old q))

-- a value that is put at a name, of what the name had and what is added there
pub added-at : (old new : List ℕ → Option Withheld) (name q : List ℕ) (now version : Withheld)
    → new q ≡ (if bytes_eq name q then Some now else old q)
    → Some now ≡ joined (old name) (Some version)
    → new q ≡ joined (old q) (if bytes_eq name q then Some version else None)
added-at old new name q now version is both =
    is ∙ added_by old new name q now version (bytes_eq name q) refl both
