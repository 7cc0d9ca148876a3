-- What each statement of a document defines ("assertions"), which definitions of one place are compatible
-- (TOML 1.0.0, "Keys", "Table" and "Array of Tables"), and which texts are documents.
use Rattle.std.specs.Prelude.{◌≡◌, ℕ, suc, ◌-◌, ◌≤◌, Bool, true, false, ◌&&◌, ◌==◌, nat_lt, if◌then◌else◌, cond, List, [], ◌∷◌, ◌++◌, length, map, ⊤}
use Rattle.std.specs.List.{AllByRecursion}
use Rattle.edit_syntax.specs.Strings.{name, Key}
use Rattle.edit_syntax.specs.Grammar.{Value, basic, literal, multi_basic, multi_literal, boolean, integer, float, datetime, array, inline, Elements, no_elements, last_element, element, Members, no_members, last_member, member, Statement, pair, header, element_header, empty_line, full_line, Lines, one_line, more_lines, Text, Spells}

-- a step to the member of a table under a key, or to the element of an array at an index
pub data Step : Type 0 where
  key : List ℕ → Step
  index : ℕ → Step

-- a place: the steps from the root; the empty list is the root
abbrev pub Place : Type 0
Place = List Step

-- a place extended by one step
abbrev pub at : Place → Step → Place
at place step = place ++ step ∷ []

-- the two texts are equal
abbrev pub same_bytes : List ℕ → List ℕ → Bool
same_bytes [] [] = true
same_bytes [] (c ∷ cs) = false
same_bytes (b ∷ bs) [] = false
same_bytes (b ∷ bs) (c ∷ cs) = b == c && same_bytes bs cs

-- the two steps are equal
abbrev pub same_step : Step → Step → Bool
same_step (key a) (key b) = same_bytes a b
same_step (index i) (index j) = i == j
same_step _ _ = false

-- the two places are equal
abbrev pub same_place : Place → Place → Bool
same_place [] [] = true
same_place [] (t ∷ ts) = false
same_place (s ∷ ss) [] = false
same_place (s ∷ ss) (t ∷ ts) = same_step s t && same_place ss ts

-- how a place is defined: a leaf has its value, and a dotted place records whether its pair is in an inline
-- table
pub data Kind : Type 0 where
  dotted : Bool → Kind
  leaf : Value → Kind
  super : Kind
  header_kind : Kind
  array_kind : Kind
  element_kind : Kind

-- an assertion: `place` is defined in the way `kind` by what names the place `by` with its whole key (or as a
-- whole element)
pub record Assertion : Type 0 where
  pub by : Place
  pub place : Place
  pub kind : Kind

-- the assertion that `place` is defined in this way by what names the place `by`
abbrev pub asserts : Place → Place → Kind → Assertion
asserts by place kind = record { by = by; place = place; kind = kind }

-- the decoded names of a key's parts
abbrev pub names : Key → List (List ℕ)
names k = name k.first ∷ map (λ d. name d.part) k.others

-- ---- pairs

-- the place that a key names, from a place on
abbrev pub named : Place → List (List ℕ) → Place
named place ns = place ++ map key ns

-- what a key and its value define: each front part a dotted table, and the last part a leaf
abbrev pub of_key : Bool → Place → Place → List (List ℕ) → Value → List Assertion
of_key within by place [] v = []
of_key within by place (n ∷ []) v = asserts by (at place (key n)) (leaf v) ∷ []
of_key within by place (n ∷ m ∷ ns) v =
    asserts by (at place (key n)) (dotted within) ∷ of_key within by (at place (key n)) (m ∷ ns) v

-- what a value defines below its own place
abbrev mutual
  pub of_value : Place → Value → List Assertion
  of_value place (basic ps) = []
  of_value place (literal text) = []
  of_value place (multi_basic ps) = []
  of_value place (multi_literal ps) = []
  of_value place (boolean b) = []
  of_value place (integer n) = []
  of_value place (float f) = []
  of_value place (datetime d) = []
  of_value place (array g es) = of_elements place 0 es
  of_value place (inline ws ms) = of_members place ms

  -- what the elements of an array define, from an index on: each is a leaf, and its value may define more
  -- below
  pub of_elements : Place → ℕ → Elements → List Assertion
  of_elements place i no_elements = []
  of_elements place i (last_element v g) =
      asserts (at place (index i)) (at place (index i)) (leaf v) ∷ of_value (at place (index i)) v
  of_elements place i (element v g h es) = asserts (at place (index i)) (at place (index i)) (leaf v)
      ∷ (of_value (at place (index i)) v ++ of_elements place (suc i) es)

  -- what the pairs of an inline table define: by their keys, and by their values below these
  pub of_members : Place → Members → List Assertion
  of_members place no_members = []
  of_members place (last_member k a b v c) =
      of_key true (named place (names k)) place (names k) v ++ of_value (named place (names k)) v
  of_members place (member k a b v c d ms) = (of_key true (named place (names k)) place (names k) v
      ++ of_value (named place (names k)) v) ++ of_members place ms

-- what a pair below a header defines: by its key, and by its value below that
abbrev pub of_pair : Place → Key → Value → List Assertion
of_pair place k v =
    of_key false (named place (names k)) place (names k) v ++ of_value (named place (names k)) v

-- ---- headers

-- the kind is that of an array of tables
abbrev pub is_array : Kind → Bool
is_array array_kind = true
is_array _ = false

-- the assertion is that of an array of tables at this place
abbrev pub is_array_at : Place → Assertion → Bool
is_array_at place a = is_array a.kind && same_place a.place place

-- the number of elements that an array of tables has so far
abbrev pub elements_at : List Assertion → Place → ℕ
elements_at [] place = 0
elements_at (a ∷ earlier) place =
    cond (is_array_at place a) (suc (elements_at earlier place)) (elements_at earlier place)

-- the last element of an array of tables at this place, or the place itself where there is none
abbrev pub last_element_or_self : List Assertion → Place → Place
last_element_or_self earlier place =
    if nat_lt 0 (elements_at earlier place) then at place (index (elements_at earlier place - 1)) else place

-- what the front parts of a header's key define: a super-table each
abbrev pub fronts : List Assertion → Place → Place → List (List ℕ) → List Assertion
fronts earlier by place [] = []
fronts earlier by place (n ∷ []) = []
fronts earlier by place (n ∷ m ∷ ns) = asserts by (last_element_or_self earlier (at place (key n))) super
    ∷ fronts earlier by (last_element_or_self earlier (at place (key n))) (m ∷ ns)

-- the place that a header's key names, where each front part refers to the last element of an array of tables
abbrev pub header_place : List Assertion → Place → List (List ℕ) → Place
header_place earlier place [] = place
header_place earlier place (n ∷ []) = at place (key n)
header_place earlier place (n ∷ m ∷ ns) = header_place earlier (last_element_or_self earlier
    (at place (key n))) (m ∷ ns)

-- ---- texts

-- the place of the header that is in force after a statement; for `[[key]]`, that of the new element
abbrev pub prefix_after : List Assertion → Place → Statement → Place
prefix_after earlier prefix (pair k a b v) = prefix
prefix_after earlier prefix (header a k b) = header_place earlier [] (names k)
prefix_after earlier prefix (element_header a k b) =
    let place = header_place earlier [] (names k) in at place (index (elements_at earlier place))

-- the place that the whole key of a statement names
abbrev pub place_named : List Assertion → Place → Statement → Place
place_named earlier prefix (pair k a b v) = named prefix (names k)
place_named earlier prefix (header a k b) = prefix_after earlier prefix (header a k b)
place_named earlier prefix (element_header a k b) = prefix_after earlier prefix (element_header a k b)

-- what a statement defines, after these assertions and below this header
abbrev pub of_statement : List Assertion → Place → Statement → List Assertion
of_statement earlier prefix (pair k a b v) = of_pair prefix k v
of_statement earlier prefix (header a k b) =
    let place = header_place earlier [] (names k) in
    fronts earlier place [] (names k) ++ asserts place place header_kind ∷ []
of_statement earlier prefix (element_header a k b) =
    let place = header_place earlier [] (names k) in
    let element = at place (index (elements_at earlier place)) in
    fronts earlier element [] (names k)
    ++ asserts element place array_kind ∷ asserts element element element_kind ∷ []

-- what lines define, after these assertions and below this header
abbrev pub of_lines : List Assertion → Place → Lines → List Assertion
of_lines earlier prefix (one_line (empty_line a c)) = earlier
of_lines earlier prefix (one_line (full_line a s b c)) = earlier ++ of_statement earlier prefix s
of_lines earlier prefix (more_lines (empty_line a c) e ls) = of_lines earlier prefix ls
of_lines earlier prefix (more_lines (full_line a s b c) e ls) =
    of_lines (earlier ++ of_statement earlier prefix s) (prefix_after earlier prefix s) ls

-- the assertions of a text, in the order of the text
abbrev pub assertions : Text → List Assertion
assertions t = of_lines [] [] t.lines

-- ---- compatible definitions

-- two definitions of one place that TOML allows, the earlier one first; all others are errors
abbrev pub are_compatible : Kind → Kind → Bool
are_compatible (dotted a) (dotted b) = true
are_compatible (dotted a) super = true
are_compatible super (dotted b) = true
are_compatible header_kind super = true
are_compatible super header_kind = true
are_compatible super super = true
are_compatible super element_kind = true
are_compatible element_kind super = true
are_compatible array_kind array_kind = true
are_compatible _ _ = false

-- each assertion is compatible with each later one at the same place
abbrev pub AreCompatible : List Assertion → Type 0
AreCompatible [] = ⊤
AreCompatible (a ∷ made) =
    AllByRecursion (λ b. a.place ≡ b.place → are_compatible a.kind b.kind ≡ true) made × AreCompatible made

-- each place has at most 80 steps
abbrev pub AreShort : List Assertion → Type 0
AreShort made = AllByRecursion (λ a. length a.place ≤ 80) made

-- the bytes are a document, with this syntax tree
pub record IsDocument (bytes : List ℕ) (form : Text) : Type 0 where
  pub grammar : Spells bytes form
  pub short : AreShort (assertions form)
  pub no_clash : AreCompatible (assertions form)
