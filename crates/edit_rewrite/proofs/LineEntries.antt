-- The pair that is a statement and names a place: its entry, its tokens and its offsets.
use Rattle.std.proofs.Common.{◌≡◌, ℕ, ◌+◌, ◌<◌, Bool, true, false, ◌&&◌, cond, List, [], ◌∷◌, ◌++◌, map, length, take, get_or, Option, Some, None, option_map, refl, sym, ap, ap₂, subst, ◌∙◌, inl, inr, true≢false}
use Rattle.std.specs.Prelude.{not, unwrap_or, IsUtf8}
use Rattle.std.specs.List.{flat_map, Contains}
use Rattle.std.proofs.lemmas.Bool.{and_parts}
use Rattle.edit_syntax.specs.declared.read.syntax_tokens.SyntaxToken.{SyntaxToken}
use Rattle.edit_syntax.specs.declared.read.syntax_tokens.TokenKind.TheVariants as kinds
use Rattle.edit_syntax.specs.Characters.{equals, right_bracket, right_brace}
use Rattle.edit_syntax.specs.Grammar.{Value, basic, literal, multi_basic, multi_literal, boolean, integer, float, datetime, array, inline, value, Statement, pair, header, element_header, Text}
use Rattle.edit_syntax.specs.SyntaxTokens.{token_between, tokens_of_key, tokens_of_value, tokens_of_elements, tokens_of_members, tokens_of_statement}
use Rattle.edit_syntax.specs.Strings.{name, dotted}
use Rattle.edit_syntax.proofs.Members.{Among, among_contained, contained_among, among_map}
use Rattle.edit_rewrite.specs.declared.locate.Entry.{Entry}
use Rattle.edit_tree.specs.Assertions.{Place}
use Rattle.edit_tree.specs.EditBytes.{first_of, first_result, unresolved, is_within, part_to, is_one_statement}
use Rattle.edit_rewrite.specs.Entries.{AreParts, key_target, entry_of}
use Rattle.edit_rewrite.specs.PairOffsets.{within_entry, key_end, last_end, IsAround, HasPairOffsets}
use Rattle.edit_tree.specs.Statements.{PlacedStatement, placed_statements, Named, dotted_parts, parts, front_parts, behind_part, PlacedPair, placed_pair, paired_statement, line_pairs}
use Rattle.edit_tree.proofs.Choices.{Alike, first_taken, first_left, first_chosen}
use Rattle.edit_rewrite.proofs.EntryChoices.{no_entry}
use Rattle.edit_rewrite.proofs.EntryCuts.{StatedStands}
use Rattle.edit_rewrite.proofs.EntryParts.{last_part, key_ends, within_part, within_none}
use Rattle.edit_rewrite.proofs.KeyWays.{key_are, pair_led}
use Rattle.edit_tree.proofs.LonePairs.{stands_out}
use Rattle.edit_rewrite.proofs.PairOffsetLemmas.{no_offsets, pair_around}
use Rattle.edit_tree.proofs.TablePairs.{among_flat}
use Rattle.edit_rewrite.proofs.StatedLines.{value_first}

-- ---- the entry

yes : (b : Bool) (e : Entry) → b ≡ true → cond b (Some e) None ≡ Some e
yes b e h = ap (λ (t : Bool). cond t (Some e) None) h

no : (b : Bool) (e : Entry) → b ≡ false → cond b (Some e) None ≡ None
no b e h = ap (λ (t : Bool). cond t (Some e) None) h

module _ (xs : List Entry) (i : ℕ) (lt : i < length xs) where
  pub within_taken : first_result within_entry (take i xs) ≡ None
      → (not (get_or xs i no_entry).is_header && (get_or xs i no_entry).is_within) ≡ true
      → first_result within_entry xs ≡ Some (get_or xs i no_entry)
  within_taken none h =
      first_taken within_entry xs i no_entry (get_or xs i no_entry) lt none (yes _ (get_or xs i no_entry) h)

  pub within_left : first_result within_entry (take i xs) ≡ None
      → (not (get_or xs i no_entry).is_header && (get_or xs i no_entry).is_within) ≡ false
      → first_result within_entry (take (i + 1) xs) ≡ None
  within_left none h = first_left within_entry xs i no_entry lt none (no _ (get_or xs i no_entry) h)

-- ---- where a value ends, by the tokens of its pair

last_of : (e : ℕ) (xs : List SyntaxToken) (m : SyntaxToken) → last_end e (xs ++ m ∷ []) ≡ m.to
last_of e [] m = refl
last_of e (x ∷ xs) m = last_of x.to xs m

last_behind : (e : ℕ) (xs : List SyntaxToken) (v : Value) (rest : List ℕ)
    → last_end e (xs ++ tokens_of_value v rest) ≡ length rest
last_behind e (x ∷ xs) v rest = last_behind x.to xs v rest
last_behind e [] (basic ps) rest = refl
last_behind e [] (literal t) rest = refl
last_behind e [] (multi_basic ps) rest = refl
last_behind e [] (multi_literal t) rest = refl
last_behind e [] (boolean true) rest = refl
last_behind e [] (boolean false) rest = refl
last_behind e [] (integer n) rest = refl
last_behind e [] (float f) rest = refl
last_behind e [] (datetime d) rest = refl
last_behind e [] (array g es) rest =
    last_of _ (tokens_of_elements es (right_bracket ∷ rest)) (token_between kinds.CloseArray (right_bracket ∷ rest) rest)
last_behind e [] (inline g ms) rest =
    last_of _ (tokens_of_members ms (right_brace ∷ rest)) (token_between kinds.CloseTable (right_brace ∷ rest) rest)

-- ---- lists

among_left : {X : Type 0} (x : X) (xs ys : List X) → Among x xs → Among x (xs ++ ys)
among_left x [] ys m = absurd m
among_left x (z ∷ xs) ys (inl e) = inl e
among_left x (z ∷ xs) ys (inr m) = inr (among_left x xs ys m)

among_right : {X : Type 0} (x : X) (xs ys : List X) → Among x ys → Among x (xs ++ ys)
among_right x [] ys m = m
among_right x (z ∷ xs) ys m = inr (among_right x xs ys m)

pub flat_among : {X Y : Type 0} (f : X → List Y) (x : X) (y : Y) (xs : List X) → Among x xs → Among y (f x)
    → Among y (flat_map f xs)
flat_among f x y [] m n = absurd m
flat_among {X} {Y} f x y (z ∷ xs) (inl e) n =
    among_left y (f z) (flat_map f xs) (subst (λ (w : X). Among y (f w)) e n)
flat_among f x y (z ∷ xs) (inr m) n = among_right y (f z) (flat_map f xs) (flat_among f x y xs m n)

-- the same for equal offsets
pub around_as : (place : Place) (ps : List PlacedPair) (r q : ℕ × ℕ) → IsAround place ps r → q.0 ≡ r.0
    → q.1 ≡ r.1
    → IsAround place ps q
around_as place ps r q h e f = record {
  pair = h.pair;
  among = h.among;
  part = h.part;
  named = h.named;
  from = e ∙ h.from;
  to = f ∙ h.to;
}

-- ---- the offsets

chosen : (b : Bool) (e d : Entry) → cond b (Some e) None ≡ Some d → (b ≡ true) × (d ≡ e)
chosen true e d h = (refl, cc)
chosen false e d h = absurd cc

lengths : (o : Option (List ℕ)) (l : List ℕ)
    → unwrap_or (option_map length o) (length l) ≡ length (unwrap_or o l)
lengths None l = refl
lengths (Some x) l = refl

-- a pair that names the place or one below it, where one statement names the place
pub line_around : (bytes : List ℕ) (form : Text) (place : Place) (s : PlacedStatement) (tokens : List SyntaxToken) (e : Entry)
    → is_one_statement form place ≡ true → IsUtf8 bytes → StatedStands bytes s
    → Among s (placed_statements form)
    → e ≡ entry_of place s → within_entry e ≡ Some e → tokens ≡ tokens_of_statement s.statement s.behind
    → IsAround place (line_pairs form) (unwrap_or e.front (key_end 0 tokens), last_end 0 tokens)
line_around bytes form place s tokens e one u stands among is kind tokens_are =
    let tests = (chosen _ e e kind).0 in
    let both = and_parts (not e.is_header) e.is_within tests in
    go s.statement stands among is tokens_are both.0 both.1
  where
    go : (st : Statement) → StatedStands bytes (record s { statement = st })
        → Among (record s { statement = st }) (placed_statements form) → e ≡ entry_of place (record s { statement = st })
        → tokens ≡ tokens_of_statement st s.behind → not e.is_header ≡ true → e.is_within ≡ true
        → IsAround place (line_pairs form) (unwrap_or e.front (key_end 0 tokens), last_end 0 tokens)
    go (header a k b) stands among is tokens_are paired_one reach =
        absurd (true≢false (sym paired_one ∙ ap (λ (x : Entry). not x.is_header) is))
    go (element_header a k b) stands among is tokens_are paired_one reach =
        absurd (true≢false (sym paired_one ∙ ap (λ (x : Entry). not x.is_header) is))
    go (pair k a b v) stands among is tokens_are paired_one reach =
        let here : PlacedStatement = record s { statement = pair k a b v } in
        let rest = a ++ (equals ∷ (b ++ value v s.behind)) in
        let n : Named = (name k.first, dotted k.others rest) in
        let ns = dotted_parts k.others rest in
        let fronts = behind_part unresolved place s.prefix (front_parts (n ∷ ns)) in
        let others = tokens_of_value v s.behind in
        let are : AreParts bytes (n ∷ ns) (tokens_of_key k rest ++ others) =
        key_are bytes k rest others stands.valid.0 u stands.ends (value_first v s.behind) in
        let within : is_within place (key_target unresolved s.prefix (n ∷ ns)) ≡ true =
        ap (is_within place) (pair_led s.prefix k rest) ∙ sym (ap (λ (x : Entry). x.is_within) is) ∙ reach in
        let out = stands_out form place one here among in
        let last : key_end 0 tokens ≡ length (last_part n ns) =
        ap (key_end 0) tokens_are ∙ key_ends bytes 0 n ns (tokens_of_key k rest ++ others) are in
        pair_around place (placed_pair s.prefix k a b v s.behind) (line_pairs form)
        (unwrap_or fronts (last_part n ns))
        (unwrap_or e.front (key_end 0 tokens), last_end 0 tokens)
        (flat_among paired_statement here (placed_pair s.prefix k a b v s.behind) (placed_statements form) among (inl refl))
        (within_part place s.prefix n ns out within)
        (ap₂ (λ (o : Option ℕ) (l : ℕ). unwrap_or o l) (ap (λ (x : Entry). x.front) is) last
        ∙ lengths fronts (last_part n ns))
        (ap (last_end 0) tokens_are ∙ last_behind 0 (tokens_of_key k rest) v s.behind)

-- ---- the first one

none_each : {A B : Type 0} (f : A → Option B) (x : A) (xs : List A) → first_result f xs ≡ None → Among x xs
    → f x ≡ None
none_each f x [] e m = absurd m
none_each {A} {B} f x (y ∷ ys) e m = go (f y) refl e m (λ h n. none_each f x ys h n)
  where
    only : (o : Option B) → first_of (o ∷ []) ≡ o
    only None = refl
    only (Some b) = refl

    go : (o : Option B) → f y ≡ o → first_of (o ∷ first_result f ys ∷ []) ≡ None → Among x (y ∷ ys)
        → (first_result f ys ≡ None → Among x ys → f x ≡ None) → f x ≡ None
    go None k h (inl same) ih = ap f same ∙ k
    go None k h (inr m) ih = ih (sym (only (first_result f ys)) ∙ h) m
    go (Some b) k h m ih = absurd cc

-- where the first one is none, no statement is a pair that names the place
pub line_none : (form : Text) (place : Place) (es : List Entry)
    → es ≡ map (entry_of place) (placed_statements form)
    → first_result within_entry es ≡ None → HasPairOffsets place (line_pairs form) None
line_none form place es all none = no_offsets place (line_pairs form) each
  where
    left_out : (b : Bool) (e : Entry) → cond b (Some e) None ≡ None → b ≡ false
    left_out true e h = absurd cc
    left_out false e h = refl

    of_statement : (st : Statement) (s : PlacedStatement) (p : PlacedPair)
        → within_entry (entry_of place (record s { statement = st })) ≡ None
        → Among p (paired_statement (record s { statement = st })) → part_to place p ≡ None
    of_statement (header a k b) s p h m = absurd m
    of_statement (element_header a k b) s p h m = absurd m
    of_statement (pair k a b v) s p h (inr m) = absurd m
    of_statement (pair k a b v) s p h (inl same) =
        let rest = a ++ (equals ∷ (b ++ value v s.behind)) in
        ap (part_to place) same
        ∙ within_none place s.prefix (parts k rest)
        (ap (is_within place) (pair_led s.prefix k rest) ∙ left_out _ (entry_of place (record s {
          statement =
              pair k a b v;
        })) h)

    each : (p : PlacedPair) → Among p (line_pairs form) → part_to place p ≡ None
    each p m =
        let f = among_flat paired_statement p (placed_statements form) m in
        of_statement f.0.statement f.0 p
        (none_each within_entry (entry_of place f.0) es none
        (subst (λ (l : List Entry). Among (entry_of place f.0) l) (sym all)
        (among_map (entry_of place) f.0 (placed_statements form) f.1)))
        f.2

-- else the first one is the entry of such a pair
pub line_some : (form : Text) (place : Place) (es : List Entry) (e : Entry)
    → es ≡ map (entry_of place) (placed_statements form) → first_result within_entry es ≡ Some e
    → (s : PlacedStatement) × Contains (placed_statements form) s × (e ≡ entry_of place s) × (within_entry e ≡ Some e)
line_some form place es e all some =
    let ch =
    first_chosen within_entry (λ s. within_entry (entry_of place s)) (entry_of place) alike (placed_statements form) e
    (ap (first_result within_entry) (sym all) ∙ some) in
    let is = (chosen _ (entry_of place ch.one) e ch.made).1 in
    (ch.one, among_contained ch.one (placed_statements form) ch.among, is, ap within_entry is ∙ ch.made)
  where
    alike : Alike within_entry (λ s. within_entry (entry_of place s)) (entry_of place)
    alike = record { none = λ s h. h; some = λ s b h. (b, h) }

-- ---- of one of two lists

pub around_left : (place : Place) (ps qs : List PlacedPair) (r : ℕ × ℕ) → IsAround place ps r
    → IsAround place (ps ++ qs) r
around_left place ps qs r h =
    pair_around place h.pair (ps ++ qs) h.part r (among_left h.pair ps qs (contained_among h.pair ps h.among))
    h.named
    h.from h.to

pub around_right : (place : Place) (ps qs : List PlacedPair) (r : ℕ × ℕ) → IsAround place qs r
    → IsAround place (ps ++ qs) r
around_right place ps qs r h =
    pair_around place h.pair (ps ++ qs) h.part r (among_right h.pair ps qs (contained_among h.pair qs h.among))
    h.named
    h.from h.to
