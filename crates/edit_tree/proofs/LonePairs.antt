-- The only pair that names a place, among all pairs of a text.
use Rattle.std.proofs.Common.{◌≡◌, ℕ, Bool, true, false, ◌||◌, cond, not, List, [], ◌∷◌, ◌++◌, length, Option, Some, None, is_some, option_map, refl, sym, ap, ap₂, ◌∙◌, inl, inr, true≢false, arith}
use Rattle.std.specs.List.{filter, list_any}
use Rattle.std.proofs.lemmas.Bool.{and_parts, eqb-true}
use Rattle.edit_syntax.specs.Grammar.{Statement, pair, header, element_header, empty_line, full_line, Lines, one_line, more_lines, lines, comment, Text}
use Rattle.edit_syntax.specs.Strings.{line_end}
use Rattle.edit_syntax.proofs.Members.{Among}
use Rattle.edit_tree.specs.Assertions.{Place, key, at, Assertion, of_statement, prefix_after}
use Rattle.edit_tree.specs.EditBytes.{Splice, first_of, first_result, unresolved, is_within, part_to, entry_replaced, is_header_of, is_one_statement}
use Rattle.edit_tree.specs.NewItems.{NewItem, new_entry}
use Rattle.edit_tree.specs.Statements.{PlacedStatement, stated_line, stated_in, placed_statements, Named, behind_part, PlacedPair, line_pairs, inner_pairs}
use Rattle.edit_tree.proofs.SamePlace.{other_place, not_root}

-- ---- the one of which something is made

none_left : {A B : Type 0} (f : A → Option B) (xs : List A) (x : A) (b : B)
    → length (filter (λ a. is_some (f a)) xs) ≡ 0 → Among x xs → f x ≡ Some b → ⊥
none_left f [] x b none m e = m
none_left {A} {B} f (y ∷ ys) x b none m e = go (f y) refl none m (λ c n. none_left f ys x b c n e)
  where
    others : List A
    others = filter (λ a. is_some (f a)) ys

    go : (o : Option B) → f y ≡ o → length (cond (is_some o) (y ∷ others) others) ≡ 0 → Among x (y ∷ ys)
        → (length others ≡ 0 → Among x ys → ⊥) → ⊥
    go None k c (inl same) ih = let clash : None ≡ Some b = sym k ∙ ap f (sym same) ∙ e in absurd cc
    go None k c (inr m) ih = ih c m
    go (Some d) k c m ih = absurd (omega (arith, c))

-- where something is made of one alone, that is the first
pub lone : {A B C : Type 0} (f : A → Option B) (g : A → B → C) (xs : List A) (x : A) (b : B)
    → length (filter (λ a. is_some (f a)) xs) ≡ 1 → Among x xs → f x ≡ Some b
    → first_result (λ a. option_map (g a) (f a)) xs ≡ Some (g x b)
lone f g [] x b one m e = absurd m
lone {A} {B} {C} f g (y ∷ ys) x b one m e = go (f y) refl one m (λ c n. lone f g ys x b c n e)
  where
    others : List A
    others = filter (λ a. is_some (f a)) ys

    made : Option C
    made = first_result (λ a. option_map (g a) (f a)) ys

    only : (o : Option C) → first_of (o ∷ []) ≡ o
    only None = refl
    only (Some c) = refl

    go : (o : Option B) → f y ≡ o → length (cond (is_some o) (y ∷ others) others) ≡ 1 → Among x (y ∷ ys)
        → (length others ≡ 1 → Among x ys → made ≡ Some (g x b))
        → first_of (option_map (g y) o ∷ made ∷ []) ≡ Some (g x b)
    go None k c (inl same) ih = let clash : None ≡ Some b = sym k ∙ ap f (sym same) ∙ e in absurd cc
    go None k c (inr m) ih = only made ∙ ih c m
    go (Some d) k c (inl same) ih =
        let made : Some d ≡ Some b = sym k ∙ ap f (sym same) ∙ e in
        let is : d ≡ b = cc in
        ap₂ (λ (a : A) (z : B). Some (g a z)) (sym same) is
    go (Some d) k c (inr m) ih = absurd (none_left f ys x b (let n = c in omega arith) m e)

none_made : {A B : Type 0} (f : A → Option B) (xs : List A) → ((x : A) → Among x xs → f x ≡ None)
    → length (filter (λ a. is_some (f a)) xs) ≡ 0
none_made f [] all = refl
none_made {A} f (x ∷ xs) all =
    ap (λ (b : Bool). length (cond b (x ∷ filter (λ a. is_some (f a)) xs) (filter (λ a. is_some (f a)) xs)))
    (ap is_some (all x (inl refl)))
    ∙ none_made f xs (λ y m. all y (inr m))

-- ---- the pairs of a text

abbrev all_pairs : Text → List PlacedPair
all_pairs form = line_pairs form ++ inner_pairs form

one_pair : (form : Text) (place : Place) → is_one_statement form place ≡ true
    → length (filter (λ p. is_some (part_to place p)) (all_pairs form)) ≡ 1
one_pair form place one = eqb-true _ _ (and_parts _ _ one).0

-- what gives way in the one pair that names the place
pub entry_is : (form : Text) (place : Place) (item : NewItem) (p : PlacedPair) (part : List ℕ)
    → is_one_statement form place ≡ true → Among p (all_pairs form) → part_to place p ≡ Some part
    → entry_replaced place item form ≡ Some (record { from = part; to = p.behind; now = new_entry item [] })
entry_is form place item p part one m e =
    lone (part_to place) made (all_pairs form) p part (one_pair form place one) m e
  where
    made : PlacedPair → List ℕ → Splice
    made q suffix = record { from = suffix; to = q.behind; now = new_entry item [] }

-- one pair does
pub some_pair : (form : Text) (place : Place) → is_one_statement form place ≡ true
    → ((p : PlacedPair) → Among p (all_pairs form) → part_to place p ≡ None) → ⊥
some_pair form place one none =
    absurd (omega (arith, one_pair form place one, none_made (part_to place) (all_pairs form) none))

-- ---- the root

root_part : (table : Place) (ns : List Named) → behind_part unresolved [] table ns ≡ None
root_part table [] = refl
root_part table (n ∷ ns) =
    ap (λ (b : Bool). cond b (Some n.1) (behind_part unresolved [] (at table (key n.0)) ns))
    (other_place (at table (key n.0)) [] (not_root table (key n.0)))
    ∙ root_part (at table (key n.0)) ns

root_not_one : (form : Text) → is_one_statement form [] ≡ true → ⊥
root_not_one form one = some_pair form [] one (λ p m. root_part p.table p.parts)

-- ---- the headers

or_parts : (a b : Bool) → (a || b) ≡ false → (a ≡ false) × (b ≡ false)
or_parts true b e = absurd (true≢false e)
or_parts false b e = (refl, e)

-- no statement stands under a header of the place, or of one below it
out_in : (place : Place) (earlier : List Assertion) (prefix : Place) (ls : Lines)
    → is_within place prefix ≡ false
    → list_any (is_header_of place) (stated_in earlier prefix ls) ≡ false
    → (s : PlacedStatement) → Among s (stated_in earlier prefix ls) → is_within place s.prefix ≡ false
out_in place earlier prefix (one_line (empty_line a c)) out none s m = absurd m
out_in place earlier prefix (one_line (full_line a st b c)) out none s (inl e) =
    ap (λ (x : PlacedStatement). is_within place x.prefix) e ∙ out
out_in place earlier prefix (one_line (full_line a st b c)) out none s (inr m) = absurd m
out_in place earlier prefix (more_lines (empty_line a c) e ls) out none s m =
    out_in place earlier prefix ls out none s m
out_in place earlier prefix (more_lines (full_line a st b c) e ls) out none s (inl same) =
    ap (λ (x : PlacedStatement). is_within place x.prefix) same ∙ out
out_in place earlier prefix (more_lines (full_line a st b c) e ls) out none s (inr m) =
    let after = line_end e (lines ls) in
    let here : PlacedStatement = stated_line earlier prefix a st (b ++ comment c after) after (lines ls) in
    let h = or_parts (is_header_of place here)
    (list_any (is_header_of place)
    (stated_in (earlier ++ of_statement earlier prefix st) (prefix_after earlier prefix st) ls)) none in
    out_in place (earlier ++ of_statement earlier prefix st) (prefix_after earlier prefix st) ls
    (further st h.0) h.1 s m
  where
    further : (st : Statement)
        → is_header_of place (stated_line earlier prefix a st (b ++ comment c (line_end e (lines ls)))
        (line_end e (lines ls)) (lines ls)) ≡ false
        → is_within place (prefix_after earlier prefix st) ≡ false
    further (pair k x y v) h = out
    further (header x k y) h = h
    further (element_header x k y) h = h

-- the same of a text, where one pair names the place and no header does
pub stands_out : (form : Text) (place : Place) → is_one_statement form place ≡ true → (s : PlacedStatement)
    → Among s (placed_statements form) → is_within place s.prefix ≡ false
stands_out form [] one s m = absurd (root_not_one form one)
stands_out form (t ∷ ts) one s m =
    out_in (t ∷ ts) [] [] form.lines refl (none (list_any (is_header_of (t ∷ ts)) (placed_statements form))
    (and_parts _ _ one).1) s m
  where
    none : (b : Bool) → not b ≡ true → b ≡ false
    none true e = absurd (true≢false (sym e))
    none false e = refl
