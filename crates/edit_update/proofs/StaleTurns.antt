-- The places of the elements to remove are unchanged after those before them are removed.
use Rattle.std.proofs.Common.{◌≡◌, ℕ, zero, suc, ◌<◌, ◌-◌, Bool, true, false, ◌&&◌, ◌==◌, nat_lt, cond, List, [], ◌∷◌, ◌++◌, Option, None, Some, refl, sym, ap, ◌∙◌, true≢false, arith}
use Rattle.std.specs.Prelude.{slice_get, codes}
use Rattle.std.specs.List.{AllByRecursion, filter, flat_map}
use Rattle.edit_syntax.specs.Grammar.{Text}
use Rattle.edit_syntax.proofs.Cases.{by_test}
use Rattle.edit_tree.specs.Assertions.{Place, key, index, at, same_bytes, assertions}
use Rattle.edit_tree.specs.IntendedTrees.{place_after_removal}
use Rattle.edit_tree.specs.Tree.{View, string, truth, whole, fractional, moment, static_array, table_array, inline_table, table, view_at}
use Rattle.edit_document.specs.Items.{viewed, names_in}
use Rattle.edit_compare.proofs.ApartViews.{apart_view}
use Rattle.edit_tree.proofs.SamePlace.{same_bytes_is}
use Rattle.edit_update.specs.Features.{elements_back, elements_of, features, is_stale_item, is_plain, stale_in, stale_strings, has_any_optional_entry, has_any_entry}
use Rattle.edit_update.specs.Removals.{AreInTurn, AreStrings, HasString, IsUnmovedBy}
use Rattle.edit_manifest.specs.Tables.{Tree, member_names}

-- ---- lists

abbrev AllOutlive : List Place → List Place → Type 0
AllOutlive xs ys = AllByRecursion (λ x. AllByRecursion (IsUnmovedBy x) ys) xs

all_append : (P : Place → Type 0) (xs ys : List Place) → AllByRecursion P xs → AllByRecursion P ys
    → AllByRecursion P (xs ++ ys)
all_append P [] ys a b = b
all_append P (x ∷ xs) ys a b = (a.0, all_append P xs ys a.1 b)

all_filter : (P : Place → Type 0) (test : Place → Bool) (xs : List Place) → AllByRecursion P xs
    → AllByRecursion P (filter test xs)
all_filter P test [] a = tt
all_filter P test (x ∷ xs) a = go (test x) (all_filter P test xs a.1)
  where
    go : (b : Bool) → AllByRecursion P (filter test xs) → AllByRecursion P
        (cond b (x ∷ filter test xs) (filter test xs))
    go true rest = (a.0, rest)
    go false rest = rest

all_weaker : (P Q : Place → Type 0) → ((x : Place) → P x → Q x) → (xs : List Place) → AllByRecursion P xs
    → AllByRecursion Q xs
all_weaker P Q f [] a = tt
all_weaker P Q f (x ∷ xs) a = (f x a.0, all_weaker P Q f xs a.1)

turn_append : (xs ys : List Place) → AreInTurn xs → AreInTurn ys → AllOutlive xs ys → AreInTurn (xs ++ ys)
turn_append [] ys a b c = b
turn_append (x ∷ xs) ys a b c = (all_append (IsUnmovedBy x) xs ys a.0 c.0, turn_append xs ys a.1 b c.1)

turn_filter : (test : Place → Bool) (xs : List Place) → AreInTurn xs → AreInTurn (filter test xs)
turn_filter test [] a = tt
turn_filter test (x ∷ xs) a = go (test x) (turn_filter test xs a.1)
  where
    go : (b : Bool) → AreInTurn (filter test xs) → AreInTurn (cond b (x ∷ filter test xs) (filter test xs))
    go true rest = (all_filter (IsUnmovedBy x) test xs a.0, rest)
    go false rest = rest

-- ---- elements of features

-- the place of a feature
abbrev of_feature : List ℕ → Place
of_feature f = at features (key f)

-- one of the first elements of a feature
abbrev IsElement : List ℕ → ℕ → Place → Type 0
IsElement f n q = (i : ℕ) × (i < n) × (q ≡ at (of_feature f) (index i))

-- an element of some feature
abbrev IsOf : List ℕ → Place → Type 0
IsOf f q = (i : ℕ) × (q ≡ at (of_feature f) (index i))

other_name : (f g : List ℕ) → same_bytes f g ≡ false → same_bytes g f ≡ false
other_name f g e = by_test (same_bytes g f)
    (λ h. absurd (true≢false (sym h ∙ ap (λ z. same_bytes g z) (sym (same_bytes_is g f h)) ∙
    ap (λ z. same_bytes z g) (same_bytes_is g f h) ∙ e)))
    (λ h. h)

-- the elements of a feature do not move for those of another
other_feature : (f g : List ℕ) (i j : ℕ) → same_bytes f g ≡ false
    → IsUnmovedBy (at (of_feature f) (index i)) (at (of_feature g) (index j))
other_feature f g i j e = (
  ap (λ b. b && (i == j && true)) e,
  ap (λ b. b && (j == i && true)) (other_name f g e),
  ap (λ b. key (codes "features") ∷ key g ∷ cond b (place_after_removal (index i ∷ []) (index j ∷ [])) (index j ∷ [])) e,
)

not_same : (i j : ℕ) → j < i → (i == j) ≡ false
not_same i j lt = search (arith)

not_same_back : (i j : ℕ) → j < i → (j == i) ≡ false
not_same_back i j lt = search (arith)

not_less : (i j : ℕ) → j < i → nat_lt i j ≡ false
not_less i j lt = search (arith)

-- those of a feature do not move for a later one
later_element : (f : List ℕ) (i j : ℕ) → j < i → IsUnmovedBy (at (of_feature f) (index i))
    (at (of_feature f) (index j))
later_element f i j lt = by_test (same_bytes f f)
    (λ h. (
      ap (λ b. b && (i == j && true)) h ∙ ap (λ b. b && true) (not_same i j lt),
      ap (λ b. b && (j == i && true)) h ∙ ap (λ b. b && true) (not_same_back i j lt),
      ap (λ b. key (codes "features") ∷ key f ∷ cond b (place_after_removal (index i ∷ []) (index j ∷ [])) (index j ∷ [])) h
          ∙ ap (λ b. key (codes "features") ∷ key f ∷ index (cond b (j - 1) j) ∷ []) (not_less i j lt),
    ))
    (λ h. other_feature f f i j h)

back_elements : (f : List ℕ) (n : ℕ) → AllByRecursion (IsElement f n) (elements_back (of_feature f) n)
back_elements f zero = tt
back_elements f (suc n) = (
  (n, omega arith, refl),
  all_weaker (IsElement f n) (IsElement f (suc n)) (λ q h. let lt = h.1 in (h.0, omega (arith, lt), h.2))
      (elements_back (of_feature f) n) (back_elements f n),
)

back_turns : (f : List ℕ) (n : ℕ) → AreInTurn (elements_back (of_feature f) n)
back_turns f zero = tt
back_turns f (suc n) = (
  all_weaker (IsElement f n) (IsUnmovedBy (at (of_feature f) (index n)))
      (λ q h. rw h.2 (later_element f n h.0 h.1)) (elements_back (of_feature f) n) (back_elements f n),
  back_turns f n,
)

elements_in_turn : (f : List ℕ) (o : Option View) → AreInTurn (elements_of (of_feature f) o)
elements_in_turn f None = tt
elements_in_turn f (Some (static_array n)) = back_turns f n
elements_in_turn f (Some (string s)) = tt
elements_in_turn f (Some (truth b)) = tt
elements_in_turn f (Some (whole s)) = tt
elements_in_turn f (Some (fractional s)) = tt
elements_in_turn f (Some (moment s)) = tt
elements_in_turn f (Some (table_array n)) = tt
elements_in_turn f (Some (inline_table ms)) = tt
elements_in_turn f (Some (table ms)) = tt

elements_own : (f : List ℕ) (o : Option View) → AllByRecursion (IsOf f) (elements_of (of_feature f) o)
elements_own f None = tt
elements_own f (Some (static_array n)) =
    all_weaker (IsElement f n) (IsOf f) (λ q h. (h.0, h.2)) (elements_back (of_feature f) n)
    (back_elements f n)
elements_own f (Some (string s)) = tt
elements_own f (Some (truth b)) = tt
elements_own f (Some (whole s)) = tt
elements_own f (Some (fractional s)) = tt
elements_own f (Some (moment s)) = tt
elements_own f (Some (table_array n)) = tt
elements_own f (Some (inline_table ms)) = tt
elements_own f (Some (table ms)) = tt

-- ---- names

-- each name is another one than those behind it
abbrev Distinct : List (List ℕ) → Type 0
Distinct [] = Unit {0}
Distinct (n ∷ ns) = AllByRecursion (λ m. same_bytes n m ≡ false) ns × Distinct ns

others : (n : List ℕ) (ns : List (List ℕ)) → ((k : ℕ) → slice_get ns k ≡ Some n → ⊥)
    → AllByRecursion (λ m. same_bytes n m ≡ false) ns
others n [] h = tt
others n (m ∷ ns) h = (
  by_test (same_bytes n m) (λ e. absurd (h zero (ap Some (sym (same_bytes_is n m e))))) (λ e. e),
  others n ns (λ k e. h (suc k) e),
)

distinct : (ns : List (List ℕ))
    → ((i j : ℕ) (n : List ℕ) → slice_get ns i ≡ Some n → slice_get ns j ≡ Some n → i ≡ j) → Distinct ns
distinct [] h = tt
distinct (n ∷ ns) h = (
  others n ns (λ k e. let clash : zero ≡ suc k = h zero (suc k) n refl e in absurd cc),
  distinct ns (λ i j m x y. let next : suc i ≡ suc j = h (suc i) (suc j) m x y in omega (arith, next)),
)

-- ---- all features

module _ (t : Tree) (held : Bool) (name : List ℕ) where
  abbrev of_names : List (List ℕ) → List Place
  of_names ns = flat_map (λ f. stale_in t held name (of_feature f)) ns

  stale_own : (f : List ℕ) → AllByRecursion (IsOf f) (stale_in t held name (of_feature f))
  stale_own f =
      all_filter (IsOf f) (λ p. is_stale_item held name (t p)) (elements_of (of_feature f) (t (of_feature f)))
      (elements_own f (t (of_feature f)))

  apart_elements : (f g : List ℕ) → same_bytes f g ≡ false → (p q : Place) → IsOf f p → IsOf g q
      → IsUnmovedBy p q
  apart_elements f g e p q a b = rw (a.1, b.1) (other_feature f g a.0 b.0 e)

  behind : (f : List ℕ) (p : Place) → IsOf f p → (ns : List (List ℕ))
      → AllByRecursion (λ m. same_bytes f m ≡ false) ns
      → AllByRecursion (IsUnmovedBy p) (of_names ns)
  behind f p a [] h = tt
  behind f p a (n ∷ ns) h =
      all_append (IsUnmovedBy p) (stale_in t held name (of_feature n)) (of_names ns)
      (all_weaker (IsOf n) (IsUnmovedBy p) (λ q b. apart_elements f n h.0 p q a b)
      (stale_in t held name (of_feature n)) (stale_own n))
      (behind f p a ns h.1)

  names_turn : (ns : List (List ℕ)) → Distinct ns → AreInTurn (of_names ns)
  names_turn [] d = tt
  names_turn (n ∷ ns) d =
      turn_append (stale_in t held name (of_feature n)) (of_names ns)
      (turn_filter (λ p. is_stale_item held name (t p)) (elements_of (of_feature n) (t (of_feature n)))
      (elements_in_turn n (t (of_feature n))))
      (names_turn ns d.1)
      (all_weaker (IsOf n) (λ x. AllByRecursion (IsUnmovedBy x) (of_names ns)) (λ q b. behind n q b ns d.0)
      (stale_in t held name (of_feature n)) (stale_own n))

  -- what is removed is a string
  string_goes : (o : Option View) → is_stale_item held name o ≡ true
      → (text : List ℕ) × (o ≡ Some (string text))
  string_goes None e = absurd cc
  string_goes (Some (string s)) e = (s, refl)
  string_goes (Some (truth b)) e = absurd cc
  string_goes (Some (whole s)) e = absurd cc
  string_goes (Some (fractional s)) e = absurd cc
  string_goes (Some (moment s)) e = absurd cc
  string_goes (Some (static_array n)) e = absurd cc
  string_goes (Some (table_array n)) e = absurd cc
  string_goes (Some (inline_table ms)) e = absurd cc
  string_goes (Some (table ms)) e = absurd cc

  strings_filter : (ps : List Place) → AreStrings t (filter (λ p. is_stale_item held name (t p)) ps)
  strings_filter [] = tt
  strings_filter (p ∷ ps) = go (is_stale_item held name (t p)) refl (strings_filter ps)
    where
      go : (b : Bool) → is_stale_item held name (t p) ≡ b → AreStrings t (filter (λ p. is_stale_item held name (t p)) ps)
          → AreStrings t (cond b (p ∷ filter (λ p. is_stale_item held name (t p)) ps)
          (filter (λ p. is_stale_item held name (t p)) ps))
      go true e rest = (string_goes (t p) e, rest)
      go false e rest = rest

  names_strings : (ns : List (List ℕ)) → AreStrings t (of_names ns)
  names_strings [] = tt
  names_strings (n ∷ ns) =
      all_append (HasString t) (stale_in t held name (of_feature n)) (of_names ns)
      (strings_filter (elements_of (of_feature n) (t (of_feature n)))) (names_strings ns)

-- the names of a document's features are distinct
feature_names : (form : Text) (t : Tree) → ((p : Place) → t p ≡ view_at form p)
    → Distinct (member_names (t features))
feature_names form t shows = rw (shows features) (go (view_at form features)
    (apart_view (assertions form) features))
  where
    go : (o : Option View) → ((i j : ℕ) (n : List ℕ) → slice_get (names_in (viewed o)) i ≡ Some n
        → slice_get (names_in (viewed o)) j ≡ Some n → i ≡ j) → Distinct (member_names o)
    go None h = tt
    go (Some v) h = distinct (names_in v) h

-- each place of an element to remove is unchanged after those before it are removed
pub stale_turns : (form : Text) (t : Tree) (name : List ℕ) → ((p : Place) → t p ≡ view_at form p)
    → AreInTurn (stale_strings t name)
stale_turns form t name shows = go (has_any_optional_entry t name) (is_plain (t features))
  where
    go : (b c : Bool) → AreInTurn (cond b [] (cond c (of_names t (has_any_entry t name) name
        (member_names (t features))) []))
    go true c = tt
    go false true = names_turn t (has_any_entry t name) name (member_names (t features))
        (feature_names form t shows)
    go false false = tt

-- the elements to remove are strings
pub stale_are_strings : (t : Tree) (name : List ℕ) → AreStrings t (stale_strings t name)
stale_are_strings t name = go (has_any_optional_entry t name) (is_plain (t features))
  where
    go : (b c : Bool) → AreStrings t (cond b [] (cond c (of_names t (has_any_entry t name) name
        (member_names (t features))) []))
    go true c = tt
    go false true = names_strings t (has_any_entry t name) name (member_names (t features))
    go false false = tt
