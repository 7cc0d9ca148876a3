-- The trees at two nodes are equal where their views and the trees at their children are.
use Rattle.std.proofs.Common.{◌≡◌, ℕ, zero, suc, ◌+◌, ◌<◌, ◌≤◌, Bool, true, false, List, [], ◌∷◌, ◌++◌, Option, Some, None, refl, sym, ap, ◌∙◌, ◌⊎◌, inl, inr, arith, append_assoc, append-nil}
use Rattle.std.specs.Prelude.{slice_get, nat_lt, cond, map, if◌then◌else◌, ◌==◌, unwrap_or, take}
use Rattle.std.proofs.lemmas.Option.{slice_get_within, slice_get-get_or, same_Some}
use Rattle.std.proofs.lemmas.Bool.{cases_lt, lt-ltb, ltb-true}
use Rattle.edit_tree.specs.Assertions.{Step, key, index, Place, at, same_step}
use Rattle.edit_tree.specs.Tree.{View, string, truth, whole, fractional, moment, static_array, table_array, inline_table, table}
use Rattle.edit_tree.specs.DocumentViews.{DocumentViews, tree_of}
use Rattle.edit_document.specs.Items.{node_place, node_view, names_in, count_in}
use Rattle.edit_document.specs.Compared.{SameBelow, kind_of, value_text, element_step, nth_part, AreKeys, IsChildIndex}
use Rattle.edit_tree.proofs.SamePlace.{same_step_is, same_step_self}

-- the same stands at the first parts
abbrev pub SameParts : DocumentViews → ℕ → DocumentViews → ℕ → ℕ → Type 0
SameParts d n e m count = (j : ℕ) (step : Step) → j < count → nth_part (node_view d n) j ≡ Some step
    → SameBelow d (at (node_place d n) step) e (at (node_place e m) step)

-- ---- parts of a view

pub element_some : (n i : ℕ) → i < n → element_step n i ≡ Some (index i)
element_some n i lt = ap (λ (b : Bool). cond b (Some (index i)) None) (lt-ltb i n lt)

element_less : (n i : ℕ) (step : Step) → element_step n i ≡ Some step → i < n
element_less n i step e = go (nat_lt i n) refl e
  where
    go : (b : Bool) → nat_lt i n ≡ b → cond b (Some (index i)) None ≡ Some step → i < n
    go true t e = ltb-true i n t
    go false t e = absurd cc

-- there are as many parts as are counted
pub part_less : (v : View) (i : ℕ) (step : Step) → nth_part v i ≡ Some step → i < count_in v
part_less (static_array n) i step e = element_less n i step e
part_less (table_array n) i step e = element_less n i step e
part_less (inline_table ms) i step e = slice_get_within ms i step e
part_less (table ms) i step e = slice_get_within ms i step e
part_less (string s) i step e = absurd cc
part_less (truth b) i step e = absurd cc
part_less (whole s) i step e = absurd cc
part_less (fractional s) i step e = absurd cc
part_less (moment s) i step e = absurd cc

pub part_some : (v : View) (i : ℕ) → i < count_in v → nth_part v i ≡ None → ⊥
part_some (static_array n) i lt e = let clash : None ≡ Some (index i) = sym e ∙ element_some n i lt in cc
part_some (table_array n) i lt e = let clash : None ≡ Some (index i) = sym e ∙ element_some n i lt in cc
part_some (inline_table ms) i lt e = let clash = sym e ∙ slice_get-get_or ms i (index 0) lt in cc
part_some (table ms) i lt e = let clash = sym e ∙ slice_get-get_or ms i (index 0) lt in cc
part_some (string s) i lt e = omega arith
part_some (truth b) i lt e = omega arith
part_some (whole s) i lt e = omega arith
part_some (fractional s) i lt e = omega arith
part_some (moment s) i lt e = omega arith

-- a step is a part, or no part
step_or : (s t : Step) → (s ≡ t) ⊎ (s ≡ t → ⊥)
step_or s t = go (same_step s t) refl
  where
    go : (b : Bool) → same_step s t ≡ b → (s ≡ t) ⊎ (s ≡ t → ⊥)
    go true e = inl (same_step_is s t e)
    go false e = inr (λ h. let clash : true ≡ false = sym (same_step_self t) ∙
        ap (λ (u : Step). same_step u t) (sym h) ∙ e in cc)

abbrev pub IsPart : View → Step → ℕ → Type 0
IsPart v s n = ((j : ℕ) × (j < n) × (nth_part v j ≡ Some s)) ⊎ ((j : ℕ) → j < n → nth_part v j ≡ Some s → ⊥)

pub part_or : (v : View) (s : Step) (n : ℕ) → IsPart v s n
part_or v s zero = inr (λ j lt e. omega arith)
part_or v s (suc n) = go (part_or v s n) (nth_part v n) refl
  where
    rest : (o : Option Step) → nth_part v n ≡ o → (o ≡ Some s → ⊥)
        → ((j : ℕ) → j < n → nth_part v j ≡ Some s → ⊥) → (j : ℕ) → j < suc n → nth_part v j ≡ Some s → ⊥
    rest o e ne none j lt p = elim (cases_lt j n) [
      | inl l ↦ none j l p
      | inr g ↦ (let same : j ≡ n = omega arith in ne (sym e ∙ ap (nth_part v) (sym same) ∙ p))
    ]

    here : (o : Option Step) → nth_part v n ≡ o → ((j : ℕ) → j < n → nth_part v j ≡ Some s → ⊥)
        → IsPart v s (suc n)
    here None e none = inr (rest None e (λ h. cc) none)
    here (Some t) e none = elim (step_or t s) [
      | inl same ↦ inl (n, omega arith, e ∙ ap Some same)
      | inr ne ↦ inr (rest (Some t) e (λ h. ne (same_Some t s h)) none)
    ]

    go : IsPart v s n → (o : Option Step) → nth_part v n ≡ o → IsPart v s (suc n)
    go (inl p) o e = inl (p.0, omega (arith, p.1), p.2)
    go (inr none) o e = here o e none

-- ---- below

abbrev pub NothingElse : DocumentViews → ℕ → Type 0
NothingElse d n = (step : Step) → ((i : ℕ) → nth_part (node_view d n) i ≡ Some step → ⊥)
    → tree_of d (at (node_place d n) step) ≡ None

abbrev pub NoneBelow : DocumentViews → Type 0
NoneBelow d = (place more : Place) → tree_of d place ≡ None → tree_of d (place ++ more) ≡ None

pub one_down : (d : DocumentViews) (p : Place) (s : Step) (q : Place)
    → tree_of d (at p s ++ q) ≡ tree_of d (p ++ s ∷ q)
one_down d p s q = ap (tree_of d) (append_assoc p (s ∷ []) q)

pub same_all : (d : DocumentViews) (n : ℕ) (e : DocumentViews) (m : ℕ) → NoneBelow d → NoneBelow e
    → NothingElse d n
    → NothingElse e m → tree_of d (node_place d n) ≡ Some (node_view d n)
    → tree_of e (node_place e m) ≡ Some (node_view e m)
    → node_view d n ≡ node_view e m → SameParts d n e m (count_in (node_view d n))
    → SameBelow d (node_place d n) e (node_place e m)
same_all d n e m below_d below_e else_d else_e here there same parts [] =
    ap (tree_of d) (append-nil (node_place d n)) ∙ here ∙ ap Some same ∙ sym there ∙
    ap (tree_of e) (sym (append-nil (node_place e m)))
same_all d n e m below_d below_e else_d else_e here there same parts (s ∷ q) =
    elim (part_or (node_view d n) s (count_in (node_view d n))) [
      | inl p ↦ sym (one_down d (node_place d n) s q) ∙ parts p.0 s p.1 p.2 q ∙
          one_down e (node_place e m) s q
      | inr none ↦
          let no : (i : ℕ) → nth_part (node_view d n) i ≡ Some s
          → ⊥ = λ i p. none i (part_less (node_view d n) i s p) p in
          let left = below_d (at (node_place d n) s) q (else_d s no) in
          let right = below_e (at (node_place e m) s) q
          (else_e s (λ i p. no i (ap (λ (v : View). nth_part v i) same ∙ p))) in
          sym (one_down d (node_place d n) s q) ∙ left ∙ sym right ∙ one_down e (node_place e m) s q
    ]

-- what is the same below two nodes is the same at them
pub same_here : (d : DocumentViews) (n : ℕ) (e : DocumentViews) (m : ℕ) → tree_of d (node_place d n)
    ≡ Some (node_view d n) → tree_of e (node_place e m) ≡ Some (node_view e m)
    → SameBelow d (node_place d n) e (node_place e m) → node_view d n ≡ node_view e m
same_here d n e m here there same =
    same_Some (node_view d n) (node_view e m)
    (sym here ∙ ap (tree_of d) (sym (append-nil (node_place d n))) ∙ same [] ∙
    ap (tree_of e) (append-nil (node_place e m)) ∙ there)

-- and at each of their parts
pub same_part : (d : DocumentViews) (n : ℕ) (e : DocumentViews) (m : ℕ) (step : Step)
    → SameBelow d (node_place d n) e (node_place e m)
    → SameBelow d (at (node_place d n) step) e (at (node_place e m) step)
same_part d n e m step same q = one_down d (node_place d n) step q ∙ same (step ∷ q) ∙
    sym (one_down e (node_place e m) step q)

-- ---- the same view

scalar_of_kind : ℕ → List ℕ → View
scalar_of_kind k w = if k == 0 then string w else
    (if k == 3 then whole w else (if k == 4 then fractional w else moment w))

assemble : ℕ → Option (List ℕ) → List (List ℕ) → ℕ → View
assemble k w names n =
    if k == 6 then static_array n
    else (if k == 7 then table_array n
    else (if k == 8 then inline_table (map key names)
    else (if k == 9 then table (map key names)
    else (if k == 2 then truth true
    else (if k == 1 then truth false
    else scalar_of_kind k (unwrap_or w []))))))

assembled : (v : View) → AreKeys v → assemble (kind_of v) (value_text v) (names_in v) (count_in v) ≡ v
unfolding assemble scalar_of_kind
assembled (string s) k = refl
assembled (truth true) k = refl
assembled (truth false) k = refl
assembled (whole s) k = refl
assembled (fractional s) k = refl
assembled (moment s) k = refl
assembled (static_array n) k = refl
assembled (table_array n) k = refl
assembled (inline_table ms) k = ap inline_table (sym k)
assembled (table ms) k = ap table (sym k)

pub same_views : (v w : View) → AreKeys v → AreKeys w → kind_of v ≡ kind_of w → value_text v ≡ value_text w
    → names_in v ≡ names_in w → count_in v ≡ count_in w → v ≡ w
same_views v w kv kw a b c d =
    sym (assembled v kv)
    ∙ ap (λ k. assemble k (value_text v) (names_in v) (count_in v)) a
    ∙ ap (λ (x : Option (List ℕ)). assemble (kind_of w) x (names_in v) (count_in v)) b
    ∙ ap (λ (x : List (List ℕ)). assemble (kind_of w) (value_text w) x (count_in v)) c
    ∙ ap (λ x. assemble (kind_of w) (value_text w) (names_in w) x) d ∙ assembled w kw

-- ---- one part more

pub parts_more : (d : DocumentViews) (n : ℕ) (e : DocumentViews) (m i a b : ℕ) → node_view d n ≡ node_view e m
    → SameParts d n e m i → IsChildIndex d n i (Some a) → IsChildIndex e m i (Some b)
    → SameBelow d (node_place d a) e (node_place e b) → SameParts d n e m (i + 1)
parts_more d n e m i a b same parts (s, ps, la, pa) (r, pr, lb, pb) below j step lt p q =
    elim (cases_lt j i) [
      | inl l ↦ parts j step l p q
      | inr g ↦
          let here : j ≡ i = omega arith in
          let one : s ≡ step = same_Some s step (sym ps ∙ ap (nth_part (node_view d n)) (sym here) ∙ p) in
          let two : r ≡ step = same_Some r step (sym pr ∙ ap (λ (v : View). nth_part v i) (sym same) ∙
          ap (nth_part (node_view d n)) (sym here) ∙ p) in
          let left : node_place d a ≡ at (node_place d n) step = pa ∙
          ap (at (node_place d n)) one in
          let right : node_place e b ≡ at (node_place e m) step = pb ∙
          ap (at (node_place e m)) two in
          ap (λ (x : Place). tree_of d (x ++ q)) (sym left) ∙ below q ∙
          ap (λ (x : Place). tree_of e (x ++ q)) right
    ]

pub parts_all : (d : DocumentViews) (n : ℕ) (e : DocumentViews) (m i count : ℕ) → SameParts d n e m i
    → count ≤ i
    → count ≡ count_in (node_view d n) → SameParts d n e m (count_in (node_view d n))
parts_all d n e m i count parts le c j step lt p q = parts j step (omega arith) p q

-- what is the same at two parts
pub part_same : (d : DocumentViews) (n : ℕ) (e : DocumentViews) (m i a b : ℕ) → node_view d n ≡ node_view e m
    → IsChildIndex d n i (Some a) → IsChildIndex e m i (Some b)
    → SameBelow d (node_place d n) e (node_place e m)
    → SameBelow d (node_place d a) e (node_place e b)
part_same d n e m i a b same (s, ps, la, pa) (r, pr, lb, pb) below q =
    let one : s ≡ r = same_Some s r (sym ps ∙ ap (λ (v : View). nth_part v i) same ∙ pr) in
    ap (λ (x : Place). tree_of d (x ++ q)) (pa ∙ ap (at (node_place d n)) one) ∙
    same_part d n e m r below q ∙ ap (λ (x : Place). tree_of e (x ++ q)) (sym pb)

-- ---- names

take_next : (xs ys : List (List ℕ)) (i : ℕ) → take i xs ≡ take i ys → slice_get xs i ≡ slice_get ys i
    → take (suc i) xs ≡ take (suc i) ys
take_next [] [] i e s = refl
take_next [] (y ∷ ys) zero e s = absurd cc
take_next [] (y ∷ ys) (suc i) e s = absurd cc
take_next (x ∷ xs) [] zero e s = absurd cc
take_next (x ∷ xs) [] (suc i) e s = absurd cc
take_next (x ∷ xs) (y ∷ ys) zero e s = let same : x ≡ y = cc in ap (λ (z : List ℕ). z ∷ []) same
take_next (x ∷ xs) (y ∷ ys) (suc i) e s =
    let head : x ≡ y = cc in
    let tail : take i xs ≡ take i ys = cc in
    ap (λ (z : List ℕ). z ∷ take (suc i) xs) head ∙ ap (λ (zs : List (List ℕ)). y ∷ zs)
    (take_next xs ys i tail s)

pub take_both : (xs ys : List (List ℕ)) (i : ℕ) → take i xs ≡ take i ys → slice_get xs i ≡ slice_get ys i
    → take (i + 1) xs ≡ take (i + 1) ys
take_both xs ys i e s = let more : i + 1 ≡ suc i = omega arith in rw more (take_next xs ys i e s)
