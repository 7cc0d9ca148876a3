-- A list with one more element: the elements before it and behind it.
use Rattle.std.proofs.Common.{◌≡◌, ℕ, zero, suc, ◌<◌, ◌≤◌, true, false, List, [], ◌∷◌, ◌++◌, length, map, Option, Some, None, refl, sym, ap, subst, ◌∙◌, ◌⊎◌, inl, inr, arith, length-append}
use Rattle.std.specs.Prelude.{slice_get}
use Rattle.std.proofs.lemmas.Bool.{cases_lt}
use Rattle.std.proofs.lemmas.Option.{same_Some, slice_get_within}
use Rattle.std.proofs.lemmas.List.{map-append}
use Rattle.std.proofs.lemmas.List.Elements.{filter_map-append}
use Rattle.edit_syntax.proofs.ListElements.{get_front}
use Rattle.edit_tree.specs.Assertions.{Step, key}
use Rattle.edit_tree.specs.Tree.{View, string, truth, whole, fractional, moment, static_array, table_array, inline_table, table}
use Rattle.edit_document.specs.Items.{key_names, names_in, name_of_step}
use Rattle.edit_document.specs.Compared.{kind_of, nth_part, AreKeys}
use Rattle.edit_tree.specs.IntendedTrees.{Grown, in_table, in_inline_table}

-- ---- lists

pub same_lists : {X : Type 0} (xs ys : List X) → length ys ≡ length xs
    → ((i : ℕ) → i < length xs → slice_get xs i ≡ slice_get ys i) → xs ≡ ys
same_lists [] [] e h = refl
same_lists [] (y ∷ ys) e h = absurd cc
same_lists (x ∷ xs) [] e h = absurd cc
same_lists (x ∷ xs) (y ∷ ys) e h =
    let head : x ≡ y = same_Some x y (h 0 (omega arith)) in
    let tail : xs ≡ ys = same_lists xs ys (omega (arith, e)) (λ i lt. h (suc i) (omega (arith, lt))) in
    cc

-- the second list has one element more, which so many stand before
pub record OneMore {X : Type 0} (x : X) (k : ℕ) (xs ys : List X) : Type 0 where
  pub front : List X
  pub back : List X
  pub size : length front ≡ k
  pub less : xs ≡ front ++ back
  pub more : ys ≡ front ++ x ∷ back

pub one_more : {X : Type 0} (x : X) (k : ℕ) (xs ys : List X) → slice_get ys k ≡ Some x
    → length ys ≡ suc (length xs)
    → ((i : ℕ) → i < length xs → i < k → slice_get xs i ≡ slice_get ys i)
    → ((i : ℕ) → i < length xs → k ≤ i → slice_get xs i ≡ slice_get ys (suc i)) → OneMore x k xs ys
one_more x k xs [] here size before behind = absurd cc
one_more x zero xs (y ∷ ys) here size before behind =
    let same : xs ≡ ys = same_lists xs ys (omega (arith, size)) (λ i lt. behind i lt (omega arith)) in
    record {
      front = [];
      back = xs;
      size = refl;
      less = refl;
      more = ap (λ z. z ∷ ys) (same_Some y x here) ∙ ap (λ zs. x ∷ zs) (sym same);
    }
one_more x (suc k) [] (y ∷ ys) here size before behind =
    let lt = slice_get_within ys k x here in absurd (omega (arith, lt, size))
one_more x (suc k) (z ∷ xs) (y ∷ ys) here size before behind =
    let rest : OneMore x k xs ys = one_more x k xs ys here (omega (arith, size))
    (λ i lt less. before (suc i) (omega (arith, lt)) (omega (arith, less)))
    (λ i lt le. behind (suc i) (omega (arith, lt)) (omega (arith, le))) in
    let same : z ≡ y = same_Some z y (before 0 (omega arith) (omega arith)) in
    record {
      front = y ∷ rest.front;
      back = rest.back;
      size = ap suc rest.size;
      less = ap (λ w. w ∷ xs) same ∙ ap (λ zs. y ∷ zs) rest.less;
      more = ap (λ zs. y ∷ zs) rest.more;
    }

pub at_seam : {X : Type 0} (front back : List X) (x : X)
    → slice_get (front ++ x ∷ back) (length front) ≡ Some x
at_seam [] back x = refl
at_seam (y ∷ front) back x = at_seam front back x

pub past_seam : {X : Type 0} (front back : List X) (x : X) (i : ℕ) → length front ≤ i
    → slice_get (front ++ back) i ≡ slice_get (front ++ x ∷ back) (suc i)
past_seam [] back x i le = refl
past_seam (y ∷ front) back x zero le = absurd (omega arith)
past_seam (y ∷ front) back x (suc i) le = past_seam front back x i (omega (arith, le))

pub before_seam : {X : Type 0} (front back : List X) (x : X) (i : ℕ) → i < length front
    → slice_get (front ++ back) i ≡ slice_get (front ++ x ∷ back) i
before_seam front back x i lt = get_front front back i lt ∙ sym (get_front front (x ∷ back) i lt)

-- what the longer list has but the new one the shorter has too
pub other_there : {X : Type 0} (front back : List X) (x y : X) (i : ℕ)
    → slice_get (front ++ x ∷ back) i ≡ Some y
    → (y ≡ x → ⊥) → (j : ℕ) × (slice_get (front ++ back) j ≡ Some y)
other_there [] back x y zero e ne = absurd (ne (sym (same_Some x y e)))
other_there [] back x y (suc i) e ne = (i, e)
other_there (z ∷ front) back x y zero e ne = (0, e)
other_there (z ∷ front) back x y (suc i) e ne = let r = other_there front back x y i e ne in (suc r.0, r.1)

-- the first place of what the shorter list lacks
pub first_seam : {X : Type 0} (front back : List X) (x : X) (k : ℕ)
    → ((i : ℕ) → slice_get (front ++ back) i ≡ Some x → ⊥)
    → slice_get (front ++ x ∷ back) k ≡ Some x
    → ((i : ℕ) → i < k → slice_get (front ++ x ∷ back) i ≡ Some x → ⊥) → k ≡ length front
first_seam front back x k has_no_child here first = elim (cases_lt k (length front)) [
  | inl lt ↦ absurd (has_no_child k (before_seam front back x k lt ∙ here))
  | inr ge ↦ elim (cases_lt (length front) k) [
    | inl lt ↦ absurd (first (length front) lt (at_seam front back x))
    | inr le ↦ omega (arith, ge, le)
  ]
]

-- ---- views

-- the names of a table with a member more
pub record GrownNames (n : List ℕ) (v w : View) : Type 0 where
  pub tabular : 8 ≤ kind_of v
  pub kind : kind_of v ≡ kind_of w
  pub front : List (List ℕ)
  pub back : List (List ℕ)
  pub less : names_in v ≡ front ++ back
  pub more : names_in w ≡ front ++ n ∷ back

grown_tables : (n : List ℕ) (fs bs : List Step) (v w : View) → table (fs ++ bs) ≡ v
    → table (fs ++ key n ∷ bs) ≡ w
    → GrownNames n v w
grown_tables n fs bs v w e f = record {
  tabular = subst (λ (x : View). 8 ≤ kind_of x) e (omega arith);
  kind = sym (ap kind_of e) ∙ ap kind_of f;
  front = key_names fs;
  back = key_names bs;
  less = sym (ap names_in e) ∙ filter_map-append name_of_step fs bs;
  more = sym (ap names_in f) ∙ filter_map-append name_of_step fs (key n ∷ bs);
}

grown_inline : (n : List ℕ) (fs bs : List Step) (v w : View) → inline_table (fs ++ bs) ≡ v
    → inline_table (fs ++ key n ∷ bs) ≡ w → GrownNames n v w
grown_inline n fs bs v w e f = record {
  tabular = subst (λ (x : View). 8 ≤ kind_of x) e (omega arith);
  kind = sym (ap kind_of e) ∙ ap kind_of f;
  front = key_names fs;
  back = key_names bs;
  less = sym (ap names_in e) ∙ filter_map-append name_of_step fs bs;
  more = sym (ap names_in f) ∙ filter_map-append name_of_step fs (key n ∷ bs);
}

grown_any : (n : List ℕ) (s : Step) (o p : Option View) (v w : View) → Grown s o p → s ≡ key n → o ≡ Some v
    → p ≡ Some w
    → GrownNames n v w
grown_any n s _ _ v w (in_table front back) k e f =
    grown_tables n front back v w (same_Some _ v e)
    (ap (λ (t : Step). table (front ++ t ∷ back)) (sym k) ∙ same_Some _ w f)
grown_any n s _ _ v w (in_inline_table front back) k e f =
    grown_inline n front back v w (same_Some _ v e)
    (ap (λ (t : Step). inline_table (front ++ t ∷ back)) (sym k) ∙ same_Some _ w f)

pub grown_names : (n : List ℕ) (v w : View) → Grown (key n) (Some v) (Some w) → GrownNames n v w
grown_names n v w g = grown_any n (key n) (Some v) (Some w) v w g refl refl refl

-- it is a table, or an inline table
abbrev pub IsTabled : View → Type 0
IsTabled v = ((ms : List Step) × (v ≡ table ms)) ⊎ ((ms : List Step) × (v ≡ inline_table ms))

pub tabled : (v : View) → 8 ≤ kind_of v → IsTabled v
tabled (table ms) k = inl (ms, refl)
tabled (inline_table ms) k = inr (ms, refl)
tabled (string s) k = absurd (omega (arith, k))
tabled (truth true) k = absurd (omega (arith, k))
tabled (truth false) k = absurd (omega (arith, k))
tabled (whole s) k = absurd (omega (arith, k))
tabled (fractional s) k = absurd (omega (arith, k))
tabled (moment s) k = absurd (omega (arith, k))
tabled (static_array m) k = absurd (omega (arith, k))
tabled (table_array m) k = absurd (omega (arith, k))

-- two lists of steps, the second with one more
seam : (n : List ℕ) (ms ns : List Step) (front back : List (List ℕ)) → ms ≡ map key (key_names ms)
    → ns ≡ map key (key_names ns) → key_names ms ≡ front ++ back → key_names ns ≡ front ++ n ∷ back
    → (ms ≡ map key front ++ map key back) × (ns ≡ map key front ++ key n ∷ map key back)
seam n ms ns front back kv kw less more = (
  kv ∙ ap (map key) less ∙ map-append key front back,
  kw ∙ ap (map key) more ∙
      map-append key front (n ∷ back),
)

pub grown_view : (n : List ℕ) (v w : View) → AreKeys v → AreKeys w → GrownNames n v w
    → Grown (key n) (Some v) (Some w)
grown_view n v w kv kw g =
    let both : 8 ≤ kind_of w = subst (λ k. 8 ≤ k) g.kind g.tabular in
    elim (tabled v g.tabular) [
      | inl a ↦ elim (tabled w both) [
        | inl b ↦ tables a.0 b.0 a.1 b.1
        | inr b ↦ absurd (let k : 9 ≡ 8 = sym (ap kind_of a.1) ∙ g.kind ∙ ap kind_of b.1 in omega (arith, k))
      ]
      | inr a ↦ elim (tabled w both) [
        | inl b ↦ absurd (let k : 8 ≡ 9 = sym (ap kind_of a.1) ∙ g.kind ∙ ap kind_of b.1 in omega (arith, k))
        | inr b ↦ inline a.0 b.0 a.1 b.1
      ]
    ]
  where
    tables : (ms ns : List Step) → v ≡ table ms → w ≡ table ns → Grown (key n) (Some v) (Some w)
    tables ms ns a b =
        let s = seam n ms ns g.front g.back (subst AreKeys a kv) (subst AreKeys b kw)
        (sym (ap names_in a) ∙ g.less) (sym (ap names_in b) ∙ g.more) in
        let left : v ≡ table (map key g.front ++ map key g.back) = a ∙ ap table s.0 in
        let right : w ≡ table (map key g.front ++ key n ∷ map key g.back) = b ∙ ap table s.1 in
        subst (λ (x : View). Grown (key n) (Some v) (Some x)) (sym right)
        (subst (λ (x : View). Grown (key n) (Some x)
        (Some (table (map key g.front ++ key n ∷ map key g.back)))) (sym left)
        (in_table (map key g.front) (map key g.back)))

    inline : (ms ns : List Step) → v ≡ inline_table ms → w ≡ inline_table ns → Grown (key n) (Some v) (Some w)
    inline ms ns a b =
        let s = seam n ms ns g.front g.back (subst AreKeys a kv) (subst AreKeys b kw)
        (sym (ap names_in a) ∙ g.less) (sym (ap names_in b) ∙ g.more) in
        let left : v ≡ inline_table (map key g.front ++ map key g.back) = a ∙ ap inline_table s.0 in
        let right : w ≡ inline_table (map key g.front ++ key n ∷ map key g.back) = b ∙ ap inline_table s.1 in
        subst (λ (x : View). Grown (key n) (Some v) (Some x)) (sym right)
        (subst (λ (x : View). Grown (key n) (Some x)
        (Some (inline_table (map key g.front ++ key n ∷ map key g.back)))) (sym left)
        (in_inline_table (map key g.front) (map key g.back)))

-- ---- names that are compared one by one

abbrev FirstAt : List ℕ → ℕ → View → Type 0
FirstAt n k w =
    (slice_get (names_in w) k ≡ Some n) × ((i : ℕ) → i < k → slice_get (names_in w) i ≡ Some n → ⊥)

abbrev Lacks : List ℕ → View → Type 0
Lacks n v = (i : ℕ) → slice_get (names_in v) i ≡ Some n → ⊥

module _ (n : List ℕ) (v w : View) (g : GrownNames n v w) where
  -- the new name is there
  pub grown_has : Lacks n w → ⊥
  grown_has has_no_child =
      has_no_child (length g.front) (ap (λ (ns : List (List ℕ)). slice_get ns (length g.front)) g.more ∙
      at_seam g.front g.back n)

  pub grown_size : length (names_in w) ≡ suc (length (names_in v))
  grown_size =
      let a = length-append g.front g.back in
      let b = length-append g.front (n ∷ g.back) in
      let c = ap length g.less in
      let d = ap length g.more in
      omega (arith, a, b, c, d)

  -- the others are those of the table
  pub grown_seam : (k : ℕ) → Lacks n v → FirstAt n k w → k ≡ length g.front
  grown_seam k has_no_child first =
      first_seam g.front g.back n k
      (λ i h. has_no_child i (ap (λ (ns : List (List ℕ)). slice_get ns i) g.less ∙ h))
      (ap (λ (ns : List (List ℕ)). slice_get ns k) (sym g.more) ∙ first.0)
      (λ i lt h. first.1 i lt (ap (λ (ns : List (List ℕ)). slice_get ns i) g.more ∙ h))

  pub grown_before : (k i : ℕ) → Lacks n v → FirstAt n k w → i < k
      → slice_get (names_in v) i ≡ slice_get (names_in w) i
  grown_before k i has_no_child first lt =
      let seam_is = grown_seam k has_no_child first in
      ap (λ (ns : List (List ℕ)). slice_get ns i) g.less
      ∙ before_seam g.front g.back n i (omega (arith, lt, seam_is))
      ∙ ap (λ (ns : List (List ℕ)). slice_get ns i) (sym g.more)

  pub grown_behind : (k i : ℕ) → Lacks n v → FirstAt n k w → k ≤ i
      → slice_get (names_in v) i ≡ slice_get (names_in w) (suc i)
  grown_behind k i has_no_child first le =
      let seam_is = grown_seam k has_no_child first in
      ap (λ (ns : List (List ℕ)). slice_get ns i) g.less
      ∙ past_seam g.front g.back n i (omega (arith, le, seam_is))
      ∙ ap (λ (ns : List (List ℕ)). slice_get ns (suc i)) (sym g.more)

-- names of which each is the same but the new one
pub names_grown : (n : List ℕ) (v w : View) (k : ℕ) → 8 ≤ kind_of v → kind_of v ≡ kind_of w
    → OneMore n k (names_in v) (names_in w) → GrownNames n v w
names_grown n v w k tabular kind one = record {
  tabular = tabular;
  kind = kind;
  front = one.front;
  back = one.back;
  less = one.less;
  more = one.more;
}

-- what the larger table has but the new member the other has too
grown_step : (s : Step) (o p : Option View) (v w : View) → Grown s o p → o ≡ Some v → p ≡ Some w
    → (t : Step) (i : ℕ)
    → nth_part w i ≡ Some t → (t ≡ s → ⊥) → (j : ℕ) × (nth_part v j ≡ Some t)
grown_step s _ _ v w (in_table front back) e f t i h ne =
    let left : table (front ++ back) ≡ v = same_Some _ v e in
    let right : table (front ++ s ∷ back) ≡ w = same_Some _ w f in
    let r = other_there front back s t i (ap (λ (x : View). nth_part x i) right ∙ h) ne in
    (r.0, ap (λ (x : View). nth_part x r.0) (sym left) ∙ r.1)
grown_step s _ _ v w (in_inline_table front back) e f t i h ne =
    let left : inline_table (front ++ back) ≡ v = same_Some _ v e in
    let right : inline_table (front ++ s ∷ back) ≡ w = same_Some _ w f in
    let r = other_there front back s t i (ap (λ (x : View). nth_part x i) right ∙ h) ne in
    (r.0, ap (λ (x : View). nth_part x r.0) (sym left) ∙ r.1)

pub grown_part : (s : Step) (v w : View) → Grown s (Some v) (Some w) → (t : Step) (i : ℕ)
    → nth_part w i ≡ Some t
    → (t ≡ s → ⊥) → (j : ℕ) × (nth_part v j ≡ Some t)
grown_part s v w g = grown_step s (Some v) (Some w) v w g refl refl

-- a table with a member more shows something
pub grown_some : (s : Step) (o p : Option View) → Grown s o p → p ≡ None → ⊥
grown_some s _ _ (in_table front back) e = cc
grown_some s _ _ (in_inline_table front back) e = cc
