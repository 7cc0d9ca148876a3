-- The first and the last result of a partial function over a list.
use Rattle.std.proofs.Common.{◌≡◌, ℕ, ◌+◌, ◌<◌, length, take, drop, get_or, List, [], ◌∷◌, ◌++◌, map, Option, None, Some, refl, sym, ap, ap₂, ◌∙◌, ◌⊎◌, inl, inr}
use Rattle.std.specs.List.{flat_map}
use Rattle.std.proofs.lemmas.List.{take_more, take-append-drop}
use Rattle.edit_syntax.proofs.Members.{Among}
use Rattle.edit_tree.specs.EditBytes.{first_of, first_result, last_result}

only_one : {A : Type 0} (o : Option A) → first_of (o ∷ []) ≡ o
only_one None = refl
only_one (Some x) = refl

-- one more behind the others
pub last_more : {A B : Type 0} (f : A → Option B) (xs : List A) (x : A)
    → last_result f (xs ++ x ∷ []) ≡ first_of (f x ∷ last_result f xs ∷ [])
last_more {B = B} f [] x = go (f x)
  where
    go : (o : Option B) → first_of (None ∷ o ∷ []) ≡ first_of (o ∷ None ∷ [])
    go None = refl
    go (Some y) = refl
last_more {B = B} f (y ∷ ys) x =
    ap (λ (o : Option B). first_of (o ∷ f y ∷ [])) (last_more f ys x) ∙ go (f x) (last_result f ys) (f y)
  where
    go : (o p q : Option B) → first_of (first_of (o ∷ p ∷ []) ∷ q ∷ [])
        ≡ first_of (o ∷ first_of (p ∷ q ∷ []) ∷ [])
    go None None None = refl
    go None None (Some y) = refl
    go None (Some x) q = refl
    go (Some x) p q = refl

pub before_none : {A : Type 0} (o : Option A) → first_of (o ∷ None ∷ []) ≡ o
before_none None = refl
before_none (Some x) = refl

pub first_more : {A B : Type 0} (f : A → Option B) (xs : List A) (x : A)
    → first_result f (xs ++ x ∷ []) ≡ first_of (first_result f xs ∷ f x ∷ [])
first_more {B = B} f [] x = ap (λ (o : Option B). o) (before_none (f x)) ∙ sym (only_one (f x))
first_more {B = B} f (y ∷ ys) x =
    ap (λ (o : Option B). first_of (f y ∷ o ∷ [])) (first_more f ys x) ∙ go (f y) (first_result f ys) (f x)
  where
    go : (o p q : Option B) → first_of (o ∷ first_of (p ∷ q ∷ []) ∷ [])
        ≡ first_of (first_of (o ∷ p ∷ []) ∷ q ∷ [])
    go None None None = refl
    go None None (Some y) = refl
    go None (Some x) q = refl
    go (Some x) p q = refl

-- of two lists
pub first_both : {A B : Type 0} (f : A → Option B) (xs ys : List A)
    → first_result f (xs ++ ys) ≡ first_of (first_result f xs ∷ first_result f ys ∷ [])
first_both f [] ys = sym (only_one (first_result f ys))
first_both {B = B} f (x ∷ xs) ys =
    ap (λ (o : Option B). first_of (f x ∷ o ∷ [])) (first_both f xs ys) ∙
    go (f x) (first_result f xs) (first_result f ys)
  where
    go : (o p q : Option B) → first_of (o ∷ first_of (p ∷ q ∷ []) ∷ [])
        ≡ first_of (first_of (o ∷ p ∷ []) ∷ q ∷ [])
    go None None None = refl
    go None None (Some y) = refl
    go None (Some x) q = refl
    go (Some x) p q = refl

-- ---- as far as a loop has come

pub last_taken : {A B : Type 0} (f : A → Option B) (xs : List A) (i : ℕ) (d : A) (y : B) → i < length xs
    → f (get_or xs i d) ≡ Some y → last_result f (take (i + 1) xs) ≡ Some y
last_taken {B = B} f xs i d y lt e =
    ap (last_result f) (take_more xs i d lt) ∙ last_more f (take i xs) (get_or xs i d)
    ∙ ap (λ (o : Option B). first_of (o ∷ last_result f (take i xs) ∷ [])) e

pub last_left : {A B : Type 0} (f : A → Option B) (xs : List A) (i : ℕ) (d : A) → i < length xs
    → f (get_or xs i d) ≡ None → last_result f (take (i + 1) xs) ≡ last_result f (take i xs)
last_left {B = B} f xs i d lt e =
    ap (last_result f) (take_more xs i d lt) ∙ last_more f (take i xs) (get_or xs i d)
    ∙ ap (λ (o : Option B). first_of (o ∷ last_result f (take i xs) ∷ [])) e ∙
    only_one (last_result f (take i xs))

first_step : {A B : Type 0} (f : A → Option B) (xs : List A) (i : ℕ) (d : A) → i < length xs
    → first_result f (take i xs) ≡ None → first_result f (take (i + 1) xs) ≡ f (get_or xs i d)
first_step {B = B} f xs i d lt none =
    ap (first_result f) (take_more xs i d lt) ∙ first_more f (take i xs) (get_or xs i d)
    ∙ ap (λ (o : Option B). first_of (o ∷ f (get_or xs i d) ∷ [])) none ∙ only_one (f (get_or xs i d))

pub first_left : {A B : Type 0} (f : A → Option B) (xs : List A) (i : ℕ) (d : A) → i < length xs
    → first_result f (take i xs) ≡ None → f (get_or xs i d) ≡ None → first_result f (take (i + 1) xs) ≡ None
first_left f xs i d lt none e = first_step f xs i d lt none ∙ e

pub first_taken : {A B : Type 0} (f : A → Option B) (xs : List A) (i : ℕ) (d : A) (y : B) → i < length xs
    → first_result f (take i xs) ≡ None → f (get_or xs i d) ≡ Some y → first_result f xs ≡ Some y
first_taken {B = B} f xs i d y lt none e =
    ap (first_result f) (sym (take-append-drop (i + 1) xs)) ∙ first_both f (take (i + 1) xs) (drop (i + 1) xs)
    ∙ ap (λ (o : Option B). first_of (o ∷ first_result f (drop (i + 1) xs) ∷ [])) (first_step f xs i d lt none ∙
    e)

-- of lists one behind the other
pub first_flat : {S A B : Type 0} (f : A → Option B) (k : S → List A) (xs : List S)
    → first_result f (flat_map k xs) ≡ first_result (λ x. first_result f (k x)) xs
first_flat f k [] = refl
first_flat {B = B} f k (x ∷ xs) =
    first_both f (k x) (flat_map k xs) ∙ ap (λ (o : Option B). first_of (first_result f (k x) ∷ o ∷ []))
    (first_flat f k xs)

-- something is made of one exactly where something is made of its image
pub record Alike {S A B C : Type 0} (f : A → Option B) (g : S → Option C) (h : S → A) : Type 0 where
  pub none : (x : S) → f (h x) ≡ None → g x ≡ None
  pub some : (x : S) (b : B) → f (h x) ≡ Some b → (c : C) × (g x ≡ Some c)

-- the one of which it is made
pub record Chosen {S A B C : Type 0} (f : A → Option B) (g : S → Option C) (h : S → A) (xs : List S) (b : B)
    (all : Option C) : Type 0 where
  pub one : S
  pub among : Among one xs
  pub made : f (h one) ≡ Some b
  pub is : all ≡ g one

module _ {S A B C : Type 0} (f : A → Option B) (g : S → Option C) (h : S → A) (alike : Alike f g h) where
  pub first_none : (xs : List S) → first_result f (map h xs) ≡ None → first_result g xs ≡ None
  first_none [] e = refl
  first_none (x ∷ xs) e = go (f (h x)) refl e (first_none xs)
    where
      go : (o : Option B) → f (h x) ≡ o → first_of (o ∷ first_result f (map h xs) ∷ []) ≡ None
          → (first_result f (map h xs) ≡ None → first_result g xs ≡ None) → first_result g (x ∷ xs) ≡ None
      go None k d ih =
          ap₂ (λ (a b : Option C). first_of (a ∷ b ∷ [])) (alike.none x k)
          (ih (sym (only_one (first_result f (map h xs))) ∙ d))
      go (Some b) k d ih = absurd cc

  pub last_none : (xs : List S) → last_result f (map h xs) ≡ None → last_result g xs ≡ None
  last_none [] e = refl
  last_none (x ∷ xs) e = go (last_result f (map h xs)) refl e (last_none xs)
    where
      go : (o : Option B) → last_result f (map h xs) ≡ o → first_of (o ∷ f (h x) ∷ []) ≡ None
          → (last_result f (map h xs) ≡ None → last_result g xs ≡ None) → last_result g (x ∷ xs) ≡ None
      go None k d ih =
          ap₂ (λ (a b : Option C). first_of (a ∷ b ∷ [])) (ih k)
          (alike.none x (sym (only_one (f (h x))) ∙ d))
      go (Some b) k d ih = absurd cc

  pub first_chosen : (xs : List S) (b : B) → first_result f (map h xs) ≡ Some b
      → Chosen f g h xs b (first_result g xs)
  first_chosen [] b e = absurd cc
  first_chosen (x ∷ xs) b e = go (f (h x)) refl e (first_chosen xs b)
    where
      go : (o : Option B) → f (h x) ≡ o → first_of (o ∷ first_result f (map h xs) ∷ []) ≡ Some b
          → (first_result f (map h xs) ≡ Some b → Chosen f g h xs b (first_result g xs))
          → Chosen f g h (x ∷ xs) b (first_result g (x ∷ xs))
      go None k d ih =
          let r = ih (sym (only_one (first_result f (map h xs))) ∙ d) in
          record {
            one = r.one;
            among = inr r.among;
            made = r.made;
            is = ap (λ (a : Option C). first_of (a ∷ first_result g xs ∷ [])) (alike.none x k)
                ∙ only_one (first_result g xs) ∙ r.is;
          }
      go (Some d) k e ih =
          let c = alike.some x d k in
          record {
            one = x;
            among = inl refl;
            made = k ∙ e;
            is = ap (λ (a : Option C). first_of (a ∷ first_result g xs ∷ [])) c.1 ∙ sym c.1;
          }

  pub last_chosen : (xs : List S) (b : B) → last_result f (map h xs) ≡ Some b
      → Chosen f g h xs b (last_result g xs)
  last_chosen [] b e = absurd cc
  last_chosen (x ∷ xs) b e = go (last_result f (map h xs)) refl e (last_chosen xs b)
    where
      go : (o : Option B) → last_result f (map h xs) ≡ o → first_of (o ∷ f (h x) ∷ []) ≡ Some b
          → (last_result f (map h xs) ≡ Some b → Chosen f g h xs b (last_result g xs))
          → Chosen f g h (x ∷ xs) b (last_result g (x ∷ xs))
      go None k d ih = record {
        one = x;
        among = inl refl;
        made = sym (only_one (f (h x))) ∙ d;
        is = ap (λ (a : Option C). first_of (a ∷ g x ∷ [])) (last_none xs k) ∙ only_one (g x);
      }
      go (Some d) k e ih =
          let r = ih (k ∙ e) in
          let c = alike.some r.one b r.made in
          record {
            one = r.one;
            among = inr r.among;
            made = r.made;
            is = ap (λ (a : Option C). first_of (a ∷ g x ∷ [])) (r.is ∙ c.1) ∙ sym c.1;
          }

-- ---- where nothing is made of any

pub last_nothing : {A B : Type 0} (f : A → Option B) (xs : List A) → ((x : A) → Among x xs → f x ≡ None)
    → last_result f xs ≡ None
last_nothing f [] all = refl
last_nothing {B = B} f (x ∷ xs) all =
    ap₂ (λ (a b : Option B). first_of (a ∷ b ∷ [])) (last_nothing f xs (λ y m. all y (inr m)))
    (all x (inl refl))

pub first_nothing : {A B : Type 0} (f : A → Option B) (xs : List A) → ((x : A) → Among x xs → f x ≡ None)
    → first_result f xs ≡ None
first_nothing f [] all = refl
first_nothing {B = B} f (x ∷ xs) all =
    ap₂ (λ (a b : Option B). first_of (a ∷ b ∷ [])) (all x (inl refl))
    (first_nothing f xs (λ y m. all y (inr m)))

-- ---- where something is made of one alone

pub last_both : {A B : Type 0} (f : A → Option B) (xs ys : List A)
    → last_result f (xs ++ ys) ≡ first_of (last_result f ys ∷ last_result f xs ∷ [])
last_both f [] ys = sym (before_none (last_result f ys))
last_both {B = B} f (x ∷ xs) ys =
    ap (λ (o : Option B). first_of (o ∷ f x ∷ [])) (last_both f xs ys) ∙
    go (last_result f ys) (last_result f xs) (f x)
  where
    go : (o p q : Option B) → first_of (first_of (o ∷ p ∷ []) ∷ q ∷ [])
        ≡ first_of (o ∷ first_of (p ∷ q ∷ []) ∷ [])
    go None None None = refl
    go None None (Some y) = refl
    go None (Some x) q = refl
    go (Some x) p q = refl

-- of lists one behind the other
pub last_flat : {S A B : Type 0} (f : A → Option B) (k : S → List A) (xs : List S)
    → last_result f (flat_map k xs) ≡ last_result (λ x. last_result f (k x)) xs
last_flat f k [] = refl
last_flat {B = B} f k (x ∷ xs) =
    last_both f (k x) (flat_map k xs) ∙ ap (λ (o : Option B). first_of (o ∷ last_result f (k x) ∷ []))
    (last_flat f k xs)

pub last_only : {A B : Type 0} (f : A → Option B) (w : A) (xs : List A) → Among w xs
    → ((x : A) → Among x xs → (f x ≡ None) ⊎ (x ≡ w)) → last_result f xs ≡ f w
last_only f w [] m each = absurd m
last_only {A} {B} f w (x ∷ xs) m each =
    go m (each x (inl refl)) (rest xs (λ y n. each y (inr n)))
    (λ n. last_only f w xs n (λ y o. each y (inr o)))
  where
    same_twice : (o : Option B) → first_of (o ∷ o ∷ []) ≡ o
    same_twice None = refl
    same_twice (Some y) = refl

    rest : (ys : List A) → ((y : A) → Among y ys → (f y ≡ None) ⊎ (y ≡ w))
        → (last_result f ys ≡ None) ⊎ (last_result f ys ≡ f w)
    rest [] all = inl refl
    rest (y ∷ ys) all = pick (all y (inl refl)) (rest ys (λ z n. all z (inr n)))
      where
        pick : (f y ≡ None) ⊎ (y ≡ w) → (last_result f ys ≡ None) ⊎ (last_result f ys ≡ f w)
            → (last_result f (y ∷ ys) ≡ None) ⊎ (last_result f (y ∷ ys) ≡ f w)
        pick (inl e) (inl h) = inl (ap₂ (λ (a b : Option B). first_of (a ∷ b ∷ [])) h e)
        pick (inl e) (inr h) =
            inr (ap₂ (λ (a b : Option B). first_of (a ∷ b ∷ [])) h e ∙ before_none (f w))
        pick (inr e) (inl h) =
            inr (ap₂ (λ (a b : Option B). first_of (a ∷ b ∷ [])) h (ap f e) ∙ only_one (f w))
        pick (inr e) (inr h) =
            inr (ap₂ (λ (a b : Option B). first_of (a ∷ b ∷ [])) h (ap f e) ∙ same_twice (f w))

    go : Among w (x ∷ xs) → (f x ≡ None) ⊎ (x ≡ w) → (last_result f xs ≡ None) ⊎ (last_result f xs ≡ f w)
        → (Among w xs → last_result f xs ≡ f w) → last_result f (x ∷ xs) ≡ f w
    go n (inr e) (inl h) ih = ap₂ (λ (a b : Option B). first_of (a ∷ b ∷ [])) h (ap f e) ∙ only_one (f w)
    go n (inr e) (inr h) ih = ap₂ (λ (a b : Option B). first_of (a ∷ b ∷ [])) h (ap f e) ∙ same_twice (f w)
    go (inl p) (inl e) (inl h) ih =
        ap₂ (λ (a b : Option B). first_of (a ∷ b ∷ [])) h e ∙ sym e ∙ ap f (sym p)
    go (inl p) (inl e) (inr h) ih =
        ap₂ (λ (a b : Option B). first_of (a ∷ b ∷ [])) h e ∙ before_none (f w)
    go (inr n) (inl e) s ih =
        ap₂ (λ (a b : Option B). first_of (a ∷ b ∷ [])) (ih n) e
        ∙ before_none (f w)
