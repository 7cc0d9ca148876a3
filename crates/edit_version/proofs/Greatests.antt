-- The greatest entry that qualifies, after one more entry.
use Rattle.std.proofs.Common.{◌≡◌, ◌++◌, ◌∷◌, [], ◌<◌, ◌≤◌, ◌+◌, ℕ, length, take, drop, get_or, List, Bool, Option, Some, None, true, false, refl, ap, subst, ◌∙◌, sym, append_assoc, inl, inr}
use Rattle.std.specs.Prelude.{All, map}
use Rattle.std.specs.Ordering.{is_le, is_lt, ordering_reverse}
use Rattle.std.proofs.lemmas.Bool.{cases_Bool}
use Rattle.std.proofs.lemmas.List.{drop_at, map-append, take_all, take_more}
use Rattle.std.specs.Cmp.{IsTotalOrder}
use Rattle.std.specs.declared.cmp.Ordering.{Ordering}
use Rattle.std.specs.declared.cmp.Ordering.TheVariants.{Less, Equal, Greater}
use Rattle.std.proofs.lemmas.List.Elements.{All-append, All-cons, All-drop, All-head, All-nil, All-push, All-same, All-weaker}
use Rattle.edit_version.specs.Greatest.{IsGreatest, IsGreatestItem, advance}

module _ {X : Type 0} (keep : X → Bool) (cmp : X → X → Ordering) (o : IsTotalOrder cmp) where
  -- no earlier item satisfies the condition, and this one does not
  pub none-more : (xs : List X) (x : X) → IsGreatest keep cmp xs None → keep x ≡ false
      → IsGreatest keep cmp (xs ++ x ∷ []) None
  none-more xs x h k = All-push (λ y. keep y ≡ false) xs x h k

  -- no earlier item satisfies the condition, and this one does
  pub first-qualifies : (xs : List X) (x : X) → IsGreatest keep cmp xs None → keep x ≡ true
      → IsGreatest keep cmp (xs ++ x ∷ []) (Some x)
  first-qualifies xs x h k = record {
    front = xs;
    rest = [];
    split = refl;
    qualifies = k;
    before = All-weaker (λ y. keep y ≡ false) (λ y. keep y ≡ true → is_le (cmp y x) ≡ true)
        (λ y n p. cc (sym n ∙ p)) xs h;
    after = All-nil (λ y. keep y ≡ true → cmp y x ≡ Less);
  }

  -- this item does not satisfy the condition, or is below
  pub stays : (xs : List X) (x e : X) → IsGreatest keep cmp xs (Some e) → (keep x ≡ true → cmp x e ≡ Less)
      → IsGreatest keep cmp (xs ++ x ∷ []) (Some e)
  stays xs x e h k = record {
    front = h.front;
    rest = h.rest ++ x ∷ [];
    split = ap (λ (l : List X). l ++ x ∷ []) h.split ∙ append_assoc h.front (e ∷ h.rest) (x ∷ []);
    qualifies = h.qualifies;
    before = h.before;
    after = All-push (λ y. keep y ≡ true → cmp y e ≡ Less) h.rest x h.after k;
  }

  le-less-of : (r : Ordering) (a b c : X) → cmp a b ≡ r → is_le r ≡ true → cmp b c ≡ Less
      → is_le (cmp a c) ≡ true
  le-less-of Less a b c e p g = let t : cmp a c ≡ Less = o.trans a b c e g in ap is_le t
  le-less-of Equal a b c e p g = let t : cmp a c ≡ Less = o.congr a b c e ∙ g in ap is_le t
  le-less-of Greater a b c e p g = cc p

  self-of : (r : Ordering) → r ≡ ordering_reverse r → is_le r ≡ true
  self-of Less e = refl
  self-of Equal e = refl
  self-of Greater e = cc e

  reverse-le : (r s : Ordering) → r ≡ ordering_reverse s → (s ≡ Less → ⊥) → is_le r ≡ true
  reverse-le r Less e n = absurd (n refl)
  reverse-le r Equal e n = rw e refl
  reverse-le r Greater e n = rw e refl

  less-le-of : (r : Ordering) (a b c : X) → cmp b c ≡ r → cmp a b ≡ Less → is_le r ≡ true
      → is_le (cmp a c) ≡ true
  less-le-of Less a b c e p g = let t : cmp a c ≡ Less = o.trans a b c p e in ap is_le t
  less-le-of Equal a b c e p g =
      let back : cmp c b ≡ Equal = o.antisymm c b ∙ ap ordering_reverse e in
      let moved : cmp c a ≡ cmp b a = o.congr c b a back in
      let over : cmp a c ≡ Less = o.antisymm a c ∙ ap ordering_reverse moved ∙ sym (o.antisymm a b) ∙ p in
      ap is_le over
  less-le-of Greater a b c e p g = cc g

  le-trans-of : (r : Ordering) (a b c : X) → cmp a b ≡ r → is_le r ≡ true → is_le (cmp b c) ≡ true
      → is_le (cmp a c) ≡ true
  le-trans-of Less a b c e p g = less-le-of (cmp b c) a b c refl e g
  le-trans-of Equal a b c e p g = ap is_le (o.congr a b c e) ∙ g
  le-trans-of Greater a b c e p g = cc p

  -- this item satisfies the condition, and is not below
  pub rises : (xs : List X) (x e : X) → IsGreatest keep cmp xs (Some e) → keep x ≡ true → (cmp x e ≡ Less → ⊥)
      → IsGreatest keep cmp (xs ++ x ∷ []) (Some x)
  rises xs x e h k n =
      let above : is_le (cmp e x) ≡ true = reverse-le (cmp e x) (cmp x e) (o.antisymm e x) n in
      let front : All (λ y. keep y ≡ true → is_le (cmp y x) ≡ true) h.front =
      All-weaker (λ y. keep y ≡ true → is_le (cmp y e) ≡ true) (λ y. keep y ≡ true → is_le (cmp y x) ≡ true)
      (λ y p q. le-trans-of (cmp y e) y e x refl (p q) above) h.front h.before in
      let rest : All (λ y. keep y ≡ true → is_le (cmp y x) ≡ true) h.rest =
      All-weaker (λ y. keep y ≡ true → cmp y e ≡ Less) (λ y. keep y ≡ true → is_le (cmp y x) ≡ true)
      (λ y p q. le-trans-of (cmp y e) y e x refl (ap is_le (p q)) above) h.rest h.after in
      record {
        front = xs;
        rest = [];
        split = refl;
        qualifies = k;
        before = All-same (λ y. keep y ≡ true → is_le (cmp y x) ≡ true) xs (h.front ++ e ∷ h.rest) h.split
            (All-append (λ y. keep y ≡ true → is_le (cmp y x) ≡ true) h.front (e ∷ h.rest) front
            (All-cons (λ y. keep y ≡ true → is_le (cmp y x) ≡ true) e h.rest (λ q. above) rest));
        after = All-nil (λ y. keep y ≡ true → cmp y x ≡ Less);
      }

less-from : (r : Ordering) → is_lt r ≡ true → r ≡ Less
less-from Less h = refl
less-from Equal h = cc h
less-from Greater h = cc h

-- one entry more
pub advanced : {X : Type 0} (keep : X → Bool) (cmp : X → X → Ordering) → IsTotalOrder cmp
    → (xs : List X) (x : X) (best : Option X)
    → IsGreatest keep cmp xs best → IsGreatest keep cmp (xs ++ x ∷ []) (advance keep cmp best x)
advanced keep cmp o xs x None h = elim (cases_Bool (keep x)) [
  | inl qualifies ↦ rw qualifies (first-qualifies keep cmp o xs x h qualifies)
  | inr rejected ↦ rw rejected (none-more keep cmp o xs x h rejected)
]
advanced keep cmp o xs x (Some e) h = elim (cases_Bool (keep x)) [
  | inl qualifies ↦ elim (cases_Bool (is_lt (cmp x e))) [
    | inl below ↦ rw (qualifies, below) (stays keep cmp o xs x e h (λ q. less-from (cmp x e) below))
    | inr other ↦ rw (qualifies, other) (rises keep cmp o xs x e h qualifies (λ q. cc (ap is_lt (sym q) ∙ other)))
  ]
  | inr rejected ↦ rw rejected (stays keep cmp o xs x e h (λ q. cc (sym rejected ∙ q)))
]

-- one entry more of a list that is seen by a function
pub advanced-more : {X Y : Type 0} (f : Y → X) (keep : X → Bool) (cmp : X → X → Ordering) → IsTotalOrder cmp
    → (ys : List Y) (i : ℕ) (y : Y)
    (best next : Option X) → i < length ys → y ≡ get_or ys i y → IsGreatest keep cmp (map f (take i ys)) best
    → next ≡ advance keep cmp best (f y)
    → IsGreatest keep cmp (map f (take (i + 1) ys)) next
advanced-more {X} {Y} f keep cmp o ys i y best next lt at h e =
    let more : take (i + 1) ys ≡ take i ys ++ y ∷ [] = take_more ys i y lt ∙
    ap (λ (z : Y). take i ys ++ z ∷ []) (sym at) in
    let seen : map f (take (i + 1) ys) ≡ map f (take i ys) ++ f y ∷ [] = ap (λ (l : List Y). map f l) more ∙
    map-append f (take i ys) (y ∷ []) in
    subst (λ (l : List X). IsGreatest keep cmp l next) (sym seen)
    (subst (λ (o : Option X). IsGreatest keep cmp (map f (take i ys) ++ f y ∷ []) o) (sym e)
    (advanced keep cmp o (map f (take i ys)) (f y) best h))

-- the whole list
pub advanced-all : {X Y : Type 0} (f : Y → X) (keep : X → Bool) (cmp : X → X → Ordering) (ys : List Y) (i : ℕ)
    (best : Option X) → length ys ≤ i
    → IsGreatest keep cmp (map f (take i ys)) best → IsGreatest keep cmp (map f ys) best
advanced-all {X} {Y} f keep cmp ys i best le h =
    subst (λ (l : List Y). IsGreatest keep cmp (map f l) best) (take_all i ys le) h

-- every entry that satisfies the condition is at most the greatest
all-le : {X : Type 0} (keep : X → Bool) (cmp : X → X → Ordering) → IsTotalOrder cmp → (xs : List X) (e : X)
    → IsGreatestItem keep cmp xs e
    → All (λ x. keep x ≡ true → is_le (cmp x e) ≡ true) xs
all-le keep cmp o xs e h =
    let at : All (λ x. keep x ≡ true → is_le (cmp x e) ≡ true) h.rest =
    All-weaker (λ x. keep x ≡ true → cmp x e ≡ Less) (λ x. keep x ≡ true → is_le (cmp x e) ≡ true)
    (λ x p q. ap is_le (p q)) h.rest h.after in
    All-same (λ x. keep x ≡ true → is_le (cmp x e) ≡ true) xs (h.front ++ e ∷ h.rest) h.split
    (All-append (λ x. keep x ≡ true → is_le (cmp x e) ≡ true) h.front (e ∷ h.rest) h.before
    (All-cons (λ x. keep x ≡ true → is_le (cmp x e) ≡ true) e h.rest
    (λ q. self-of keep cmp o (cmp e e) (o.antisymm e e)) at))

-- the greatest of more entries is not below
pub wider : {X : Type 0} (keep wide : X → Bool) (cmp : X → X → Ordering) → IsTotalOrder cmp
    → ((x : X) → keep x ≡ true → wide x ≡ true)
    → (xs : List X) (e f : X) → IsGreatestItem keep cmp xs e → IsGreatestItem wide cmp xs f
    → is_le (cmp e f) ≡ true
wider keep wide cmp o more xs e f h g =
    let all = All-same (λ x. wide x ≡ true → is_le (cmp x f) ≡ true) (h.front ++ e ∷ h.rest) xs (sym h.split)
    (all-le wide cmp o xs f g) in
    let part = All-drop (λ x. wide x ≡ true → is_le (cmp x f) ≡ true) (length h.front)
    (h.front ++ e ∷ h.rest) all in
    let here : All (λ x. wide x ≡ true → is_le (cmp x f) ≡ true) (e ∷ h.rest) =
    All-same (λ x. wide x ≡ true → is_le (cmp x f) ≡ true) (e ∷ h.rest)
    (drop (length h.front) (h.front ++ e ∷ h.rest))
    (sym (drop_at h.front (e ∷ h.rest) (length h.front) refl)) part in
    All-head (λ x. wide x ≡ true → is_le (cmp x f) ≡ true) e h.rest here (more e h.qualifies)

-- where an entry satisfies the condition, a wider condition has a greatest entry
pub wider-found : {X : Type 0} (keep wide : X → Bool) (cmp : X → X → Ordering)
    → ((x : X) → keep x ≡ true → wide x ≡ true)
    → (xs : List X) (e : X) → IsGreatestItem keep cmp xs e → IsGreatest wide cmp xs None → ⊥
wider-found keep wide cmp more xs e h g =
    let all = All-same (λ x. wide x ≡ false) (h.front ++ e ∷ h.rest) xs (sym h.split) g in
    let part = All-drop (λ x. wide x ≡ false) (length h.front) (h.front ++ e ∷ h.rest) all in
    let here : All (λ x. wide x ≡ false) (e ∷ h.rest) =
    All-same (λ x. wide x ≡ false) (e ∷ h.rest) (drop (length h.front) (h.front ++ e ∷ h.rest))
    (sym (drop_at h.front (e ∷ h.rest) (length h.front) refl)) part in
    cc (sym (All-head (λ x. wide x ≡ false) e h.rest here) ∙ more e h.qualifies)
