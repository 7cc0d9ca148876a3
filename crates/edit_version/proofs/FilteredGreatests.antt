-- The greatest entry of those that a filter leaves.
use Rattle.std.proofs.Common.{◌≡◌, ◌++◌, ◌∷◌, [], List, Bool, Option, Some, None, true, false, refl, ap, ◌∙◌, sym, subst, inl, inr}
use Rattle.std.specs.Prelude.{◌&&◌, All, filter}
use Rattle.std.specs.Ordering.{is_le}
use Rattle.std.specs.declared.cmp.Ordering.{Ordering}
use Rattle.std.specs.declared.cmp.Ordering.TheVariants.{Less}
use Rattle.std.proofs.lemmas.Bool.{cases_Bool}
use Rattle.std.proofs.lemmas.List.Elements.{All-cons, All-head, All-nil, All-tail, All-weaker, filter-append}
use Rattle.semver.specs.Parse.{Parts}
use Rattle.edit_version.specs.Greatest.{IsGreatest, IsGreatestItem}
use Rattle.edit_version.specs.VersionOrder.{full_order}
use Rattle.edit_version.proofs.Narrows.{left_of, right_of}
use Rattle.edit_version.proofs.Orders.{fewer}

-- what holds of each entry that passes holds of those that are left
left-all : {X : Type 0} (test : X → Bool) (P : X → Type 0) (xs : List X) → All (λ x. test x ≡ true → P x) xs
    → All P (filter test xs)
left-all test P [] h = All-nil P
left-all test P (x ∷ xs) h = elim (cases_Bool (test x)) [
  | inl passes ↦ rw passes (All-cons P x (filter test xs) (All-head (λ y. test y ≡ true → P y) x xs h passes)
      (left-all test P xs (All-tail (λ y. test y ≡ true → P y) x xs h)))
  | inr fails ↦ rw fails (left-all test P xs (All-tail (λ y. test y ≡ true → P y) x xs h))
]

both : (a b : Bool) → a ≡ true → b ≡ true → (a && b) ≡ true
both a b h g = rw (h, g) refl

only-first : (a b : Bool) → (a && b) ≡ false → b ≡ true → a ≡ false
only-first true b h g = cc (sym g ∙ h)
only-first false b h g = refl

-- the greatest that satisfies two conditions is the greatest by the first of those that the second leaves
pub greatest-left : {X : Type 0} (keep test : X → Bool) (cmp : X → X → Ordering) (xs : List X) (o : Option X)
    → IsGreatest (λ x. keep x && test x) cmp xs o → IsGreatest keep cmp (filter test xs) o
greatest-left keep test cmp xs None h = left-all test (λ x. keep x ≡ false) xs
    (All-weaker (λ x. (keep x && test x) ≡ false) (λ x. test x ≡ true → keep x ≡ false)
    (λ x p q. only-first (keep x) (test x) p q) xs h)
greatest-left {X} keep test cmp xs (Some e) h =
    let passes : test e ≡ true = right_of _ _ h.qualifies in
    let head : filter test (e ∷ h.rest) ≡ e ∷ filter test h.rest = rw passes refl in
    record {
      front = filter test h.front;
      rest = filter test h.rest;
      split = ap (λ (l : List X). filter test l) h.split ∙ filter-append test h.front (e ∷ h.rest)
          ∙ ap (λ (l : List X). filter test h.front ++ l) head;
      qualifies = left_of _ _ h.qualifies;
      before = left-all test (λ x. keep x ≡ true → is_le (cmp x e) ≡ true) h.front
          (All-weaker (λ x. (keep x && test x) ≡ true → is_le (cmp x e) ≡ true)
          (λ x. test x ≡ true → keep x ≡ true → is_le (cmp x e) ≡ true)
          (λ x p t k. p (both (keep x) (test x) k t)) h.front h.before);
      after = left-all test (λ x. keep x ≡ true → cmp x e ≡ Less) h.rest
          (All-weaker (λ x. (keep x && test x) ≡ true → cmp x e ≡ Less)
          (λ x. test x ≡ true → keep x ≡ true → cmp x e ≡ Less)
          (λ x p t k. p (both (keep x) (test x) k t)) h.rest h.after);
    }

-- a filter after a wider one leaves what it leaves alone
filter-twice : {X : Type 0} (wide test : X → Bool) → ((x : X) → test x ≡ true → wide x ≡ true) → (xs : List X)
    → filter test (filter wide xs) ≡ filter test xs
filter-twice wide test more [] = refl
filter-twice {X} wide test more (x ∷ xs) =
    let rest = filter-twice wide test more xs in
    elim (cases_Bool (test x)) [
      | inl passes ↦ rw (more x passes, passes) (ap (λ (l : List X). x ∷ l) rest)
      | inr fails ↦ elim (cases_Bool (wide x)) [
        | inl stays ↦ rw (stays, fails) rest
        | inr drops ↦ rw (drops, fails) rest
      ]
    ]

-- the greatest of those that a wider filter leaves is the greatest of those that a narrower one leaves, where
-- that leaves it
pub greatest-among : (keep wide test : Parts → Bool) → ((v : Parts) → test v ≡ true → wide v ≡ true)
    → (xs : List Parts) (e : Parts) → IsGreatestItem keep full_order (filter wide xs) e → test e ≡ true
    → IsGreatestItem keep full_order (filter test xs) e
greatest-among keep wide test more xs e h t =
    let one = fewer (λ x. keep x && test x) keep (λ x k. left_of _ _ k) (filter wide xs) e h
    (both (keep e) (test e) h.qualifies t) in
    let two : IsGreatestItem keep full_order (filter test (filter wide xs)) e =
    greatest-left keep test full_order (filter wide xs) (Some e) one in
    subst (λ (l : List Parts). IsGreatestItem keep full_order l e) (filter-twice wide test more xs) two
