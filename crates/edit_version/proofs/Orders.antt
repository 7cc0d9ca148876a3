-- The full order of versions is total, and equal versions are identical; consequences for the greatest of a
-- list.
use Rattle.std.proofs.Common.{◌≡◌, ◌++◌, ◌∷◌, List, Option, Some, None, Bool, true, length, drop, refl, ap, ◌∙◌, sym}
use Rattle.std.specs.Prelude.{All}
use Rattle.std.specs.Ordering.{is_ge, is_le, ordering_reverse, ordering_then}
use Rattle.std.specs.Cmp.{IsTotalOrder, nat_cmp_total, on_total, then_total}
use Rattle.std.specs.FinMap.{nat_cmp-IsAntisymmetric}
use Rattle.std.specs.declared.cmp.Ordering.{Ordering}
use Rattle.std.specs.declared.cmp.Ordering.TheVariants.{Less, Equal, Greater}
use Rattle.std.proofs.lemmas.List.{drop_at}
use Rattle.std.proofs.lemmas.List.Elements.{All-drop, All-head, All-same, All-weaker}
use Rattle.semver.specs.OrderLaws.{build-anti, build_total, pre-anti, pre_total}
use Rattle.semver.specs.Parse.{Parts}
use Rattle.edit_version.specs.Greatest.{IsGreatest, IsGreatestItem}
use Rattle.edit_version.specs.Laws.{precedence}
use Rattle.edit_version.proofs.Greatests.{wider, wider-found}
use Rattle.edit_version.specs.VersionOrder.{full_order}

-- precedence is a total order
pub precedence_total : IsTotalOrder precedence
precedence_total = then_total (on_total (λ (v : Parts). v.0) nat_cmp_total)
    (then_total (on_total (λ (v : Parts). v.1) nat_cmp_total)
    (then_total (on_total (λ (v : Parts). v.2) nat_cmp_total) (on_total (λ (v : Parts). v.3) pre_total)))

-- so is the full order
pub full_total : IsTotalOrder full_order
full_total = then_total precedence_total (on_total (λ (v : Parts). v.4) build_total)

-- the same numbers and the same pre-release
abbrev pub SameVersion : Parts → Parts → Type 0
SameVersion a b = (a.0 ≡ b.0) × (a.1 ≡ b.1) × (a.2 ≡ b.2) × (a.3 ≡ b.3)

then_first : (r s : Ordering) → ordering_then r s ≡ Equal → r ≡ Equal
then_first Less s e = cc e
then_first Equal s e = refl
then_first Greater s e = cc e

then_second : (r s : Ordering) → ordering_then r s ≡ Equal → s ≡ Equal
then_second Less s e = cc e
then_second Equal s e = e
then_second Greater s e = cc e

pub precedence-same : (a b : Parts) → precedence a b ≡ Equal → SameVersion a b
precedence-same a b e =
    let f = then_second _ _ e in
    let g = then_second _ _ f in (
      nat_cmp-IsAntisymmetric _ _ (then_first _ _ e),
      nat_cmp-IsAntisymmetric _ _ (then_first _ _ f),
      nat_cmp-IsAntisymmetric _ _ (then_first _ _ g),
      pre-anti _ _ (then_second _ _ g),
    )

full-same : (a b : Parts) → full_order a b ≡ Equal → a ≡ b
full-same a b e =
    let s = precedence-same a b (then_first _ _ e) in
    let build : a.4 ≡ b.4 = build-anti _ _ (then_second _ _ e) in
    λ i. (s.0 i, s.1 i, s.2 i, s.3 i, build i)

le-both : (r s : Ordering) → r ≡ ordering_reverse s → is_le r ≡ true → is_le s ≡ true → r ≡ Equal
le-both r Less e h g = cc (sym h ∙ ap is_le e)
le-both r Equal e h g = e
le-both r Greater e h g = cc g

-- two versions that are not less than each other are one
pub le-same : (a b : Parts) → is_le (full_order a b) ≡ true → is_le (full_order b a) ≡ true → a ≡ b
le-same a b h g = full-same a b (le-both (full_order a b) (full_order b a) (full_total.antisymm a b) h g)

le-ge-equal : (r s : Ordering) → is_le (ordering_then r s) ≡ true → is_ge r ≡ true → r ≡ Equal
le-ge-equal Less s h g = cc g
le-ge-equal Equal s h g = refl
le-ge-equal Greater s h g = cc h

-- not greater in the full order, and not less by precedence
pub squeezed : (a b : Parts) → is_le (full_order a b) ≡ true → is_ge (precedence a b) ≡ true → SameVersion a b
squeezed a b h g = precedence-same a b (le-ge-equal (precedence a b) _ h g)

-- ---- the greatest of a list

-- there is one answer
pub greatest-same : (keep : Parts → Bool) (xs : List Parts) (a b : Option Parts)
    → IsGreatest keep full_order xs a → IsGreatest keep full_order xs b → a ≡ b
greatest-same keep xs None None h g = refl
greatest-same keep xs None (Some b) h g = absurd (wider-found keep keep full_order (λ x k. k) xs b g h)
greatest-same keep xs (Some a) None h g = absurd (wider-found keep keep full_order (λ x k. k) xs a h g)
greatest-same keep xs (Some a) (Some b) h g =
    ap Some (le-same a b (wider keep keep full_order full_total (λ x k. k) xs a b h g)
    (wider keep keep full_order full_total (λ x k. k) xs b a g h))

-- the greatest under a wider condition, where it satisfies the narrower one, is the greatest under that
pub fewer : (keep wide : Parts → Bool) → ((x : Parts) → keep x ≡ true → wide x ≡ true)
    → (xs : List Parts) (e : Parts)
    → IsGreatestItem wide full_order xs e → keep e ≡ true → IsGreatestItem keep full_order xs e
fewer keep wide more xs e h k = record {
  front = h.front;
  rest = h.rest;
  split = h.split;
  qualifies = k;
  before = All-weaker (λ x. wide x ≡ true → is_le (full_order x e) ≡ true) (λ x. keep x ≡ true
      → is_le (full_order x e) ≡ true)
      (λ x p q. p (more x q)) h.front h.before;
  after = All-weaker (λ x. wide x ≡ true → full_order x e ≡ Less) (λ x. keep x ≡ true → full_order x e ≡ Less)
      (λ x p q. p (more x q)) h.rest h.after;
}

-- what holds of all holds of the greatest
pub greatest-has : (P : Parts → Type 0) (keep : Parts → Bool) (xs : List Parts) (e : Parts) → All P xs
    → IsGreatestItem keep full_order xs e → P e
greatest-has P keep xs e all h =
    let whole = All-same P (h.front ++ e ∷ h.rest) xs (sym h.split) all in
    let part = All-drop P (length h.front) (h.front ++ e ∷ h.rest) whole in
    let here : All P (e ∷ h.rest) = All-same P (e ∷ h.rest) (drop (length h.front) (h.front ++ e ∷ h.rest))
    (sym (drop_at h.front (e ∷ h.rest) (length h.front) refl)) part in
    All-head P e h.rest here
