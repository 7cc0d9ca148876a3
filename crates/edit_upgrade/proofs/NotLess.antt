-- Versions that are not less, in the full order and by precedence.
use Rattle.std.proofs.Common.{◌≡◌, true, refl, ap, ◌∙◌}
use Rattle.std.specs.Ordering.{is_ge, is_le, ordering_reverse, ordering_then}
use Rattle.std.specs.declared.cmp.Ordering.{Ordering}
use Rattle.std.specs.declared.cmp.Ordering.TheVariants.{Less, Equal, Greater}
use Rattle.semver.specs.Parse.{Parts}
use Rattle.edit_version.specs.Laws.{precedence}
use Rattle.edit_version.specs.VersionOrder.{full_order}
use Rattle.edit_version.proofs.Orders.{precedence_total}

-- what is not greater first is not less the other way
reversed : (r s : Ordering) → is_le (ordering_then r s) ≡ true → is_ge (ordering_reverse r) ≡ true
reversed Less s h = refl
reversed Equal s h = refl
reversed Greater s h = cc h

-- a version that is not less in the full order is not less by precedence
pub not-less : (u v : Parts) → is_le (full_order u v) ≡ true → is_ge (precedence v u) ≡ true
not-less u v h = ap is_ge (precedence_total.antisymm v u) ∙ reversed (precedence u v) _ h

-- an order that is its own reverse is not less
own-reverse : (r : Ordering) → r ≡ ordering_reverse r → is_ge r ≡ true
own-reverse Less e = cc
own-reverse Equal e = refl
own-reverse Greater e = refl

-- a version is not less than itself
pub not-less-itself : (u : Parts) → is_ge (precedence u u) ≡ true
not-less-itself u = own-reverse (precedence u u) (precedence_total.antisymm u u)
