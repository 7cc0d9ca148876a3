use Rattle.std.proofs.Common.{◌≡◌, ◌∷◌, ◌++◌, ◌<◌, ◌+◌, ◌∙◌, [], List, ℕ, length, get_or, take, map, ap, sym, append-nil, append_assoc}
use Rattle.std.specs.List.{flat_map}
use Rattle.std.proofs.lemmas.Grind.{flat_map-append}
use Rattle.std.proofs.lemmas.List.{map-append}
use Rattle.edit_metadata.specs.Workspaces.{package_view}
use Rattle.edit_upgrade.specs.UpdateCalls.{package_args}
use Rattle.edit_upgrade.specs.Views.{args_view}
use Rattle.edit_upgrade.proofs.Steps.{names-more}
use Rattle.edit_upgrade.proofs.update.update.add_packages.Goals as goal

-- what is made of one item more of a list that is read in two steps is added
spread-more : {A B C E : Type 0} (f : B → C) (g : A → B) (h : C → List E) (xs : List A) (i : ℕ) (x : A)
    (first old new : List E)
    → i < length xs → x ≡ get_or xs i x → new ≡ old ++ h (f (g x))
    → old ≡ first ++ flat_map h (map f (map g (take i xs)))
    → new ≡ first ++ flat_map h (map f (map g (take (i + 1) xs)))
spread-more {A} {B} {C} {E} f g h xs i x first old new low is n e =
    let own = h (f (g x)) in
    let before = map f (map g (take i xs)) in
    let more = ap (λ (ys : List B). flat_map h (map f ys)) (names-more g xs i x low is)
    ∙ ap (flat_map h) (map-append f (map g (take i xs)) (g x ∷ []))
    ∙ flat_map-append h before (f (g x) ∷ [])
    ∙ ap (λ (ys : List E). flat_map h before ++ ys) (append-nil own) in
    n ∙ ap (λ (ys : List E). ys ++ own) e ∙ append_assoc first (flat_map h before) own
    ∙ ap (λ (ys : List E). first ++ ys) (sym more)

pub packages-preserved : goal.packages-preserved
packages-preserved c =
    spread-more package_view (λ p. p.now) package_args c.args.packages.now c.packages.package-index
    c.package-item.result (args_view c.args.args.now.items) (args_view c.packages.args.items)
    (args_view c.add_package.new.args.items) c.packages-test.true c.package-item.is
    c.in_ok-add_package.ensures c.packages.invariant
