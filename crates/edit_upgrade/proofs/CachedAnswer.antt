-- Packages of a name, and their fields.
use Rattle.std.proofs.Common.{◌≡◌, ◌∷◌, [], List, ℕ, Bool, true, false, cond, map, refl, ap}
use Rattle.std.specs.Prelude.{string_bytes}
use Rattle.std.specs.List.{filter}
use Rattle.std.specs.Str.{bytes_eq}
use Rattle.edit_metadata.specs.Workspaces.{package_view, packages_view}
use Rattle.edit_metadata.specs.declared.workspace.Package.{Package}
use Rattle.edit_upgrade.specs.UpdateCalls.{packages_named}

cond-filter : {A B : Type 0} (f : A → B) (b : Bool) (x : A) (xs : List A) (ys : List B) → map f xs ≡ ys
    → map f (cond b (x ∷ xs) xs) ≡ cond b (f x ∷ ys) ys
cond-filter f true x xs ys h = ap (λ l. f x ∷ l) h
cond-filter f false x xs ys h = h

-- a filter before a map gives what the filter after the map gives
map-filter : {A B : Type 0} (f : A → B) (p : B → Bool) (xs : List A)
    → map f (filter (λ x. p (f x)) xs) ≡ filter p (map f xs)
map-filter f p [] = refl
map-filter f p (x ∷ xs) =
    cond-filter f (p (f x)) x (filter (λ y. p (f y)) xs) (filter p (map f xs)) (map-filter f p xs)

-- the packages of a name, as what is said of them
pub group-said : (name : List ℕ) (packages : List Package)
    → packages_view (filter (λ p. bytes_eq name (string_bytes p.name)) packages)
    ≡ packages_named name (packages_view packages)
group-said name packages = map-filter package_view (λ p. bytes_eq name p.name) packages
