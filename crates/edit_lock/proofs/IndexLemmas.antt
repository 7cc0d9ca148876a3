-- The packages that only the current lock file has, by name.
use Rattle.std.proofs.Common.{◌≡◌, ◌∷◌, ◌++◌, [], List, ℕ, Bool, true, false, cond, Option, Some, None, map, not, ap, refl, ◌∙◌, string_bytes}
use Rattle.std.specs.Prelude.{◌||◌, ◌&&◌, Vec}
use Rattle.std.specs.List.{filter}
use Rattle.std.specs.Option.{option_map_or}
use Rattle.std.specs.Str.{bytes_eq}
use Rattle.std.specs.declared.alloc.Global.{Global}
use mathlib.Core.Path.{fun_ext}
use Rattle.std.proofs.lemmas.List.{map-append}
use Rattle.std.proofs.lemmas.List.Elements.{filter-append}
use Rattle.std.proofs.lemmas.List.Folds.{list_any-append}
use Rattle.edit_lock.specs.LockFile.{Package, spec_of}
use Rattle.edit_lock.specs.AdaptedCalls.{changes, locks}
use Rattle.edit_lock.specs.Views.{new_packages_view, pair_of, new_package_pairs}
use Rattle.edit_lock.specs.declared.index.NewPackage.{NewPackage}

either : (a b : Bool) → (a || (b || false)) ≡ cond b true a
either true true = refl
either true false = refl
either false true = refl
either false false = refl

-- one package more is locked
pub locks-more : (packages : List Package) (p : Package) (q : List ℕ)
    → locks (packages ++ p ∷ []) q ≡ cond (bytes_eq (spec_of p) q) true (locks packages q)
locks-more packages p q =
    list_any-append (λ x. bytes_eq (spec_of x) q) packages (p ∷ [])
    ∙ either (locks packages q) (bytes_eq (spec_of p) q)

new-one : (had : Bool) (p : Package) → map pair_of (cond (not had) (p ∷ []) []) ≡ cond had [] (pair_of p ∷ [])
new-one true p = refl
new-one false p = refl

filter-one : (t : Package → Bool) (p : Package) → filter t (p ∷ []) ≡ cond (t p) (p ∷ []) []
filter-one t p = refl

-- one package more, where it was not locked
pub gained-more : (had : List ℕ → Bool) (packages : List Package) (p : Package)
    → map pair_of (filter (λ x. not (had (spec_of x))) (packages ++ p ∷ []))
    ≡ map pair_of (filter (λ x. not (had (spec_of x))) packages) ++ cond (had (spec_of p)) [] (pair_of p ∷ [])
gained-more had packages p =
    let t : Package → Bool = λ x. not (had (spec_of x)) in
    ap (map pair_of) (filter-append t packages (p ∷ []))
    ∙ map-append pair_of (filter t packages) (filter t (p ∷ []))
    ∙ ap (λ (e : List (List ℕ × List ℕ)). map pair_of (filter t packages) ++ e)
    (ap (map pair_of) (filter-one t p) ∙ new-one (had (spec_of p)) p)

-- the result of a lookup of a name
pub found-seen : (found : Option (Vec NewPackage Global))
    → option_map_or (λ g. new_packages_view g.items) found [] ≡ new_packages_view (option_map_or (λ g. g.items) found [])
found-seen None = refl
found-seen (Some g) = refl

-- the packages of a name, as pairs
pair-step : (g : NewPackage) (xs : List NewPackage) (ys : List (List ℕ × List ℕ)) (b : Bool)
    → new_packages_view xs ≡ map (λ e. e.1) ys
    → new_packages_view (cond b (g ∷ xs) xs)
    ≡ map (λ e. e.1) (cond b ((string_bytes g.name, string_bytes g.spec) ∷ ys) ys)
pair-step g xs ys true e = ap (λ (l : List (List ℕ)). string_bytes g.spec ∷ l) e
pair-step g xs ys false e = e

pub of-pairs : (q : List ℕ) (gained : List NewPackage)
    → new_packages_view (filter (λ g. bytes_eq q (string_bytes g.name)) gained)
    ≡ map (λ e. e.1) (filter (λ e. bytes_eq q e.0) (new_package_pairs gained))
of-pairs q [] = refl
of-pairs q (g ∷ gs) =
    pair-step g (filter (λ g. bytes_eq q (string_bytes g.name)) gs)
    (filter (λ e. bytes_eq q e.0) (new_package_pairs gs)) (bytes_eq q (string_bytes g.name)) (of-pairs q gs)

-- the packages of a name, from pairs
named-step : (p : Package) (ys : List (List ℕ × List ℕ)) (zs : List Package) (b : Bool)
    → map (λ e. e.1) ys ≡ map spec_of zs
    → map (λ e. e.1) (cond b (pair_of p ∷ ys) ys) ≡ map spec_of (cond (b && true) (p ∷ zs) zs)
named-step p ys zs true e = ap (λ (l : List (List ℕ)). spec_of p ∷ l) e
named-step p ys zs false e = e

left-step : (p : Package) (ys : List (List ℕ × List ℕ)) (zs : List Package) (b : Bool)
    → map (λ e. e.1) ys ≡ map spec_of zs → map (λ e. e.1) ys ≡ map spec_of (cond (b && false) (p ∷ zs) zs)
left-step p ys zs true e = e
left-step p ys zs false e = e

package-step : (q : List ℕ) (p : Package) (ps zs : List Package) (here : Bool)
    → map (λ e. e.1) (filter (λ e. bytes_eq q e.0) (map pair_of ps)) ≡ map spec_of zs
    → map (λ e. e.1) (filter (λ e. bytes_eq q e.0) (map pair_of (cond here (p ∷ ps) ps)))
    ≡ map spec_of (cond (bytes_eq q p.name && here) (p ∷ zs) zs)
package-step q p ps zs true e =
    named-step p (filter (λ e. bytes_eq q e.0) (map pair_of ps)) zs (bytes_eq q p.name) e
package-step q p ps zs false e =
    left-step p (filter (λ e. bytes_eq q e.0) (map pair_of ps)) zs (bytes_eq q p.name) e

pub of-packages : (q : List ℕ) (t : Package → Bool) (packages : List Package)
    → map (λ e. e.1) (filter (λ e. bytes_eq q e.0) (map pair_of (filter t packages)))
    ≡ map spec_of (filter (λ p. bytes_eq q p.name && t p) packages)
of-packages q t [] = refl
of-packages q t (p ∷ ps) =
    package-step q p (filter t ps) (filter (λ p. bytes_eq q p.name && t p) ps) (t p) (of-packages q t ps)

-- two tests that agree on every package filter the same packages
same-filter : (name : List ℕ) (f g : List ℕ → Bool) → ((q : List ℕ) → f q ≡ g q) → (packages : List Package)
    → map spec_of (filter (λ p. bytes_eq name p.name && not (f (spec_of p))) packages)
    ≡ map spec_of (filter (λ p. bytes_eq name p.name && not (g (spec_of p))) packages)
same-filter name f g same packages =
    ap (λ (h : List ℕ → Bool). map spec_of (filter
    (λ p. bytes_eq name p.name && not (h (spec_of p))) packages))
    (fun_ext same)

-- the result of a lookup of a name is the new packages of that name
pub gained-at : (before now : List Package) (had : List ℕ → Bool) → ((q : List ℕ) → had q ≡ locks before q)
    → (gained : List NewPackage) (found : List ℕ → Option (Vec NewPackage Global))
    → new_package_pairs gained ≡ map pair_of (filter (λ p. not (had (spec_of p))) now)
    → ((q : List ℕ) → option_map_or (λ g. g.items) (found q) []
    ≡ filter (λ g. bytes_eq q (string_bytes g.name)) gained)
    → (name : List ℕ) → option_map_or (λ g. new_packages_view g.items) (found name) []
    ≡ map spec_of (filter (λ p. bytes_eq name p.name && not (locks before (spec_of p))) now)
gained-at before now had same gained found all groups name =
    found-seen (found name) ∙ ap new_packages_view (groups name) ∙ of-pairs name gained
    ∙ ap (λ (es : List (List ℕ × List ℕ)). map (λ e. e.1) (filter (λ e. bytes_eq name e.0) es)) all
    ∙ of-packages name (λ p. not (had (spec_of p))) now ∙ same-filter name had (locks before) same now

-- the model of an index, from its result for each text
pub same-changes : (before now : List Package) (had has : List ℕ → Bool) (gained : List ℕ → List (List ℕ))
    → ((q : List ℕ) → had q ≡ locks before q) → ((q : List ℕ) → has q ≡ locks now q)
    → ((name : List ℕ) → gained name
    ≡ map spec_of (filter (λ p. bytes_eq name p.name && not (locks before (spec_of p))) now))
    → record { had = had; has = has; gained = gained } ≡ changes before now
same-changes before now had has gained h n g =
    λ i. record { had = fun_ext h i; has = fun_ext n i; gained = fun_ext g i }
