-- The lists of lines collected while the manifests are walked are the lines of the bumps.
use Rattle.std.proofs.Common.{◌≡◌, ◌∙◌, ℕ, suc, arith, List, [], ◌∷◌, ◌++◌, length, length-append, map, refl, sym, ap, subst}
use Rattle.std.specs.List.{filter_map, flat_map}
use Rattle.std.proofs.lemmas.List.{append_assoc}
use Rattle.edit_set_version.specs.Dependents.{all_numbered}
use Rattle.edit_set_version.specs.PlanLines.{Named, Reported, lines_of, manifests, updates}
use Rattle.edit_set_version.specs.SetVersioned.{Bump, Project, dependents}
use Rattle.edit_set_version.specs.LineViews.{bump_line_view, dependent_number, manifest_lines_view, update_line_view, update_lines_view, with_manifests}
use Rattle.edit_set_version.proofs.GroupedBumps.{alone_dependents}
use Rattle.edit_set_version.specs.Apart.{AreApart}

-- the lines of a manifest for the bump with a number
updates_are : (all before : List Bump) (b : Bump) (rest : List Bump) (n : ℕ) → all ≡ before ++ b ∷ rest
    → n ≡ length before → AreApart all → (m : Named)
    → update_lines_view (m.name, m.path) (all_numbered all m.path m.tree) n ≡ updates b m
updates_are all before b rest n is at apart m =
    let with_bump_index : dependents (b ∷ []) m.path m.tree
    ≡ filter_map (dependent_number n) (all_numbered all m.path m.tree)
    = alone_dependents before b rest m.path m.tree (subst AreApart is apart)
    ∙ ap (λ k. filter_map (dependent_number k) (all_numbered (before ++ b ∷ rest) m.path m.tree)) (sym at)
    ∙ ap (λ bs. filter_map (dependent_number n) (all_numbered bs m.path m.tree)) (sym is) in
    ap (filter_map (update_line_view (m.name, m.path))) (sym with_bump_index)

-- the lines of all manifests
lines_are : (all before : List Bump) (b : Bump) (rest : List Bump) (n : ℕ) → all ≡ before ++ b ∷ rest
    → n ≡ length before → AreApart all → (ms : List Named)
    → manifest_lines_view all ms n ≡ flat_map (updates b) ms
lines_are all before b rest n is at apart [] = refl
lines_are all before b rest n is at apart (m ∷ ms) =
    ap (λ us. us ++ manifest_lines_view all ms n) (updates_are all before b rest n is at apart m)
    ∙ ap (λ us. updates b m ++ us) (lines_are all before b rest n is at apart ms)

-- the lists of bumps from a number on
lists_are : (all : List Bump) (p : Project) (before rest : List Bump) (n : ℕ) → all ≡ before ++ rest
    → n ≡ length before → AreApart all
    → with_manifests all (manifests p) n (map (λ (b : Bump). bump_line_view b ∷ []) rest) ≡ map (lines_of p) rest
lists_are all p before [] n is at apart = refl
lists_are all p before (b ∷ rest) n is at apart =
    let long = length-append before (b ∷ []) in
    ap (λ us. (bump_line_view b ∷ us)
    ∷ with_manifests all (manifests p) (suc n) (map (λ (b : Bump). bump_line_view b ∷ []) rest))
    (lines_are all before b rest n is at apart (manifests p))
    ∙ ap (λ xs. lines_of p b ∷ xs) (lists_are all p (before ++ b ∷ []) rest (suc n)
    (is ∙ sym (append_assoc before (b ∷ []) rest)) (omega (arith, at, long)) apart)

-- the lists of all bumps
pub lists_together : (p : Project) (bs : List Bump) → AreApart bs
    → with_manifests bs (manifests p) 0 (map (λ (b : Bump). bump_line_view b ∷ []) bs) ≡ map (lines_of p) bs
lists_together p bs apart = lists_are bs p [] bs 0 refl refl apart

-- lists in a row
in_a_row : {X : Type 0} (f : X → List Reported) (xs : List X) → flat_map (λ l. l) (map f xs) ≡ flat_map f xs
in_a_row f [] = refl
in_a_row f (x ∷ xs) = ap (λ ls. f x ++ ls) (in_a_row f xs)

-- the lines of all bumps in a row
pub lines_in_a_row : (p : Project) (bs : List Bump) → AreApart bs
    → flat_map (λ l. l) (with_manifests bs (manifests p) 0 (map (λ (b : Bump). bump_line_view b ∷ []) bs))
    ≡ flat_map (lines_of p) bs
lines_in_a_row p bs apart = ap (flat_map (λ l. l)) (lists_together p bs apart) ∙ in_a_row (lines_of p) bs
