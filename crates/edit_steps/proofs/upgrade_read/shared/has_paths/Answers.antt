use Rattle.std.proofs.Common.{◌≡◌, ◌∙◌, ◌+◌, ◌<◌, ◌++◌, ◌∷◌, [], Bool, ℕ, List, ap, arith, false, get_or, length, map, refl, sym, take, true}
use Rattle.std.specs.Prelude.{not, string_bytes}
use Rattle.std.specs.String.{string_eq}
use Rattle.std.proofs.lemmas.List.{map_more, take-map}
use Rattle.std.proofs.lemmas.Slice.Eq.{bytes_eq-Decides}
use Rattle.edit_sources.specs.declared.config.Config.{Config}
use Rattle.edit_steps.proofs.upgrade_read.shared.has_paths.Goals as goal

-- one path more
one_more : {X : Type 0} (path : X → List ℕ) (xs : List X) (i : ℕ) (x : X) → i < length xs
    → take (i + 1) (map path xs) ≡ take i (map path xs) ++ path (get_or xs i x) ∷ []
one_more path xs i x low =
    take-map path (i + 1) xs ∙ map_more path xs i x low
    ∙ ap (λ (ps : List (List ℕ)). ps ++ path (get_or xs i x) ∷ []) (sym (take-map path i xs))

holds : (b : Bool) → false ≡ not b → b ≡ true
holds true h = refl
holds false h = cc h

pub loop-i-preserved : goal.loop-i-preserved
loop-i-preserved c =
    let path : Config → List ℕ = λ x. string_bytes x.path in
    let xs = c.args.list.now in
    let ys = c.args.paths.now in
    let i = c.loop-i.i in
    let x = get_or xs i c.index-list-i.result in
    let y = c.index-paths-i.result in
    let low : i < length xs = c.loop-i-test.true in
    let low_own : i < length ys = omega arith in
    let same : string_bytes x.path ≡ string_bytes y
    = (bytes_eq-Decides (string_bytes x.path) (string_bytes y)).0
    (holds (string_eq x.path y) c.if-ne.ensures) in
    one_more path xs i c.index-list-i.result low
    ∙ ap (λ (ps : List (List ℕ)). ps ++ string_bytes x.path ∷ []) c.loop-i.invariant
    ∙ ap (λ (p : List ℕ). take i (map string_bytes ys) ++ p ∷ [])
    (same ∙ ap string_bytes c.index-paths-i.is)
    ∙ sym (one_more string_bytes ys i y low_own)
