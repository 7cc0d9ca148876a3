use Rattle.std.proofs.Common.{◌≡◌, ℕ, ◌<◌, List, [], ◌∷◌, ◌++◌, length, map, ap, arith, Bor, refl}
use Rattle.std.specs.Prelude.{codes}
use Rattle.std.proofs.lemmas.Bool.Decides.{nat_tests}
use Rattle.std.proofs.Math.Seq.{take-length}
use Rattle.std.specs.List.{flat_map}
use Rattle.edit_base.specs.Paths.{absolute}
use Rattle.edit_base.proofs.paths.absolute_text.Goals as goal

flat_map-map : (xs : List (Bor (List ℕ)))
    → flat_map (λ n. 47 ∷ n.now) xs ≡ flat_map (λ n. 47 ∷ n) (map (λ x. x.now) xs)
flat_map-map [] = refl
flat_map-map (x ∷ xs) = ap (λ t. (47 ∷ x.now) ++ t) (flat_map-map xs)

absolute_is : (xs : List (Bor (List ℕ))) → 0 < length xs
    → flat_map (λ n. 47 ∷ n.now) xs ≡ absolute (map (λ x. x.now) xs)
absolute_is [] h = absurd (omega arith)
absolute_is (x ∷ xs) h = flat_map-map (x ∷ xs)

absolute_none : (xs : List (Bor (List ℕ))) → length xs ≡ 0 → codes "/" ≡ absolute (map (λ x. x.now) xs)
absolute_none [] h = refl
absolute_none (x ∷ xs) h = absurd (omega arith)

pub returns : goal.returns
returns c =
    let some : 0 < length c.args.names.now = grind (arith, nat_tests) in
    let all : c.loop-name.name-index ≡ length c.args.names.now = omega arith in
    let whole = take-length c.args.names.now in
    let is = absolute_is c.args.names.now some in
    rw (c.loop-name.invariant, all, whole) is

pub returns-then-is_empty : goal.returns-then-is_empty
returns-then-is_empty c =
    let none : length c.args.names.now ≡ 0 = grind (arith, nat_tests) in
    rw (← absolute_none c.args.names.now none) c.from_str.ensures.ok
