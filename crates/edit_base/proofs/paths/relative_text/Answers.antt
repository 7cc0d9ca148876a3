use Rattle.std.proofs.Common.{◌≡◌, ℕ, List, [], ◌∷◌, ◌++◌, replicate, ap, ◌∙◌, refl, rules, Bor}
use Rattle.std.specs.Prelude.{codes}
use Rattle.std.specs.List.{join_by, flat_map}
use Rattle.std.proofs.lemmas.List.{map-append}
use Rattle.edit_base.specs.Paths.{texts}
use Rattle.edit_base.proofs.paths.relative_text.Goals as goal

flat_texts : (between : List ℕ) (xs : List (Bor (List ℕ)))
    → flat_map (λ x. between ++ x.now) xs ≡ flat_map (λ x. between ++ x) (texts xs)
flat_texts between [] = refl
flat_texts between (x ∷ xs) = ap (λ t. (between ++ x.now) ++ t) (flat_texts between xs)

-- the joined references are the joined texts
join_texts : (between : List ℕ) (xs : List (Bor (List ℕ)))
    → join_by (λ x. x.now) between xs ≡ join_by (λ x. x) between (texts xs)
join_texts between [] = refl
join_texts between (x ∷ xs) = ap (λ t. x.now ++ t) (flat_texts between xs)

pub returns : goal.returns
returns c =
    let way : List (Bor (List ℕ)) = c.in_ok-way.way.items in
    let down : List (Bor (List ℕ)) = c.args.down.now in
    let steps : texts way ≡ replicate c.args.up (codes "..") = search rules in
    let all : texts (way ++ down) ≡ replicate c.args.up (codes "..") ++ texts down =
    map-append (λ (x : Bor (List ℕ)). x.now) way down ∙ ap (λ t. t ++ texts down) steps in
    c.in_ok-text.ensures.ok
    ∙ ap (join_by (λ x. x.now) (codes "/")) (c.as_slice.ensures.value
    ∙ c.in_ok-extend_from_slice.ensures.items)
    ∙ join_texts (codes "/") (way ++ down)
    ∙ ap (join_by (λ part. part) (codes "/")) all
