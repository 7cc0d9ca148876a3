-- Pairwise distinct texts.
use Rattle.std.proofs.Common.{◌≡◌, ◌≢◌, ℕ, zero, suc, ◌<◌, List, [], ◌∷◌, Bool, length, map, sym, subst, arith}
use Rattle.std.specs.Prelude.{All, AllPairs, filter, slice_index_or, string_bytes}
use Rattle.std.proofs.lemmas.List.Elements.{All-cons, All-nil}
use Rattle.std.proofs.lemmas.List.Kept.{AllPairs-cons, AllPairs-filter}
use Rattle.edit_metadata.specs.declared.input.Input.{Input}
use Rattle.edit_report.specs.Applied.{HaveDistinctPaths, path_of}
use Rattle.edit_report.specs.declared.output.Output.{Output}
use Rattle.edit_metadata.specs.Inputs.{HaveOwnPaths}

-- no two of them are alike
abbrev pub Differ : List (List ℕ) → Type 0
Differ texts = AllPairs (λ a b. a ≢ b) texts

-- the first of some differs from the others, and these differ
pub first_differs : {X : Type 0} (R : X → X → Type 0) (x : X) (xs : List X) → AllPairs R (x ∷ xs)
    → (j : ℕ) (d : X) → j < length xs → R x (slice_index_or xs j d)
first_differs R x xs pairs j d within = pairs zero (suc j) d (omega arith) (omega (arith, within))

pub others_differ : {X : Type 0} (R : X → X → Type 0) (x : X) (xs : List X) → AllPairs R (x ∷ xs)
    → AllPairs R xs
others_differ R x xs pairs i j d before within =
    pairs (suc i) (suc j) d (omega (arith, before)) (omega (arith, within))

pub none_differ : {X : Type 0} (R : X → X → Type 0) → AllPairs R []
none_differ R i j d before within = absurd (omega (arith, within))

-- what differs is what is made of it
made_differ : {X : Type 0} (f : X → List ℕ) (xs : List X) → AllPairs (λ a b. f a ≢ f b) xs
    → Differ (map f xs)
made_differ f [] pairs = none_differ (λ a b. a ≢ b)
made_differ f (x ∷ xs) pairs =
    AllPairs-cons (λ a b. a ≢ b) (f x) (map f xs)
    (each xs (first_differs (λ a b. f a ≢ f b) x xs pairs))
    (made_differ f xs (others_differ (λ a b. f a ≢ f b) x xs pairs))
  where
    each : (ys : List _) → ((j : ℕ) (d : _) → j < length ys → f x ≢ f (slice_index_or ys j d))
        → All (λ b. f x ≢ b) (map f ys)
    each [] apart = All-nil (λ b. f x ≢ b)
    each (y ∷ ys) apart = All-cons (λ b. f x ≢ b) (f y) (map f ys) (apart zero y (omega arith))
        (each ys (λ j d within. apart (suc j) d (omega (arith, within))))

-- and back
pairs_differ : {X : Type 0} (f : X → List ℕ) (xs : List X) → Differ (map f xs)
    → AllPairs (λ a b. f a ≢ f b) xs
pairs_differ f [] pairs = none_differ (λ a b. f a ≢ f b)
pairs_differ f (x ∷ xs) pairs =
    AllPairs-cons (λ a b. f a ≢ f b) x xs
    (each xs (first_differs (λ a b. a ≢ b) (f x) (map f xs) pairs))
    (pairs_differ f xs (others_differ (λ a b. a ≢ b) (f x) (map f xs) pairs))
  where
    each : (ys : List _)
        → ((j : ℕ) (d : List ℕ) → j < length (map f ys) → f x ≢ slice_index_or (map f ys) j d)
        → All (λ y. f x ≢ f y) ys
    each [] apart = All-nil (λ y. f x ≢ f y)
    each (y ∷ ys) apart = All-cons (λ y. f x ≢ f y) y ys (apart zero (f y) (omega arith))
        (each ys (λ j d within. apart (suc j) d (omega (arith, within))))

-- outputs that stand in the order of their inputs go to paths of their own, where the inputs have such
pub outputs_differ : (keep : List ℕ → Bool) (inputs : List Input) (outputs : List Output)
    → HaveOwnPaths inputs → map (λ (o : Output). string_bytes o.path) outputs
    ≡ filter keep (map (λ (i : Input). string_bytes i.path) inputs)
    → HaveDistinctPaths outputs
outputs_differ keep inputs outputs own in_order =
    pairs_differ path_of outputs (subst Differ (sym in_order)
    (AllPairs-filter (λ a b. a ≢ b) keep (map (λ (i : Input). string_bytes i.path) inputs)
    (made_differ (λ (i : Input). string_bytes i.path) inputs own)))
