-- The edits of rows, after one more row.
use Rattle.std.proofs.Common.{◌≡◌, ◌∷◌, ◌++◌, [], List, ℕ, Option, Some, None, length, map, take, get_or, min, refl, ap, ◌∙◌, sym, ◌<◌, ◌+◌}
use Rattle.std.proofs.lemmas.List.{length-map, length-take}
use Rattle.edit_tree.specs.Assertions.{Place}
use Rattle.edit_upgrade.specs.Records.{RowEntry}
use Rattle.edit_upgrade.specs.Rows.{Line, with_write, write_on, writes}
use Rattle.edit_upgrade.proofs.Steps.{names-more}

with-append : (w : Option (Place × List ℕ)) (xs ys : List (Place × List ℕ))
    → with_write w (xs ++ ys) ≡ with_write w xs ++ ys
with-append None xs ys = refl
with-append (Some w) xs ys = refl

pub writes-more : (es : List RowEntry) (ls : List Line) (e : RowEntry) (l : Line) → length es ≡ length ls
    → writes (es ++ e ∷ []) (ls ++ l ∷ []) ≡ writes es ls ++ with_write (write_on e l) []
writes-more [] [] e l h = refl
writes-more [] (m ∷ ms) e l h = cc h
writes-more (d ∷ ds) [] e l h = cc h
writes-more (d ∷ ds) (m ∷ ms) e l h =
    ap (λ (ws : List (Place × List ℕ)). with_write (write_on d m) ws) (writes-more ds ms e l (cc h))
    ∙ with-append (write_on d m) (writes ds ms) (with_write (write_on e l) [])

-- two lists of one length have fronts of one length
pub fronts-same : {A B C D : Type 0} (f : A → C) (g : B → D) (xs : List A) (ys : List B) (i : ℕ)
    → length ys ≡ length xs
    → length (map f (take i xs)) ≡ length (map g (take i ys))
fronts-same f g xs ys i h =
    let a = length-map (take i xs) f in
    let b = length-map (take i ys) g in
    let c = length-take i xs in
    let d = length-take i ys in
    a ∙ c ∙ ap (λ (n : ℕ). min i n) (sym h) ∙ sym d ∙ sym b

-- what rows write with the next row
pub written-more : {A B : Type 0} (f : A → RowEntry) (g : B → Line) (xs : List A) (ys : List B) (i : ℕ) (x : A)
    (y : B) (old new : List (Place × List ℕ))
    → length ys ≡ length xs → i < length ys → i < length xs → x ≡ get_or xs i x → y ≡ get_or ys i y
    → old ≡ writes (map f (take i xs)) (map g (take i ys))
    → new ≡ old ++ with_write (write_on (f x) (g y)) []
    → new ≡ writes (map f (take (i + 1) xs)) (map g (take (i + 1) ys))
written-more f g xs ys i x y old new h l m p q e n =
    n ∙ ap (λ (ws : List (Place × List ℕ)). ws ++ with_write (write_on (f x) (g y)) []) e
    ∙ sym (writes-more (map f (take i xs)) (map g (take i ys)) (f x) (g y) (fronts-same f g xs ys i h))
    ∙ ap (λ (es : List RowEntry). writes es (map g (take i ys) ++ g y ∷ [])) (sym (names-more f xs i x m p))
    ∙ ap (λ (ls : List Line). writes (map f (take (i + 1) xs)) ls) (sym (names-more g ys i y l q))
