-- A list without repeated steps has no repeated names.
use Rattle.std.proofs.Common.{◌≡◌, ℕ, zero, suc, Bool, true, false, cond, not, ◌||◌, List, [], ◌∷◌, Some, refl, sym, ap, ◌∙◌}
use Rattle.std.specs.Prelude.{slice_get}
use Rattle.std.specs.List.{filter}
use Rattle.std.proofs.lemmas.Option.{same_Some}
use Rattle.edit_tree.specs.Assertions.{Step, key, index, same_step}
use Rattle.edit_tree.specs.Tree.{once}
use Rattle.edit_document.specs.Items.{key_names}
use Rattle.edit_tree.proofs.SamePlace.{same_step_self, same_step_is}
use Rattle.edit_tree.proofs.MoreMembers.{has}
use Rattle.edit_syntax.proofs.Cases.{or_false}

-- each step differs from those behind it
abbrev pub Apart : List Step → Type 0
Apart [] = Unit {0}
Apart (x ∷ xs) = (has x xs ≡ false) × Apart xs

lacks_filter : (x : Step) (test : Step → Bool) (xs : List Step) → has x xs ≡ false
    → has x (filter test xs) ≡ false
lacks_filter x test [] e = refl
lacks_filter x test (y ∷ ys) e =
    go (test y) (lacks_filter x test ys (or_false (same_step y x) (has x ys) e).1)
  where
    go : (b : Bool) → has x (filter test ys) ≡ false → has x (cond b (y ∷ filter test ys) (filter test ys))
        ≡ false
    go true ih = ap (λ (b : Bool). b || has x (filter test ys)) (or_false (same_step y x) (has x ys) e).0 ∙ ih
    go false ih = ih

pub apart_filter : (test : Step → Bool) (xs : List Step) → Apart xs → Apart (filter test xs)
apart_filter test [] h = tt
apart_filter test (x ∷ xs) h = go (test x) (apart_filter test xs h.1)
  where
    go : (b : Bool) → Apart (filter test xs) → Apart (cond b (x ∷ filter test xs) (filter test xs))
    go true ih = (lacks_filter x test xs h.0, ih)
    go false ih = ih

filtered_out : (x : Step) (xs : List Step) → has x (filter (λ t. not (same_step x t)) xs) ≡ false
filtered_out x [] = refl
filtered_out x (y ∷ ys) = go (same_step x y) refl (filtered_out x ys)
  where
    other : (b : Bool) → same_step y x ≡ b → same_step x y ≡ false → same_step y x ≡ false
    other false e f = e
    other true e f = absurd (let clash : true ≡ false =
        sym (same_step_self y) ∙ ap (λ (s : Step). same_step s y) (same_step_is y x e) ∙ f in cc)

    go : (b : Bool) → same_step x y ≡ b → has x (filter (λ t. not (same_step x t)) ys) ≡ false
        → has x (cond (not b) (y ∷ filter (λ t. not (same_step x t)) ys)
        (filter (λ t. not (same_step x t)) ys)) ≡ false
    go true e ih = ih
    go false e ih =
        ap (λ (b : Bool). b || has x (filter (λ t. not (same_step x t)) ys)) (other (same_step y x) refl e) ∙
        ih

pub apart_once : (xs : List Step) → Apart (once xs)
apart_once [] = tt
apart_once (x ∷ xs) =
    (filtered_out x (once xs), apart_filter (λ t. not (same_step x t)) (once xs) (apart_once xs))

-- a name that stands among them
has_name : (xs : List Step) (i : ℕ) (n : List ℕ) → slice_get (key_names xs) i ≡ Some n → has (key n) xs ≡ true
has_name [] i n e = absurd cc
has_name (key m ∷ xs) zero n e =
    let same : same_step (key m) (key n) ≡ true =
    ap (λ (k : List ℕ). same_step (key k) (key n)) (same_Some m n e) ∙ same_step_self (key n) in
    ap (λ (b : Bool). b || has (key n) xs) same
has_name (key m ∷ xs) (suc i) n e = later (same_step (key m) (key n)) (has_name xs i n e)
  where
    later : (b : Bool) → has (key n) xs ≡ true → (b || has (key n) xs) ≡ true
    later true h = refl
    later false h = h
has_name (index j ∷ xs) i n e = has_name xs i n e

-- no name stands twice
pub names_apart : (xs : List Step) → Apart xs → (i j : ℕ) (n : List ℕ) → slice_get (key_names xs) i ≡ Some n
    → slice_get (key_names xs) j ≡ Some n → i ≡ j
names_apart [] h i j n e f = absurd cc
names_apart (index k ∷ xs) h i j n e f = names_apart xs h.1 i j n e f
names_apart (key m ∷ xs) h zero zero n e f = refl
names_apart (key m ∷ xs) h zero (suc j) n e f =
    let same : m ≡ n = same_Some m n e in
    let clash : true ≡ false = sym (has_name xs j n f) ∙ ap (λ (k : List ℕ). has (key k) xs) (sym same) ∙
    h.0 in
    absurd cc
names_apart (key m ∷ xs) h (suc i) zero n e f =
    let same : m ≡ n = same_Some m n f in
    let clash : true ≡ false = sym (has_name xs i n e) ∙ ap (λ (k : List ℕ). has (key k) xs) (sym same) ∙
    h.0 in
    absurd cc
names_apart (key m ∷ xs) h (suc i) (suc j) n e f = ap suc (names_apart xs h.1 i j n e f)
