-- Induction over names: which are in a list, and which are missing.
use Rattle.std.proofs.Common.{◌≡◌, ◌≢◌, ◌==◌, ℕ, ◌+◌, ◌<◌, List, [], ◌∷◌, ◌++◌, Bool, true, false, cond, length, map, not, take, get_or, refl, ap, sym, true≢false, ◌∙◌}
use Rattle.std.specs.Prelude.{◌||◌, if◌then◌else◌}
use Rattle.std.specs.List.{filter, list_any}
use Rattle.std.specs.Str.{bytes_eq}
use Rattle.std.proofs.lemmas.Bool.{eqb-true}
use Rattle.std.proofs.lemmas.List.{map-append, take_more}
use Rattle.std.proofs.lemmas.List.Elements.{filter-append}
use Rattle.std.proofs.lemmas.List.Folds.{list_any-append}
use Rattle.edit_tree.specs.Assertions.{same_bytes}
use Rattle.edit_document.proofs.EntryPartViews.{same_texts}
use Rattle.edit_tree.proofs.SamePlace.{same_bytes_is, same_bytes_self}
use Rattle.edit_metadata.specs.Metadata.{PackageModel, members}
use Rattle.edit_metadata.specs.Workspaces.{package_view, packages_view}
use Rattle.edit_metadata.specs.declared.workspace.Package.{Package}
use Rattle.edit_set_version.specs.Chosen.{each_once, is_among}
use Rattle.edit_set_version.specs.Missing.{names_not_among, names_of}

-- ---- tests

pub or_false : (a : Bool) → (a || false) ≡ a
or_false true = refl
or_false false = refl

either : (a b : Bool) → (a || (b || false)) ≡ cond b true a
either true true = refl
either true false = refl
either false true = refl
either false false = refl

pub or_later : (a b e : Bool) → cond e true (a || b) ≡ (a || cond e true b)
or_later true b true = refl
or_later true b false = refl
or_later false b true = refl
or_later false b false = refl

-- two texts compared both ways round
swapped : (a b : List ℕ) → same_bytes a b ≡ bytes_eq b a
swapped a b = both_ways (same_bytes a b) (bytes_eq b a)
    (λ h. sym (ap (λ (x : List ℕ). bytes_eq x a) (same_bytes_is a b h)) ∙ same_texts a a ∙ same_bytes_self a)
    (λ h. ap (λ (x : List ℕ). same_bytes a x) (same_bytes_is b a (sym (same_texts b a) ∙ h))
    ∙ same_bytes_self a)
  where
    both_ways : (x y : Bool) → (x ≡ true → y ≡ true) → (y ≡ true → x ≡ true) → x ≡ y
    both_ways true y f g = sym (f refl)
    both_ways false true f g = g refl
    both_ways false false f g = refl

-- ---- one name more

-- names with one more
pub among_more : (names : List (List ℕ)) (name q : List ℕ)
    → is_among (names ++ name ∷ []) q ≡ cond (bytes_eq name q) true (is_among names q)
among_more names name q =
    list_any-append (same_bytes q) names (name ∷ [])
    ∙ ap (λ b. is_among names q || (b || false)) (swapped q name)
    ∙ either (is_among names q) (bytes_eq name q)

-- a name that is left where a test passes it
filter_one : (p : List ℕ → Bool) (x : List ℕ) (b s : Bool) → p x ≡ not s
    → filter p (if b then [] else x ∷ []) ≡ (if s || b then [] else x ∷ [])
filter_one p x true true h = refl
filter_one p x true false h = refl
filter_one p x false true h = ap (λ c. cond c (x ∷ []) []) h
filter_one p x false false h = ap (λ c. cond c (x ∷ []) []) h

-- each once, with one name more
once_more : (names : List (List ℕ)) (x : List ℕ)
    → each_once (names ++ x ∷ []) ≡ each_once names ++ (if is_among names x then [] else x ∷ [])
once_more [] x = refl
once_more (y ∷ ys) x =
    let test : List ℕ → Bool = λ n. not (same_bytes y n) in
    ap (λ (zs : List (List ℕ)). y ∷ filter test zs) (once_more ys x)
    ∙ ap (λ (zs : List (List ℕ)). y ∷ zs)
    (filter-append test (each_once ys) (if is_among ys x then [] else x ∷ []))
    ∙ ap (λ (zs : List (List ℕ)). y ∷ (filter test (each_once ys) ++ zs))
    (filter_one test x (is_among ys x) (same_bytes x y)
    (ap not (swapped y x ∙ same_texts x y)))

-- those that are not there, with one name more
pub absent_more : (there names : List (List ℕ)) (x : List ℕ)
    → names_not_among there (names ++ x ∷ [])
    ≡ names_not_among there names ++ (if is_among there x || is_among names x then [] else x ∷ [])
absent_more there names x =
    let test : List ℕ → Bool = λ n. not (is_among there n) in
    ap (filter test) (once_more names x)
    ∙ filter-append test (each_once names) (if is_among names x then [] else x ∷ [])
    ∙ ap (λ (zs : List (List ℕ)). names_not_among there names ++ zs)
    (filter_one test x (is_among names x) (is_among there x) refl)

-- ---- one package more

-- the name of a member, added
pub member_among : (p : PackageModel) (q own : List ℕ) (was : Bool) → p.member ≡ true → own ≡ p.name
    → cond (bytes_eq own q) true was ≡ (was || is_among (names_of (p ∷ [])) q)
member_among p q own was m o =
    ap (λ (x : List ℕ). cond (bytes_eq x q) true was) o
    ∙ sym (ap (λ (b : Bool). was || (b || false)) (swapped q p.name) ∙ either was (bytes_eq p.name q))
    ∙ ap (λ (b : Bool). was
    || list_any (same_bytes q) (map (λ (x : PackageModel). x.name) (cond b (p ∷ []) []))) (sym m)

-- the names of the members among packages with one more
pub names_more : (ps : List Package) (i : ℕ) (p : Package) → i < length ps → p ≡ get_or ps i p
    → names_of (packages_view (take (i + 1) ps))
    ≡ names_of (packages_view (take i ps)) ++ names_of (package_view p ∷ [])
names_more ps i p within is =
    ap (λ (xs : List Package). names_of (packages_view xs))
    (take_more ps i p within ∙ ap (λ (x : Package). take i ps ++ x ∷ []) (sym is))
    ∙ ap names_of (map-append package_view (take i ps) (p ∷ []))
    ∙ ap (map (λ (x : PackageModel). x.name))
    (filter-append (λ (x : PackageModel). x.member) (packages_view (take i ps)) (package_view p ∷ []))
    ∙ map-append (λ (x : PackageModel). x.name) (members (packages_view (take i ps)))
    (members (package_view p ∷ []))

-- a list that is found empty, and one that is found not to be
pub found_empty : {A : Type 0} (xs : List A) (n : ℕ) (b : Bool) → b ≡ true → b ≡ (n == 0) → length xs ≡ n
    → xs ≡ []
found_empty [] n b t e l = refl
found_empty (x ∷ xs) n b t e l = let z : n ≡ 0 = eqb-true n 0 (sym e ∙ t) in cc (l ∙ z)

pub found_some : {A : Type 0} (xs : List A) (n : ℕ) (b : Bool) → b ≡ false → b ≡ (n == 0) → length xs ≡ n
    → xs ≢ []
found_some [] n b f e l none = true≢false (ap (λ m. m == 0) l ∙ sym e ∙ f)
found_some (x ∷ xs) n b f e l none = cc

-- nothing comes of nothing alone
pub unmapped : {A B : Type 0} (f : A → B) (xs : List A) → map f xs ≡ [] → xs ≡ []
unmapped f [] h = refl
unmapped f (x ∷ xs) h = cc h
