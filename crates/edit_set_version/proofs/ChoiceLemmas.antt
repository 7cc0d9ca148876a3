-- Induction over lists of crates, and the subsets that they are chosen from.
use Rattle.std.proofs.Common.{◌≡◌, ◌∙◌, ◌+◌, ◌<◌, ℕ, zero, suc, arith, List, [], ◌∷◌, ◌++◌, Bool, true, false, Bor, append-nil, length, map, not, take, get_or, refl, ap, sym}
use Rattle.std.specs.Prelude.{◌&&◌, Contains, Option, if◌then◌else◌, option_to_list}
use Rattle.std.specs.BTreeSet.{contains_text}
use Rattle.std.specs.List.{filter, filter_map, flat_map, join_by}
use Rattle.std.proofs.lemmas.List.{map-append, map_more, take_more}
use Rattle.std.proofs.lemmas.List.Concat.{flat_map-append}
use Rattle.std.proofs.lemmas.List.Elements.{filter-append, filter_map-append}
use Rattle.edit_base.specs.Paths.{texts}
use Rattle.edit_manifest.specs.Versions.{is_inherited}
use Rattle.edit_set_version.specs.Chosen.{SelectionView, Member, is_all_selected, inheriting_members, is_among, is_member_selected}
use Rattle.edit_set_version.proofs.PointedLemmas.{alone}
use Rattle.edit_set_version.specs.SelectedNames.{IsSelectedNames, is_in, is_selected_by}
use Rattle.edit_set_version.specs.declared.choose.Part.TheVariants.{Selected as Asking, Inheriting, Others}
use Rattle.edit_set_version.specs.declared.choose.SelectedNames.{SelectedNames}

-- those that a test keeps, with one more
pub filter_more : {X Y : Type 0} (p : Y → Bool) (f : X → Y) (xs : List X) (i : ℕ) (x : X) → i < length xs
    → x ≡ get_or xs i x
    → filter p (map f (take (i + 1) xs))
    ≡ filter p (map f (take i xs)) ++ (if p (f x) then f x ∷ [] else [])
filter_more {X} {Y} p f xs i x within is =
    ap (filter p) (map_more f xs i x within ∙ ap (λ (z : X). map f (take i xs) ++ f z ∷ []) (sym is))
    ∙ filter-append p (map f (take i xs)) (f x ∷ [])

-- all, with one more
pub each_more : {X Y Z : Type 0} (g : Y → Z) (f : X → Y) (xs : List X) (i : ℕ) (x : X) → i < length xs
    → x ≡ get_or xs i x → map g (map f (take (i + 1) xs)) ≡ map g (map f (take i xs)) ++ g (f x) ∷ []
each_more {X} {Y} g f xs i x within is =
    ap (map g) (map_more f xs i x within ∙ ap (λ (z : X). map f (take i xs) ++ f z ∷ []) (sym is))
    ∙ map-append g (map f (take i xs)) (f x ∷ [])

-- those for which something is there, with one more
pub some_more : {X Y Z : Type 0} (g : Y → Option Z) (f : X → Y) (xs : List X) (i : ℕ) (x : X) → i < length xs
    → x ≡ get_or xs i x
    → filter_map g (map f (take (i + 1) xs)) ≡ filter_map g (map f (take i xs)) ++ option_to_list (g (f x))
some_more {X} {Y} {Z} g f xs i x within is =
    ap (filter_map g) (map_more f xs i x within ∙ ap (λ (z : X). map f (take i xs) ++ f z ∷ []) (sym is))
    ∙ filter_map-append g (map f (take i xs)) (f x ∷ [])
    ∙ ap (λ (zs : List Z). filter_map g (map f (take i xs)) ++ zs) (alone (g (f x)))

-- what each has, with one more
pub spread_more : {X Y Z : Type 0} (g : Y → List Z) (f : X → Y) (xs : List X) (i : ℕ) (x : X) → i < length xs
    → x ≡ get_or xs i x → flat_map g (map f (take (i + 1) xs)) ≡ flat_map g (map f (take i xs)) ++ g (f x)
spread_more {X} {Y} {Z} g f xs i x within is =
    ap (flat_map g) (map_more f xs i x within ∙ ap (λ (z : X). map f (take i xs) ++ f z ∷ []) (sym is))
    ∙ flat_map-append g (map f (take i xs)) (f x ∷ [])
    ∙ ap (λ (zs : List Z). flat_map g (map f (take i xs)) ++ zs) (append-nil (g (f x)))

-- a list that has one more is as far as another list, where that has the same at its next place
pub pushed_more : {X Y Z : Type 0} (f : X → Z) (g : Y → Z) (old new : List X) (x : X) (ys : List Y) (i : ℕ)
    (y : Y) → new ≡ old ++ x ∷ [] → map f old ≡ map g (take i ys) → i < length ys → y ≡ get_or ys i y
    → f x ≡ g y → map f new ≡ map g (take (i + 1) ys)
pushed_more {X} {Y} {Z} f g old new x ys i y pushed far within is same =
    ap (map f) pushed ∙ map-append f old (x ∷ []) ∙ ap (λ (zs : List Z). zs ++ f x ∷ []) far
    ∙ ap (λ (z : Z). map g (take i ys) ++ z ∷ []) (same ∙ ap g is) ∙ sym (map_more g ys i y within)

pub pushed_next : {X Y : Type 0} (f : X → Y) (old new : List X) (x : X) (ys : List Y) (i : ℕ)
    → new ≡ old ++ x ∷ [] → map f old ≡ take i ys → i < length ys → f x ≡ get_or ys i (f x)
    → map f new ≡ take (i + 1) ys
pushed_next {X} {Y} f old new x ys i pushed far within is =
    ap (map f) pushed ∙ map-append f old (x ∷ []) ∙ ap (λ (zs : List Y). zs ++ f x ∷ []) far
    ∙ ap (λ (z : Y). take i ys ++ z ∷ []) is ∙ sym (take_more ys i (f x) within)

-- the element at a place is among all
pub among_all : {X Y : Type 0} (f : X → Y) (xs : List X) (i : ℕ) (x : X) → i < length xs
    → x ≡ get_or xs i x → Contains (map f xs) (f x)
among_all f [] i x within is = absurd (omega (arith, within))
among_all f (y ∷ ys) zero x within is = (zero, omega arith, ap f (sym is))
among_all f (y ∷ ys) (suc i) x within is =
    let there = among_all f ys i x (omega (arith, within)) is in
    (suc there.0, omega (arith, there.1), there.2)

pub element_among : {X : Type 0} (xs : List X) (i : ℕ) (x : X) → i < length xs → x ≡ get_or xs i x
    → Contains xs x
element_among [] i x within is = absurd (omega (arith, within))
element_among (y ∷ ys) zero x within is = (zero, omega arith, sym is)
element_among (y ∷ ys) (suc i) x within is =
    let there = element_among ys i x (omega (arith, within)) is in
    (suc there.0, omega (arith, there.1), there.2)

-- equal elements, where two tests agree
pub filter_same : {X : Type 0} (p q : X → Bool) → ((x : X) → p x ≡ q x) → (xs : List X)
    → filter p xs ≡ filter q xs
filter_same p q same [] = refl
filter_same p q same (x ∷ xs) =
    ap (λ b. if b then x ∷ filter p xs else filter p xs) (same x)
    ∙ ap (λ ys. if q x then x ∷ ys else ys) (filter_same p q same xs)

-- texts in a row
pub joined_texts : (sep : List ℕ) (xs : List (Bor (List ℕ)))
    → join_by (λ (x : Bor (List ℕ)). x.now) sep xs ≡ join_by (λ (t : List ℕ). t) sep (texts xs)
joined_texts sep [] = refl
joined_texts sep (x ∷ xs) = ap (λ ts. x.now ++ ts) (rest xs)
  where
    rest : (ys : List (Bor (List ℕ)))
        → flat_map (λ (y : Bor (List ℕ)). sep ++ y.now) ys ≡ flat_map (λ (t : List ℕ). sep ++ t) (texts ys)
    rest [] = refl
    rest (y ∷ ys) = ap (λ ts. (sep ++ y.now) ++ ts) (rest ys)

-- the deciding set contains each selected member
pub wants_selected : (a : SelectionView) (w : SelectedNames) (m : Member) → IsSelectedNames a w
    → is_selected_by w m ≡ is_member_selected a m
wants_selected a w m is =
    ap (λ b. if b then not (contains_text w.names m.name) else contains_text w.names m.name) is.all
    ∙ ap (λ c. if is_all_selected a then not c else c) (is.names m.name) ∙ by_case (is_all_selected a)
  where
    by_case : (b : Bool)
        → (if b then not (is_among (if b then a.exclude else a.packages) m.name)
        else is_among (if b then a.exclude else a.packages) m.name)
        ≡ (if b then not (is_among a.exclude m.name) else is_among a.packages m.name)
    by_case true = refl
    by_case false = refl

pub selected_part : (a : SelectionView) (w : SelectedNames) (ms : List Member) → IsSelectedNames a w
    → filter (is_in Asking w) ms ≡ filter (is_member_selected a) ms
selected_part a w ms is = filter_same (is_in Asking w) (is_member_selected a) (λ m. wants_selected a w m is) ms

pub inheriting_part : (a : SelectionView) (w : SelectedNames) (ms : List Member) → IsSelectedNames a w
    → filter (is_in Inheriting w) ms ≡ inheriting_members a ms
inheriting_part a w ms is =
    filter_same (is_in Inheriting w) (λ m. is_member_selected a m && is_inherited m.tree)
    (λ m. ap (λ b. b && is_inherited m.tree) (wants_selected a w m is)) ms

pub others_part : (a : SelectionView) (w : SelectedNames) (ms : List Member) → IsSelectedNames a w
    → filter (is_in Others w) ms ≡ filter (λ m. not (is_member_selected a m) && is_inherited m.tree) ms
others_part a w ms is =
    filter_same (is_in Others w) (λ m. not (is_member_selected a m) && is_inherited m.tree)
    (λ m. ap (λ b. not b && is_inherited m.tree) (wants_selected a w m is)) ms
