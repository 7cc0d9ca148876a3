-- The first definition of a key, in lists and in the map of a chain.
use Rattle.std.proofs.Common.{◌≡◌, ◌<◌, ◌+◌, ℕ, length, map, take, get_or, List, [], ◌∷◌, ◌++◌, Bool, true, false, cond, Option, Some, None, option_map, BTreeMap, Bor, refl, ap, sym, ◌∙◌}
use Rattle.std.specs.Str.{bytes_eq}
use Rattle.std.proofs.lemmas.Bool.Decides.{same_from_decides}
use Rattle.std.proofs.lemmas.Slice.Eq.{bytes_eq-Decides}
use Rattle.std.proofs.lemmas.List.{map_more, map_push, flat_map_more}
use Rattle.edit_sources.specs.Configuration.{Configuration}
use Rattle.edit_sources.specs.SourceReplacement.{Definition, first, definitions_of, definitions, registry_definition, source_definition}
use Rattle.edit_sources.specs.Sources.{source_texts, found, or_else, Adds}
use Rattle.edit_sources.specs.declared.registry.chain.Source.{Source}

pub bytes_eq_comm : (a b : List ℕ) → bytes_eq a b ≡ bytes_eq b a
bytes_eq_comm a b = same_from_decides (bytes_eq a b) (bytes_eq b a) (bytes_eq-Decides a b)
    (λ e. sym ((bytes_eq-Decides b a).0 e), λ p. (bytes_eq-Decides b a).1 (sym p))

-- a map that gets a source at a key that it lacks
pub option_map-added : (b : Bool) (w : Source) (o : Option Source) → (b ≡ true → o ≡ None)
    → option_map source_texts (cond b (Some w) o) ≡ or_else (option_map source_texts o)
    (cond b (Some (source_texts w)) None)
option_map-added true w o absent = rw (absent refl)
option_map-added false w None absent = refl
option_map-added false w (Some x) absent = refl

or_else_assoc : {A : Type 0} (a b c : Option A) → or_else (or_else a b) c ≡ or_else a (or_else b c)
or_else_assoc None b c = refl
or_else_assoc (Some x) b c = refl

chosen : {A : Type 0} (b : Bool) (x : A) (o p : Option A)
    → cond b (Some x) (or_else o p) ≡ or_else (cond b (Some x) o) p
chosen true x o p = refl
chosen false x o p = refl

pub first-append : (key : List ℕ) (xs ys : List Definition)
    → first key (xs ++ ys) ≡ or_else (first key xs) (first key ys)
first-append key [] ys = refl
first-append key (d ∷ xs) ys = ap (λ o. cond (bytes_eq key d.key) (Some d.source) o)
    (first-append key xs ys) ∙ chosen (bytes_eq key d.key) d.source (first key xs) (first key ys)

-- definitions added in two steps
pub Adds_more : (a b c : BTreeMap (Bor (List ℕ)) Source) (xs ys : List Definition) → Adds a b xs → Adds b c ys
    → Adds a c (xs ++ ys)
Adds_more a b c xs ys early late = λ key.
    late key ∙ ap (λ o. or_else o (first key ys)) (early key) ∙
    or_else_assoc (found a key) (first key xs) (first key ys) ∙
    ap (or_else (found a key)) (sym (first-append key xs ys))

-- one entry more of a list of entries
pub Adds_turn : {X Y : Type 0} (f : Y → Definition) (g : X → Y) (a b c : BTreeMap (Bor (List ℕ)) Source)
    (xs : List X) (i : ℕ) (x : X) (d : Definition)
    → i < length xs → x ≡ get_or xs i x → d ≡ f (g x) → Adds a b (map f (map g (take i xs)))
    → Adds b c (d ∷ []) → Adds a c (map f (map g (take (i + 1) xs)))
Adds_turn f g a b c xs i x d within is same early late =
    let more : map f (map g (take (i + 1) xs)) ≡ map f (map g (take i xs)) ++ d ∷ []
    = ap (map f) (map_more g xs i x within ∙ ap (λ y. map g (take i xs) ++ g y ∷ []) (sym is)) ∙
    map_push f (map g (take i xs)) (g x) ∙ ap (λ e. map f (map g (take i xs)) ++ e ∷ []) (sym same) in
    λ key. Adds_more a b c (map f (map g (take i xs))) (d ∷ []) early late key ∙
    ap (λ ds. or_else (found a key) (first key ds)) (sym more)

-- one file more
pub found_turn : {X : Type 0} (g : X → Configuration) (a b c : BTreeMap (Bor (List ℕ)) Source) (xs : List X)
    (i : ℕ) (x : X)
    → i < length xs → x ≡ get_or xs i x
    → ((key : List ℕ) → found a key ≡ first key (definitions (map g (take i xs))))
    → Adds a b (map registry_definition (g x).registries) → Adds b c (map source_definition (g x).sources)
    → (key : List ℕ) → found c key ≡ first key (definitions (map g (take (i + 1) xs)))
found_turn g a b c xs i x within is so_far early late key =
    let all : definitions (map g (take (i + 1) xs)) ≡ definitions (map g (take i xs)) ++ definitions_of (g x)
    = ap definitions (map_more g xs i x within ∙ ap (λ y. map g (take i xs) ++ g y ∷ []) (sym is)) ∙
    sym (flat_map_more definitions_of [] (map g (take i xs)) (g x)) in
    Adds_more a b c (map registry_definition (g x).registries)
    (map source_definition (g x).sources) early late key
    ∙ ap (λ o. or_else o (first key (definitions_of (g x)))) (so_far key)
    ∙ sym (first-append key (definitions (map g (take i xs))) (definitions_of (g x)))
    ∙ ap (first key) (sym all)
