-- The first definition of a key: in a file, and among files.
use Rattle.std.proofs.Common.{◌≡◌, ◌<◌, ◌+◌, ℕ, suc, List, [], ◌∷◌, ◌++◌, Bool, true, false, cond, Option, Some, None, option_map, map, drop, get_or, length, String, string_bytes, refl, ap, ◌∙◌, sym, add-one, drop-cons}
use Rattle.std.specs.Prelude.{◌&&◌, is_none, is_some, not}
use Rattle.std.specs.List.{find}
use Rattle.std.specs.Str.{bytes_eq}
use Rattle.edit_fetch.specs.Addressless.{is_empty_definition, is_empty_source}
use Rattle.edit_sources.specs.Configured.{all_definitions, configuration, registry_entry, source_entry, source_view}
use Rattle.edit_sources.specs.SourceReplacement.{Definition, definitions_of, first, registry_definition, source_definition}
use Rattle.edit_sources.specs.Configuration.{Source}
use Rattle.edit_sources.specs.declared.config.Config.{Config}
use Rattle.edit_sources.specs.declared.config.ConfigSource.{ConfigSource}
use Rattle.std.specs.declared.alloc.Global.{Global}

cond-map : {A B : Type 0} (f : A → B) (b : Bool) (x : A) (o : Option A)
    → cond b (Some (f x)) (option_map f o) ≡ option_map f (cond b (Some x) o)
cond-map f true x o = refl
cond-map f false x o = refl

-- the first definition of a key is that of the first entry with it
pub first-found : {X Y : Type 0} (f : Y → Definition) (g : X → Y) (key : List ℕ) (xs : List X)
    → first key (map f (map g xs))
    ≡ option_map (λ x. (f (g x)).source) (find (λ x. bytes_eq key (f (g x)).key) xs)
first-found f g key [] = refl
first-found f g key (x ∷ xs) =
    ap (λ o. cond (bytes_eq key (f (g x)).key) (Some (f (g x)).source) o) (first-found f g key xs)
    ∙ cond-map (λ y. (f (g y)).source) (bytes_eq key (f (g x)).key) x
    (find (λ y. bytes_eq key (f (g y)).key) xs)

cond-implies : {A : Type 0} (b : Bool) (x s : A) (o p : Option A) → (o ≡ Some s → p ≡ Some s)
    → cond b (Some x) o ≡ Some s → cond b (Some x) p ≡ Some s
cond-implies true x s o p h e = e
cond-implies false x s o p h e = h e

-- a definition that comes first stays first with others behind it
pub first-stays : (key : List ℕ) (xs ys : List Definition) (s : Source) → first key xs ≡ Some s
    → first key (xs ++ ys) ≡ Some s
first-stays key [] ys s e = absurd (cc)
first-stays key (d ∷ xs) ys s e =
    cond-implies (bytes_eq key d.key) d.source s (first key xs) (first key (xs ++ ys)) (first-stays key xs ys s) e

cond-passed : {A : Type 0} (b : Bool) (x : A) (o p q : Option A) → (o ≡ None → p ≡ q)
    → cond b (Some x) o ≡ None → cond b (Some x) p ≡ q
cond-passed true x o p q h e = absurd (cc)
cond-passed false x o p q h e = h e

-- where none of some definitions is of a key, the first is among those behind them
pub first-passed : (key : List ℕ) (xs ys : List Definition) → first key xs ≡ None
    → first key (xs ++ ys) ≡ first key ys
first-passed key [] ys e = refl
first-passed key (d ∷ xs) ys e =
    cond-passed (bytes_eq key d.key) d.source (first key xs) (first key (xs ++ ys)) (first key ys)
    (first-passed key xs ys) e

none-of : (o : Option Source) → option_map is_empty_source o ≡ None → o ≡ None
none-of None e = refl
none-of (Some s) e = absurd (cc)

empty-of : (o p : Option Source) (b : Bool) → ((s : Source) → o ≡ Some s → p ≡ Some s)
    → option_map is_empty_source o ≡ Some b → is_empty_definition p ≡ b
empty-of None p b h e = absurd (cc)
empty-of (Some s) p b h e = ap is_empty_definition (h s refl) ∙ cc

from-here : (configs : List Config) (i : ℕ) (c : Config) → i < length configs → c ≡ get_or configs i c
    → all_definitions (drop i configs)
    ≡ definitions_of (configuration c) ++ all_definitions (drop (i + 1) configs)
from-here configs i c within is =
    ap all_definitions (drop-cons configs i c within)
    ∙ ap (λ d. definitions_of (configuration d) ++ all_definitions (drop (suc i) configs)) (sym is)
    ∙ ap (λ k. definitions_of (configuration c) ++ all_definitions (drop k configs)) (sym (add-one i))

-- a file without the key is skipped
pub passes : (key : List ℕ) (configs : List Config) (i : ℕ) (c : Config) → i < length configs
    → c ≡ get_or configs i c
    → option_map is_empty_source (first key (definitions_of (configuration c))) ≡ None
    → first key (all_definitions (drop i configs)) ≡ first key (all_definitions (drop (i + 1) configs))
passes key configs i c within is none =
    ap (first key) (from-here configs i c within is)
    ∙ first-passed key (definitions_of (configuration c)) (all_definitions (drop (i + 1) configs))
    (none-of (first key (definitions_of (configuration c))) none)

-- a file with the key decides
pub decides : (key : List ℕ) (configs : List Config) (i : ℕ) (c : Config) (b : Bool) → i < length configs
    → c ≡ get_or configs i c
    → option_map is_empty_source (first key (definitions_of (configuration c))) ≡ Some b
    → is_empty_definition (first key (all_definitions (drop i configs))) ≡ b
decides key configs i c b within is found =
    ap (λ ds. is_empty_definition (first key ds)) (from-here configs i c within is)
    ∙ empty-of (first key (definitions_of (configuration c)))
    (first key (definitions_of (configuration c) ++ all_definitions (drop (i + 1) configs))) b
    (λ s e. first-stays key (definitions_of (configuration c))
    (all_definitions (drop (i + 1) configs)) s e) found

-- what `is_none` answers
pub answered-none : {A : Type 0} (o : Option A) (b : Bool) → is_some o ≡ not b → b ≡ is_none o
answered-none o true e = sym (ap not e)
answered-none o false e = sym (ap not e)

without-index : (o : Option (String Global)) → is_none o ≡ (is_none (option_map string_bytes o) && true)
without-index None = refl
without-index (Some x) = refl

-- the definition of a key in `registries` of a file
pub in-registries : (c : Config) (key : List ℕ) (entry : String Global × Option (String Global))
    → find (λ r. bytes_eq key (string_bytes r.0)) c.registries.items ≡ Some entry
    → Some (is_none entry.1) ≡ option_map is_empty_source (first key (definitions_of (configuration c)))
in-registries c key entry found =
    let sources = map source_definition (map source_entry c.sources.items) in
    let here : first key (map registry_definition (map registry_entry c.registries.items))
    ≡ Some (registry_definition (registry_entry entry)).source =
    first-found registry_definition registry_entry key c.registries.items
    ∙ ap (option_map (λ r. (registry_definition (registry_entry r)).source)) found in
    ap Some (without-index entry.1)
    ∙ sym (ap (option_map is_empty_source) (first-stays key
    (map registry_definition (map registry_entry c.registries.items)) sources
    (registry_definition (registry_entry entry)).source here))

-- a key that is not in `registries`
passed-registries : (c : Config) (key : List ℕ)
    → find (λ r. bytes_eq key (string_bytes r.0)) c.registries.items ≡ None
    → first key (definitions_of (configuration c))
    ≡ option_map (λ s. (source_definition (source_entry s)).source)
    (find (λ s. bytes_eq key (string_bytes s.0)) c.sources.items)
passed-registries c key none =
    first-passed key (map registry_definition (map registry_entry c.registries.items))
    (map source_definition (map source_entry c.sources.items))
    (first-found registry_definition registry_entry key c.registries.items
    ∙ ap (option_map (λ r. (registry_definition (registry_entry r)).source)) none)
    ∙ first-found source_definition source_entry key c.sources.items

mapped : (found : Option (String Global × ConfigSource))
    → option_map (λ s. is_empty_source (source_view s.1)) found
    ≡ option_map is_empty_source (option_map (λ s. (source_definition (source_entry s)).source) found)
mapped None = refl
mapped (Some s) = refl

-- the definition of a key in `source` of a file
pub in-sources : (c : Config) (key : List ℕ) (found : Option (String Global × ConfigSource))
    → find (λ r. bytes_eq key (string_bytes r.0)) c.registries.items ≡ None
    → find (λ s. bytes_eq key (string_bytes s.0)) c.sources.items ≡ found
    → option_map (λ s. is_empty_source (source_view s.1)) found
    ≡ option_map is_empty_source (first key (definitions_of (configuration c)))
in-sources c key found none is =
    mapped found
    ∙ sym (ap (option_map is_empty_source) (passed-registries c key none
    ∙ ap (option_map (λ s. (source_definition (source_entry s)).source)) is))
