-- A registry has a single URL, and a file has a single configuration or none.
use Rattle.std.proofs.Common.{◌≡◌, ℕ, List, [], ◌∷◌, ◌++◌, Option, Some, None, Result, Ok, refl, ap, sym, ◌∙◌, subst}
use Rattle.url.specs.Parser.{parse_url}
use Rattle.url.specs.Parts.{Parts}
use Rattle.edit_sources.specs.Configuration.{Configuration, Source, HasConfiguration, IsMalformedConfig, configuration_of}
use Rattle.edit_sources.specs.Configuration.IsMalformedConfig.{not_utf8, not_toml, misshapen}
use Rattle.edit_sources.specs.Configured.{HasAddress, all_definitions}
use Rattle.edit_sources.specs.SourceReplacement.{Address, Definition, EndsAt, Reaches, head_source, named}
use Rattle.edit_sources.specs.SourceReplacement.Reaches.{head, next}
use Rattle.edit_sources.specs.declared.config.Config.{Config}

-- equal answers hold equal values
some_one : {A : Type 0} (a b : A) → Some a ≡ Some b → a ≡ b
some_one a b h = cc

read_one : {A E : Type 0} (r : Result A E) (a b : A) → r ≡ Ok a → r ≡ Ok b → a ≡ b
read_one r a b x y = cc

some_none : {A : Type 0} (a : A) → Some a ≡ None → ⊥
some_none a h = cc

-- keys that lead from one source to another
abbrev pub Follows : List Definition → List (List ℕ) → Source → Source → Type 0
Follows ds [] s t = s ≡ t
Follows ds (key ∷ keys) s t = (s.replace_with ≡ Some key)
    × ((u : Source) × (named ds key ≡ Some u) × Follows ds keys u t)

-- one key more
further : (ds : List Definition) (keys : List (List ℕ)) (h s t : Source) (key : List ℕ)
    → Follows ds keys h s → s.replace_with ≡ Some key → named ds key ≡ Some t
    → Follows ds (keys ++ key ∷ []) h t
further ds [] h s t key same names is = (ap (λ x. x.replace_with) same ∙ names, (t, is, refl))
further ds (k ∷ keys) h s t key (first, (u, found, rest)) names is =
    (first, (u, found, further ds keys u s t key rest names is))

-- a source that can be reached from the first key
record FromHead (ds : List Definition) (registry : Option (List ℕ)) (t : Source) : Type 0 where
  begin : Source
  is : head_source ds registry ≡ Some begin
  keys : List (List ℕ)
  follows : Follows ds keys begin t

-- a chain is followed from its first key
from_head : (ds : List Definition) (registry : Option (List ℕ)) (used : List (List ℕ)) (s : Source)
    → Reaches ds registry used s → FromHead ds registry s
from_head ds registry used s (head s' is) = record { begin = s'; is = is; keys = []; follows = refl }
from_head ds registry used t (next before s t' key reaches names unused is) =
    let h = from_head ds registry before s reaches in
    record {
      begin = h.begin;
      is = h.is;
      keys = h.keys ++ key ∷ [];
      follows = further ds h.keys h.begin s t' key h.follows names is;
    }

-- two chains from one source that both reach a last source reach the same one
one_last : (ds : List Definition) (ks ls : List (List ℕ)) (h s t : Source)
    → Follows ds ks h s → Follows ds ls h t → s.replace_with ≡ None → t.replace_with ≡ None → s ≡ t
one_last ds [] [] h s t a b last end = sym a ∙ b
one_last ds [] (k ∷ ls) h s t a b last end =
    absurd (some_none k (sym b.0 ∙ ap (λ x. x.replace_with) a ∙ last))
one_last ds (k ∷ ks) [] h s t a b last end = absurd (some_none k (sym a.0 ∙ ap (λ x. x.replace_with) b ∙ end))
one_last ds (k ∷ ks) (l ∷ ls) h s t (names, (u, found, follows)) (names', (v, found', follows')) last end =
    let key = some_one k l (sym names ∙ names') in
    let same = some_one u v (sym found ∙ ap (named ds) key ∙ found') in
    one_last ds ks ls u s t follows (subst (λ x. Follows ds ls x t) (sym same) follows') last end

-- the last source of a chain is one
pub one_end : (ds : List Definition) (registry : Option (List ℕ)) (s t : Source) → EndsAt ds registry s
    → EndsAt ds registry t → s ≡ t
one_end ds registry s t a b =
    let h = from_head ds registry a.used s a.reaches in
    let k = from_head ds registry b.used t b.reaches in
    let same = some_one k.begin h.begin (sym k.is ∙ h.is) in
    one_last ds h.keys k.keys h.begin s t h.follows
    (subst (λ x. Follows ds k.keys x t) same k.follows) a.last b.last

-- a registry has a single address
pub one_address : (ds : List Definition) (registry : Option (List ℕ)) (a b : List ℕ) → Address ds registry a
    → Address ds registry b → a ≡ b
one_address ds registry a b x y =
    some_one a b (sym x.given ∙ ap (λ s. s.registry) (one_end ds registry x.source y.source x.ends y.ends) ∙
    y.given)

-- a registry has a single URL
pub one_url : (configs : List Config) (registry : Option (List ℕ)) (a b : Parts)
    → HasAddress configs registry a → HasAddress configs registry b → a ≡ b
one_url configs registry a b x y =
    let text = one_address (all_definitions configs) registry x.text y.text x.address y.address in
    read_one (parse_url None x.text) a b x.reads (ap (parse_url None) text ∙ y.reads)

-- a file has a single configuration
pub one_saying : (bytes : List ℕ) (a b : Configuration) → HasConfiguration bytes a
    → HasConfiguration bytes b → a ≡ b
one_saying bytes a b x y =
    let members = some_one x.members y.members (sym x.toml ∙ y.toml) in
    some_one a b (sym x.reads ∙ ap configuration_of members ∙ y.reads)

-- a file with a configuration is not malformed
pub says_or_nothing : (bytes : List ℕ) (said : Configuration) → HasConfiguration bytes said
    → IsMalformedConfig bytes → ⊥
says_or_nothing bytes said s (not_utf8 other) = other s.utf8
says_or_nothing bytes said s (not_toml none) = some_none s.members (sym s.toml ∙ none)
says_or_nothing bytes said s (misshapen members is none) =
    let same = some_one s.members members (sym s.toml ∙ is) in
    some_none said (sym s.reads ∙ ap configuration_of same ∙ none)
