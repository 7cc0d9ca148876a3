-- Sources without a URL, with one more at the end.
use Rattle.std.proofs.Common.{◌≡◌, ◌<◌, ◌+◌, ℕ, List, [], ◌∷◌, ◌++◌, Bool, true, false, String, get_or, length, map, refl, ap, ◌∙◌, string_bytes, subst, sym, take}
use Rattle.std.specs.Prelude.{◌&&◌, ◌||◌, if◌then◌else◌, not}
use Rattle.std.specs.List.{filter, flat_map, list_any}
use Rattle.std.specs.Str.{bytes_eq}
use Rattle.std.specs.declared.alloc.Global.{Global}
use Rattle.std.proofs.lemmas.List.{append-nil, append_assoc, map_more, take_more}
use Rattle.std.proofs.lemmas.List.Concat.{flat_map-append}
use Rattle.std.proofs.lemmas.List.Elements.{filter-append}
use Rattle.std.proofs.lemmas.Map.Views.{any-filter_same}
use Rattle.std.proofs.lemmas.Slice.Eq.{bytes_eq-Decides}
use Rattle.edit_fetch.specs.Addressless.{Place, each_key_once, is_addressless, place_in, place_of, sources_in, without_address}
use Rattle.edit_fetch.specs.declared.addressless.AddresslessSource.{AddresslessSource}
use Rattle.edit_sources.specs.declared.config.Config.{Config}
use Rattle.edit_sources.specs.declared.config.ConfigSource.{ConfigSource}

-- whether one of some sources has this key
abbrev pub has_key : List ℕ → List Place → Bool
has_key key sources = list_any (λ s. bytes_eq s.0 key) sources

or-and-not : (a b : Bool) → (a || (not a && b)) ≡ (a || b)
or-and-not true b = refl
or-and-not false b = refl

-- leaving out a key that stands before leaves out no key
has_key-once : (key : List ℕ) (sources : List Place) → has_key key (each_key_once sources) ≡ has_key key sources
has_key-once key [] = refl
has_key-once key (source ∷ sources) =
    ap (λ b. bytes_eq source.0 key || b)
    (any-filter_same (λ s. bytes_eq s.0 key) (λ other. not (bytes_eq source.0 other.0))
    (not (bytes_eq source.0 key)) (λ other is. ap (λ k. not (bytes_eq source.0 k))
    ((bytes_eq-Decides other.0 key).0 is)) (each_key_once sources))
    ∙ or-and-not (bytes_eq source.0 key) (has_key key (each_key_once sources))
    ∙ ap (λ b. bytes_eq source.0 key || b) (has_key-once key sources)

-- a source at the end stays where no source before it has its key
once-more : (sources : List Place) (s : Place)
    → each_key_once (sources ++ s ∷ []) ≡ each_key_once sources ++ (if has_key s.0 sources then [] else s ∷ [])
once-more [] s = refl
once-more (source ∷ sources) s =
    ap (λ ss. source ∷ filter (λ other. not (bytes_eq source.0 other.0)) ss) (once-more sources s)
    ∙ ap (λ ss. source ∷ ss) (filter-append (λ other. not (bytes_eq source.0 other.0)) (each_key_once sources)
    (if has_key s.0 sources then [] else s ∷ []))
    ∙ ap (λ ss. source ∷ filter (λ other. not (bytes_eq source.0 other.0)) (each_key_once sources) ++ ss)
    (at_end (bytes_eq source.0 s.0) (has_key s.0 sources) refl)
  where
    at_end : (same seen : Bool) → bytes_eq source.0 s.0 ≡ same
        → filter (λ other. not (bytes_eq source.0 other.0)) (if seen then [] else s ∷ [])
        ≡ (if same || seen then [] else s ∷ [])
    at_end true true e = refl
    at_end false true e = refl
    at_end true false e = ap (λ b. if not b then s ∷ [] else []) e
    at_end false false e = ap (λ b. if not b then s ∷ [] else []) e

-- a source that has a URL changes nothing
passed_over : (configs : List Config) (sources : List Place) (s : Place)
    → is_addressless configs s.0 ≡ false → without_address configs (sources ++ s ∷ []) ≡ without_address configs sources
passed_over configs sources s is =
    ap each_key_once (filter-append (λ o. is_addressless configs o.0) sources (s ∷ [])
    ∙ ap (λ b. filter (λ o. is_addressless configs o.0) sources ++ (if b then s ∷ [] else [])) is
    ∙ append-nil (filter (λ o. is_addressless configs o.0) sources))

more : (configs : List Config) (sources : List Place) (s : Place) → is_addressless configs s.0 ≡ true
    → without_address configs (sources ++ s ∷ [])
    ≡ without_address configs sources ++ (if has_key s.0 (without_address configs sources) then [] else s ∷ [])
more configs sources s is =
    ap each_key_once (filter-append (λ o. is_addressless configs o.0) sources (s ∷ [])
    ∙ ap (λ b. filter (λ o. is_addressless configs o.0) sources ++ (if b then s ∷ [] else [])) is)
    ∙ once-more (filter (λ o. is_addressless configs o.0) sources) s
    ∙ ap (λ b. without_address configs sources ++ (if b then [] else s ∷ []))
    (sym (has_key-once s.0 (filter (λ o. is_addressless configs o.0) sources)))

without_not : (b : Bool) (s : Place) → (if b then [] else s ∷ []) ≡ (if not b then s ∷ [] else [])
without_not true s = refl
without_not false s = refl

-- a source at the end is listed where it has no URL and its key is not listed
listed_more : (configs : List Config) (sources : List Place) (s : Place)
    → without_address configs (sources ++ s ∷ [])
    ≡ without_address configs sources
    ++ (if is_addressless configs s.0 && not (has_key s.0 (without_address configs sources)) then s ∷ [] else [])
listed_more configs sources s = go (is_addressless configs s.0) refl
  where
    go : (b : Bool) → is_addressless configs s.0 ≡ b → without_address configs (sources ++ s ∷ [])
        ≡ without_address configs sources
        ++ (if b && not (has_key s.0 (without_address configs sources)) then s ∷ [] else [])
    go true is =
        more configs sources s is
        ∙ ap (λ ss. without_address configs sources ++ ss)
        (without_not (has_key s.0 (without_address configs sources)) s)
    go false is = passed_over configs sources s is ∙ sym (append-nil (without_address configs sources))

key_of : (key : List ℕ) (found : List AddresslessSource)
    → has_key key (map place_of found) ≡ list_any (λ o. bytes_eq o.key.now key) found
key_of key [] = refl
key_of key (s ∷ found) = ap (λ b. bytes_eq s.key.now key || b) (key_of key found)

-- the sources that are listed, with one more where it has no URL and its key is not listed
pub listed_next : (configs : List Config) (sources : List Place) (found new : List AddresslessSource) (s : Place)
    (unlisted : Bool) → map place_of found ≡ without_address configs sources
    → unlisted ≡ (is_addressless configs s.0 && not (list_any (λ o. bytes_eq o.key.now s.0) found))
    → map place_of new ≡ map place_of found ++ (if unlisted then s ∷ [] else [])
    → map place_of new ≡ without_address configs (sources ++ s ∷ [])
listed_next configs sources found new s unlisted before is next =
    next
    ∙ ap (λ b. map place_of found ++ (if b then s ∷ [] else []))
    (is ∙ ap (λ b. is_addressless configs s.0 && not b) (sym (key_of s.0 found) ∙ ap (has_key s.0) before))
    ∙ ap (λ ps. ps ++ (if is_addressless configs s.0 && not (has_key s.0 (without_address configs sources))
    then s ∷ [] else [])) before
    ∙ sym (listed_more configs sources s)

-- the sources of files, with those of one file more
pub next_file : (configs : List Config) (i : ℕ) (c : Config) → i < length configs → c ≡ get_or configs i c
    → flat_map sources_in (take i configs) ++ sources_in c ≡ flat_map sources_in (take (i + 1) configs)
next_file configs i c within is =
    ap (λ ss. flat_map sources_in (take i configs) ++ ss) (sym (append-nil (sources_in c)))
    ∙ sym (flat_map-append sources_in (take i configs) (c ∷ []))
    ∙ ap (λ d. flat_map sources_in (take i configs ++ d ∷ [])) is
    ∙ sym (ap (flat_map sources_in) (take_more configs i c within))

-- the sources of a file so far, with one more
pub next_source : (before : List Place) (c : Config) (j : ℕ) (s : String Global × ConfigSource)
    → j < length c.sources.items → s ≡ get_or c.sources.items j s
    → (before ++ map (place_in c) (take j c.sources.items)) ++ place_in c s ∷ []
    ≡ before ++ map (place_in c) (take (j + 1) c.sources.items)
next_source before c j s within is =
    append_assoc before (map (place_in c) (take j c.sources.items)) (place_in c s ∷ [])
    ∙ ap (λ e. before ++ (map (place_in c) (take j c.sources.items) ++ place_in c e ∷ [])) is
    ∙ sym (ap (λ ss. before ++ ss) (map_more (place_in c) c.sources.items j s within))

-- the sources that are listed, with the next source of a file
pub listed_so_far : (configs : List Config) (before : List Place) (c : Config) (j : ℕ)
    (entries : List (String Global × ConfigSource)) (s : String Global × ConfigSource)
    (found new : List AddresslessSource) (key file : List ℕ) (unlisted : Bool)
    → entries ≡ c.sources.items → j < length entries → s ≡ get_or entries j s
    → key ≡ string_bytes s.0 → file ≡ string_bytes c.path
    → map place_of found ≡ without_address configs (before ++ map (place_in c) (take j c.sources.items))
    → unlisted ≡ (is_addressless configs key && not (list_any (λ o. bytes_eq o.key.now key) found))
    → map place_of new ≡ map place_of found ++ (if unlisted then (key, file) ∷ [] else [])
    → map place_of new ≡ without_address configs (before ++ map (place_in c) (take (j + 1) c.sources.items))
listed_so_far configs before c j entries s found new key file unlisted all within is named at held no_url next =
    listed_next configs (before ++ map (place_in c) (take j c.sources.items)) found new (place_in c s) unlisted held
    (no_url ∙ ap (λ k. is_addressless configs k && not (list_any (λ o. bytes_eq o.key.now k) found)) named)
    (next
    ∙ ap (λ k. map place_of found ++ (if unlisted then (k, file) ∷ [] else [])) named
    ∙ ap (λ f. map place_of found ++ (if unlisted then (string_bytes s.0, f) ∷ [] else [])) at)
    ∙ ap (without_address configs) (next_source before c j s
    (subst (λ es. j < length es) all within) (is ∙ ap (λ es. get_or es j s) all))
