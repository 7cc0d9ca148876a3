-- The crates that were looked up so far.
use Rattle.std.proofs.Common.{◌≡◌, ◌∷◌, ◌++◌, ◌∙◌, [], Bool, List, ℕ, ap, false, inl, inr, map, refl, subst, sym, true}
use Rattle.std.specs.Prelude.{◌||◌, fold, if◌then◌else◌}
use Rattle.std.specs.List.{filter, filter_map, list_any}
use Rattle.std.specs.Str.{bytes_eq}
use Rattle.std.proofs.lemmas.Bool.{cases_Bool}
use Rattle.std.proofs.lemmas.List.{map-append}
use Rattle.std.proofs.lemmas.List.Elements.{filter-append, filter_map-append}
use Rattle.std.proofs.lemmas.Grind.{fold-append}
use Rattle.std.proofs.lemmas.Slice.Eq.{bytes_eq-Decides}
use Rattle.edit_lock_bounds.specs.Changes.{is_text_of}
use Rattle.edit_lock_bounds.specs.Lookups.{Lookup, is_same_lookup, lookup_of, with_lookup, with_lookups}
use Rattle.edit_lock_bounds.specs.LockPackages.{Package}

-- the order of two texts that are compared does not matter
bytes_eq-sym : (a b : List ℕ) → bytes_eq a b ≡ bytes_eq b a
bytes_eq-sym a b = elim (cases_Bool (bytes_eq a b)) [
  | inl same ↦ let e : a ≡ b = (bytes_eq-Decides a b).0 same in
      subst (λ (x : List ℕ). bytes_eq a x ≡ bytes_eq x a) e refl
  | inr other ↦ elim (cases_Bool (bytes_eq b a)) [
    | inl same ↦ let e : b ≡ a = (bytes_eq-Decides b a).0 same in
        subst (λ (x : List ℕ). bytes_eq x b ≡ bytes_eq b x) e refl
    | inr others ↦ other ∙ sym others
  ]
]

-- a crate is one of some where its source is one of those at its name
pub seen-same : (a : Lookup) (ls : List Lookup)
    → is_text_of (map (λ l. l.source) (filter (λ l. bytes_eq a.name l.name) ls)) a.source
    ≡ list_any (λ b. is_same_lookup b a) ls
seen-same a [] = refl
seen-same a (l ∷ ls) = elim (cases_Bool (bytes_eq a.name l.name)) [
  | inl same ↦ let other : bytes_eq l.name a.name ≡ true = bytes_eq-sym l.name a.name ∙ same in
      rw (same, other) (ap (λ b. bytes_eq l.source a.source || b) (seen-same a ls))
  | inr differs ↦ let other : bytes_eq l.name a.name ≡ false = bytes_eq-sym l.name a.name ∙ differs in
      rw (differs, other) (seen-same a ls)
]

-- a crate that is one of those so far changes nothing
pub with-seen : (a : Lookup) (ls : List Lookup) → list_any (λ b. is_same_lookup b a) ls ≡ true
    → ls ≡ with_lookup ls a
with-seen a ls h = rw h refl

-- a crate that is none of those so far comes behind them
pub with-new : (a : Lookup) (ls : List Lookup) → list_any (λ b. is_same_lookup b a) ls ≡ false
    → ls ++ a ∷ [] ≡ with_lookup ls a
with-new a ls h = rw h refl

one-named : (a : Lookup) (b : Bool) → (if b then a.source ∷ [] else [])
    ≡ map (λ l. l.source) (if b then a ∷ [] else [])
one-named a true = refl
one-named a false = refl

-- the sources at a name, with one crate more
pub seen-more : (q : List ℕ) (a : Lookup) (ls : List Lookup)
    → map (λ l. l.source) (filter (λ l. bytes_eq q l.name) ls) ++ (if bytes_eq q a.name then a.source ∷ [] else [])
    ≡ map (λ l. l.source) (filter (λ l. bytes_eq q l.name) (ls ++ a ∷ []))
seen-more q a ls =
    let named : Lookup → Bool = λ l. bytes_eq q l.name in
    ap (λ (xs : List (List ℕ)). map (λ l. l.source) (filter named ls) ++ xs) (one-named a (bytes_eq q a.name))
    ∙ sym (ap (λ (xs : List Lookup). map (λ l. l.source) xs) (filter-append named ls (a ∷ []))
    ∙ map-append (λ l. l.source) (filter named ls) (filter named (a ∷ [])))

-- the crates of packages behind those of others
pub with_lookups-append : (seen : List Lookup) (ps qs : List Package)
    → with_lookups seen (ps ++ qs) ≡ with_lookups (with_lookups seen ps) qs
with_lookups-append seen ps qs =
    ap (fold with_lookup seen) (filter_map-append lookup_of ps qs)
    ∙ fold-append with_lookup seen (filter_map lookup_of ps) (filter_map lookup_of qs)
