-- Chains of sources that end: they use no key twice, and lead to a single URL.
use Rattle.std.proofs.Common.{◌≡◌, ◌<◌, ℕ, zero, suc, List, [], ◌∷◌, ◌++◌, Bool, true, false, cond, Option, Some, None, inl, inr, ⊎_elim, refl, ap, sym, ◌∙◌, subst, arith}
use Rattle.std.specs.Prelude.{◌||◌, ◌⊎◌, unwrap_or}
use Rattle.std.specs.Str.{bytes_eq}
use Rattle.std.proofs.lemmas.Bool.{false_from_ne_true}
use Rattle.std.proofs.lemmas.List.Folds.{list_any-append}
use Rattle.std.proofs.lemmas.Slice.Eq.{bytes_eq-Decides}
use Rattle.edit_sources.specs.Configuration as said
use Rattle.edit_sources.specs.SourceReplacement.{Definition, first, is_used, is_default, with_address, named, with_default, head_source_of, head_key, crates_io_index, crates_io, Address, Reaches}
use Rattle.edit_sources.specs.SourceReplacement.Reaches.{head, next}
use Rattle.edit_sources.specs.Definitions.{Leads}

-- ---- options and truth values

pub some_one : {A : Type 0} (a b : A) → Some a ≡ Some b → a ≡ b
some_one a b h = cc

pub some_none : {A : Type 0} (a : A) → Some a ≡ None → ⊥
some_none a h = cc

none_some : {A : Type 0} (a : A) → None ≡ Some a → ⊥
none_some a h = cc

true_false : true ≡ false → ⊥
true_false h = cc

only : (b : Bool) → (b || false) ≡ true → b ≡ true
only true h = refl
only false h = h

-- a key in a list with one more is in the list, or is that one
pub among : (used : List (List ℕ)) (last key : List ℕ) → is_used (used ++ last ∷ []) key ≡ true
    → (is_used used key ≡ true) ⊎ (last ≡ key)
among used last key h =
    either (is_used used key) (sym (list_any-append (λ u. bytes_eq u key) used (last ∷ [])) ∙ h)
  where
    either : (b : Bool) → (b || (bytes_eq last key || false)) ≡ true → (b ≡ true) ⊎ (last ≡ key)
    either true e = inl refl
    either false e = inr ((bytes_eq-Decides last key).0 (only (bytes_eq last key) e))

-- ---- the head

-- the default URL leaves the replacement unchanged
keeps : (b : Bool) (x : said.Source) → (cond b (with_default x) x).replace_with ≡ x.replace_with
keeps true x = refl
keeps false x = refl

some_cond : (b : Bool) (x y : said.Source) → cond b (Some x) (Some y) ≡ Some (cond b x y)
some_cond true x y = refl
some_cond false x y = refl

-- the first source of a chain and the source at its key have the same replacement
alike : (registry : Option (List ℕ)) (key : List ℕ) (o : Option said.Source) (s u : said.Source)
    → head_source_of registry o ≡ Some s → with_address key o ≡ Some u → u.replace_with ≡ s.replace_with
alike registry key None s u begins at = absurd (none_some u at)
alike registry key (Some x) s u begins at =
    let c = bytes_eq key crates_io_index in
    let b = is_default registry in
    let source : cond c (with_default x) x ≡ u = some_one (cond c (with_default x) x) u at in
    let begun : cond b (with_default x) x ≡ s =
    some_one (cond b (with_default x) x) s (sym (some_cond b (with_default x) x) ∙ begins) in
    ap (λ (y : said.Source). y.replace_with) (sym source) ∙ keeps c x ∙ sym (keeps b x)
    ∙ ap (λ (y : said.Source). y.replace_with) begun

-- a registry other than the default one starts at a key other than the default URL
apart : (registry : Option (List ℕ)) → is_default registry ≡ false
    → bytes_eq (head_key registry) crates_io_index ≡ false
apart None h = absurd (true_false h)
apart (Some r) h = subst (λ b. bytes_eq (cond b crates_io r) crates_io_index ≡ false) (sym h) h

addressed_last : (b c : Bool) (x : said.Source) (address : List ℕ) → (b ≡ false → c ≡ false)
    → (cond c (with_default x) x).registry ≡ Some address
    → (cond b (with_default x) x).registry ≡ Some address
addressed_last true true x address h given = given
addressed_last true false x address h given =
    ap (λ (o : Option (List ℕ)). Some (unwrap_or o crates_io_index)) given
addressed_last false true x address h given = absurd (true_false (h refl))
addressed_last false false x address h given = given

leads_too : (ds : List Definition) (address : List ℕ) (n : ℕ) (b c : Bool) (x : said.Source)
    → (b ≡ false → c ≡ false) → Leads ds address n (cond c (with_default x) x)
    → Leads ds address n (cond b (with_default x) x)
leads_too ds address zero b c x h (last, given) =
    (keeps b x ∙ sym (keeps c x) ∙ last, addressed_last b c x address h given)
leads_too ds address (suc n) b c x h (key, names, rest) = (key, keeps b x ∙ sym (keeps c x) ∙ names, rest)

-- if the source at the first key of a chain leads to a URL, the first source leads there
pub head_leads : (ds : List Definition) (registry : Option (List ℕ)) (address : List ℕ) (n : ℕ)
    (o : Option said.Source) (u : said.Source)
    → with_address (head_key registry) o ≡ Some u → Leads ds address n u
    → (s : said.Source) × (head_source_of registry o ≡ Some s) × Leads ds address n s
head_leads ds registry address n None u at leads = absurd (none_some u at)
head_leads ds registry address n (Some x) u at leads =
    let b = is_default registry in
    let c = bytes_eq (head_key registry) crates_io_index in
    let source : u ≡ cond c (with_default x) x = sym (some_one (cond c (with_default x) x) u at) in (
      cond b (with_default x) x,
      some_cond b (with_default x) x,
      leads_too ds address n b c x (apart registry) (subst (Leads ds address n) source leads),
    )

-- ---- a chain that has an end

leads_alike : (ds : List Definition) (address : List ℕ) (n : ℕ) (s u : said.Source)
    → u.replace_with ≡ s.replace_with → Leads ds address (suc n) s → Leads ds address (suc n) u
leads_alike ds address n s u same (key, names, rest) = (key, same ∙ names, rest)

-- the source at a key that was used leads on for at least as long as the last one
again : (ds : List Definition) (registry : Option (List ℕ)) (key address : List ℕ) (u : said.Source)
    (used : List (List ℕ)) (s : said.Source) → Reaches ds registry used s → (n : ℕ)
    → is_used used key ≡ true → named ds key ≡ Some u → Leads ds address (suc n) s
    → (m : ℕ) × (n < m) × Leads ds address m u
again ds registry key address u used s (head s' begins) n there at leads =
    let same : head_key registry ≡ key =
    (bytes_eq-Decides (head_key registry) key).0 (only (bytes_eq (head_key registry) key) there) in
    let here : named ds (head_key registry) ≡ Some u = ap (named ds) same ∙ at in (
      suc n,
      omega arith,
      leads_alike ds address n s' u
          (alike registry (head_key registry) (first (head_key registry) ds) s' u begins here) leads,
    )
again ds registry key address u used s (next before s' t last reaches names unused is) n there at leads =
    ⊎_elim
    (λ earlier. let more : Leads ds address (suc (suc n)) s' = (last, names, (t, is, leads)) in
    let r = again ds registry key address u before s' reaches (suc n) earlier at more in
    (r.0, omega (arith, r.1), r.2))
    (λ same. (
      suc n,
      omega arith,
      subst (Leads ds address (suc n))
          (some_one t u (sym is ∙ ap (named ds) same ∙ at)) leads,
    ))
    (among before last key there)

-- the number of replacements up to the end is unique
one_length : (ds : List Definition) (a b : List ℕ) (n m : ℕ) (s : said.Source) → Leads ds a n s
    → Leads ds b m s → n ≡ m
one_length ds a b zero zero s x y = refl
one_length ds a b zero (suc m) s (last, given) (key, names, rest) = absurd
    (some_none key (sym names ∙ last))
one_length ds a b (suc n) zero s (key, names, rest) (last, given) = absurd
    (some_none key (sym names ∙ last))
one_length ds a b (suc n) (suc m) s (key, names, (t, is, leads)) (other, also, (v, found, leads')) =
    let same : key ≡ other = some_one key other (sym names ∙ also) in
    let source : t ≡ v = some_one t v (sym is ∙ ap (named ds) same ∙ found) in
    ap (λ k. suc k) (one_length ds a b n m t leads (subst (Leads ds b m) (sym source) leads'))

-- a chain that ends uses no key twice
unused : (ds : List Definition) (registry : Option (List ℕ)) (used : List (List ℕ)) (s t : said.Source)
    (key address : List ℕ) (n : ℕ) → Reaches ds registry used s → s.replace_with ≡ Some key
    → named ds key ≡ Some t → Leads ds address n t → is_used used key ≡ false
unused ds registry used s t key address n reaches names is leads =
    false_from_ne_true (is_used used key) (λ there.
    let more : Leads ds address (suc n) s = (key, names, (t, is, leads)) in
    let r = again ds registry key address t used s reaches n there is more in
    let same = one_length ds address address n r.0 t leads r.2 in
    omega (arith, r.1, same))

-- if a source of the chain leads to a URL, the registry has that URL
pub arrives : (ds : List Definition) (registry : Option (List ℕ)) (address : List ℕ) (n : ℕ)
    (used : List (List ℕ)) (s : said.Source) → Reaches ds registry used s → Leads ds address n s
    → Address ds registry address
arrives ds registry address zero used s reaches (last, given) =
    record { source = s; ends = record { used = used; reaches = reaches; last = last }; given = given }
arrives ds registry address (suc n) used s reaches (key, names, (t, is, leads)) =
    arrives ds registry address n (used ++ key ∷ []) t
    (next used s t key reaches names
    (unused ds registry used s t key address n reaches names is leads) is) leads
