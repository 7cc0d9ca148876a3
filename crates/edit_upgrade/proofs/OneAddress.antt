-- A chain of sources that ends has one end, and does not break: a registry with an address has no error.
use Rattle.std.proofs.Common.{◌≡◌, ◌<◌, ◌≤◌, ◌+◌, ◌∙◌, ℕ, List, [], ◌∷◌, ◌++◌, Bool, true, false, Option, Some, None, Ok, Err, Result, inl, inr, ⊎_elim, refl, ap, sym, subst, arith, length, length-append}
use Rattle.std.specs.Prelude.{◌⊎◌}
use Rattle.std.proofs.lemmas.Bool.{cases_lt}
use Rattle.edit_base.specs.declared.errors.Error.{Error}
use Rattle.edit_sources.specs.Configuration.{Source}
use Rattle.edit_sources.specs.Configured.{HasAddress, HasNoUrl, all_definitions}
use Rattle.edit_sources.specs.Configured.HasNoUrl.{breaks, no_address, no_head, no_url}
use Rattle.edit_sources.specs.SourceReplacement.{BreaksAt, Definition, EndsAt, Reaches, head_key, head_source, is_used, named}
use Rattle.edit_sources.specs.SourceReplacement.Reaches.{head, next}
use Rattle.edit_sources.specs.declared.config.Config.{Config}
use Rattle.url.specs.Parser.{parse_url}
use Rattle.url.specs.Parts.{Parts}

some_one : {A : Type 0} (a b : A) → Some a ≡ Some b → a ≡ b
some_one a b h = cc

some_none : {A : Type 0} (a : A) → Some a ≡ None → ⊥
some_none a h = cc

true_false : true ≡ false → ⊥
true_false h = cc

ok_err : {A E : Type 0} (a : A) (e : E) (r : Result A E) → r ≡ Ok a → r ≡ Err e → ⊥
ok_err a e r good bad = cc (good, bad)

-- the chain goes on behind a source
record GoesOn (ds : List Definition) (used : List (List ℕ)) (s : Source) : Type 0 where
  key : List ℕ
  after : Source
  names : s.replace_with ≡ Some key
  fresh : is_used used key ≡ false
  found : named ds key ≡ Some after

-- a chain as long as this one is this one, and a shorter one goes on
record Beside (ds : List Definition) (used : List (List ℕ)) (s : Source) (other : List (List ℕ)) (t : Source)
    : Type 0 where
  same : length other ≡ length used → (other ≡ used) × (t ≡ s)
  less : length other < length used → GoesOn ds other t

some_length : (ds : List Definition) (registry : Option (List ℕ)) (used : List (List ℕ)) (s : Source)
    → Reaches ds registry used s → 0 < length used
some_length ds registry _ _ (head s is) = omega arith
some_length ds registry _ _ (next used s t key reach names fresh found) =
    omega (arith, length-append used (key ∷ []))

has_head : (ds : List Definition) (registry : Option (List ℕ)) (used : List (List ℕ)) (s : Source)
    → Reaches ds registry used s → (x : Source) × (head_source ds registry ≡ Some x)
has_head ds registry _ _ (head s is) = (s, is)
has_head ds registry _ _ (next used s t key reach names fresh found) = has_head ds registry used s reach

at_head : (ds : List Definition) (registry : Option (List ℕ)) (s : Source) → head_source ds registry ≡ Some s
    → (other : List (List ℕ)) (t : Source) → Reaches ds registry other t → length other ≡ 1
    → (other ≡ head_key registry ∷ []) × (t ≡ s)
at_head ds registry s is _ _ (head t at) len = (refl, some_one t s (sym at ∙ is))
at_head ds registry s is _ _ (next used u t key reach names fresh found) len =
    absurd (omega (arith, len, length-append used (key ∷ []), some_length ds registry used u reach))

at_next : (ds : List Definition) (registry : Option (List ℕ)) (used : List (List ℕ)) (s t : Source)
    (key : List ℕ) → Reaches ds registry used s → s.replace_with ≡ Some key → named ds key ≡ Some t
    → ((o : List (List ℕ)) (v : Source) → Reaches ds registry o v → Beside ds used s o v)
    → (other : List (List ℕ)) (u : Source) → Reaches ds registry other u → length other ≡ length used + 1
    → (other ≡ used ++ key ∷ []) × (u ≡ t)
at_next ds registry used s t key reach names found beside_it _ _ (head u at) len =
    absurd (omega (arith, len, some_length ds registry used s reach))
at_next ds registry used s t key reach names found beside_it _ _ (next o v u k there k_names k_fresh k_found) len =
    let long : length o ≡ length used = omega (arith, len, length-append o (k ∷ [])) in
    let both = (beside_it o v there).same long in
    let keys : k ≡ key = some_one k key (sym k_names ∙ ap (λ (x : Source). x.replace_with) both.1 ∙ names) in (
      ap (λ (x : List (List ℕ)). x ++ k ∷ []) both.0 ∙ ap (λ (x : List ℕ). used ++ x ∷ []) keys,
      some_one u t (sym k_found ∙ ap (named ds) keys ∙ found),
    )

goes_by : (ds : List Definition) (used other : List (List ℕ)) (s t u : Source) (key : List ℕ)
    → s.replace_with ≡ Some key → is_used used key ≡ false → named ds key ≡ Some t
    → Beside ds used s other u → length other < length used + 1 → GoesOn ds other u
goes_by ds used other s t u key names fresh found near short = elim (cases_lt (length other) (length used)) [
  | inl less ↦ near.less less
  | inr ge ↦
      let both = near.same (omega (arith, short, ge)) in
      subst (λ (o : List (List ℕ)). GoesOn ds o u) (sym both.0)
      (subst (λ (x : Source). GoesOn ds used x) (sym both.1) (record {
        key = key;
        after = t;
        names = names;
        fresh = fresh;
        found = found;
      }))
]

beside : (ds : List Definition) (registry : Option (List ℕ)) (used : List (List ℕ)) (s : Source)
    → Reaches ds registry used s → (other : List (List ℕ)) (t : Source) → Reaches ds registry other t
    → Beside ds used s other t
beside ds registry _ _ (head s is) other t there = record {
  same = λ len. at_head ds registry s is other t there len;
  less = λ short. absurd (omega (arith, short, some_length ds registry other t there));
}
beside ds registry _ _ (next used s t key reach names fresh found) other u there =
    let long = length-append used (key ∷ []) in record {
      same = λ len. at_next ds registry used s t key reach names found
          (λ o v th. beside ds registry used s reach o v th) other u there (omega (arith, len, long));
      less = λ short. goes_by ds used other s t u key names fresh found
          (beside ds registry used s reach other u there) (omega (arith, short, long));
    }

-- a chain beside one that ends: it has that end, or goes on
one_end : (ds : List Definition) (registry : Option (List ℕ)) (used : List (List ℕ)) (s last : Source)
    → Reaches ds registry used s → EndsAt ds registry last → (s ≡ last) ⊎ GoesOn ds used s
one_end ds registry used s last reach ends = elim (cases_lt (length used) (length ends.used)) [
  | inl less ↦ inr ((beside ds registry ends.used last ends.reaches used s reach).less less)
  | inr ge ↦ elim (cases_lt (length ends.used) (length used)) [
    | inl more ↦
        let on = (beside ds registry used s reach ends.used last ends.reaches).less more in
        absurd (some_none on.key (sym on.names ∙ ends.last))
    | inr le ↦ inl ((beside ds registry ends.used last ends.reaches used s reach).same (omega (arith, ge, le))).1
  ]
]

broken_on : (ds : List Definition) (registry : Option (List ℕ)) (key : List ℕ) (b : BreaksAt ds registry key)
    → GoesOn ds b.used b.source → ⊥
broken_on ds registry key b on =
    let keys : on.key ≡ key = some_one on.key key (sym on.names ∙ b.names) in
    ⊎_elim (λ again. true_false (sym again ∙ ap (is_used b.used) (sym keys) ∙ on.fresh))
    (λ missing. some_none on.after (sym on.found ∙ ap (named ds) keys ∙ missing)) b.broken

-- a registry with an address is not refused
pub not_refused : (configs : List Config) (registry : Option (List ℕ)) (address : Parts)
    → HasAddress configs registry address → (e : Error) → HasNoUrl configs registry e → ⊥
not_refused configs registry address has _ (no_head key none) =
    let first = has_head (all_definitions configs) registry has.address.ends.used has.address.source
    has.address.ends.reaches in
    some_none first.0 (sym first.1 ∙ none.undefined)
not_refused configs registry address has _ (breaks key b) =
    ⊎_elim (λ same. some_none _ (sym b.names ∙ ap (λ (x : Source). x.replace_with) same ∙ has.address.ends.last))
    (λ on. broken_on (all_definitions configs) registry _ b on)
    (one_end (all_definitions configs) registry b.used b.source has.address.source b.reaches has.address.ends)
not_refused configs registry address has _ (no_address n) =
    ⊎_elim (λ same. some_none has.text
    (sym has.address.given ∙ ap (λ (x : Source). x.registry) (sym same) ∙ n.none))
    (λ on. some_none on.key (sym on.names ∙ n.ends.last))
    (one_end (all_definitions configs) registry n.ends.used n.source has.address.source n.ends.reaches
    has.address.ends)
not_refused configs registry address has _ (no_url text fault a bad) =
    ⊎_elim (λ same.
    let one : text ≡ has.text = some_one text has.text
    (sym a.given ∙ ap (λ (x : Source). x.registry) same ∙ has.address.given) in
    ok_err address fault (parse_url None has.text) has.reads (ap (parse_url None) (sym one) ∙ bad))
    (λ on. some_none on.key (sym on.names ∙ a.ends.last))
    (one_end (all_definitions configs) registry a.ends.used a.source has.address.source a.ends.reaches
    has.address.ends)
