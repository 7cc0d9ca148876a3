-- Invariants of the definitions while chains are followed: only keys that are left are passed, and they lead
-- to the end.
use Rattle.std.proofs.Common.{◌≡◌, ℕ, suc, List, [], ◌∷◌, ◌++◌, Bool, true, false, cond, Option, Some, None, option_map, String, Global, string_bytes, inl, inr, ⊎_elim, refl, ap, sym, ◌∙◌, subst}
use Rattle.std.specs.Prelude.{◌||◌, ◌⊎◌}
use Rattle.std.specs.Str.{bytes_eq}
use Rattle.edit_base.specs.Errors.{IsMemory}
use Rattle.edit_base.specs.declared.errors.Error.{Error}
use Rattle.edit_base.specs.declared.errors.Error.TheVariants.{RegistryNotFound, SourceNotFound}
use Rattle.edit_sources.specs.Configuration as said
use Rattle.edit_sources.specs.SourceReplacement.{first, is_used, with_address, head_source_of, head_key, crates_io_index, crates_io, Address, Reaches, HasNoHead, HasNoAddress, BreaksAt}
use Rattle.edit_sources.specs.SourceReplacement.Reaches.{head, next}
use Rattle.edit_sources.specs.Configured.{all_definitions, HasNoUrl}
use Rattle.edit_sources.specs.Configured.HasNoUrl.{no_head, breaks}
use Rattle.edit_sources.specs.Definitions.{Defines, HasNoSourceLeft, Leads, LeadsTo, RemovesSource, end_at}
use Rattle.edit_sources.specs.Sources.{source_texts, found}
use Rattle.edit_sources.specs.declared.config.Config.{Config}
use Rattle.edit_sources.specs.declared.registry.chain.Source.{Source}
use Rattle.edit_sources.specs.declared.registry.definitions.Definitions.{Definitions}
use Rattle.edit_sources.proofs.ChainLemmas.{among, arrives, head_leads, some_none, some_one}
use Rattle.edit_sources.proofs.KeyLemmas.{held, one_more, same_ends}

-- ---- following a chain

-- the chain was followed to this source, past these keys after the first one: every other key has its first
-- definition left, and if the source leads to a URL, so do the keys
pub record IsWalk (configs : List Config) (registry : Option (List ℕ)) (d : Definitions)
    (keys : List (List ℕ)) (s : said.Source) : Type 0 where
  pub reaches : Reaches (all_definitions configs) registry (head_key registry ∷ keys) s
  pub left : (q : List ℕ) → end_at d q ≡ None → found d.left q
      ≡ cond (is_used keys q) None (first q (all_definitions configs))
  pub ends : (key address : List ℕ) → end_at d key ≡ Some address
      → LeadsTo (all_definitions configs) key address
  pub leads : (address : List ℕ) (n : ℕ) → Leads (all_definitions configs) address n s
      → (q : List ℕ) → is_used keys q ≡ true → LeadsTo (all_definitions configs) q address

-- a key whose definition is left was not used
fresh : (key : List ℕ) (b : Bool) (o : Option said.Source) (s : said.Source)
    → with_address key (cond b None o) ≡ Some s → (b ≡ false) × (with_address key o ≡ Some s)
fresh key true o s h = absurd (some_none s (sym h))
fresh key false o s h = (refl, h)

-- a key without a definition left was used or is not defined
missing : {A : Type 0} (b : Bool) (o : Option A) → cond b None o ≡ None → (b ≡ true) ⊎ (o ≡ None)
missing true o h = inl refl
missing false o h = inr h

neither : (a b : Bool) → a ≡ false → b ≡ false → (a || b) ≡ false
neither true b h k = h
neither false b h k = k

left_true : (a b : Bool) → a ≡ true → (a || b) ≡ true
left_true true b h = refl
left_true false b h = absurd (cc)

right_true : (a b : Bool) → b ≡ true → (a || b) ≡ true
right_true true b h = refl
right_true false b h = h

false_true : false ≡ true → ⊥
false_true h = cc

-- the chain at its first source
pub walk_start : (configs : List Config) (registry : Option (List ℕ)) (key : List ℕ) (d : Definitions)
    (o : Option Source) (s : said.Source)
    → key ≡ head_key registry → Defines configs d → end_at d (head_key registry) ≡ None
    → o ≡ held key d.left → head_source_of registry (option_map source_texts o) ≡ Some s
    → IsWalk configs registry d [] s
walk_start configs registry key d o s is defines unknown value got = record {
  reaches = head s (ap (head_source_of registry) (sym (ap (option_map source_texts) value
      ∙ ap (found d.left) is ∙ defines.left (head_key registry) unknown)) ∙ got);
  left = defines.left;
  ends = defines.ends;
  leads = λ address n leads q h. absurd (false_true h);
}

-- the chain with one source more
pub walk_next : (configs : List Config) (registry : Option (List ℕ)) (beginning key : List ℕ)
    (old new : Definitions) (keys : List (List ℕ)) (s t : said.Source)
    → beginning ≡ head_key registry → IsWalk configs registry old keys s → s.replace_with ≡ Some key
    → end_at old key ≡ None → RemovesSource beginning key old new t
    → IsWalk configs registry new (keys ++ key ∷ []) t
walk_next configs registry beginning key old new keys s t is w names unknown takes =
    let ds = all_definitions configs in
    let here = fresh key (is_used keys key) (first key ds) t
    (ap (with_address key) (sym (w.left key unknown)) ∙ takes.source) in
    let apart : bytes_eq (head_key registry) key ≡ false =
    ap (λ k. bytes_eq k key) (sym is) ∙ takes.apart in
    record {
      reaches = next (head_key registry ∷ keys) s t key w.reaches names
          (neither (bytes_eq (head_key registry) key) (is_used keys key) apart here.0) here.1;
      left = λ q none. takes.left q
          ∙ ap (cond (bytes_eq key q) None) (w.left q (sym (same_ends old new takes.ends q) ∙ none))
          ∙ one_more keys key q None (first q ds);
      ends = λ k a h. w.ends k a (sym (same_ends old new takes.ends k) ∙ h);
      leads = λ address n leads q used. ⊎_elim
          (λ earlier. w.leads address (suc n) (key, names, (t, here.1, leads)) q earlier)
          (λ same. subst (λ k. LeadsTo ds k address) same
          (record { source = t; is = here.1; links = n; leads = leads })) (among keys key q used);
    }

-- the chain at a key whose URL is stored
pub walk_meets : (configs : List Config) (registry : Option (List ℕ)) (key address : List ℕ)
    (d : Definitions) (keys : List (List ℕ)) (s : said.Source)
    → IsWalk configs registry d keys s → s.replace_with ≡ Some key → end_at d key ≡ Some address
    → (n : ℕ) × Leads (all_definitions configs) address n s
walk_meets configs registry key address d keys s w names ends_there =
    let k = w.ends key address ends_there in (suc k.links, (key, names, (k.source, k.is, k.leads)))

-- the URL of the registry
pub walk_arrives : (configs : List Config) (registry : Option (List ℕ)) (address : List ℕ)
    (d : Definitions) (keys : List (List ℕ)) (s : said.Source)
    → IsWalk configs registry d keys s → (n : ℕ) × Leads (all_definitions configs) address n s
    → Address (all_definitions configs) registry address
walk_arrives configs registry address d keys s w leads =
    arrives (all_definitions configs) registry address leads.0 (head_key registry ∷ keys) s w.reaches leads.1

address_end : (b : Bool) (o : Option (List ℕ)) (address a : List ℕ) → cond b (Some address) o ≡ Some a
    → ((b ≡ true) × (address ≡ a)) ⊎ (o ≡ Some a)
address_end true o address a h = inl (refl, some_one address a h)
address_end false o address a h = inr h

address_none : (b : Bool) (o : Option (List ℕ)) (address : List ℕ) → cond b (Some address) o ≡ None
    → (b ≡ false) × (o ≡ None)
address_none true o address h = absurd (some_none address h)
address_none false o address h = (refl, h)

-- the URL is stored for each key that was passed
pub walk_keeps : (configs : List Config) (registry : Option (List ℕ)) (address : List ℕ)
    (old new : Definitions) (keys : List (List ℕ)) (s : said.Source)
    → IsWalk configs registry old keys s → (n : ℕ) × Leads (all_definitions configs) address n s
    → new.left ≡ old.left
    → ((q : List ℕ) → end_at new q ≡ cond (is_used keys q) (Some address) (end_at old q))
    → Defines configs new
walk_keeps configs registry address old new keys s w leads same ends_there =
    let ds = all_definitions configs in
    record {
      ends = λ key a h. ⊎_elim
          (λ x. subst (LeadsTo ds key) x.1 (w.leads address leads.0 leads.1 key x.0))
          (λ x. w.ends key a x)
          (address_end (is_used keys key) (end_at old key) address a (sym (ends_there key) ∙ h));
      left = λ key h.
          let x = address_none (is_used keys key) (end_at old key) address (sym (ends_there key) ∙ h) in
          ap (λ m. found m key) same ∙ w.left key x.1 ∙ ap (λ b. cond b None (first key ds)) x.0;
    }

-- ---- errors, and the first key alone

-- the URL of a registry whose first key has a stored one
pub head_arrives : (configs : List Config) (registry : Option (List ℕ)) (address : List ℕ)
    (d : Definitions) → Defines configs d → end_at d (head_key registry) ≡ Some address
    → Address (all_definitions configs) registry address
head_arrives configs registry address d defines ends_there =
    let ds = all_definitions configs in
    let k = defines.ends (head_key registry) address ends_there in
    let h = head_leads ds registry address k.links (first (head_key registry) ds) k.source k.is k.leads in
    arrives ds registry address k.links (head_key registry ∷ []) h.0 (head h.0 h.1) h.2

head_by : (b : Bool) (registry : List ℕ) (s : said.Source) (o : Option said.Source) → cond b (Some s) o ≡ None
    → Some registry ≡ Some (cond b crates_io registry)
head_by true registry s o h = absurd (some_none s h)
head_by false registry s o h = refl

-- a registry whose first key is not defined is that key
head_is : (registry : Option (List ℕ)) (o : Option said.Source) → head_source_of registry o ≡ None
    → registry ≡ Some (head_key registry)
head_is None o h = absurd (cc)
head_is (Some registry) o h = head_by (bytes_eq registry crates_io_index) registry _ o h

-- the first key has no definition left
pub walk_fails : (configs : List Config) (registry : Option (List ℕ)) (key : List ℕ) (d : Definitions)
    (o : Option Source) → key ≡ head_key registry → Defines configs d
    → end_at d (head_key registry) ≡ None → o ≡ held key d.left
    → head_source_of registry (option_map source_texts o) ≡ None
    → HasNoHead (all_definitions configs) registry key
walk_fails configs registry key d o is defines unknown value got =
    let ds = all_definitions configs in
    let none = ap (head_source_of registry) (sym (ap (option_map source_texts) value
    ∙ ap (found d.left) is ∙ defines.left (head_key registry) unknown)) ∙ got in
    record {
      names = head_is registry (first (head_key registry) ds) none ∙ ap (λ k. Some k) (sym is);
      undefined = none;
    }

-- the chain leads to a key that was used or is not defined
pub walk_breaks : (configs : List Config) (registry : Option (List ℕ)) (beginning key : List ℕ)
    (d : Definitions) (keys : List (List ℕ)) (s : said.Source)
    → beginning ≡ head_key registry → IsWalk configs registry d keys s → s.replace_with ≡ Some key
    → end_at d key ≡ None → HasNoSourceLeft beginning key d → BreaksAt (all_definitions configs) registry key
walk_breaks configs registry beginning key d keys s is w names unknown lacks =
    let ds = all_definitions configs in
    let a = bytes_eq (head_key registry) key in
    let b = is_used keys key in
    record {
      used = head_key registry ∷ keys;
      source = s;
      reaches = w.reaches;
      names = names;
      broken = ⊎_elim (λ same. inl (left_true a b (ap (λ k. bytes_eq k key) (sym is) ∙ same)))
          (λ none. ⊎_elim (λ used. inl (right_true a b used)) (λ e. inr (ap (with_address key) e))
          (missing b (first key ds) (sym (w.left key unknown) ∙ none))) lacks;
    }

-- the last source of the chain has no URL
pub walk_ends : (configs : List Config) (registry : Option (List ℕ)) (d : Definitions)
    (keys : List (List ℕ)) (s : said.Source) → IsWalk configs registry d keys s → s.replace_with ≡ None
    → s.registry ≡ None → HasNoAddress (all_definitions configs) registry
walk_ends configs registry d keys s w last none =
    record {
      source = s;
      ends = record { used = head_key registry ∷ keys; reaches = w.reaches; last = last };
      none = none;
    }

-- the error of a registry, for all configurations with these definitions
abbrev pub Refuses : Definitions → Option (List ℕ) → Error → Type 0
Refuses d registry e = (configs : List Config) → Defines configs d → HasNoUrl configs registry e

-- the error of the first key
pub refused_head : (registry : Option (List ℕ)) (key : List ℕ) (d : Definitions) (e : Error)
    → IsMemory e ⊎ ((name : String Global) × (e ≡ RegistryNotFound name) × (string_bytes name ≡ key))
    → ((configs : List Config) → Defines configs d → HasNoHead (all_definitions configs) registry key)
    → IsMemory e ⊎ Refuses d registry e
refused_head registry key d e h none =
    ⊎_elim (λ m. inl m) (λ r. inr (λ configs defines.
    subst (HasNoUrl configs registry) (sym r.1)
    (no_head r.0 (subst (HasNoHead (all_definitions configs) registry) (sym r.2) (none configs defines))))) h

-- the error of a later key
pub refused_next : (registry : Option (List ℕ)) (key : List ℕ) (d : Definitions) (e : Error)
    → IsMemory e ⊎ ((name : String Global) × (e ≡ SourceNotFound name) × (string_bytes name ≡ key))
    → ((configs : List Config) → Defines configs d → BreaksAt (all_definitions configs) registry key)
    → IsMemory e ⊎ Refuses d registry e
refused_next registry key d e h broken =
    ⊎_elim (λ m. inl m) (λ r. inr (λ configs defines.
    subst (HasNoUrl configs registry) (sym r.1)
    (breaks r.0 (subst (BreaksAt (all_definitions configs) registry) (sym r.2) (broken configs defines))))) h
