-- The maps of definitions by keys: the definitions that are left, and the URLs at the ends of chains.
use Rattle.std.proofs.Common.{◌≡◌, ◌<◌, ◌+◌, ℕ, length, take, get_or, List, [], ◌∷◌, ◌++◌, Bool, true, false, cond, Option, Some, None, option_map, BTreeMap, Bor, refl, ap, sym, ◌∙◌}
use Rattle.std.specs.Prelude.{◌||◌}
use Rattle.std.specs.Str.{bytes_eq}
use Rattle.std.specs.BTreeMap.{UpdatesBy, get_by, is_at}
use Rattle.std.specs.Cmp.Lexicographic.{slice_cmp}
use Rattle.std.specs.Map.{lookup}
use Rattle.std.specs.Ordering.{nat_cmp}
use Rattle.std.proofs.lemmas.List.{map_more}
use Rattle.std.proofs.lemmas.List.Folds.{list_any-append}
use Rattle.std.proofs.lemmas.Map.Text.{btree_map_updates_str}
use Rattle.edit_base.specs.Paths.{texts}
use Rattle.edit_sources.specs.SourceReplacement.{first, is_used}
use Rattle.edit_sources.specs.Configured.{all_definitions}
use Rattle.edit_sources.specs.Definitions.{Defines, end_at}
use Rattle.edit_sources.specs.Sources.{source_texts, found}
use Rattle.edit_sources.specs.declared.config.Config.{Config}
use Rattle.edit_sources.specs.declared.registry.chain.Source.{Source}
use Rattle.edit_sources.specs.declared.registry.definitions.Definitions.{Definitions}
use Rattle.edit_sources.proofs.ChainLemmas.{some_none}

-- the source of a key in a map of sources
abbrev pub held : List ℕ → BTreeMap (Bor (List ℕ)) Source → Option Source
held key sources = get_by (λ k. slice_cmp nat_cmp key k.now) sources

map_cond : {A B : Type 0} (f : A → B) (b : Bool) (v o : Option A)
    → option_map f (cond b v o) ≡ cond b (option_map f v) (option_map f o)
map_cond f true v o = refl
map_cond f false v o = refl

cond_cond : {A : Type 0} (a b : Bool) (x o : Option A)
    → cond b x (cond a x o) ≡ cond (a || (b || false)) x o
cond_cond true true x o = refl
cond_cond true false x o = refl
cond_cond false true x o = refl
cond_cond false false x o = refl

-- a map of sources after a key was removed
pub left_out : (key : List ℕ) (old new : BTreeMap (Bor (List ℕ)) Source)
    → UpdatesBy (λ x y. slice_cmp nat_cmp x.now y.now) (λ k. slice_cmp nat_cmp key k.now) old new None
    → (q : List ℕ) → found new q ≡ cond (bytes_eq key q) None (found old q)
left_out key old new updates q =
    ap (option_map source_texts) (btree_map_updates_str key old new None updates q)
    ∙ map_cond source_texts (bytes_eq key q) None (held q old)

-- a lookup among used keys with one more
pub one_more : {A : Type 0} (used : List (List ℕ)) (key q : List ℕ) (x o : Option A)
    → cond (bytes_eq key q) x (cond (is_used used q) x o) ≡ cond (is_used (used ++ key ∷ []) q) x o
one_more used key q x o = cond_cond (is_used used q) (bytes_eq key q) x o
    ∙ ap (λ b. cond b x o) (sym (list_any-append (λ u. bytes_eq u q) used (key ∷ [])))

-- the stored URLs do not depend on the definitions that are left
pub same_ends : (old new : Definitions) → new.ends ≡ old.ends → (q : List ℕ) → end_at new q ≡ end_at old q
same_ends old new same q =
    ap (λ (m : BTreeMap (Bor (List ℕ)) (Bor (List ℕ))). option_map (λ (a : Bor (List ℕ)). a.now)
    (get_by (λ k. slice_cmp nat_cmp q k.now) m)) same

-- the URL of one key more is stored
pub ends_more : (start old new : Definitions) (keys : List (Bor (List ℕ))) (i : ℕ) (d address : Bor (List ℕ))
    → i < length keys
    → ((q : List ℕ) → end_at old q
    ≡ cond (is_used (texts (take i keys)) q) (Some address.now) (end_at start q))
    → UpdatesBy (λ x y. slice_cmp nat_cmp x.now y.now)
    (λ k. slice_cmp nat_cmp (get_or keys i d).now k.now) old.ends new.ends (Some address)
    → (q : List ℕ) → end_at new q
    ≡ cond (is_used (texts (take (i + 1) keys)) q) (Some address.now) (end_at start q)
ends_more start old new keys i d address within so_far updates q =
    let key = (get_or keys i d).now in
    let now : Bor (List ℕ) → List ℕ = λ a. a.now in
    let more : texts (take (i + 1) keys) ≡ texts (take i keys) ++ key ∷ [] = map_more now keys i d within in
    ap (option_map now) (btree_map_updates_str key old.ends new.ends (Some address) updates q)
    ∙ map_cond now (bytes_eq key q) (Some address) (get_by (λ k. slice_cmp nat_cmp q k.now) old.ends)
    ∙ ap (cond (bytes_eq key q) (Some address.now)) (so_far q)
    ∙ one_more (texts (take i keys)) key q (Some address.now) (end_at start q)
    ∙ ap (λ us. cond (is_used us q) (Some address.now) (end_at start q)) (sym more)

-- definitions before any chain is followed
pub fresh_defines : (configs : List Config) (d : Definitions) → d.ends.entries ≡ []
    → ((key : List ℕ) → found d.left key ≡ first key (all_definitions configs)) → Defines configs d
fresh_defines configs d empty all =
    let none : (key : List ℕ) → end_at d key ≡ None = λ key.
    ap (λ (es : List (Bor (List ℕ) × Bor (List ℕ))). option_map (λ (a : Bor (List ℕ)). a.now)
    (lookup (is_at (λ k. slice_cmp nat_cmp key k.now)) es)) empty in
    record {
      ends = λ key address h. absurd (some_none address (sym h ∙ none key));
      left = λ key _. all key;
    }
