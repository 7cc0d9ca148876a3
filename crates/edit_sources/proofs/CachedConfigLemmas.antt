-- Invariants of the cache of configurations.
use Rattle.std.proofs.Common.{◌≡◌, ◌∙◌, ◌<◌, ◌+◌, ◌++◌, ℕ, Global, List, [], ◌∷◌, Option, Some, None, Bool, String, true, false, cond, option_map, ap, get_or, length, map, refl, string_bytes, sym, subst, take, inl, inr}
use Rattle.std.specs.Prelude.{◌⊎◌, All, IsSome, unwrap_or}
use Rattle.std.specs.List.{AllZip}
use Rattle.std.specs.Option.{IfSome}
use Rattle.std.specs.Map.{update}
use Rattle.std.specs.Str.{bytes_eq}
use Rattle.std.specs.String.{string_cmp}
use Rattle.std.specs.BTreeMap.{BTreeMap, UpdatesBy, get_by_text}
use Rattle.std.specs.Global.{Vec}
use Rattle.std.specs.Ordering.{nat_cmp}
use Rattle.std.proofs.lemmas.Map.Text.{btree_map_updates_text}
use Rattle.std.specs.Cmp.Lexicographic.{bytes_decides, slice_cmp}
use Rattle.std.proofs.lemmas.Bool.{cases_Bool}
use Rattle.std.proofs.lemmas.List.{flat_map_more, map_more}
use Rattle.std.proofs.lemmas.List.Elements.{All-head, All-push, All-tail}
use Rattle.edit_store.specs.Store.{Files, OnlyReads, StoreView}
use Rattle.edit_sources.specs.Configuration.{HasConfiguration}
use Rattle.edit_sources.specs.ConfigurationFiles.{AreConfigs, AreReadIn, IsReadFrom, IsSearched}
use Rattle.edit_sources.specs.ConfigurationFiles.AreFilesIn.{none, more}
use Rattle.edit_sources.specs.Configured.{path_and_entries}
use Rattle.edit_sources.specs.CachedConfigs.{AreCached, IsSearchedIn, found_at, found_in}
use Rattle.edit_sources.proofs.FileLemmas.{AreReadAt}
use Rattle.edit_sources.proofs.FollowLemmas.{read_in_same}
use Rattle.edit_sources.specs.declared.config.Config.{Config}
use Rattle.edit_sources.specs.declared.config.cache.ConfigCache.{ConfigCache}

lists_of : (b : Bool) (found : Vec Config) (o : Option (Vec Config))
    → option_map (λ (v : Vec Config). v.items) (cond b (Some found) o)
    ≡ cond b (Some found.items) (option_map (λ (v : Vec Config). v.items) o)
lists_of true found o = refl
lists_of false found o = refl

-- a map of lists with one more
pub updates_lists : (bs : List ℕ) (m n : BTreeMap (String Global) (Vec Config))
    (found : Vec Config) → UpdatesBy string_cmp (λ k. slice_cmp nat_cmp bs (string_bytes k)) m n (Some found)
    → (cs : List ℕ) → option_map (λ (v : Vec Config). v.items) (get_by_text n cs)
    ≡ update bytes_eq (λ p. option_map (λ (v : Vec Config). v.items) (get_by_text m p)) bs (Some found.items) cs
updates_lists bs m n found updates cs =
    ap (option_map (λ (v : Vec Config). v.items)) (btree_map_updates_text bs m n (Some found) updates cs)
    ∙ lists_of (bytes_eq bs cs) found (get_by_text m cs)

-- one folder more
pub cached_more : (seen : StoreView) (old new : ConfigCache) (at : List ℕ) (found : List Config)
    → ((place : List ℕ) → found_at new place ≡ update bytes_eq (found_at old) at (Some found) place)
    → AreCached seen old → (seen.tells ≡ true → AreReadIn seen.file_at at found)
    → AreCached seen new
cached_more seen old new at found updated are_cached read = λ tells place. subst
    (λ o. IfSome o (AreReadIn seen.file_at place)) (sym (updated place))
    (elim (cases_Bool (bytes_eq at place)) [
      | inl same ↦ rw same (subst (λ p. AreReadIn seen.file_at p found)
          ((bytes_decides at place).0 same) (read tells))
      | inr apart ↦ rw apart (are_cached tells place)
    ])

pub searched_more : (old new : ConfigCache) (at : List ℕ) (found : List Config)
    → ((place : List ℕ) → found_at new place ≡ update bytes_eq (found_at old) at (Some found) place)
    → (place : List ℕ) → IsSearchedIn old place ⊎ (at ≡ place) → IsSearchedIn new place
searched_more old new at found updated place (inl before) = subst IsSome (sym (updated place))
    (elim (cases_Bool (bytes_eq at place)) [
      | inl same ↦ rw same refl
      | inr apart ↦ rw apart before
    ])
searched_more old new at found updated place (inr here) =
    subst IsSome (sym (updated place)) (rw ((bytes_decides at place).1 here) refl)

one_more : (places : List (String Global)) (i : ℕ) (place : String Global) (text : List ℕ)
    → i < length places → place ≡ get_or places i place → text ≡ string_bytes place
    → map string_bytes (take (i + 1) places) ≡ map string_bytes (take i places) ++ text ∷ []
one_more places i place text within is said = map_more string_bytes places i place within
    ∙ ap (λ p. map string_bytes (take i places) ++ p ∷ []) (ap string_bytes (sym is) ∙ sym said)

-- one folder more is searched
pub all_searched : (old new : ConfigCache) (places : List (String Global)) (i : ℕ) (place : String Global)
    (text : List ℕ) → i < length places → place ≡ get_or places i place → text ≡ string_bytes place
    → ((other : List ℕ) → IsSearchedIn old other → IsSearchedIn new other)
    → All (IsSearchedIn old) (map string_bytes (take i places)) → IsSearchedIn new text
    → All (IsSearchedIn new) (map string_bytes (take (i + 1) places))
all_searched old new places i place text within is said others before here =
    subst (All (IsSearchedIn new)) (sym (one_more places i place text within is said))
    (All-push (IsSearchedIn new) (map string_bytes (take i places)) text
    (λ k d low. others _ (before k d low)) here)

-- ---- the configurations of folders that were searched

-- one folder more
pub found_more : (cache : ConfigCache) (places : List (String Global)) (i : ℕ) (place : String Global)
    (text : List ℕ) (old new : List Config) → i < length places → place ≡ get_or places i place
    → text ≡ string_bytes place → old ≡ found_in cache (map string_bytes (take i places))
    → new ≡ old ++ unwrap_or (found_at cache text) []
    → new ≡ found_in cache (map string_bytes (take (i + 1) places))
found_more cache places i place text old new within is said found items =
    items ∙ ap (λ cs. cs ++ unwrap_or (found_at cache text) []) found
    ∙ flat_map_more (λ at. unwrap_or (found_at cache at) []) [] (map string_bytes (take i places)) text
    ∙ ap (found_in cache) (sym (one_more places i place text within is said))

-- what is cached after reads were the configurations of its folder before them
cached_before : (old new : StoreView) (cache : ConfigCache) → OnlyReads old new → AreCached new cache
    → AreCached old cache
cached_before old new cache reads are_cached = λ tells place.
    same (found_at cache place) place (are_cached (reads.tells ∙ tells) place)
  where
    same : (o : Option (List Config)) (place : List ℕ) → IfSome o (AreReadIn new.file_at place)
        → IfSome o (AreReadIn old.file_at place)
    same None place h = h
    same (Some configs) place h = read_in_same old.file_at new.file_at place configs reads.files h

-- what is cached before reads are the configurations of its folder after them
pub cached_after : (old new : StoreView) (cache : ConfigCache) → OnlyReads old new → AreCached old cache
    → AreCached new cache
cached_after old new cache reads are_cached = λ tells place.
    same (found_at cache place) place (are_cached (sym reads.tells ∙ tells) place)
  where
    same : (o : Option (List Config)) (place : List ℕ) → IfSome o (AreReadIn old.file_at place)
        → IfSome o (AreReadIn new.file_at place)
    same None place h = h
    same (Some configs) place h =
        read_in_same new.file_at old.file_at place configs (λ path. sym (reads.files path)) h

zip_append : {A B : Type 0} (R : A → B → Type 0) (xs ys : List A) (us vs : List B) → AllZip R xs us
    → AllZip R ys vs → AllZip R (xs ++ ys) (us ++ vs)
zip_append R [] ys [] vs one two = two
zip_append R [] ys (u ∷ us) vs one two = absurd one
zip_append R (x ∷ xs) ys [] vs one two = absurd one
zip_append R (x ∷ xs) ys (u ∷ us) vs one two = (one.0, zip_append R xs ys us vs one.1 two)

one_read : (files : Files) (place : List ℕ) (places : List (List ℕ)) (found : Option (List Config))
    (configs : List Config) → IfSome found (AreReadIn files place) → IsSome found
    → AreReadAt files places configs → AreReadAt files (place ∷ places) (unwrap_or found [] ++ configs)
one_read files place places None configs read searched rest = cc searched
one_read files place places (Some own) configs read searched rest = (
  read.found ++ rest.0,
  (
    more place places read.found rest.0 read.follows rest.1.0,
    zip_append IsReadFrom read.found rest.0 own configs read.read rest.1.1,
  ),
)

all_read : (seen : StoreView) (cache : ConfigCache) (places : List (List ℕ)) → seen.tells ≡ true
    → AreCached seen cache → All (IsSearchedIn cache) places
    → AreReadAt seen.file_at places (found_in cache places)
all_read seen cache [] tells are_cached searched = ([], (none, tt))
all_read seen cache (place ∷ places) tells are_cached searched =
    one_read seen.file_at place places (found_at cache place)
    (found_in cache places) (are_cached tells place) (All-head (IsSearchedIn cache) place places searched)
    (all_read seen cache places tells are_cached (All-tail (IsSearchedIn cache) place places searched))

-- the configurations that were found in folders are those of the files there
pub found_read : (old new : StoreView) (cache : ConfigCache) (places : List (List ℕ)) (configs : List Config)
    → OnlyReads old new → AreCached new cache → All (IsSearchedIn cache) places
    → configs ≡ found_in cache places → old.tells ≡ true → AreReadAt old.file_at places configs
found_read old new cache places configs reads are_cached searched found tells =
    subst (AreReadAt old.file_at places) (sym found)
    (all_read old cache places tells (cached_before old new cache reads are_cached) searched)

-- the configurations that were found in the folders of a manifest are its configurations
pub found_configs : (old new : StoreView) (cache : ConfigCache) (manifest : List ℕ) (home : Option (List ℕ))
    (places same : List (String Global)) (configs : List Config) → OnlyReads old new → AreCached new cache
    → IsSearched manifest home (map string_bytes places) → All (IsSearchedIn cache) (map string_bytes places)
    → same ≡ places → configs ≡ found_in cache (map string_bytes same) → old.tells ≡ true
    → AreConfigs old.file_at manifest home configs
found_configs old new cache manifest home places same configs reads are_cached folders searched is found tells =
    let read = found_read old new cache (map string_bytes places) configs reads are_cached searched
    (found ∙ ap (λ ps. found_in cache (map string_bytes ps)) is) tells in
    record {
      places = map string_bytes places;
      searched = folders;
      found = read.0;
      stand = read.1.0;
      each = read.1.1;
    }

-- copies of configurations are those of the same files
copies_read : (files : List (List ℕ × List ℕ)) (configs copies : List Config)
    → AllZip IsReadFrom files configs → map path_and_entries copies ≡ map path_and_entries configs
    → AllZip IsReadFrom files copies
copies_read [] [] [] read same = tt
copies_read [] [] (c ∷ cs) read same = cc same
copies_read [] (c ∷ cs) copies read same = absurd read
copies_read (f ∷ fs) [] copies read same = absurd read
copies_read (f ∷ fs) (c ∷ cs) [] read same = cc same
copies_read (f ∷ fs) (c ∷ cs) (d ∷ ds) read same =
    let one : path_and_entries d ≡ path_and_entries c = cc same in
    let rest : map path_and_entries ds ≡ map path_and_entries cs = cc same in (
      record {
        path = ap (λ p. p.0) one ∙ read.0.path;
        said = subst (HasConfiguration f.1) (sym (ap (λ p. p.1) one)) read.0.said;
      },
      copies_read fs cs ds read.1 rest,
    )

-- copies of the configurations of a manifest are its configurations too
pub copies_configs : (files : Files) (manifest : List ℕ) (home : Option (List ℕ)) (configs copies : List Config)
    → AreConfigs files manifest home configs → map path_and_entries copies ≡ map path_and_entries configs
    → AreConfigs files manifest home copies
copies_configs files manifest home configs copies read same = record {
  places = read.places;
  searched = read.searched;
  found = read.found;
  stand = read.stand;
  each = copies_read read.found configs copies read.each same;
}
