-- Files that are read one after another by `include`.
use Rattle.std.proofs.Common.{◌≡◌, ℕ, Vec, List, [], ◌∷◌, ◌++◌, length, Bool, true, false, Option, Some, None, String, Global, string_bytes, refl, ap, sym, ◌∙◌, subst, inl, inr}
use Rattle.std.specs.Prelude.{◌≤◌, ◌⊎◌, ◌||◌, codes, cond, is_some}
use Rattle.std.specs.List.{AllZip, list_any}
use Rattle.std.specs.Str.{bytes_eq}
use Rattle.std.proofs.lemmas.Slice.Zip.{AllZip-long, all_zipped_more}
use Rattle.edit_base.specs.Paths.{joined}
use Rattle.edit_base.specs.declared.errors.Error.{Error}
use Rattle.edit_store.specs.Store.{Files, SameFiles}
use Rattle.edit_sources.specs.Configuration.{IsMalformedConfig}
use Rattle.edit_sources.specs.ConfigurationFiles.{AreReadIn, FolderFails, FollowFails, IsFollowing, IsReadFrom, start_in}
use Rattle.edit_sources.specs.Following.{Follows, IsFault, StopsFollowing, is_among}
use Rattle.edit_sources.specs.Following.Follows.{begin, skip, read}
use Rattle.edit_sources.specs.Following.IsFault.{malformed, bad_include, absent, twice, many}
use Rattle.edit_sources.specs.FollowingSteps.{HasNext, NextFails, TakesNext}
use Rattle.edit_sources.specs.Includes.{Include, HasIncludes, HasBadInclude}
use Rattle.edit_sources.specs.declared.config.Config.{Config}

-- ---- the same files in another store

pub follows_same : (old new : Files) (start : List ℕ) (pending : List Include)
    (found : List (List ℕ × List ℕ)) → SameFiles old new → Follows new start pending found
    → Follows old start pending found
follows_same old new start pending found same begin = begin
follows_same old new start pending found same (skip rest next files before optional none) =
    skip rest next files (follows_same old new start (rest ++ next ∷ []) files same before) optional
    (sym (same next.path) ∙ none)
follows_same old new start pending found same (read rest includes next files bytes before apart stands says) =
    read rest includes next files bytes (follows_same old new start (rest ++ next ∷ []) files same before)
    apart (sym (same next.path) ∙ stands) says

fault_same : (old new : Files) (found : List (List ℕ × List ℕ)) (next : Include) → SameFiles old new
    → IsFault new found next → IsFault old found next
fault_same old new found next same (malformed bytes stands why) =
    malformed bytes (sym (same next.path) ∙ stands) why
fault_same old new found next same (bad_include bytes stands why) =
    bad_include bytes (sym (same next.path) ∙ stands) why
fault_same old new found next same (absent none needed) = absent (sym (same next.path) ∙ none) needed
fault_same old new found next same (twice bytes stands why) = twice bytes (sym (same next.path) ∙ stands) why
fault_same old new found next same (many bytes stands why) = many bytes (sym (same next.path) ∙ stands) why

pub stops_same : (old new : Files) (start path : List ℕ) → SameFiles old new
    → StopsFollowing new start path → StopsFollowing old start path
stops_same old new start path same stops = record {
  rest = stops.rest;
  next = stops.next;
  found = stops.found;
  follows = follows_same old new start (stops.rest ++ stops.next ∷ []) stops.found same stops.follows;
  at = stops.at;
  fault = fault_same old new stops.found stops.next same stops.fault;
}

pub following_same : (old new : Files) (start : List ℕ) (pending : List Include) (configs : List Config)
    → SameFiles old new → IsFollowing new start pending configs → IsFollowing old start pending configs
following_same old new start pending configs same f = record {
  found = f.found;
  follows = follows_same old new start pending f.found same f.follows;
  read = f.read;
}

start_same : (old new : Files) (place : List ℕ) → SameFiles old new → start_in new place ≡ start_in old place
start_same old new place same = ap (λ o. cond (is_some o) (joined place (codes "config"))
    (joined place (codes "config.toml"))) (same (joined place (codes "config")))

pub read_in_same : (old new : Files) (place : List ℕ) (configs : List Config) → SameFiles old new
    → AreReadIn new place configs → AreReadIn old place configs
read_in_same old new place configs same f = subst (λ start. IsFollowing old start [] configs)
    (start_same old new place same) (following_same old new (start_in new place) [] configs same f)

pub folder_fails_same : (tells new_tells : Bool) (old new : Files) (place : List ℕ) (e : Error)
    → new_tells ≡ tells → SameFiles old new → FolderFails new_tells new place e → FolderFails tells old place e
folder_fails_same tells new_tells old new place e same_tells same fails = record {
  path = fails.path;
  named = fails.named;
  stops = λ t. subst (λ start. StopsFollowing old start fails.path) (start_same old new place same)
      (stops_same old new (start_in new place) fails.path same (fails.stops (same_tells ∙ t)));
}

-- ---- one step

pub following_skip : (files : Files) (start : List ℕ) (rest : List Include) (next : Include)
    (configs : List Config) → IsFollowing files start (rest ++ next ∷ []) configs → next.is_optional ≡ true
    → files next.path ≡ None → IsFollowing files start rest configs
following_skip files start rest next configs f optional none =
    record { found = f.found; follows = skip rest next f.found f.follows optional none; read = f.read }

pub among-paths : (path : List ℕ) (found : List (List ℕ × List ℕ)) (configs : List Config)
    → AllZip IsReadFrom found configs
    → is_among path found ≡ list_any (λ c. bytes_eq (string_bytes c.path) path) configs
among-paths path [] [] r = refl
among-paths path [] (c ∷ configs) r = absurd r
among-paths path (f ∷ found) [] r = absurd r
among-paths path (f ∷ found) (c ∷ configs) r =
    ap (λ p. bytes_eq p path || is_among path found) (sym r.0.path)
    ∙ ap (λ b. bytes_eq (string_bytes c.path) path || b) (among-paths path found configs r.1)

pub following_read : (files : Files) (start : List ℕ) (rest includes : List Include) (configs : List Config)
    (path bytes : List ℕ) (config : Config) → HasNext files start rest configs path bytes
    → list_any (λ c. bytes_eq (string_bytes c.path) path) configs ≡ false → HasIncludes path bytes includes
    → IsReadFrom (path, bytes) config
    → IsFollowing files start (rest ++ includes) (configs ++ config ∷ [])
following_read files start rest includes configs path bytes config h apart says is =
    let found = h.following.found in
    let none : is_among path found ≡ false = among-paths path found configs h.following.read ∙ apart in
    record {
      found = found ++ (h.next.path, bytes) ∷ [];
      follows = read rest includes h.next found bytes h.following.follows
          (subst (λ p. is_among p found ≡ false) (sym h.at) none)
          (ap files h.at ∙ h.stands)
          (subst (λ p. HasIncludes p bytes includes) (sym h.at) says);
      read = all_zipped_more IsReadFrom found configs (h.next.path, bytes) config h.following.read
          (subst (λ p. IsReadFrom (p, bytes) config) (sym h.at) is);
    }

-- nothing was read yet
pub following_begin : (files : Files) (start : List ℕ) (pending : List Include) (configs : List Config)
    → pending ≡ record { path = start; is_optional = true } ∷ [] → configs ≡ []
    → IsFollowing files start pending configs
following_begin files start pending configs one none = record {
  found = [];
  follows = subst (λ is. Follows files start is []) (sym one) begin;
  read = subst (AllZip IsReadFrom []) (sym none) tt;
}

-- the next file was taken in another store of the same files
pub next_at : (old new : Files) (start : List ℕ) (pending rest : List Include) (configs : List Config)
    (found : Option (String Global × Vec ℕ Global)) (p : String Global) (b : Vec ℕ Global)
    (path bytes : List ℕ) → SameFiles old new → TakesNext new pending rest found → found ≡ Some (p, b)
    → IsFollowing old start pending configs → path ≡ string_bytes p → bytes ≡ b.items
    → HasNext old start rest configs path bytes
next_at old new start pending rest configs found p b path bytes same takes is f at all =
    let takes_it : TakesNext new pending rest (Some (p, b)) = subst (TakesNext new pending rest) is takes in
    let h = takes_it start configs (following_same new old start pending configs (λ q. sym (same q)) f) in
    record {
      next = h.next;
      following = following_same old new start (rest ++ h.next ∷ []) configs same h.following;
      at = h.at ∙ sym at;
      stands = ap old at ∙ sym (same (string_bytes p)) ∙ h.stands ∙ ap (λ x. Some x) (sym all);
    }

-- no file was left in another store of the same files
pub followed_at : (old new : Files) (start : List ℕ) (pending rest : List Include) (configs : List Config)
    (found : Option (String Global × Vec ℕ Global)) → SameFiles old new → TakesNext new pending rest found
    → found ≡ None → IsFollowing old start pending configs → IsFollowing old start [] configs
followed_at old new start pending rest configs found same takes is f =
    let takes_none : TakesNext new pending rest None = subst (TakesNext new pending rest) is takes in
    following_same old new start [] configs same
    (takes_none start configs (following_same new old start pending configs (λ q. sym (same q)) f))

-- a file is absent in another store of the same files
pub follow_fails_next : (tells new_tells : Bool) (old new : Files) (start : List ℕ) (pending : List Include)
    (configs : List Config) (e : Error) → new_tells ≡ tells → SameFiles old new
    → (tells ≡ true → IsFollowing old start pending configs) → NextFails new_tells new pending e
    → FollowFails tells old start e
follow_fails_next tells new_tells old new start pending configs e same_tells same f fails = record {
  path = fails.path;
  named = fails.named;
  stops = λ t. stops_same old new start fails.path same (fails.stops (same_tells ∙ t) start configs
      (following_same new old start pending configs (λ q. sym (same q)) (f t)));
}

-- a file that is an error, behind those that were read
pub following_stops : (files : Files) (start : List ℕ) (rest : List Include) (next : Include)
    (configs : List Config) (path : List ℕ) (f : IsFollowing files start (rest ++ next ∷ []) configs)
    → next.path ≡ path → IsFault files f.found next → StopsFollowing files start path
following_stops files start rest next configs path f at fault =
    record { rest = rest; next = next; found = f.found; follows = f.follows; at = at; fault = fault }

pub stops_malformed : (files : Files) (start : List ℕ) (rest : List Include) (configs : List Config)
    (path bytes : List ℕ) → HasNext files start rest configs path bytes
    → IsMalformedConfig bytes ⊎ HasBadInclude path bytes → StopsFollowing files start path
stops_malformed files start rest configs path bytes h (inl why) =
    following_stops files start rest h.next configs path h.following h.at
    (malformed bytes (ap files h.at ∙ h.stands) why)
stops_malformed files start rest configs path bytes h (inr why) =
    following_stops files start rest h.next configs path h.following h.at
    (bad_include bytes (ap files h.at ∙ h.stands) (subst (λ p. HasBadInclude p bytes) (sym h.at) why))

pub stops_twice : (files : Files) (start : List ℕ) (rest : List Include) (configs : List Config)
    (path bytes : List ℕ) → HasNext files start rest configs path bytes
    → list_any (λ c. bytes_eq (string_bytes c.path) path) configs ≡ true → StopsFollowing files start path
stops_twice files start rest configs path bytes h again =
    let found = h.following.found in
    following_stops files start rest h.next configs path h.following h.at
    (twice bytes (ap files h.at ∙ h.stands) (subst (λ p. is_among p found ≡ true) (sym h.at)
    (among-paths path found configs h.following.read ∙ again)))

pub stops_many : (files : Files) (start : List ℕ) (rest : List Include) (configs : List Config)
    (path bytes : List ℕ) → HasNext files start rest configs path bytes
    → 128 ≤ length configs → StopsFollowing files start path
stops_many files start rest configs path bytes h long =
    following_stops files start rest h.next configs path h.following h.at
    (many bytes (ap files h.at ∙ h.stands)
    (subst (λ n. 128 ≤ n) (AllZip-long IsReadFrom h.following.found configs h.following.read) long))
