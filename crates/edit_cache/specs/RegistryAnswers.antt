-- The model of the cached results for the crates of a registry (own).
use Rattle.std.specs.Prelude.{ℕ, List, Option, None, Some, Bool, false, if◌then◌else◌, option_map, option_and_then, string_bytes}
use Rattle.std.specs.BTreeMap.{get_by_text}
use Rattle.std.specs.Str.{bytes_eq}
use Rattle.edit_sources.specs.declared.index.IndexKrate.{IndexKrate}
use Rattle.edit_sources.specs.Index.{shared_in}
use Rattle.edit_cache.specs.declared.cached_result.CachedAnswer.{CachedAnswer}
use Rattle.edit_cache.specs.declared.ranking.Ranked.{Ranked}
use Rattle.edit_cache.specs.declared.registry_answers.NamedAnswer.{NamedAnswer}
use Rattle.edit_cache.specs.declared.registry_answers.RegistryAnswers.{RegistryAnswers}

-- whether a result is for this crate (own)
abbrev pub has_last : Option NamedAnswer → List ℕ → Bool
has_last None name = false
has_last (Some last) name = bytes_eq (string_bytes last.name) name

-- the result that stands beside the map, where it is for this crate, else the one in the map (own)
abbrev pub first_for : Option NamedAnswer → Option CachedAnswer → List ℕ → Option CachedAnswer
first_for None other name = other
first_for (Some last) other name =
    if bytes_eq (string_bytes last.name) name then Some last.cached else other

-- the result for a crate, if there is one (own)
unfoldable pub result_in : RegistryAnswers → List ℕ → Option CachedAnswer
result_in answers name = first_for answers.last (get_by_text answers.others name) name

-- the result of the index for a crate, if there is one (own)
abbrev pub result_of : RegistryAnswers → List ℕ → Option (Option IndexKrate)
result_of answers name = option_map (λ cached. shared_in cached.answer) (result_in answers name)

-- the ranking for a crate, if there is one (own)
abbrev pub ranking_of : RegistryAnswers → List ℕ → Option Ranked
ranking_of answers name = option_and_then (λ cached. cached.ranked) (result_in answers name)

-- the name and the result of the index that stand beside the map (own)
abbrev pub last_result : Option NamedAnswer → Option (List ℕ × Option IndexKrate)
last_result last = option_map (λ l. (string_bytes l.name, shared_in l.cached.answer)) last
