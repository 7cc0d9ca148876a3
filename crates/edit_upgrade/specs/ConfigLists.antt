-- The configurations of inputs, as lists that inputs may share.
use Rattle.std.specs.Prelude.{◌<◌, ℕ, List, Option, Some, None, All, length, option_copied, slice_get, ⊤}
use Rattle.std.specs.Global.{Vec}
use Rattle.std.specs.List.{filter_map}
use Rattle.edit_sources.specs.declared.config.Config.{Config}
use Rattle.edit_upgrade.specs.declared.config_lists.ConfigLists.{ConfigLists}

-- the lists at these indices, in the order of the indices (own)
abbrev pub chosen_lists : List (Vec Config) → List ℕ → List (Vec Config)
chosen_lists lists which = filter_map (slice_get lists) which

-- each number is the index of a list (own)
abbrev pub AreIndices : List (Vec Config) → List ℕ → Type 0
AreIndices lists which = All (λ j. j < length lists) which

-- the list of each input: the one at its index in `which`, or, without `which`, the one at the input's own
-- index (own)
abbrev pub lists_by : List (Vec Config) → Option (List ℕ) → List (Vec Config)
lists_by lists None = lists
lists_by lists (Some which) = chosen_lists lists which

-- where indices are given, each is the index of a list (own)
abbrev pub MayBeIndices : List (Vec Config) → Option (List ℕ) → Type 0
MayBeIndices lists None = ⊤
MayBeIndices lists (Some which) = AreIndices lists which

-- the list of each input (own)
abbrev pub lists_in : ConfigLists → List (Vec Config)
lists_in configs = lists_by configs.lists.now (option_copied configs.which)

-- where indices are given, each is the index of a list of these configurations (own)
abbrev pub HasLists : ConfigLists → Type 0
HasLists configs = MayBeIndices configs.lists.now (option_copied configs.which)
