-- Lists of configurations that inputs share.
use Rattle.std.specs.Prelude.{◌≡◌, ◌<◌, ◌++◌, ◌∷◌, [], ℕ, List, Option, All, Contains, length, slice_get}
use Rattle.std.specs.Global.{Vec}
use Rattle.std.specs.List.{filter_map}
use Rattle.edit_sources.specs.Configured.{paths_of}
use Rattle.edit_sources.specs.declared.config.Config.{Config}
use Rattle.edit_store.specs.Store.{Files}
use Rattle.edit_steps.specs.Named.{AreGathered, Pair}
use Rattle.edit_steps.specs.declared.upgrade_read.shared.SharedConfigs.{SharedConfigs}

-- the list of each input (own)
abbrev pub lists_for : SharedConfigs → List (Vec Config)
lists_for shared = filter_map (slice_get shared.lists.items) shared.which.items

-- each index is that of a list (own)
abbrev pub HasLists : SharedConfigs → Type 0
HasLists shared = All (λ j. j < length shared.lists.items) shared.which.items

-- the next input has a list that exists, whose files have these paths (own)
pub record SharesList (paths : List (List ℕ)) (old new : SharedConfigs) : Type 0 where
  pub list : Vec Config
  pub has : Contains old.lists.items list
  pub same : paths_of list.items ≡ paths
  pub lists : new.lists.items ≡ old.lists.items
  pub chosen : lists_for new ≡ lists_for old ++ list ∷ []

-- the next input has a list of its own, which is new (own)
pub record AddsList (own : Vec Config) (old new : SharedConfigs) : Type 0 where
  pub lists : new.lists.items ≡ old.lists.items ++ own ∷ []
  pub chosen : lists_for new ≡ lists_for old ++ own ∷ []

-- the list is that of a manifest (own)
abbrev pub IsOfSome : Files → Option (List ℕ) → Pair → Vec Config → Type 0
IsOfSome files home pair list = (manifest : List ℕ) × AreGathered files home pair manifest list.items

-- the next input has the list of its manifest, and each other list stays that of a manifest (own)
pub record IsListed (files : Files) (home : Option (List ℕ)) (pair : Pair) (manifest : List ℕ)
    (old new : SharedConfigs) : Type 0 where
  pub list : Vec Config
  pub is : lists_for new ≡ lists_for old ++ list ∷ []
  pub gathered : AreGathered files home pair manifest list.items
  pub others : All (IsOfSome files home pair) new.lists.items
