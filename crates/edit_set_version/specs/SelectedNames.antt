-- The selected members, as the program has them: whether all are selected, and a set of names (own).
use Rattle.std.specs.Prelude.{◌≡◌, ◌&&◌, ℕ, List, Bool, not, if◌then◌else◌}
use Rattle.std.specs.BTreeSet.{contains_text}
use Rattle.edit_manifest.specs.Versions.{is_inherited}
use Rattle.edit_set_version.specs.Chosen.{SelectionView, Member, is_all_selected, is_among}
use Rattle.edit_set_version.specs.declared.choose.Part.{Part}
use Rattle.edit_set_version.specs.declared.choose.Part.TheVariants as part
use Rattle.edit_set_version.specs.declared.choose.SelectedNames.{SelectedNames}

-- the set has the excluded names where all members are selected, else the selected names
pub record IsSelectedNames (a : SelectionView) (w : SelectedNames) : Type 0 where
  pub all : w.all ≡ is_all_selected a
  pub names : (name : List ℕ) → contains_text w.names name
      ≡ is_among (if is_all_selected a then a.exclude else a.packages) name

-- the member is selected
abbrev pub is_selected_by : SelectedNames → Member → Bool
is_selected_by w m = if w.all then not (contains_text w.names m.name) else contains_text w.names m.name

-- the member is in this part: the selected ones; those of them that inherit their version; the others that
-- inherit it
abbrev pub is_in : Part → SelectedNames → Member → Bool
is_in part.Selected w m = is_selected_by w m
is_in part.Inheriting w m = is_selected_by w m && is_inherited m.tree
is_in part.Others w m = not (is_selected_by w m) && is_inherited m.tree
