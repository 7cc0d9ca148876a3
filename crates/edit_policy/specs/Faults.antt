-- Why a table is no policy (own).
use Rattle.std.specs.Prelude.{◌≡◌, ℕ, List, codes, false}
use Rattle.edit_base.specs.Errors.{IsMemory}
use Rattle.edit_document.specs.Items.{place_view}
use Rattle.edit_tree.specs.Assertions.{Place, at, index}
use Rattle.edit_policy.specs.Keys.{expected_at}
use Rattle.edit_policy.specs.Policies.{member}
use Rattle.edit_policy.specs.Values.{Tree, is_fit}
use Rattle.edit_policy.specs.declared.error.PolicyError.{PolicyError}
use Rattle.edit_policy.specs.declared.error.PolicyError.TheVariants.{Failed, Unexpected}
use Rattle.edit_policy.specs.declared.keys.Expected.{Expected}
use Rattle.edit_policy.specs.declared.keys.Expected.TheVariants.{Table, Text, Texts}
use Rattle.edit_policy.specs.declared.keys.KeySet.{KeySet}
use Rattle.edit_policy.specs.declared.keys.KeySet.TheVariants.{OfCrate, OfPolicy}

-- what is expected at places of a document (own)
abbrev pub Expectations : Type 1
Expectations = Place → Expected → Type 0

-- this is expected at this place, and nothing elsewhere (own)
abbrev pub Only : Place → Expected → Expectations
Only place expected q e = (q ≡ place) × (e ≡ expected)

-- what is expected at the keys of a table (own)
abbrev pub AtKeys : KeySet → Place → Expectations
AtKeys keys table q e = (name : List ℕ) × Only (member table name) (expected_at keys name) q e

-- what is expected at the elements of an array (own)
abbrev pub AtElements : Place → Expectations
AtElements array q e = (i : ℕ) × Only (at array (index i)) Text q e

-- what is expected at an array of strings and at its elements (own)
pub data InTexts (array : Place) (q : Place) (e : Expected) : Type 0 where
  whole : Only array Texts q e → InTexts array q e
  elements : AtElements array q e → InTexts array q e

-- what is expected below a table that has a table for each crate (own)
pub data InCrates (crates : Place) (q : Place) (e : Expected) : Type 0 where
  crate_table : (name : List ℕ) → Only (member crates name) Table q e → InCrates crates q e
  crate_keys : (name : List ℕ) → AtKeys OfCrate (member crates name) q e → InCrates crates q e

-- what is expected in a policy whose table is at this place (own)
pub data InPolicy (table : Place) (q : Place) (e : Expected) : Type 0 where
  own_table : Only table Table q e → InPolicy table q e
  own_keys : AtKeys OfPolicy table q e → InPolicy table q e
  excluded : InTexts (member table (codes "exclude")) q e → InPolicy table q e
  crates : InCrates (member table (codes "crates")) q e → InPolicy table q e

-- an error: at its place the tree does not have what is expected there, or memory ran out (own)
abbrev pub IsFault : Expectations → Tree → PolicyError → Type 0
IsFault Expects t (Unexpected place expected) =
    Expects (place_view place.items) expected × (is_fit expected (t (place_view place.items)) ≡ false)
IsFault Expects t (Failed e) = IsMemory e
