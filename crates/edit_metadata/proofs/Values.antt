-- The elements of a JSON array, as a list and as data.
use Rattle.std.proofs.Common.{◌≡◌, List, [], ◌∷◌, Some, refl, ap}
use Rattle.std.specs.Prelude.{unwrap_or}
use Rattle.serde_json.specs.Data.{Data}
use Rattle.serde_json.specs.View.{items_of}
use Rattle.edit_metadata.specs.Metadata.{values}

-- the list of the items of a list
pub values-items_of : (ds : List Data) → values (items_of ds) ≡ ds
values-items_of [] = refl
values-items_of (d ∷ ds) = ap (λ xs. d ∷ xs) (values-items_of ds)

-- what is there is one
pub some-same : {A : Type 0} (x y : A) → Some x ≡ Some y → x ≡ y
some-same x y is = ap (λ o. unwrap_or o x) is
