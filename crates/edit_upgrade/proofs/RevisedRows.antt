-- Rows that take the place of others, each of the same input, are rows of the same inputs.
use Rattle.std.proofs.Common.{◌≡◌, ◌+◌, ◌∙◌, ℕ, List, [], ◌∷◌, ◌++◌, Option, ap, arith, length, length-append, refl, subst, sym}
use Rattle.std.specs.Prelude.{All}
use Rattle.std.specs.Global.{Vec}
use Rattle.std.specs.List.{AllZip}
use Rattle.std.proofs.lemmas.List.Elements.{All-cons, All-head, All-nil, All-tail}
use Rattle.std.proofs.lemmas.Slice.Zip.{AllZip-long}
use Rattle.edit_metadata.specs.declared.input.Input.{Input}
use Rattle.edit_report.specs.declared.row.Row.{Row}
use Rattle.edit_sources.specs.declared.config.Config.{Config}
use Rattle.edit_tree.specs.Tree.{view_at}
use Rattle.edit_upgrade.specs.Records.{row_entries}
use Rattle.edit_upgrade.specs.Revisions.{AreRowsFrom, HasRowAddresses, IsAddressOf, IsLongEnough}
use Rattle.edit_upgrade.proofs.RevisionLemmas.{one_count}

-- each row is of the input of the one that it takes the place of
abbrev pub HaveSameInputs : List Row → List Row → Type 0
HaveSameInputs rows after = AllZip (λ row a. a.input ≡ row.input) rows after

-- the rows in place of the first and of the later ones
record AreSplit (own later after : List Row) : Type 0 where
  first : List Row
  last : List Row
  is : after ≡ first ++ last
  first_same : HaveSameInputs own first
  last_same : HaveSameInputs later last

split_same : (own later after : List Row) → HaveSameInputs (own ++ later) after → AreSplit own later after
split_same [] later after same = record {
  first = [];
  last = after;
  is = refl;
  first_same = tt;
  last_same = same;
}
split_same (row ∷ own) later [] same = absurd same
split_same (row ∷ own) later (a ∷ after) same =
    let rest = split_same own later after same.1 in record {
      first = a ∷ rest.first;
      last = rest.last;
      is = ap (λ (rs : List Row). a ∷ rs) rest.is;
      first_same = (same.0, rest.first_same);
      last_same = rest.last_same;
    }

own_same : (i : ℕ) (own first : List Row) → HaveSameInputs own first → All (λ row. row.input ≡ i) own
    → All (λ row. row.input ≡ i) first
own_same i [] [] same are = are
own_same i [] (a ∷ first) same are = absurd same
own_same i (row ∷ own) [] same are = All-nil (λ (r : Row). r.input ≡ i)
own_same i (row ∷ own) (a ∷ first) same are =
    All-cons (λ (r : Row). r.input ≡ i) a first
    (same.0 ∙ All-head (λ (r : Row). r.input ≡ i) row own are)
    (own_same i own first same.1 (All-tail (λ (r : Row). r.input ≡ i) row own are))

none_same : (rows after : List Row) → rows ≡ [] → HaveSameInputs rows after → after ≡ []
none_same [] [] none same = refl
none_same [] (a ∷ after) none same = absurd same
none_same (row ∷ rows) after none same = absurd (cc none)

-- the rows of inputs, with others in their place
pub rows_same : (i : ℕ) (inputs : List Input) (rows after : List Row) → HaveSameInputs rows after
    → AreRowsFrom i inputs rows → AreRowsFrom i inputs after
rows_same i [] rows after same are = none_same rows after are same
rows_same i (input ∷ inputs) rows after same are =
    let parts = split_same are.0 are.1 after (subst (λ (rs : List Row). HaveSameInputs rs after) are.2 same) in (
      parts.first,
      parts.last,
      parts.is,
      own_same i are.0 parts.first parts.first_same are.3,
      subst (IsLongEnough input.bytes.items)
          (sym (AllZip-long (λ (row a : Row). a.input ≡ row.input) are.0 parts.first parts.first_same)) are.4,
      rows_same (i + 1) inputs are.1 parts.last parts.last_same are.5,
    )

-- there are as many addresses as rows
pub as_many : (i : ℕ) (inputs : List Input) (configs : List (Vec Config)) (rows : List Row)
    (addresses : List (Option (List ℕ))) → HasRowAddresses inputs configs addresses → AreRowsFrom i inputs rows
    → length addresses ≡ length rows
as_many i [] configs rows addresses has are = ap length has ∙ sym (ap length are)
as_many i (input ∷ inputs) [] rows addresses has are = absurd has
as_many i (input ∷ inputs) (own ∷ configs) rows addresses has are =
    let first : IsLongEnough input.bytes.items (length has.0) = record {
      form = has.3.form;
      manifest = has.3.manifest;
      long = AllZip-long (IsAddressOf own.items) (row_entries (view_at has.3.form)) has.0 has.3.each;
    } in
    let here = one_count input.bytes.items (length has.0) (length are.0) first are.4 in
    let rest = as_many (i + 1) inputs configs are.1 has.1 has.4 are.5 in
    omega (
      arith,
      here,
      rest,
      ap length has.2,
      ap length are.2,
      length-append has.0 has.1,
      length-append are.0 are.1,
    )
