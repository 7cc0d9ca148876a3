-- Inputs whose rows are revised, one after another: their outputs, and the addresses of their entries.
use Rattle.std.proofs.Common.{◌≡◌, ◌<◌, ◌≤◌, ◌+◌, ◌∙◌, ℕ, List, [], ◌∷◌, ◌++◌, Option, Some, ap, append_assoc, arith, drop, get_or, length, length-append, map, refl, subst, sym, take}
use Rattle.std.specs.Prelude.{All}
use Rattle.std.specs.Global.{Vec}
use Rattle.std.specs.List.{AllZip}
use Rattle.std.proofs.Math.ListN.{drop_of_length-le, get_or-map}
use Rattle.std.proofs.Math.Seq.{drop-append_seam, take-append_seam}
use Rattle.std.proofs.lemmas.List.{append-nil, drop_more, length-map}
use Rattle.std.proofs.lemmas.List.Elements.{All-append, All-cons, All-nil, All-weaker}
use Rattle.std.proofs.lemmas.Slice.Zip.{all_zipped_more}
use Rattle.edit_metadata.specs.Inputs.{path_of}
use Rattle.edit_metadata.specs.declared.input.Input.{Input}
use Rattle.edit_report.specs.declared.output.Output.{Output}
use Rattle.edit_report.specs.declared.row.Row.{Row}
use Rattle.edit_sources.specs.Configured.{HasAddress}
use Rattle.edit_sources.specs.declared.config.Config.{Config}
use Rattle.edit_tree.specs.Tree.{view_at}
use Rattle.edit_upgrade.specs.Drafts.{lines_on}
use Rattle.edit_upgrade.specs.Lines.{line_of}
use Rattle.edit_upgrade.specs.Outputs.{HasOutputs}
use Rattle.edit_upgrade.specs.PlannedView.{AreRowEntries}
use Rattle.edit_upgrade.specs.Records.{RowEntry, at_registry, row_entries}
use Rattle.edit_upgrade.specs.Revisions.{AddsAddresses, AreAddressesOf, AreFirstOutputs, AreOutputsFrom, AreRowsFrom, HasEnoughRows, HasItsAddress, HasRowAddresses, IsAddressOf, IsAddressText, IsManifest, IsResolved}
use Rattle.edit_upgrade.specs.Revisions.IsAddressOf.{at, folder, repository}
use Rattle.edit_upgrade.specs.Rows.{Line}
use Rattle.edit_upgrade.proofs.EndLemmas.{get-some}
use Rattle.edit_upgrade.proofs.FurtherInputs.{IsInputAt, input-at}
use Rattle.edit_upgrade.proofs.PlannedLemmas.{seen-in}
use Rattle.edit_upgrade.proofs.RevisionLemmas.{lines_next, one_count}
use Rattle.edit_upgrade.proofs.Steps.{names-more}

-- the rows of these inputs are of no earlier one
rows_above : (i : ℕ) (inputs : List Input) (rows : List Row) → AreRowsFrom i inputs rows
    → All (λ row. i ≤ row.input) rows
rows_above i [] rows are = subst (All (λ (row : Row). i ≤ row.input)) (sym are) (All-nil (λ (row : Row). i ≤ row.input))
rows_above i (input ∷ inputs) rows are =
    subst (All (λ (row : Row). i ≤ row.input)) (sym are.2)
    (All-append (λ (row : Row). i ≤ row.input) are.0 are.1
    (All-weaker (λ (row : Row). row.input ≡ i) (λ (row : Row). i ≤ row.input) (λ row e. omega (arith, e)) are.0 are.3)
    (All-weaker (λ (row : Row). i + 1 ≤ row.input) (λ (row : Row). i ≤ row.input) (λ row le. omega (arith, le)) are.1
    (rows_above (i + 1) inputs are.1 are.5)))

-- the outputs of the inputs before this number, and the rows of those from it on
pub record IsRevisedUpTo (inputs : List Input) (rows : List Row) (i : ℕ) (rest : List Row)
    (outputs : List Output) : Type 0 where
  pub before : List Row
  pub whole : rows ≡ before ++ rest
  pub low : All (λ row. row.input < i) before
  pub are : AreRowsFrom i (drop i inputs) rest
  pub then_all : (later : List Output) → AreOutputsFrom i (drop i inputs) (map line_of rows) later
      → AreOutputsFrom 0 inputs (map line_of rows) (outputs ++ later)

-- before the first input
pub outputs_start : (inputs : List Input) (rows : List Row) (outputs : List Output) → outputs ≡ []
    → AreRowsFrom 0 inputs rows → IsRevisedUpTo inputs rows 0 rows outputs
outputs_start inputs rows outputs none are = record {
  before = [];
  whole = refl;
  low = All-nil (λ (row : Row). row.input < 0);
  are = are;
  then_all = λ later ls. subst (λ (os : List Output). AreOutputsFrom 0 inputs (map line_of rows) (os ++ later))
      (sym none) ls;
}

-- the next input is the first of the rest
rest_cons : {A : Type 0} (xs : List A) (i : ℕ) (x : A) → i < length xs → x ≡ get_or xs i x
    → drop i xs ≡ x ∷ drop (i + 1) xs
rest_cons xs i x low is = drop_more xs i x low ∙ ap (λ y. y ∷ drop (i + 1) xs) (sym is)

-- there are enough rows for the next input
pub enough_rows : (inputs : List Input) (rows : List Row) (i : ℕ) (rest : List Row) (outputs : List Output)
    (input : Input) → IsRevisedUpTo inputs rows i rest outputs → i < length inputs → input ≡ get_or inputs i input
    → HasEnoughRows input.bytes.items rest
enough_rows inputs rows i rest outputs input up_to low is =
    let next = subst (λ (xs : List Input). AreRowsFrom i xs rest) (rest_cons inputs i input low is) up_to.are in
    (length next.0, next.4, omega (arith, ap length next.2, length-append next.0 next.1))

-- one more input
pub outputs_next : (inputs : List Input) (rows : List Row) (i : ℕ) (rest : List Row) (count : ℕ)
    (outputs own : List Output) (input : Input) → IsRevisedUpTo inputs rows i rest outputs → i < length inputs
    → input ≡ get_or inputs i input → AreFirstOutputs input rest own count
    → IsRevisedUpTo inputs rows (i + 1) (drop count rest) (outputs ++ own)
outputs_next inputs rows i rest count outputs own input up_to low is first =
    let cons = rest_cons inputs i input low is in
    let next = subst (λ (xs : List Input). AreRowsFrom i xs rest) cons up_to.are in
    let mine = next.0 in
    let later = next.1 in
    let count_is : count ≡ length mine = one_count input.bytes.items count (length mine) first.long next.4 in
    let parts : rows ≡ up_to.before ++ (mine ++ later) =
    up_to.whole ∙ ap (λ (rs : List Row). up_to.before ++ rs) next.2 in
    let lines : lines_on i (map line_of rows) ≡ map line_of mine =
    lines_next i up_to.before mine later rows parts up_to.low next.3
    (All-weaker (λ (row : Row). i + 1 ≤ row.input) (λ (row : Row). i < row.input) (λ row le. omega (arith, le)) later
    (rows_above (i + 1) (drop (i + 1) inputs) later next.5)) in
    let taken : take count rest ≡ mine =
    ap (λ (rs : List Row). take count rs) next.2 ∙ ap (λ n. take n (mine ++ later)) count_is
    ∙ take-append_seam mine later in
    let left : drop count rest ≡ later =
    ap (λ (rs : List Row). drop count rs) next.2 ∙ ap (λ n. drop n (mine ++ later)) count_is
    ∙ drop-append_seam mine later in
    let writes : HasOutputs (path_of input) input.bytes.items (lines_on i (map line_of rows)) own =
    subst (λ (ls : List Line). HasOutputs (path_of input) input.bytes.items ls own)
    (ap (map line_of) taken ∙ sym lines) first.are in
    record {
      before = up_to.before ++ mine;
      whole = parts ∙ sym (append_assoc up_to.before mine later)
          ∙ ap (λ (rs : List Row). (up_to.before ++ mine) ++ rs) (sym left);
      low = All-append (λ (row : Row). row.input < i + 1) up_to.before mine
          (All-weaker (λ (row : Row). row.input < i) (λ (row : Row). row.input < i + 1)
          (λ row lt. omega (arith, lt)) up_to.before up_to.low)
          (All-weaker (λ (row : Row). row.input ≡ i) (λ (row : Row). row.input < i + 1)
          (λ row e. omega (arith, e)) mine next.3);
      are = subst (λ (rs : List Row). AreRowsFrom (i + 1) (drop (i + 1) inputs) rs) (sym left) next.5;
      then_all = λ others more.
          subst (λ (os : List Output). AreOutputsFrom 0 inputs (map line_of rows) os)
          (sym (append_assoc outputs own others))
          (up_to.then_all (own ++ others)
          (subst (λ (xs : List Input). AreOutputsFrom i xs (map line_of rows) (own ++ others)) (sym cons)
          (own, others, refl, writes, more)));
    }

-- behind the last input
pub outputs_end : (inputs : List Input) (rows : List Row) (i : ℕ) (rest : List Row) (outputs : List Output)
    → IsRevisedUpTo inputs rows i rest outputs → length inputs ≤ i
    → AreOutputsFrom 0 inputs (map line_of rows) outputs
outputs_end inputs rows i rest outputs up_to le =
    subst (AreOutputsFrom 0 inputs (map line_of rows)) (append-nil outputs)
    (up_to.then_all [] (subst (λ (xs : List Input). AreOutputsFrom i xs (map line_of rows) [])
    (sym (drop_of_length-le inputs le)) refl))

-- ---- addresses

-- the registry of an entry has an address
pub some_address : (configs : List Config) (e : RowEntry) (named : Option (List ℕ)) → HasItsAddress configs e
    → e.source ≡ at_registry named → IsResolved configs named
some_address configs e named has is = by has.0 has.1
  where
    by : (o : Option (List ℕ)) → IsAddressOf configs e o → IsResolved configs named
    by _ (at n address source found) =
        let same : n ≡ named = cc (source, is) in
        (address, subst (λ (x : Option (List ℕ)). HasAddress configs x address) same found)
    by _ (repository source) = absurd (cc (source, is))
    by _ (folder source) = absurd (cc (source, is))

-- the address of an entry, from the text of the address of its registry
pub address_for : (configs : List Config) (e : RowEntry) (named : Option (List ℕ)) (text : List ℕ)
    → e.source ≡ at_registry named → IsAddressText configs named text → IsAddressOf configs e (Some text)
address_for configs e named text source are =
    subst (λ (t : List ℕ). IsAddressOf configs e (Some t)) (sym are.is) (at named are.address source are.has)

-- one more entry
pub address_more : {X : Type 0} (v : X → RowEntry) (configs here : List Config) (xs : List X) (i : ℕ) (x : X)
    (old found new : List (Option (List ℕ))) (address : Option (List ℕ)) → i < length xs → x ≡ get_or xs i x
    → here ≡ configs → AddsAddresses configs (map v (take i xs)) old found → IsAddressOf here (v x) address
    → new ≡ found ++ address ∷ [] → AddsAddresses configs (map v (take (i + 1) xs)) old new
address_more v configs here xs i x old found new address lt is same adds one new_is = (
  adds.0 ++ address ∷ [],
  new_is ∙ ap (λ (known : List (Option (List ℕ))). known ++ address ∷ []) adds.1
      ∙ append_assoc old adds.0 (address ∷ []),
  subst (λ (es : List RowEntry). AllZip (IsAddressOf configs) es (adds.0 ++ address ∷ []))
      (sym (names-more v xs i x lt is))
      (all_zipped_more (IsAddressOf configs) (map v (take i xs)) adds.0 (v x) address adds.2
      (subst (λ (cs : List Config). IsAddressOf cs (v x) address) same one)),
)

-- the addresses of the inputs before this number; those from it on have theirs
pub record IsAddressedUpTo (inputs : List Input) (configs : List (Vec Config)) (i : ℕ)
    (found : List (Option (List ℕ))) : Type 0 where
  pub more : List (Option (List ℕ))
  pub rest : HasRowAddresses (drop i inputs) (drop i configs) more
  pub then_all : (later : List (Option (List ℕ))) → HasRowAddresses (drop i inputs) (drop i configs) later
      → HasRowAddresses inputs configs (found ++ later)

pub addresses_start : (inputs : List Input) (configs : List (Vec Config)) (found more : List (Option (List ℕ)))
    → found ≡ [] → HasRowAddresses inputs configs more → IsAddressedUpTo inputs configs 0 found
addresses_start inputs configs found more none has = record {
  more = more;
  rest = has;
  then_all = λ later are. subst (λ (xs : List (Option (List ℕ))). HasRowAddresses inputs configs (xs ++ later))
      (sym none) are;
}

-- an input beside its list of configurations
pub plain_at : (inputs : List Input) (configs : List (Vec Config)) (i : ℕ) (input : Input) → i < length inputs
    → length configs ≡ length inputs → input ≡ get_or inputs i input
    → (own : Vec Config) × IsInputAt inputs configs i input own own.items
plain_at inputs configs i input low long is =
    let own = get-some configs i (omega (arith, low, long)) in (own.0, input-at low long is own.1 refl)

-- the registry of one of these entries has an address
pub item_resolved : {X : Type 0} (v : X → RowEntry) (configs here : List Config) (xs : List X) (i : ℕ) (x : X)
    → All (HasItsAddress configs) (map v xs) → i < length xs → x ≡ get_or xs i x → here ≡ configs
    → HasItsAddress here (v x)
item_resolved v configs here xs i x all lt is same =
    subst (λ (cs : List Config). HasItsAddress cs (v x)) (sym same)
    (subst (HasItsAddress configs) (get_or-map v xs i x ∙ ap v (sym is))
    (all i (v x) (omega (arith, lt, length-map xs v))))

-- the addresses of the next input's entries
rest_addresses : {inputs : List Input} {configs : List (Vec Config)} {i : ℕ} {input : Input} {own : Vec Config}
    {here : List Config} (more : List (Option (List ℕ))) → IsInputAt inputs configs i input own here
    → HasRowAddresses (drop i inputs) (drop i configs) more
    → HasRowAddresses (input ∷ drop (i + 1) inputs) (own ∷ drop (i + 1) configs) more
rest_addresses {inputs} {configs} {i} {input} {own} more place has =
    subst (λ (cs : List (Vec Config)). HasRowAddresses (input ∷ drop (i + 1) inputs) cs more)
    (rest_cons configs i own place.own_low place.own_is)
    (subst (λ (xs : List Input). HasRowAddresses xs (drop i configs) more) (rest_cons inputs i input place.low place.is) has)

-- the next input is a manifest
pub next_manifest : {inputs : List Input} {configs : List (Vec Config)} {i : ℕ} {input : Input}
    {own : Vec Config} {here : List Config} (found : List (Option (List ℕ)))
    → IsAddressedUpTo inputs configs i found → IsInputAt inputs configs i input own here
    → IsManifest input.bytes.items
next_manifest found up_to place =
    let first = (rest_addresses up_to.more place up_to.rest).3 in (first.form, first.manifest)

each_resolved : (configs : List Config) (es : List RowEntry) (addresses : List (Option (List ℕ)))
    → AllZip (IsAddressOf configs) es addresses → All (HasItsAddress configs) es
each_resolved configs [] addresses are = All-nil (HasItsAddress configs)
each_resolved configs (e ∷ es) [] are = absurd are
each_resolved configs (e ∷ es) (a ∷ addresses) are =
    All-cons (HasItsAddress configs) e es (a, are.0) (each_resolved configs es addresses are.1)

-- the registry of each of its entries has an address
pub next_resolved : {inputs : List Input} {configs : List (Vec Config)} {i : ℕ} {input : Input}
    {own : Vec Config} {here : List Config} (found : List (Option (List ℕ))) (es : List RowEntry)
    → IsAddressedUpTo inputs configs i found → IsInputAt inputs configs i input own here
    → AreRowEntries input.bytes.items es → All (HasItsAddress here) es
next_resolved {inputs} {configs} {i} {input} {own} {here} found es up_to place are =
    let first = (rest_addresses up_to.more place up_to.rest).3 in
    subst (λ (cs : List Config). All (HasItsAddress cs) es) (sym place.here_is)
    (subst (All (HasItsAddress own.items)) (seen-in input.bytes.items es are first.form first.manifest)
    (each_resolved own.items (row_entries (view_at first.form))
    (rest_addresses up_to.more place up_to.rest).0 first.each))

-- one more input
pub addresses_next : {inputs : List Input} {configs : List (Vec Config)} {i : ℕ} {input : Input}
    {own : Vec Config} {here : List Config} (found new : List (Option (List ℕ))) (es : List RowEntry)
    → IsAddressedUpTo inputs configs i found → IsInputAt inputs configs i input own here
    → AreRowEntries input.bytes.items es → AddsAddresses here es found new
    → IsAddressedUpTo inputs configs (i + 1) new
addresses_next {inputs} {configs} {i} {input} {own} {here} found new es up_to place are adds =
    let rest = rest_addresses up_to.more place up_to.rest in
    let first : AreAddressesOf own.items input.bytes.items adds.0 = record {
      form = are.form;
      manifest = are.manifest;
      each = subst (λ (xs : List RowEntry). AllZip (IsAddressOf own.items) xs adds.0) are.are
          (subst (λ (cs : List Config). AllZip (IsAddressOf cs) es adds.0) place.here_is adds.2);
    } in
    record {
      more = rest.1;
      rest = rest.4;
      then_all = λ later has.
          subst (HasRowAddresses inputs configs)
          (sym (append_assoc found adds.0 later) ∙ ap (λ (xs : List (Option (List ℕ))). xs ++ later) (sym adds.1))
          (up_to.then_all (adds.0 ++ later)
          (subst (λ (xs : List Input). HasRowAddresses xs (drop i configs) (adds.0 ++ later))
          (sym (rest_cons inputs i input place.low place.is))
          (subst (λ (cs : List (Vec Config)). HasRowAddresses (input ∷ drop (i + 1) inputs) cs (adds.0 ++ later))
          (sym (rest_cons configs i own place.own_low place.own_is)) (adds.0, later, refl, first, has))));
    }

-- behind the last input
pub addresses_end : (inputs : List Input) (configs : List (Vec Config)) (i : ℕ)
    (found : List (Option (List ℕ))) → IsAddressedUpTo inputs configs i found → length inputs ≤ i
    → HasRowAddresses inputs configs found
addresses_end inputs configs i found up_to le =
    subst (HasRowAddresses inputs configs) (append-nil found)
    (up_to.then_all [] (subst (λ (xs : List Input). HasRowAddresses xs (drop i configs) [])
    (sym (drop_of_length-le inputs le)) refl))
