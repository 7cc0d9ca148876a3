-- The outputs of inputs with paths of their own stand in the order of the inputs, and there is no other.
use Rattle.std.proofs.Common.{◌≡◌, ◌≢◌, ◌+◌, ◌∙◌, ℕ, suc, List, [], ◌∷◌, ◌++◌, Bool, true, false, ap, append-nil, arith, length, map, sym}
use Rattle.std.specs.Prelude.{◌==◌, All, filter, not}
use Rattle.std.specs.List.{AllPairs}
use Rattle.std.specs.Str.{bytes_eq}
use Rattle.std.proofs.lemmas.List.{map-append}
use Rattle.std.proofs.lemmas.List.Elements.{All-head, All-map, All-tail, All-weaker, filter-append}
use Rattle.edit_metadata.specs.Inputs.{HaveOwnPaths, path_of}
use Rattle.edit_metadata.specs.declared.input.Input.{Input}
use Rattle.edit_report.specs.declared.output.Output.{Output}
use Rattle.edit_report.specs.declared.row.Row.{Row}
use Rattle.edit_upgrade.specs.Drafts.{lines_on, outputs_on}
use Rattle.edit_upgrade.specs.Inputs.{output_path}
use Rattle.edit_upgrade.specs.Lines.{line_of}
use Rattle.edit_upgrade.specs.Revisions.{AreOutputsFrom, HasRevisedOutputs}
use Rattle.edit_upgrade.specs.Rows.{Line}
use Rattle.edit_upgrade.proofs.Bytes.{apart-false, same-refl}
use Rattle.edit_upgrade.proofs.EndLemmas.{filter-none, filter-same, filter-whole}
use Rattle.edit_upgrade.proofs.InputRows.{one-path-order, written-paths}

head_apart : {X : Type 0} (R : X → X → Type 0) (x : X) (xs : List X) → AllPairs R (x ∷ xs) → All (R x) xs
head_apart R x xs pairs = λ k d within. pairs 0 (suc k) d (omega arith) (omega (arith, within))

tail_apart : {X : Type 0} (R : X → X → Type 0) (x : X) (xs : List X) → AllPairs R (x ∷ xs) → AllPairs R xs
tail_apart R x xs pairs = λ i j d before within.
    pairs (suc i) (suc j) d (omega (arith, before)) (omega (arith, within))

outputs_append : (path : List ℕ) (xs ys : List Output)
    → outputs_on path (xs ++ ys) ≡ outputs_on path xs ++ outputs_on path ys
outputs_append path xs ys = filter-append (λ (output : Output). bytes_eq (output_path output) path) xs ys

-- outputs at another path
others : (path at : List ℕ) (own : List Output) → path ≢ at → All (λ o. output_path o ≡ at) own
    → outputs_on path own ≡ []
others path at own apart all =
    filter-none (λ (output : Output). bytes_eq (output_path output) path) own
    (All-weaker (λ (o : Output). output_path o ≡ at) (λ (o : Output). bytes_eq (output_path o) path ≡ false)
    (λ o e. apart-false (output_path o) path (λ same. apart (sym same ∙ e))) own all)

-- outputs at this path
owned : (path : List ℕ) (own : List Output) → All (λ o. output_path o ≡ path) own → outputs_on path own ≡ own
owned path own all =
    filter-whole (λ (output : Output). bytes_eq (output_path output) path) own
    (All-weaker (λ (o : Output). output_path o ≡ path) (λ (o : Output). bytes_eq (output_path o) path ≡ true)
    (λ o e. ap (λ (p : List ℕ). bytes_eq p path) e ∙ same-refl path) own all)

-- inputs with other paths have no output at this one
none_at : (path : List ℕ) (i : ℕ) (inputs : List Input) (lines : List Line) (outputs : List Output)
    → AreOutputsFrom i inputs lines outputs → All (λ x. path ≢ path_of x) inputs → outputs_on path outputs ≡ []
none_at path i [] lines outputs are apart = ap (outputs_on path) are
none_at path i (input ∷ inputs) lines outputs are apart =
    ap (outputs_on path) are.2 ∙ outputs_append path are.0 are.1
    ∙ ap (λ (os : List Output). os ++ outputs_on path are.1)
    (others path (path_of input) are.0 (All-head (λ (x : Input). path ≢ path_of x) input inputs apart)
    (written-paths (path_of input) input.bytes.items (lines_on i lines) are.0 are.3))
    ∙ none_at path (i + 1) inputs lines are.1 are.4 (All-tail (λ (x : Input). path ≢ path_of x) input inputs apart)

-- there is an output at a path
abbrev is_written : List Output → List ℕ → Bool
is_written outputs path = not (length (outputs_on path outputs) == 0)

order : (i : ℕ) (inputs : List Input) (lines : List Line) (outputs : List Output) → HaveOwnPaths inputs
    → AreOutputsFrom i inputs lines outputs
    → map output_path outputs ≡ filter (is_written outputs) (map path_of inputs)
order i [] lines outputs own are = ap (map output_path) are
order i (input ∷ inputs) lines outputs own are =
    let path = path_of input in
    let first = are.0 in
    let later = are.1 in
    let apart = head_apart (λ (a b : Input). path_of a ≢ path_of b) input inputs own in
    let written = written-paths path input.bytes.items (lines_on i lines) first are.3 in
    let mine : outputs_on path outputs ≡ first =
    ap (outputs_on path) are.2 ∙ outputs_append path first later
    ∙ ap (λ (os : List Output). os ++ outputs_on path later) (owned path first written)
    ∙ ap (λ (os : List Output). first ++ os) (none_at path (i + 1) inputs lines later are.4 apart)
    ∙ append-nil first in
    let same : All (λ p. is_written outputs p ≡ is_written later p) (map path_of inputs) =
    All-map (λ (p : List ℕ). is_written outputs p ≡ is_written later p) path_of inputs
    (All-weaker (λ (x : Input). path ≢ path_of x)
    (λ (x : Input). is_written outputs (path_of x) ≡ is_written later (path_of x))
    (λ x differs. ap (λ (os : List Output). not (length os == 0))
    (ap (outputs_on (path_of x)) are.2 ∙ outputs_append (path_of x) first later
    ∙ ap (λ (os : List Output). os ++ outputs_on (path_of x) later)
    (others (path_of x) path first (λ e. differs (sym e)) written))) inputs apart) in
    ap (map output_path) are.2 ∙ map-append output_path first later
    ∙ ap (λ (ps : List (List ℕ)). ps ++ map output_path later)
    (one-path-order path input.bytes.items (lines_on i lines) first are.3 outputs mine)
    ∙ ap (λ (ps : List (List ℕ)). filter (is_written outputs) (path ∷ []) ++ ps)
    (order (i + 1) inputs lines later (tail_apart (λ (a b : Input). path_of a ≢ path_of b) input inputs own) are.4
    ∙ sym (filter-same (is_written outputs) (is_written later) (map path_of inputs) same))
    ∙ sym (filter-append (is_written outputs) (path ∷ []) (map path_of inputs))

-- the outputs are in the order of their inputs, and there is no other
pub outputs_in_order : (inputs : List Input) (rows : List Row) (outputs : List Output) → HaveOwnPaths inputs
    → HasRevisedOutputs inputs rows outputs
    → map output_path outputs
    ≡ filter (λ path. not (length (outputs_on path outputs) == 0)) (map path_of inputs)
outputs_in_order inputs rows outputs own are = order 0 inputs (map line_of rows) outputs own are
