-- Inputs for another Rust version have the paths and the bytes of the others.
use Rattle.std.proofs.Common.{◌≡◌, ◌∙◌, ◌∷◌, ◌<◌, [], List, ap, arith, get_or, length, map, refl, subst, suc, sym, zero, ℕ}
use Rattle.std.proofs.lemmas.List.{length-map}
use Rattle.edit_metadata.specs.Inputs.{HaveOwnPaths, path_of}
use Rattle.edit_metadata.specs.RustInputs.{all_for_rust, for_rust}
use Rattle.edit_metadata.specs.declared.input.Input.{Input}
use Rattle.edit_version.specs.declared.rust_version.RustVersion.{RustVersion}

-- the bytes stay
pub same_bytes : (version : RustVersion) (is : List Input)
    → map (λ (i : Input). i.bytes.items) (all_for_rust version is) ≡ map (λ (i : Input). i.bytes.items) is
same_bytes version [] = refl
same_bytes version (i ∷ is) = ap (λ bs. i.bytes.items ∷ bs) (same_bytes version is)

-- the path at each place stays
path_at : (version : RustVersion) (is : List Input) (k : ℕ) (d : Input) → k < length is
    → path_of (get_or (all_for_rust version is) k d) ≡ path_of (get_or is k d)
path_at version [] k d lt = absurd (omega arith)
path_at version (i ∷ is) zero d lt = refl
path_at version (i ∷ is) (suc k) d lt = path_at version is k d (omega arith)

-- no two have the same path where no two of the others have
pub own_for : (version : RustVersion) (is : List Input) → HaveOwnPaths is
    → HaveOwnPaths (all_for_rust version is)
own_for version is own i j d lt within same =
    let there : j < length is = subst (λ n. j < n) (length-map is (for_rust version)) within in
    let front : i < length is = omega arith in
    own i j d lt there (sym (path_at version is i d front) ∙ same ∙ path_at version is j d there)
