-- The paths of folders on the way up grow shorter.
use Rattle.std.proofs.Common.{◌≡◌, ◌≢◌, ℕ, ◌+◌, ◌<◌, ◌≤◌, List, ◌∷◌, length, Bool, true, false, cond, ap, arith, length-append}
use Rattle.std.specs.Prelude.{codes}
use Rattle.std.specs.Str.{bytes_eq}
use Rattle.std.proofs.lemmas.Bool.{false_from_ne_true}
use Rattle.std.proofs.lemmas.Slice.Eq.{bytes_eq-Decides}
use Rattle.edit_base.specs.Paths.{IsFolderOf}
use Rattle.edit_base.specs.Paths.IsFolderOf.{above, below_root, bare}

-- how far a folder is from the root: the root is the least
abbrev pub height : List ℕ → ℕ
height here = length here + cond (bytes_eq here (codes "/")) 0 1

pub folder-some : (path here : List ℕ) → IsFolderOf path here → 0 < length here
folder-some path here (above before after e none some) = some
folder-some path here (below_root after e none) = omega arith
folder-some path here (bare none) = omega arith

cond-le : (b : Bool) → cond b 0 1 ≤ 1
cond-le true = omega arith
cond-le false = omega arith

height-le : (here : List ℕ) → height here ≤ length here + 1
height-le here = omega (arith, cond-le (bytes_eq here (codes "/")))

height-ne : (here : List ℕ) → here ≢ codes "/" → height here ≡ length here + 1
height-ne here ne =
    let off : bytes_eq here (codes "/") ≡ false = false_from_ne_true (bytes_eq here (codes "/"))
    (λ e. ne ((bytes_eq-Decides here (codes "/")).0 e)) in
    ap (λ b. length here + cond b 0 1) off

pub height-folder : (here folder : List ℕ) → IsFolderOf here folder → here ≢ codes "/" → 0 < length here
    → height folder < height here
height-folder here folder (above before after e none some) ne long =
    omega (arith, height-ne here ne, height-le folder, ap length e, length-append before (47 ∷ after))
height-folder here folder (below_root after e none) ne long = omega (arith, height-ne here ne, ap length e)
height-folder here folder (bare none) ne long = omega (arith, height-ne here ne)
