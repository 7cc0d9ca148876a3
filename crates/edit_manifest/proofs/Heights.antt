-- The folders on the way up come nearer to the root.
use Rattle.std.proofs.Common.{◌≡◌, ◌≢◌, ℕ, ◌+◌, ◌<◌, ◌≤◌, List, ◌∷◌, length, Bool, true, false, cond, ap, arith, length-append, refl}
use Rattle.std.specs.Prelude.{codes}
use Rattle.std.specs.Str.{bytes_eq}
use Rattle.std.proofs.lemmas.Bool.{false_from_ne_true}
use Rattle.std.proofs.lemmas.Slice.Eq.{bytes_eq-Decides}
use Rattle.edit_base.specs.Paths.{IsFolderOf}
use Rattle.edit_base.specs.Paths.IsFolderOf.{above, below_root, bare}

-- how far a folder is from the root, which alone is at 0
abbrev pub height : List ℕ → ℕ
height here = cond (bytes_eq here (codes "/")) 0 (length here + 2)

cond-le : (b : Bool) (n : ℕ) → cond b 0 n ≤ n
cond-le true n = omega arith
cond-le false n = omega arith

height-le : (here : List ℕ) → height here ≤ length here + 2
height-le here = cond-le (bytes_eq here (codes "/")) (length here + 2)

height-root : height (codes "/") ≡ 0
height-root = refl

height-ne : (here : List ℕ) → here ≢ codes "/" → height here ≡ length here + 2
height-ne here ne =
    let off : bytes_eq here (codes "/") ≡ false = false_from_ne_true (bytes_eq here (codes "/"))
    (λ e. ne ((bytes_eq-Decides here (codes "/")).0 e)) in
    ap (λ b. cond b 0 (length here + 2)) off

pub height-folder : (here folder : List ℕ) → IsFolderOf here folder → here ≢ codes "/"
    → height folder < height here
height-folder here folder (above before after e none some) ne =
    omega (arith, height-ne here ne, height-le folder, ap length e, length-append before (47 ∷ after))
height-folder here folder (below_root after e none) ne = omega (arith, height-ne here ne, height-root)
height-folder here folder (bare none) ne = omega (arith, height-ne here ne, height-root)
