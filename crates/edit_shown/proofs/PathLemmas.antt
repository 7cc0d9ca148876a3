-- The rest of a path after a folder, by `strip_prefix`.
use Rattle.std.proofs.Common.{◌≡◌, ◌∙◌, ℕ, List, None, true, false, ap, drop, length, subst, sym}
use Rattle.std.specs.Prelude.{codes, if◌then◌else◌, nat_eq}
use Rattle.std.specs.List.{starts_with}
use Rattle.std.specs.Str.{IsCharBoundary}
use Rattle.std.specs.Str.Pattern.{FindsTextPrefix, StripsPrefix}
use Rattle.std.proofs.lemmas.Str.Pattern.{starts_text}
use Rattle.edit_shown.specs.Diffs.{strip_folder}

-- a text that begins with another, and what it has behind it
pub begun : (n s rest : List ℕ) → StripsPrefix (FindsTextPrefix n) s rest
    → (starts_with nat_eq s n ≡ true) × (rest ≡ drop (length n) s)
begun n s rest h = (
  sym (starts_text true n s (h.0, h.1, subst (IsCharBoundary s) (sym h.1.0) h.1.2)),
  h.2 ∙ ap (λ k. drop k s) h.1.0,
)

-- a text that does not
pub other : (n s : List ℕ) → FindsTextPrefix n s None → starts_with nat_eq s n ≡ false
other n s h = sym (starts_text false n s h)

-- a path below the folder
pub inside : (folder path rest : List ℕ) → StripsPrefix (FindsTextPrefix folder) path rest
    → rest ≡ strip_folder folder path
inside folder path rest h =
    let is = begun folder path rest h in
    is.1 ∙ sym (ap (λ b. if b then drop (length folder) path
    else if starts_with nat_eq path (codes "/") then drop 1 path else path) is.0)

-- another path with a first `/`
pub outside : (folder path rest : List ℕ) → FindsTextPrefix folder path None
    → StripsPrefix (FindsTextPrefix (codes "/")) path rest → rest ≡ strip_folder folder path
outside folder path rest h k =
    let is = begun (codes "/") path rest k in
    is.1 ∙ sym (ap (λ b. if b then drop 1 path else path) is.0)
    ∙ sym (ap (λ b. if b then drop (length folder) path
    else if starts_with nat_eq path (codes "/") then drop 1 path else path) (other folder path h))

-- another one without
pub relative : (folder path : List ℕ) → FindsTextPrefix folder path None
    → FindsTextPrefix (codes "/") path None → path ≡ strip_folder folder path
relative folder path h k =
    sym (ap (λ b. if b then drop 1 path else path) (other (codes "/") path k))
    ∙ sym (ap (λ b. if b then drop (length folder) path
    else if starts_with nat_eq path (codes "/") then drop 1 path else path) (other folder path h))
