-- A lookup in a folder of registries has a single result, if the contents of the store's files are known.
use Rattle.std.proofs.Common.{◌≡◌, ℕ, List, true, false, Some, None, Ok, Err, refl, ap, sym, ◌∙◌, subst, inl, inr}
use Rattle.url.specs.Parts.{Parts}
use Rattle.edit_version.specs.IndexEntry.{IndexEntry}
use Rattle.edit_sources.proofs.OutcomeLemmas.{none_said, one_bad_line, one_reading}
use Rattle.edit_sources.specs.Index.{LookupError, Outcome, bad_line, bad_name}
use Rattle.edit_sources.specs.IndexLines.{IsBadLine, HaveEntriesInOrder, lines_of}
use Rattle.edit_sources.specs.Names.{is_crate_name}
use Rattle.edit_store.specs.Store.{StoreView}
use Rattle.edit_sources.specs.DirIndex.{DirGives, HasBadLine, HasEntries}

-- a crate name is valid or not
not_named : {A : Type 0} (name : List ℕ) (e : LookupError) (named : is_crate_name name ≡ true)
    → (e ≡ bad_name name) × (is_crate_name name ≡ false) → A
not_named name e named bad = let isnt = bad.1 in cc

-- lines do not both have entries and a malformed line
not_both : (folder : List ℕ) (store : StoreView) (address : Parts) (name : List ℕ) (es : List IndexEntry)
    (line : ℕ) → store.tells ≡ true → HasEntries folder store address name es
    → HasBadLine folder store address name line → ⊥
not_both folder store address name es line tells x y =
    let h : Some x.bytes ≡ Some y.bytes = sym (x.stands tells) ∙ y.stands tells in
    let same : x.bytes ≡ y.bytes = cc in
    none_said (lines_of y.bytes) es line (subst (λ t. HaveEntriesInOrder (lines_of t) es) same x.say) y.bad

-- the first malformed line is unique
pub one_dir_line : (folder : List ℕ) (store : StoreView) (address : Parts) (name : List ℕ) (m n : ℕ)
    → store.tells ≡ true → HasBadLine folder store address name m → HasBadLine folder store address name n
    → m ≡ n
one_dir_line folder store address name m n tells x y =
    let h : Some x.bytes ≡ Some y.bytes = sym (x.stands tells) ∙ y.stands tells in
    let same : x.bytes ≡ y.bytes = cc in
    one_bad_line (lines_of y.bytes) m n (subst (λ t. IsBadLine (lines_of t) m) same x.bad) y.bad

-- a lookup of a name at an address has a single result, if the contents of the store's files are known
pub one_dir_outcome : (folder : List ℕ) (store : StoreView) (address : Parts) (name : List ℕ) (a b : Outcome)
    → store.tells ≡ true
    → DirGives folder store address name a → DirGives folder store address name b → a ≡ b
one_dir_outcome folder store address name (Ok None) (Ok None) tells x y = refl
one_dir_outcome folder store address name (Ok None) (Ok (Some es)) tells x y =
    let h : None ≡ Some y.bytes = sym (x.absent tells) ∙ y.stands tells in cc
one_dir_outcome folder store address name (Ok None) (Err n) tells x (inl why) = not_named name n x.named why
one_dir_outcome folder store address name (Ok None) (Err n) tells x (inr (line, tells_read, y)) =
    let h : None ≡ Some y.bytes = sym (x.absent tells) ∙ y.stands tells in cc
one_dir_outcome folder store address name (Ok (Some es)) (Ok None) tells x y =
    let h : Some x.bytes ≡ None = sym (x.stands tells) ∙ y.absent tells in cc
one_dir_outcome folder store address name (Ok (Some es)) (Ok (Some fs)) tells x y =
    let h : Some x.bytes ≡ Some y.bytes = sym (x.stands tells) ∙ y.stands tells in
    let same : x.bytes ≡ y.bytes = cc in
    ap (λ t. Ok (Some t))
    (one_reading (lines_of y.bytes) es fs (subst (λ t. HaveEntriesInOrder (lines_of t) es) same x.say) y.say)
one_dir_outcome folder store address name (Ok (Some es)) (Err n) tells x (inl why) =
    not_named name n x.named why
one_dir_outcome folder store address name (Ok (Some es)) (Err n) tells x (inr (line, tells_read, y)) =
    absurd (not_both folder store address name es line tells x y)
one_dir_outcome folder store address name (Err m) (Ok None) tells (inl why) y = not_named name m y.named why
one_dir_outcome folder store address name (Err m) (Ok None) tells (inr (line, tells_read, x)) y =
    let h : Some x.bytes ≡ None = sym (x.stands tells) ∙ y.absent tells in cc
one_dir_outcome folder store address name (Err m) (Ok (Some es)) tells (inl why) y =
    not_named name m y.named why
one_dir_outcome folder store address name (Err m) (Ok (Some es)) tells (inr (line, tells_read, x)) y =
    absurd (not_both folder store address name es line tells y x)
one_dir_outcome folder store address name (Err m) (Err n) tells (inl a) (inl b) = ap Err (a.0 ∙ sym b.0)
one_dir_outcome folder store address name (Err m) (Err n) tells (inl why) (inr (line, tells_read, y)) =
    not_named name m y.named why
one_dir_outcome folder store address name (Err m) (Err n) tells (inr (line, tells_read, x)) (inl why) =
    not_named name n x.named why
one_dir_outcome folder store address name (Err m) (Err n) tells (inr a) (inr b) =
    ap Err (a.1 ∙ ap bad_line (one_dir_line folder store address name a.0 b.0 tells a.2 b.2) ∙ sym b.1)
