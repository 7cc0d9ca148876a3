-- Intermediate results of reading the output of `cargo metadata`: sets of ids, and errors.
use Rattle.std.specs.Prelude.{◌≡◌, ◌⊎◌, ℕ, List, Bool}
use Rattle.std.specs.Borrow.{Bor}
use Rattle.std.specs.BTreeSet.{BTreeSet, contains_by}
use Rattle.std.specs.Cmp.Lexicographic.{slice_cmp}
use Rattle.std.specs.Ordering.{nat_cmp}
use Rattle.edit_base.specs.Errors.{IsMemory}
use Rattle.edit_base.specs.declared.errors.Error.{Error}
use Rattle.edit_base.specs.declared.errors.Error.TheVariants.{Metadata}

-- whether a set contains a text
abbrev pub holds : BTreeSet (Bor (List ℕ)) → List ℕ → Bool
holds set text = contains_by (λ k. slice_cmp nat_cmp text k.now) set

-- the errors of reading: lack of memory, or `Metadata` where there is nothing to read
abbrev pub IsReadingError : {A : Type 0} → (A → Type 0) → Error → Type 0
IsReadingError {A} Says e = IsMemory e ⊎ ((e ≡ Metadata) × ((x : A) → Says x → ⊥))
