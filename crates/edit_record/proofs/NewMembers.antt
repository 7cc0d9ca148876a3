-- The result of reading the keys of a new entry.
use Rattle.std.proofs.Common.{◌≡◌, ℕ, zero, suc, ◌+◌, ◌<◌, ◌≤◌, Bool, false, List, [], ◌∷◌, ◌++◌, length, take, get_or, refl, ap, ◌∙◌, Option, Some, None, arith}
use Rattle.std.specs.Prelude.{find, Ok, option_map, codes, slice_get}
use Rattle.std.specs.Option.{option_or}
use Rattle.std.proofs.Math.Seq.{take-length}
use Rattle.std.proofs.lemmas.List.{take_more}
use Rattle.std.proofs.lemmas.List.Folds.{find-append}
use Rattle.std.proofs.lemmas.Option.{slice_get-get_or}
use Rattle.edit_tree.specs.Assertions.{same_bytes, key, index}
use Rattle.edit_tree.proofs.SamePlace.{same_bytes_self}
use Rattle.edit_tree.specs.Tree.{string}
use Rattle.edit_tree.specs.IntendedTrees.{item_view}
use Rattle.edit_tree.specs.NewItems.{NewValue, a_string, a_truth, a_list, a_table}
use Rattle.edit_record.specs.EntryRecords.{EntryRecord}
use Rattle.edit_record.specs.NewEntries.{Member, where_there, written_registry, written_name, option_members}
use Rattle.edit_record.specs.ReadEntries.{Tree, below, first_texts, text_at, bool_at, features_at}

-- ---- the value of a key

-- the value of a key
abbrev pub held : List ℕ → List Member → Option Member
held name ms = find (λ m. same_bytes m.0 name) ms

-- skips what does not have this key
pub held-past : (name : List ℕ) (xs ys : List Member) → held name xs ≡ None
    → held name (xs ++ ys) ≡ held name ys
held-past name xs ys h =
    find-append (λ m. same_bytes m.0 name) xs ys ∙ ap (λ o. option_or o (held name ys)) h

or-none : {X : Type 0} (o : Option X) → option_or o None ≡ o
or-none None = refl
or-none (Some x) = refl

-- nothing after it has this key
held-first : (name : List ℕ) (xs ys : List Member) → held name ys ≡ None
    → held name (xs ++ ys) ≡ held name xs
held-first name xs ys h =
    find-append (λ m. same_bytes m.0 name) xs ys ∙ ap (λ o. option_or (held name xs) o) h
    ∙ or-none (held name xs)

-- another key
pub other-where : (name other : List ℕ) (o : Option NewValue) → same_bytes other name ≡ false
    → held name (where_there other o) ≡ None
other-where name other None h = refl
other-where name other (Some v) h = rw h refl

-- this key
this-where : (name : List ℕ) (o : Option NewValue)
    → held name (where_there name o) ≡ option_map (λ v. (name, v)) o
this-where name None = refl
this-where name (Some v) = rw (same_bytes_self name) refl

-- skips another key
pub past-where : (name other : List ℕ) (o : Option NewValue) (ys : List Member)
    → same_bytes other name ≡ false → held name (where_there other o ++ ys) ≡ held name ys
past-where name other o ys h = held-past name (where_there other o) ys (other-where name other o h)

-- this key, which nothing after it has
at-where : (name : List ℕ) (o : Option NewValue) (ys : List Member) → held name ys ≡ None
    → held name (where_there name o ++ ys) ≡ option_map (λ v. (name, v)) o
at-where name o ys h = held-first name (where_there name o) ys h ∙ this-where name o

-- ---- the keys after the source

-- the values of the keys after the source
record Options : Type 0 where
  registry : Option NewValue
  package_name : Option NewValue
  default_features : Option NewValue
  features : Option NewValue
  optional : Option NewValue

-- the keys from `optional` on, from `features` on, and so on
abbrev from_optional : Options → List Member
from_optional o = where_there (codes "optional") o.optional

abbrev from_features : Options → List Member
from_features o = where_there (codes "features") o.features ++ from_optional o

abbrev from_default : Options → List Member
from_default o = where_there (codes "default-features") o.default_features ++ from_features o

abbrev from_package : Options → List Member
from_package o = where_there (codes "package") o.package_name ++ from_default o

abbrev all_options : Options → List Member
all_options o = where_there (codes "registry") o.registry ++ from_package o

-- the keys after the source of a dependency
abbrev options_of : EntryRecord → Options
options_of r = record {
  registry = option_map a_string (written_registry r);
  package_name = option_map a_string (written_name r);
  default_features = option_map a_truth r.default_features;
  features = option_map a_list r.features;
  optional = option_map a_truth r.optional;
}

-- a key other than those from `features` on
features-lack : (o : Options) (name : List ℕ) → same_bytes (codes "features") name ≡ false
    → same_bytes (codes "optional") name ≡ false → held name (from_features o) ≡ None
features-lack o name f p =
    past-where name (codes "features") o.features (from_optional o) f ∙ other-where name (codes "optional")
    o.optional p

-- a key other than those of the options
pub options-lack : (r : EntryRecord) (name : List ℕ) → same_bytes (codes "registry") name ≡ false
    → same_bytes (codes "package") name ≡ false → same_bytes (codes "default-features") name ≡ false
    → same_bytes (codes "features") name ≡ false → same_bytes (codes "optional") name ≡ false
    → held name (option_members r) ≡ None
options-lack r name a b c d e =
    let o = options_of r in
    past-where name (codes "registry") o.registry (from_package o) a
    ∙ past-where name (codes "package") o.package_name (from_default o) b
    ∙ past-where name (codes "default-features") o.default_features (from_features o) c
    ∙ features-lack o name d e

pub held-registry : (r : EntryRecord) → held (codes "registry") (option_members r)
    ≡ option_map (λ v. (codes "registry", v)) (option_map a_string (written_registry r))
held-registry r =
    let o = options_of r in
    at-where (codes "registry") o.registry (from_package o)
    (past-where (codes "registry") (codes "package") o.package_name (from_default o) refl
    ∙ past-where (codes "registry") (codes "default-features") o.default_features (from_features o) refl
    ∙ features-lack o (codes "registry") refl refl)

pub held-package : (r : EntryRecord) → held (codes "package") (option_members r)
    ≡ option_map (λ v. (codes "package", v)) (option_map a_string (written_name r))
held-package r =
    let o = options_of r in
    past-where (codes "package") (codes "registry") o.registry (from_package o) refl
    ∙ at-where (codes "package") o.package_name (from_default o)
    (past-where (codes "package") (codes "default-features") o.default_features (from_features o) refl
    ∙ features-lack o (codes "package") refl refl)

pub held-default : (r : EntryRecord) → held (codes "default-features") (option_members r)
    ≡ option_map (λ v. (codes "default-features", v)) (option_map a_truth r.default_features)
held-default r =
    let o = options_of r in
    past-where (codes "default-features") (codes "registry") o.registry (from_package o) refl
    ∙ past-where (codes "default-features") (codes "package") o.package_name (from_default o) refl
    ∙ at-where (codes "default-features") o.default_features (from_features o)
    (features-lack o (codes "default-features") refl refl)

pub held-features : (r : EntryRecord) → held (codes "features") (option_members r)
    ≡ option_map (λ v. (codes "features", v)) (option_map a_list r.features)
held-features r =
    let o = options_of r in
    past-where (codes "features") (codes "registry") o.registry (from_package o) refl
    ∙ past-where (codes "features") (codes "package") o.package_name (from_default o) refl
    ∙ past-where (codes "features") (codes "default-features") o.default_features (from_features o) refl
    ∙ at-where (codes "features") o.features (from_optional o)
    (other-where (codes "features") (codes "optional") o.optional refl)

pub held-optional : (r : EntryRecord) → held (codes "optional") (option_members r)
    ≡ option_map (λ v. (codes "optional", v)) (option_map a_truth r.optional)
held-optional r =
    let o = options_of r in
    past-where (codes "optional") (codes "registry") o.registry (from_package o) refl
    ∙ past-where (codes "optional") (codes "package") o.package_name (from_default o) refl
    ∙ past-where (codes "optional") (codes "default-features") o.default_features (from_features o) refl
    ∙ past-where (codes "optional") (codes "features") o.features (from_optional o) refl
    ∙ this-where (codes "optional") o.optional

-- ---- the result of reading a key

-- an inline table with these keys
abbrev pub shown : List Member → Tree
shown ms = item_view false (a_table false ms)

-- a text
pub text-held : (ms : List Member) (dep name : List ℕ) (o : Option (List ℕ))
    → held name ms ≡ option_map (λ v. (name, v)) (option_map a_string o) → text_at (shown ms) dep name ≡ Ok o
text-held ms dep name None h = rw h refl
text-held ms dep name (Some s) h = rw h refl

-- true or false
pub truth-held : (ms : List Member) (name : List ℕ) (o : Option Bool)
    → held name ms ≡ option_map (λ v. (name, v)) (option_map a_truth o) → bool_at (shown ms) name ≡ o
truth-held ms name None h = rw h refl
truth-held ms name (Some b) h = rw h refl

-- the elements of an array
texts-there : (t : Tree) (dep : List ℕ) (ss : List (List ℕ))
    → ((i : ℕ) → t (index i ∷ []) ≡ option_map string (slice_get ss i)) → (n : ℕ) → n ≤ length ss
    → first_texts t dep n ≡ Ok (take n ss)
texts-there t dep ss there zero h = refl
texts-there t dep ss there (suc n) h =
    let within : n < length ss = omega arith in
    let text : t (index n ∷ []) ≡ Some (string (get_or ss n [])) =
    there n ∙ ap (option_map string) (slice_get-get_or ss n [] within) in
    let next : suc n ≡ n + 1 = omega arith in
    let more : take (suc n) ss ≡ take n ss ++ get_or ss n [] ∷ [] =
    ap (λ k. take k ss) next ∙ take_more ss n [] within in
    rw (texts-there t dep ss there n (omega arith), text, more) refl

-- an array of strings
pub list-held : (ms : List Member) (dep : List ℕ) (o : Option (List (List ℕ)))
    → held (codes "features") ms ≡ option_map (λ v. (codes "features", v)) (option_map a_list o)
    → features_at (shown ms) dep ≡ Ok o
list-held ms dep None h = rw h refl
list-held ms dep (Some ss) h =
    let there : (i : ℕ)
    → shown ms (key (codes "features") ∷ index i ∷ []) ≡ option_map string (slice_get ss i) =
    λ i. rw h refl in
    rw (
      h,
      texts-there (below (shown ms) (key (codes "features") ∷ [])) dep ss there (length ss) (omega arith),
      take-length ss,
    ) refl
